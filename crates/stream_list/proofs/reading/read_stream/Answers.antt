use Rattle.std.proofs.Common.{◌≡◌, ◌++◌, ap, subst, List, ℕ, Err}
use Rattle.std.proofs.lemmas.Result.{err_from_is_err_and}
use Rattle.stream_list.specs.Passing.{Reading}
use Rattle.stream_list.specs.ReadError.{of_stream}
use Rattle.stream_list.specs.Streams.{NeverHas}
use Rattle.stream_list.specs.declared.read_error.ReadError.TheVariants.{Stream}
use Rattle.stream_list.proofs.PassingLemmas.{never_is_none, of_bytes}
use Rattle.stream_list.proofs.reading.read_stream.Goals as goal

pub returns-in_err-reader-clause-none : goal.returns-in_err-reader-clause-none
returns-in_err-reader-clause-none c =
    let p = err_from_is_err_and c.from_residual.result c.from_residual.ensures.1 in
    let new = c.new.result in
    rw (p.1, p.2) (λ is.
    let fault : of_stream c.in_err-reader.field-0.0 ≡ Stream = cc in
    never_is_none c.args.format c.args.stream.items c.args.count
    (subst (λ (r : Reading). NeverHas r.format (r.bytes ++ c.args.stream.items) r.count) c.new.ensures
    (subst (λ (b : List ℕ). NeverHas new.format (new.bytes ++ b) new.count) c.deref.ensures.value
    (c.in_err-reader.ensures.none (ap (λ e. Err e) (of_bytes c.in_err-reader.field-0.0 fault))))))
