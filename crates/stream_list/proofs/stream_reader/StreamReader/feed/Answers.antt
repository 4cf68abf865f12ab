use Rattle.std.proofs.Common.{◌≡◌, ◌++◌, length, Err, ap, ◌∙◌, subst, arith, List, ℕ}
use Rattle.std.proofs.lemmas.List.{length-append}
use Rattle.std.proofs.lemmas.Result.{err_from_is_err_and}
use Rattle.change_codec.specs.declared.stream_error.StreamError.TheVariants.{Stream}
use Rattle.stream_list.specs.Passing.{Reading}
use Rattle.stream_list.specs.Streams.{NeverHas}
use Rattle.stream_list.proofs.stream_reader.StreamReader.feed.Goals as goal

pub returns-in_err-listed-clause-none : goal.returns-in_err-listed-clause-none
returns-in_err-listed-clause-none c =
    let p = err_from_is_err_and c.from_residual-in_err-listed.result c.from_residual-in_err-listed.ensures.1 in
    let it = c.self.inside in
    rw (p.1, p.2) (λ is.
    let fault : c.in_err-listed.field-0.0 ≡ Stream = cc in
    subst (λ (r : Reading). NeverHas r.format (r.bytes ++ c.args.bytes.now) r.count) c.self.view_is
    (subst (λ (b : List ℕ). NeverHas it.format b it.count) c.and-stream.ensures (c.in_err-listed.ensures.none (ap (λ e. Err e) fault))))

pub invariant_of-result : goal.invariant_of-result
invariant_of-result c =
    let kept : c.extend_from_slice-2.new.self.items ≡ c.in_ok-listed.left.now =
    c.in_ok-extend_from_slice-2.ensures.items ∙ ap (λ b. b ++ c.in_ok-listed.left.now) c.new-rest.ensures.items in
    record {
      passed = rw kept c.in_ok-listed.ensures.passed;
      unfinished = rw kept c.in_ok-listed.ensures.unfinished;
      short =
          omega (
            arith,
            ap length c.and-stream.ensures,
            length-append c.self.inside.bytes.items c.args.bytes.now,
            ap (λ (r : Reading). length r.bytes) c.self.view_is,
            c.requires.short,
          );
    }
