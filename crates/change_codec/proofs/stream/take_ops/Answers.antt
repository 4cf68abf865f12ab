use Rattle.std.proofs.Common.{◌≡◌, ◌∷◌, ◌++◌, [], Err, rules, sym, ap, ◌∙◌}
use Rattle.change_codec.specs.declared.stream_error.StreamError.TheVariants.{Stream}
use Rattle.change_codec.specs.Stream.{spelled_all}
use Rattle.change_codec.proofs.StreamLaws.{spelled_more, are_more, are_of_more, no_stream_behind}
use Rattle.change_codec.proofs.stream.take_ops.Goals as goal

pub loop-rest-preserved : goal.loop-rest-preserved
loop-rest-preserved c =
    let at = c.loop-rest in
    let pushed : c.push.new.self.items ≡ at.ops.items ++ c.in-Ok.op ∷ [] = search rules in
    record {
      all =
          rw pushed (spelled_more at.ops.items c.in-Ok.op c.in-Ok.after.now c.args.bytes.now (ap (λ bytes. spelled_all at.ops.items ++ bytes) (sym c.in-Ok.ensures.spelled_so) ∙ at.invariant.all));
      fits = rw pushed (are_more at.ops.items c.in-Ok.op at.invariant.fits c.in-Ok.ensures.fits);
      of_format = rw pushed (are_of_more c.args.format at.ops.items c.in-Ok.op at.invariant.of_format c.in-Ok.ensures.of_format);
    }

pub returns-in-Err-clause-none : goal.returns-in-Err-clause-none
returns-in-Err-clause-none c = λ is.
    let is_stream : c.in-Err.fault ≡ Stream = cc in
    rw (← c.loop-rest.invariant.all) (no_stream_behind c.args.format c.loop-rest.ops.items c.loop-rest.rest.now c.loop-rest.invariant.fits (c.in-Err.ensures.none (ap (λ e. Err e) is_stream)))
