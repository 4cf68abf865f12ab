use Rattle.std.proofs.Common.{◌+◌, ap, ◌∙◌, sym, Err, arith}
use Rattle.std.proofs.lemmas.Bool.{true≢false}
use Rattle.op_model.specs.declared.author.Author.{Author}
use Rattle.replica_core.proofs.EditLemmas.{keeps}
use Rattle.replica_core.proofs.FollowLemmas.{next_fits}
use Rattle.replica_core.proofs.making.made.Goals as goal

pub overflow_add-next : goal.overflow_add-next
overflow_add-next c =
    let fits = next_fits c.args.ops.now c.args.known.now.index.now.greatest c.requires.counted.closed c.requires.counted.index.greatest in
    omega arith

pub unreachable-requires-in-Err-Limit : goal.unreachable-requires-in-Err-Limit
unreachable-requires-in-Err-Limit c =
    let limit = ((c.make.ensures.limit c.args.ops.now c.requires.stands).0 (c.in-Err-Limit.is ∙ ap Err c.in-Err-Limit.field-0-is)).1 in
    let author : Author = record {
      replica = c.args.known.now.replica;
      token = c.args.edit.now.token;
      counter = c.args.known.now.index.now.greatest + 1;
      clock = c.args.known.now.clock;
    } in
    true≢false (sym (keeps c.args.ops.now author c.args.edit.now
    c.requires.counted.closed c.requires.due (ap (λ n. n + 1) c.requires.counted.index.greatest) c.requires.counted.clock (rw c.entries-entries.ensures.same at c.entries-entries.ensures.rising) c.replica_is_not_nil.ensures) ∙ limit)
