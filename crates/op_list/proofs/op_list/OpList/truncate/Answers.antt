use Rattle.std.proofs.Common.{◌≡◌, take, ap, ◌∙◌}
use Rattle.op_model.specs.Records.{stream_length}
use Rattle.op_list.specs.Held.{HoldsRecords}
use Rattle.op_list.proofs.Holding.{shown, held_front, held_is, is_held}
use Rattle.op_list.proofs.op_list.OpList.truncate.Goals as goal

cut : (c : goal.After-truncate-then-n-len)
    → HoldsRecords c.truncate.new.self.items c.truncate-then-n-len.new.self.items
    (take c.args.n c.args.self.now)
cut c =
    let holds = shown _ _ c.args.self.now c.self.invariant c.self.view_is in
    let start : c.start-end.result ≡ stream_length (take c.args.n c.args.self.now) =
    c.start-end.ensures ∙ ap (λ l. stream_length (take c.args.n l)) c.as_slice.ensures in
    held_front c.args.n c.start-end.result _ _ _ _ _ holds start c.truncate.ensures.items
    c.truncate-then-n-len.ensures.items

pub invariant_of-self : goal.invariant_of-self
invariant_of-self c = is_held _ _ _ (cut c)

pub returns-then-n-len : goal.returns-then-n-len
returns-then-n-len c = held_is _ _ _ (cut c)
