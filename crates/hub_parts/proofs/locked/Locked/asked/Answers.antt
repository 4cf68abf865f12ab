use Rattle.std.proofs.Common.{◌≡◌, ◌∙◌, ◌<◌, [], ◌∷◌, true, false, ap, arith, length}
use Rattle.std.specs.Prelude.{vec_len}
use Rattle.fixed_numbers.specs.declared.limits.TheConstants.{MAX_CHANGES}
use Rattle.op_model.specs.Lasting.{at_of}
use Rattle.hub_parts.proofs.AskedLemmas.{length_located}
use Rattle.hub_parts.proofs.locked.Locked.asked.Goals as goal

-- there are no more changes than were asked for
pub unreachable-requires : goal.unreachable-requires
unreachable-requires c =
    let first = c.first-first.result.now in
    let many = ap length c.in_ok-changes.ensures
    ∙ length_located (at_of c.args.self.now.replica.list first.doc) [] (first.change ∷ c.others-others.result.now) c.args.placed.now.spots in
    let few : vec_len c.remove-change.new.self < MAX_CHANGES =
    (let one_less = c.remove-change.ensures.len in let others = c.others-others.ensures.few in omega arith) in
    let never : false ≡ true = c.in_default.ensures.few.1 few in
    absurd (cc)
