use Rattle.std.proofs.Common.{rules, ◌∙◌}
use Rattle.shared_hub.specs.Shared.{asked_then}
use Rattle.shared_hub.proofs.AskedLemmas.{asks_again, asks_by_places, entered_asked, refused_asked}
use Rattle.shared_hub.proofs.guarded.Guarded.edit_placed.Goals as goal

-- it was made before
pub returns-then-knows-clause-entered : goal.returns-then-knows-clause-entered
returns-then-knows-clause-entered g c =
    let p = c.args.placed.now in
    let held = c.audit.new.self in
    let of_then = c.action-then-knows.ensures
    ∙ asks_again held.locked.replica p c.action.result.now c.knows.result c.action.ensures c.knows.ensures c.if-knows.true in
    rw (← c.audit.ensures.same.1)
    (entered_asked c.edit.result (asked_then p) c.action-then-knows.result.now held c.edit.new.self c.audit.new.pass c.edit.new.pass of_then
    c.edit.ensures.call c.edit.ensures.enters)

pub returns-then-knows-clause-refused : goal.returns-then-knows-clause-refused
returns-then-knows-clause-refused g c =
    let p = c.args.placed.now in
    let r = c.audit.new.self.locked.replica in
    rw (← c.audit.ensures.same.1)
    (refused_asked c.edit.result p (asked_then p) c.action-then-knows.result.now c.audit.new.self c.edit.new.self c.audit.new.pass c.edit.new.pass
    (c.action-then-knows.ensures ∙ asks_again r p c.action.result.now c.knows.result c.action.ensures c.knows.ensures c.if-knows.true)
    c.edit.ensures.call c.edit.ensures.enters)

-- its places were looked up
pub returns-in-Ok-clause-entered : goal.returns-in-Ok-clause-entered
returns-in-Ok-clause-entered g c =
    let p = c.args.placed.now in
    let held = c.audit.new.self in
    let of_then = c.in-Ok.ensures
    ∙ asks_by_places held.locked.replica p c.action.result.now c.knows.result c.action.ensures c.knows.ensures c.if-knows.false (search rules) in
    rw (← c.audit.ensures.same.1)
    (entered_asked c.edit-in-Ok-2.result (asked_then p) c.in-Ok.edit held c.edit-in-Ok-2.new.self c.audit.new.pass c.edit-in-Ok-2.new.pass of_then
    c.edit-in-Ok-2.ensures.call c.edit-in-Ok-2.ensures.enters)

pub returns-in-Ok-clause-refused : goal.returns-in-Ok-clause-refused
returns-in-Ok-clause-refused g c =
    let p = c.args.placed.now in
    let r = c.audit.new.self.locked.replica in
    rw (← c.audit.ensures.same.1)
    (refused_asked c.edit-in-Ok-2.result p (asked_then p) c.in-Ok.edit c.audit.new.self c.edit-in-Ok-2.new.self c.audit.new.pass c.edit-in-Ok-2.new.pass
    (c.in-Ok.ensures ∙ asks_by_places r p c.action.result.now c.knows.result c.action.ensures c.knows.ensures c.if-knows.false (search rules))
    c.edit-in-Ok-2.ensures.call c.edit-in-Ok-2.ensures.enters)
