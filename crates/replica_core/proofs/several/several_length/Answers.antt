use Rattle.std.proofs.Common.{◌≡◌, ◌∙◌, ◌+◌, [], true, false, ap, sym, refl, arith, length, drop}
use Rattle.std.proofs.Math.ListN.{drop_of_length-le}
use Rattle.op_ids.specs.Clock.{advanced}
use Rattle.op_model.specs.Actions.{all_wait_at_most, head_at_most, room_behind, waits_at_most, Asked, Room}
use Rattle.op_model.specs.Causality.{clock_of}
use Rattle.op_model.specs.Made.{is_at_rev}
use Rattle.op_model.specs.Text.{rev, visible}
use Rattle.replica_core.specs.Turns.{room_of}
use Rattle.replica_core.proofs.SeveralLemmas.{next_refused, next_taken, next_waits, several_in_turn}
use Rattle.replica_core.proofs.several.several_length.Goals as goal

pub returns-then-not-is_at_rev-clause-refused : goal.returns-then-not-is_at_rev-clause-refused
returns-then-not-is_at_rev-clause-refused c =
    let same : c.args.action.now.rev ≡ c.first-first.result.now.rev = ap (λ (a : Asked). a.rev) c.first-first.ensures in
    let many : c.count.result ≡ rev c.args.ops.now c.args.action.now.doc = c.count.ensures ∙ ap (rev c.args.ops.now) c.requires.number in
    let no : is_at_rev (rev c.args.ops.now c.args.action.now.doc) c.args.action.now.rev ≡ false =
    rw (same, ← many) (sym c.if-not-is_at_rev.ensures) in
    rw no refl

pub returns-in-Err-clause-refused : goal.returns-in-Err-clause-refused
returns-in-Err-clause-refused c =
    let ops = c.args.ops.now in
    let r = c.args.known.now.replica in
    let a = c.args.action.now in
    let same : a.rev ≡ c.first-first.result.now.rev = ap (λ (x : Asked). x.rev) c.first-first.ensures in
    let token : a.token ≡ c.first-first.result.now.token = ap (λ (x : Asked). x.token) c.first-first.ensures in
    let many : c.count.result ≡ rev ops a.doc = c.count.ensures ∙ ap (rev ops) c.requires.number in
    let current : is_at_rev (rev ops a.doc) a.rev ≡ true = rw (same, ← many) (sym c.if-not-is_at_rev.ensures) in
    let there : room_of c.turn_behind-turn.result ≡ room_behind ops r a.doc = c.turn_behind-turn.ensures.turn.room ∙ ap (room_behind ops r) c.requires.number in
    let shown : c.turn_behind-turn.result.shown ≡ length (visible ops a.doc) = c.turn_behind-turn.ensures.turn.shown ∙ ap (λ n. length (visible ops n)) c.requires.number in
    let start = several_in_turn ops r a c.first-first.result.now (drop 1 a.changes) (room_of c.turn_behind-turn.result) c.turn_behind-turn.result.shown
    c.first-first.ensures current there shown in
    let counted : c.replicas_behind-replicas.result ≡ length (advanced (clock_of ops) r) =
    c.replicas_behind-replicas.ensures.value ∙ ap (λ es. length (advanced es r)) c.requires.counted.clock in
    let head : c.head_at_most-head.result ≡ head_at_most (length (advanced (clock_of ops) r)) a.token = rw (← counted, token) c.head_at_most-head.ensures.value in
    start ∙ c.in-Err.ensures.refused 0 (length (advanced (clock_of ops) r)) a.token (drop 1 a.changes) head

pub loop-i-init : goal.loop-i-init
loop-i-init c =
    let ops = c.args.ops.now in
    let r = c.args.known.now.replica in
    let a = c.args.action.now in
    let same : a.rev ≡ c.first-first.result.now.rev = ap (λ (x : Asked). x.rev) c.first-first.ensures in
    let token : a.token ≡ c.first-first.result.now.token = ap (λ (x : Asked). x.token) c.first-first.ensures in
    let many : c.count.result ≡ rev ops a.doc = c.count.ensures ∙ ap (rev ops) c.requires.number in
    let current : is_at_rev (rev ops a.doc) a.rev ≡ true = rw (same, ← many) (sym c.if-not-is_at_rev.ensures) in
    let there : room_of c.turn_behind-turn.result ≡ room_behind ops r a.doc = c.turn_behind-turn.ensures.turn.room ∙ ap (room_behind ops r) c.requires.number in
    let shown : c.turn_behind-turn.result.shown ≡ length (visible ops a.doc) = c.turn_behind-turn.ensures.turn.shown ∙ ap (λ n. length (visible ops n)) c.requires.number in
    let start = several_in_turn ops r a c.first-first.result.now (drop 1 a.changes) (room_of c.turn_behind-turn.result) c.turn_behind-turn.result.shown
    c.first-first.ensures current there shown in
    let counted : c.replicas_behind-replicas.result ≡ length (advanced (clock_of ops) r) =
    c.replicas_behind-replicas.ensures.value ∙ ap (λ es. length (advanced es r)) c.requires.counted.clock in
    let head : c.head_at_most-head.result ≡ head_at_most (length (advanced (clock_of ops) r)) a.token = rw (← counted, token) c.head_at_most-head.ensures.value in
    let replicas = length (advanced (clock_of ops) r) in
    let others = c.others-others.ensures.others in
    let whole : all_wait_at_most replicas a.token a.changes ≡ waits_at_most replicas a.token c.first-first.result.now.change + all_wait_at_most replicas a.token c.others-others.result.now =
    ap (λ (x : Asked). all_wait_at_most replicas a.token x.changes) c.first-first.ensures ∙ ap (λ cs. waits_at_most replicas a.token c.first-first.result.now.change + all_wait_at_most replicas a.token cs) (sym others) in
    let left = c.in_default.ensures.taken.waiting replicas a.token head in
    let full = ap (λ (x : Room). x.waiting) there in
    record {
      few = c.in_default.ensures.few;
      rest = rw others (start ∙ c.in_default.ensures.taken.rest 0 replicas a.token (drop 1 a.changes) head);
      waiting = omega arith;
    }

pub take-requires-in-loop-i-clause-few : goal.take-requires-in-loop-i-clause-few
take-requires-in-loop-i-clause-few c = c.loop-i.invariant.few

pub returns-in-Err-take-clause-refused : goal.returns-in-Err-take-clause-refused
returns-in-Err-take-clause-refused c =
    let ops = c.args.ops.now in
    let r = c.args.known.now.replica in
    let a = c.args.action.now in
    let token : a.token ≡ c.first-first.result.now.token = ap (λ (x : Asked). x.token) c.first-first.ensures in
    let counted : c.replicas_behind-replicas.result ≡ length (advanced (clock_of ops) r) =
    c.replicas_behind-replicas.ensures.value ∙ ap (λ es. length (advanced es r)) c.requires.counted.clock in
    let head : c.head_at_most-head.result ≡ head_at_most (length (advanced (clock_of ops) r)) a.token = rw (← counted, token) c.head_at_most-head.ensures.value in
    let i = c.loop-i.i in
    c.loop-i.invariant.rest
    ∙ next_refused _ _ c.others-others.result.now i _ c.index-others-i.result c.loop-i-test.true c.index-others-i.is c.in-Err-take.ensures.refused (i + 1)
    (length (advanced (clock_of ops) r)) a.token head

pub loop-i-preserved : goal.loop-i-preserved
loop-i-preserved c =
    let ops = c.args.ops.now in
    let r = c.args.known.now.replica in
    let a = c.args.action.now in
    let token : a.token ≡ c.first-first.result.now.token = ap (λ (x : Asked). x.token) c.first-first.ensures in
    let counted : c.replicas_behind-replicas.result ≡ length (advanced (clock_of ops) r) =
    c.replicas_behind-replicas.ensures.value ∙ ap (λ es. length (advanced es r)) c.requires.counted.clock in
    let head : c.head_at_most-head.result ≡ head_at_most (length (advanced (clock_of ops) r)) a.token = rw (← counted, token) c.head_at_most-head.ensures.value in
    let replicas = length (advanced (clock_of ops) r) in
    let i = c.loop-i.i in
    let others = c.others-others.result.now in
    let taken = c.in_default-take.ensures.taken in
    let left = next_waits _ _ _ others i c.index-others-i.result c.loop-i-test.true c.index-others-i.is taken replicas a.token head in
    let before = c.loop-i.invariant.waiting in
    record {
      few = c.in_default-take.ensures.few;
      rest = c.loop-i.invariant.rest
          ∙ next_taken _ _ _ others i c.index-others-i.result c.loop-i-test.true c.index-others-i.is taken (i + 1) replicas a.token head;
      waiting = omega arith;
    }

pub overflow_sub-result : goal.overflow_sub-result
overflow_sub-result c =
    let none : drop c.loop-i.i c.others-others.result.now ≡ [] = drop_of_length-le c.others-others.result.now c.loop-i-test.false in
    let all = rw none at c.loop-i.invariant.waiting in
    omega arith

pub returns-clause-due : goal.returns-clause-due
returns-clause-due c =
    let none : drop c.loop-i.i c.others-others.result.now ≡ [] = drop_of_length-le c.others-others.result.now c.loop-i-test.false in
    c.loop-i.invariant.rest ∙ rw none refl

pub returns-clause-length : goal.returns-clause-length
returns-clause-length c =
    let none : drop c.loop-i.i c.others-others.result.now ≡ [] = drop_of_length-le c.others-others.result.now c.loop-i-test.false in
    let all = rw none at c.loop-i.invariant.waiting in
    omega arith
