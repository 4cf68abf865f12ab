-- Replies to some calls, and one reply more.
use Rattle.std.proofs.Common.{◌≡◌, List, [], ◌∷◌, ◌++◌, length, drop, refl, sym, ap, subst, arith}
use Rattle.disk_trait.specs.Calls.{IsLawful}
use Rattle.disk_trait.specs.declared.facts.DiskFacts.{Ghosts}
use Rattle.locked_replica.specs.Hub.{Parts}
use Rattle.locked_replica.specs.Calls.{IsCall}
use Rattle.locked_replica.specs.Run.{Ran, NamePhases, Replied}
use Rattle.locked_replica.specs.Steps.{event_of, answer_of, events_of, IsReplyTo, AreRepliesTo, NamesPhase}
use Rattle.locked_replica.specs.declared.hub_step.HubStep.{HubStep}
use Rattle.locked_replica.specs.declared.hub_reply.HubReply.{HubReply}
use Rattle.locked_replica.proofs.RunLemmas.{ran_named}

-- calls with one answer more
events_more : (steps rest : List HubStep) (replies : List HubReply) (step : HubStep) (reply : HubReply) → drop (length replies) steps ≡ step ∷ rest
    → events_of steps (replies ++ reply ∷ []) ≡ events_of steps replies ++ (event_of step, answer_of reply) ∷ []
events_more [] rest [] step reply is = absurd (cc)
events_more [] rest (r ∷ rs) step reply is = absurd (cc)
events_more (s ∷ ss) rest [] step reply is = first (s ∷ ss) is
  where
    first : (all : List HubStep) → all ≡ step ∷ rest → events_of all (reply ∷ []) ≡ events_of all [] ++ (event_of step, answer_of reply) ∷ []
    first all same = rw same (ends rest)
      where
        ends : (rest : List HubStep) → events_of (step ∷ rest) (reply ∷ []) ≡ events_of (step ∷ rest) [] ++ (event_of step, answer_of reply) ∷ []
        ends [] = refl
        ends (s ∷ ss) = refl
events_more (s ∷ ss) rest (r ∷ rs) step reply is = ap (λ es. (event_of s, answer_of r) ∷ es) (events_more ss rest rs step reply is)

-- replies with one more
replies_more : (steps rest : List HubStep) (replies : List HubReply) (step : HubStep) (reply : HubReply) → drop (length replies) steps ≡ step ∷ rest
    → AreRepliesTo steps replies → IsReplyTo step reply → AreRepliesTo steps (replies ++ reply ∷ [])
replies_more [] rest [] step reply is are one = absurd (cc)
replies_more [] rest (r ∷ rs) step reply is are one = absurd (cc)
replies_more (s ∷ ss) rest [] step reply is are one = let same : s ≡ step = cc in (rw same one, tt)
replies_more (s ∷ ss) rest (r ∷ rs) step reply is are one = (are.0, replies_more ss rest rs step reply is are.1 one)

-- replies and events are as many
as_many : (steps : List HubStep) (replies : List HubReply) → AreRepliesTo steps replies → length replies ≡ length (events_of steps replies)
as_many [] [] are = refl
as_many [] (r ∷ rs) are = absurd are
as_many (s ∷ ss) [] are = refl
as_many (s ∷ ss) (r ∷ rs) are = let rest = as_many ss rs are.1 in omega (arith, rest)

-- no call
pub replied_none : {D : Type 0} (facts : Ghosts D) (hub : Parts D) (steps : List HubStep) → Ran facts hub [] hub → Replied facts hub steps [] hub
replied_none facts hub [] ran = record { kinds = tt; ran = ran; phases = tt }
replied_none facts hub (s ∷ ss) ran = record { kinds = tt; ran = ran; phases = tt }

-- one call more
pub replied_more : {D : Type 0} (facts : Ghosts D) (old mid new : Parts D) (steps rest : List HubStep) (replies : List HubReply) (step : HubStep) (reply : HubReply)
    → drop (length replies) steps ≡ step ∷ rest → (facts.tells new.store.disk → IsLawful facts new.store.disk) → Replied facts old steps replies mid
    → IsCall facts (event_of step) (answer_of reply) mid new → IsReplyTo step reply → NamesPhase reply mid.store
    → Replied facts old steps (replies ++ reply ∷ []) new
replied_more facts old mid new steps rest replies step reply is lawful replied call kind names =
    let es = events_of steps replies in
    let more = ran_named facts old mid new es (event_of step) (answer_of reply) replies reply lawful replied.ran call
    (as_many steps replies replied.kinds) names replied.phases in
    let both = subst (λ events. (ran : Ran facts old events new) × NamePhases facts old (replies ++ reply ∷ []) events new ran.calls)
    (sym (events_more steps rest replies step reply is)) more in
    record { kinds = replies_more steps rest replies step reply is replied.kinds kind; ran = both.0; phases = both.1 }
