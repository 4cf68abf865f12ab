-- What a link says of operations is what it says of the pieces that they are cut into.
use Rattle.std.proofs.Common.{◌≡◌, ◌⊎◌, ◌↔◌, List, Result, Ok, Err, None, true, inl, inr, refl}
use Rattle.std.specs.Prelude.{IfErr, OnOk, IsErrOf}
use Rattle.op_model.specs.declared.op.Op.{Op}
use Rattle.op_pieces.specs.Cutting.{cut}
use Rattle.op_pieces.specs.Pieces.{joined}
use Rattle.op_pieces.proofs.CutLemmas.{cut_joined}
use Rattle.causal_sync.specs.declared.heard.Heard.TheVariants.{Ops}
use Rattle.causal_sync.specs.declared.link_error.LinkError.{LinkError}
use Rattle.causal_sync.specs.declared.link_error.LinkError.TheVariants.{Memory, Limit, BadFrame, BadHello, Closed, Record}
use Rattle.causal_sync.specs.Sent.{sent}
use Rattle.causal_sync.specs.State.{LinkState, Sends, is_silent}
use Rattle.link_speaker.specs.LinkLine.{LinkRefuses}

pub said_so : (old new : LinkState) (ops : List Op) (r : Result (Unit {0}) LinkError) → OnOk r (Sends old new ops) → OnOk r (Sends old new (joined (cut ops)))
said_so old new ops r says = rw (cut_joined ops) says

-- how saying operations may be refused
abbrev pub IsRefusal : LinkState → List Op → LinkError → Type 0
IsRefusal s ops e = (e ≡ Closed) ⊎ ((e ≡ Memory) ⊎ ((e ≡ Limit) × (sent s.base ops ≡ None)))

pub refused_so : (s : LinkState) (ops : List Op) (r : Result (Unit {0}) LinkError) → (IsErrOf r Closed ↔ (is_silent s ≡ true)) → IfErr r (IsRefusal s ops) → IfErr r (LinkRefuses s (Ops (cut ops)))
refused_so s ops (Ok x) closed kinds = tt
refused_so s ops (Err e) closed kinds = by_kind e closed kinds
  where
    by_kind : (e : LinkError) → (IsErrOf {T = Unit {0}} (Err e) Closed ↔ (is_silent s ≡ true)) → IsRefusal s ops e → LinkRefuses s (Ops (cut ops)) e
    by_kind Closed closed kinds = closed.0 refl
    by_kind Memory closed kinds = tt
    by_kind Limit closed (inl is) = absurd cc
    by_kind Limit closed (inr (inl is)) = absurd cc
    by_kind Limit closed (inr (inr full)) = rw (cut_joined ops) full.1
    by_kind BadFrame closed (inl is) = absurd cc
    by_kind BadFrame closed (inr (inl is)) = absurd cc
    by_kind BadFrame closed (inr (inr full)) = let is = full.0 in absurd cc
    by_kind BadHello closed (inl is) = absurd cc
    by_kind BadHello closed (inr (inl is)) = absurd cc
    by_kind BadHello closed (inr (inr full)) = let is = full.0 in absurd cc
    by_kind (Record fault) closed (inl is) = absurd cc
    by_kind (Record fault) closed (inr (inl is)) = absurd cc
    by_kind (Record fault) closed (inr (inr full)) = let is = full.0 in absurd cc
