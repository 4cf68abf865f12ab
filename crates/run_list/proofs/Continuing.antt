-- What goes on with a run, whatever the tokens are.
use Rattle.std.proofs.Common.{◌≡◌, ℕ, true, List, Option, Some, None, refl, sym, ap, ◌∙◌}
use Rattle.std.specs.Prelude.{◌==◌, ◌&&◌}
use Rattle.std.proofs.lemmas.Bool.{and_from, and_parts}
use Rattle.op_ids.specs.Clock.{advanced, is_same_clock}
use Rattle.op_model.specs.declared.op.Op.{Op}
use Rattle.op_model.specs.Causality.{is_insert}
use Rattle.op_pieces.specs.Cutting.{is_behind, is_next, is_same_token}
use Rattle.run_list.specs.Runs.{goes_on, last_behind, IsTypedBehind}
use Rattle.run_list.specs.Told.{with_token, bare_of, bare_ops, continues, HoldsTold, IsTypedOn}
use Rattle.std.proofs.Common.{◌+◌}
use Rattle.std.specs.Option.{option_map}
use Rattle.run_list.proofs.Telling.{last_bare, bare_fits, bare_at, bare_long}
use Rattle.std.proofs.Common.{◌<◌, suc, length, get_or, arith}
use Rattle.std.specs.Prelude.{IfSome}
use Rattle.run_list.proofs.Parts.{last_at}
use Rattle.run_list.proofs.NextTyped.{same_token}

-- with one token for both it is as with none
pub any_token : (last op : Op) → is_next (with_token last op.token) op ≡ is_next (bare_of last) (bare_of op)
any_token last op = rw (same_token op.token) refl

-- so what goes on does without the tokens
pub bare_next : (last op : Op) → is_next last op ≡ true → is_next (bare_of last) (bare_of op) ≡ true
bare_next last op is =
    let clocks = is_same_clock op.deps (advanced last.deps last.id.replica) in
    let tokens = is_same_token op.token last.token && clocks in
    let doc = op.doc == last.doc in
    let replica = op.id.replica == last.id.replica in
    let counter = op.id.counter == last.id.counter + 1 in
    let a = and_parts (is_insert last.body) (is_behind last.id op.body && (counter && (replica && (doc && tokens)))) is in
    let b = and_parts (is_behind last.id op.body) (counter && (replica && (doc && tokens))) a.1 in
    let c = and_parts counter (replica && (doc && tokens)) b.1 in
    let d = and_parts replica (doc && tokens) c.1 in
    let e = and_parts doc tokens d.1 in
    let f = and_parts (is_same_token op.token last.token) clocks e.1 in
    and_from _ _ a.0 (and_from _ _ b.0 (and_from _ _ c.0 (and_from _ _ d.0 (and_from _ _ e.0 f.1))))

-- behind the last one
pub goes_on_bare : (ops : List Op) (last op : Op) → last_behind None ops ≡ Some last → continues ops op ≡ is_next (bare_of last) (bare_of op)
goes_on_bare ops last op is = ap (λ (l : Option Op). goes_on l (bare_of op)) (last_bare None ops ∙ ap (λ (l : Option Op). option_map bare_of l) is)

-- it is typed so without its token
pub typed_bare : (bare : List Op) (tokens : List ℕ) (ops : List Op) (value : ℕ) (token : Option ℕ) (op : Op) → HoldsTold bare tokens ops
    → IsTypedOn ops value token op → IsTypedBehind bare value (bare_of op)
typed_bare bare tokens ops value token op holds typed = record {
  on = ap (λ (b : List Op). goes_on (last_behind None b) (bare_of op)) holds.bare_so ∙ typed.on;
  types = typed.types;
  fits = bare_fits op typed.fits;
}

-- so it does behind the last one with another token
pub spelled_on : (ops : List Op) (last other op : Op) → last_behind None ops ≡ Some last → bare_of other ≡ bare_of last → is_next other op ≡ true
    → continues ops op ≡ true
spelled_on ops last other op known same is =
    goes_on_bare ops last op known ∙ ap (λ (o : Op). is_next o (bare_of op)) (sym same) ∙ bare_next other op is

-- and behind the last one that is held without its token
pub last_continues : (bare : List Op) (tokens : List ℕ) (ops : List Op) (i : ℕ) (last op : Op) → HoldsTold bare tokens ops → length bare ≡ suc i
    → last ≡ get_or bare i last → is_next (bare_of last) (bare_of op) ≡ continues ops op
last_continues bare tokens ops i last op holds long is =
    let lt : i < length ops = omega (arith, long, bare_long bare tokens ops holds) in
    let at = bare_at bare tokens ops i last last holds lt is in
    let same : bare_of last ≡ last = ap bare_of at ∙ sym at in
    ap (λ (l : Op). is_next l (bare_of op)) (same ∙ is)
    ∙ ap (λ (l : Option Op). goes_on l (bare_of op)) (sym (last_at None bare i last long))
    ∙ ap (λ (b : List Op). goes_on (last_behind None b) (bare_of op)) holds.bare_so

-- the last one, if it is known, is known without its token
pub before_bare : (front : List Op) (before : Option Op) → IfSome before (λ op. last_behind None front ≡ Some op)
    → IfSome (option_map bare_of before) (λ op. last_behind None (bare_ops front) ≡ Some op)
before_bare front None known = tt
before_bare front (Some op) known = last_bare None front ∙ ap (λ (l : Option Op). option_map bare_of l) known
