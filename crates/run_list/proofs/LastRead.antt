-- How far a list was read.
use Rattle.std.proofs.Common.{◌≡◌, ℕ, zero, suc, ◌+◌, ◌<◌, ◌≤◌, List, length, get_or, take, Option, Some, None, sym, ap, subst, ◌∙◌, arith, add-one}
use Rattle.std.specs.Prelude.{IfSome}
use Rattle.std.proofs.lemmas.List.{get_or-take, length-take, take-take}
use Rattle.op_model.specs.declared.op.Op.{Op}
use Rattle.run_list.specs.Runs.{last_behind}
use Rattle.run_list.proofs.Parts.{last_at}
use Rattle.run_list.specs.Reader.{AreBegun, IsRead, HasRead}
use Rattle.run_list.specs.declared.following.Begun.{Begun}

-- the last one that was read is the one before
pub before_known : (list : List Op) (at : ℕ) (op : Option Op) → at ≤ length list → IsRead list at op
    → IfSome op (λ o. last_behind None (take at list) ≡ Some o)
before_known list zero None within is = tt
before_known list zero (Some o) within is = absurd cc
before_known list (suc at) None within is = absurd is
before_known list (suc at) (Some op) within is =
    let long : length (take (suc at) list) ≡ suc at = (let l = length-take (suc at) list in omega arith) in
    last_at None (take (suc at) list) at op long ∙ ap Some (get_or-take (suc at) list at op (omega arith) ∙ sym is)

-- the first operations of a front are those of the list
pub front_same : (list front : List Op) (i : ℕ) → take (length front) list ≡ front → i ≤ length front → take i list ≡ take i front
front_same list front i is within = sym (take-take i (length front) list within) ∙ ap (take i) is

-- and so is each
pub front_at : (list front : List Op) (i : ℕ) (d : Op) → take (length front) list ≡ front → i < length front → get_or list i d ≡ get_or front i d
front_at list front i d is lt = sym (get_or-take (length front) list i d lt) ∙ ap (λ (ops : List Op). get_or ops i d) is

-- and what they begin
pub begun_same : (list front : List Op) (i : ℕ) (begun : Begun) → take (length front) list ≡ front → i ≤ length front → AreBegun (take i front) begun
    → AreBegun (take i list) begun
begun_same list front i begun is within begins = subst (λ (ops : List Op). AreBegun ops begun) (sym (front_same list front i is within)) begins

-- one more was read
pub has_read : (list whole : List Op) (at : ℕ) (more : Begun) (op : Op) → take (length list) whole ≡ list → at < length list → op ≡ get_or whole at op
    → AreBegun (take (suc at) whole) more → HasRead list (at + 1) more (Some op)
has_read list whole at more op is lt op_is more_is =
    rw add-one (record {
      within = omega arith;
      begins = subst (λ (ops : List Op). AreBegun ops more) (front_same whole list (suc at) is (omega arith)) more_is;
      last = op_is ∙ front_at whole list at op is lt;
    })
