-- The operations of a piece that are put behind a list, one by one.
use Rattle.std.proofs.Common.{◌≡◌, ℕ, zero, suc, ◌+◌, ◌<◌, ◌≤◌, true, List, [], ◌∷◌, ◌++◌}
use Rattle.std.proofs.Common.{length, get_or, take, drop, Some, None, refl, sym, ap, subst, ◌∙◌, arith, append_assoc, add-one}
use Rattle.std.proofs.lemmas.List.{take_at}
use Rattle.op_model.specs.declared.op.Op.{Op}
use Rattle.change_codec.specs.Stream.{AreOperations}
use Rattle.op_pieces.specs.Pieces.{Run, next_typed, typed_behind, last_typed, fits_behind}
use Rattle.op_pieces.proofs.PieceLemmas.{last_more}
use Rattle.op_pieces.proofs.UnrolledLemmas.{room_parts, others_fit}
use Rattle.piece_codec.specs.Fits.{IsWhole}
use Rattle.piece_codec.proofs.StreamOperations.{typed_operations}
use Rattle.run_list.specs.Runs.{last_behind}
use Rattle.run_list.specs.Told.{bare_of, IsTypedOn}
use Rattle.run_list.proofs.Continuing.{goes_on_bare}
use Rattle.run_list.proofs.NextTyped.{typed_is_next}
use Rattle.run_list.proofs.Appending.{Going, going_on, all_put}
use Rattle.run_list.proofs.Parts.{last-more}

-- of a piece's operations those up to the i-th are put behind the first one
pub record Typing (start : List Op) (first : Op) (others : List ℕ) (i : ℕ) (self : List Op) : Type 0 where
  pub going : Going start (first ∷ typed_behind first others) (typed_behind (last_typed first (take i others)) (drop i others)) self
  pub last : last_behind None self ≡ Some (last_typed first (take i others))
  pub fits : AreOperations (typed_behind (last_typed first (take i others)) (drop i others))
  pub room : fits_behind (last_typed first (take i others)) (drop i others) ≡ true

pub typing_begins : (start self : List Op) (p : Run) → IsWhole p → self ≡ start ++ p.first ∷ [] → Typing start p.first p.others 0 self
typing_begins start self p whole is = record {
  going = record {
    all = ap (λ (s : List Op). s ++ typed_behind p.first p.others) is ∙ append_assoc start (p.first ∷ []) (typed_behind p.first p.others);
    front = ap (take (length start)) is ∙ take_at start (p.first ∷ []) (length start) refl;
  };
  last = ap (last_behind None) is ∙ last-more None start p.first;
  fits = typed_operations p.first p.others whole.first whole.others whole.piece;
  room = whole.piece;
}

-- the token stays the same
token_stays : (first : Op) (vs : List ℕ) → first.token ≡ (last_typed first vs).token
token_stays first [] = refl
token_stays first (v ∷ vs) = token_stays (next_typed first v) vs

-- what is left begins with the next character
record Next (others : List ℕ) (i more v : ℕ) : Type 0 where
  pub left : drop i others ≡ v ∷ drop more others
  pub front : take more others ≡ take i others ++ v ∷ []

next_from : (others : List ℕ) (i v : ℕ) → v ≡ get_or others i v → i < length others → Next others i (suc i) v
next_from [] i v is lt = absurd (omega arith)
next_from (w ∷ ws) zero v is lt = record { left = ap (λ x. x ∷ ws) (sym is); front = ap (λ x. x ∷ []) (sym is) }
next_from (w ∷ ws) (suc i) v is lt =
    let rest = next_from ws i v is (omega arith) in
    record { left = rest.left; front = ap (λ xs. w ∷ xs) rest.front }

next_character : (others : List ℕ) (i v : ℕ) → v ≡ get_or others i v → i < length others → Next others i (i + 1) v
next_character others i v is lt = rw add-one (next_from others i v is lt)

pub typed_one : (start self : List Op) (first : Op) (others : List ℕ) (i v : ℕ) → Typing start first others i self → v ≡ get_or others i v
    → i < length others → IsTypedOn self v first.token (next_typed (last_typed first (take i others)) v)
typed_one start self first others i v it is lt =
    let last = last_typed first (take i others) in
    let next = next_character others i v is lt in
    let room : fits_behind last (v ∷ drop (i + 1) others) ≡ true = ap (fits_behind last) (sym next.left) ∙ it.room in
    record {
      on =
          goes_on_bare self last (next_typed last v) it.last
          ∙ typed_is_next (bare_of last) v (room_parts last (suc (length (drop (i + 1) others))) room).inserts;
      types = refl;
      token_so = token_stays first (take i others);
      fits = (subst (λ (vs : List ℕ). AreOperations (typed_behind last vs)) next.left it.fits).0;
    }

pub typing_on : (start self more : List Op) (first : Op) (others : List ℕ) (i v : ℕ) → Typing start first others i self → v ≡ get_or others i v
    → i < length others → more ≡ self ++ next_typed (last_typed first (take i others)) v ∷ [] → Typing start first others (i + 1) more
typing_on start self more first others i v it is lt grown =
    let last = last_typed first (take i others) in
    let next = next_character others i v is lt in
    let after : last_typed first (take (i + 1) others) ≡ next_typed last v = ap (last_typed first) next.front ∙ last_more first (take i others) v in
    let left : typed_behind last (drop i others) ≡ next_typed last v ∷ typed_behind (last_typed first (take (i + 1) others)) (drop (i + 1) others) =
    ap (typed_behind last) next.left ∙ ap (λ (o : Op). next_typed last v ∷ typed_behind o (drop (i + 1) others)) (sym after) in
    record {
      going = going_on _ _ _ _ _ _ _ it.going left grown;
      last = ap (last_behind None) grown ∙ last-more None self (next_typed last v) ∙ ap Some (sym after);
      fits = (subst (λ (ops : List Op). AreOperations ops) left it.fits).1;
      room = rw after (others_fit last v (drop (i + 1) others) (ap (fits_behind last) (sym next.left) ∙ it.room));
    }

-- all are put
pub none_typed : (start self : List Op) (first : Op) (others : List ℕ) (i : ℕ) → Typing start first others i self → length others ≤ i
    → self ≡ start ++ first ∷ typed_behind first others
none_typed start self first others i it all =
    all_put start (first ∷ typed_behind first others) _ self it.going (ap (typed_behind (last_typed first (take i others))) (nothing_left others i all))
  where
    nothing_left : (vs : List ℕ) (n : ℕ) → length vs ≤ n → drop n vs ≡ []
    nothing_left [] zero le = refl
    nothing_left [] (suc n) le = refl
    nothing_left (v ∷ vs) zero le = absurd (omega arith)
    nothing_left (v ∷ vs) (suc n) le = nothing_left vs n (omega arith)
