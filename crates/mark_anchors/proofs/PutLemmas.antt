-- One edge more among chunks of edges.
use Rattle.std.proofs.Common.{◌≡◌, ℕ, zero, suc, ◌+◌, ◌<◌, ◌≤◌, true, false, inl, inr, List, [], ◌∷◌, ◌++◌, length, take, drop}
use Rattle.std.proofs.Math.ListN.{set}
use Rattle.std.proofs.Common.{get_or, refl, sym, ◌∙◌, ap, subst, arith}
use Rattle.std.specs.List.{insert, All}
use Rattle.std.specs.List.Sorted.{IsPermutation, IsPartitionPoint}
use Rattle.std.proofs.lemmas.Bool.{cases_Bool}
use Rattle.std.proofs.lemmas.List.{take-append-drop, set_split, get_or_read}
use Rattle.std.proofs.lemmas.List.Elements.{All-cons, All-head, All-tail, All-nil}
use Rattle.std.proofs.lemmas.List.Sorted.{IsPermutation-refl, IsPermutation-sym, IsPermutation-trans, IsPermutation-append_right}
use Rattle.std.proofs.lemmas.List.Sorted.{IsPermutation-cons, IsPermutation-middle}
use Rattle.op_ids.specs.Id.{is_below}
use Rattle.mark_anchors.specs.declared.edge.Edge.{Edge}
use Rattle.mark_anchors.specs.Edges.{AreInOrder}
use Rattle.mark_anchors.specs.EdgeChunks.{edges_in, put_in, AreAbove, AreApart, AreBelow, AreChunks}
use Rattle.mark_anchors.proofs.EdgeLemmas.{one_way}
use Rattle.mark_anchors.proofs.ChunkLemmas.{apart_both, apart_first, apart_rest, edges_in-append}
use Rattle.mark_anchors.proofs.ChunkLemmas.{around, first_part, joined, last_part, parts_apart}

-- an edge that is inserted where greater ids begin is put at its place
pub insert_is_put : (es : List Edge) (e : Edge) (n : ℕ) → n ≤ length es
    → IsPartitionPoint (λ f. is_below e.id f.id ≡ false) (λ f. is_below e.id f.id ≡ true) es n → insert es n e ≡ put_in e es
insert_is_put [] e zero within place = refl
insert_is_put [] e (suc n) within place = absurd (omega arith)
insert_is_put (d ∷ ds) e zero within place = let above = place.1 0 d (omega arith) (omega arith) in rw above refl
insert_is_put (d ∷ ds) e (suc n) within place =
    let first = place.0 0 d (omega arith) (omega arith) in
    rw first (ap (λ rest. d ∷ rest) (insert_is_put ds e n (omega arith)
    (λ k f low high. place.0 (suc k) f (omega arith) (omega arith), λ k f low high. place.1 (suc k) f (omega arith) (omega arith))))

-- it is one of them, each as often as before
pub put_moves : (e : Edge) (es : List Edge) → IsPermutation (e ∷ es) (put_in e es)
put_moves e [] = IsPermutation-refl (e ∷ [])
put_moves e (d ∷ ds) =
    elim (cases_Bool (is_below e.id d.id)) [
      | inl above ↦ rw above (IsPermutation-refl (e ∷ d ∷ ds))
      | inr upto ↦ rw upto (IsPermutation-trans (e ∷ d ∷ ds) (d ∷ e ∷ ds) (d ∷ put_in e ds)
          (IsPermutation-sym (d ∷ e ∷ ds) (e ∷ d ∷ ds) (IsPermutation-middle (d ∷ []) e ds))
          (IsPermutation-cons d (e ∷ ds) (put_in e ds) (put_moves e ds)))
    ]

-- what holds of it and of the others holds of each
pub all_put : (P : Edge → Type 0) (e : Edge) (es : List Edge) → P e → All P es → All P (put_in e es)
all_put P e [] one all = All-cons P e [] one all
all_put P e (d ∷ ds) one all =
    elim (cases_Bool (is_below e.id d.id)) [
      | inl above ↦ rw above (All-cons P e (d ∷ ds) one all)
      | inr upto ↦ rw upto (All-cons P d (put_in e ds) (All-head P d ds all) (all_put P e ds one (All-tail P d ds all)))
    ]

pub some_put : (e : Edge) (es : List Edge) → 0 < length (put_in e es)
some_put e [] = omega arith
some_put e (d ∷ ds) =
    elim (cases_Bool (is_below e.id d.id)) [
      | inl above ↦ rw above (omega arith)
      | inr upto ↦ rw upto (omega arith)
    ]

-- behind edges below its character
pub put_behind : (e : Edge) (es fs : List Edge) → AreBelow es e.id → put_in e (es ++ fs) ≡ es ++ put_in e fs
put_behind e [] fs below = refl
put_behind e (d ∷ es) fs below =
    let first = one_way d.id e.id (below 0 d (omega arith)) in
    rw first (ap (λ rest. d ∷ rest) (put_behind e es fs (All-tail (λ f. is_below f.id e.id ≡ true) d es below)))

-- and before those above it
pub put_before : (e : Edge) (es fs : List Edge) → AreAbove e.id fs → put_in e (es ++ fs) ≡ put_in e es ++ fs
put_before e [] [] above = refl
put_before e [] (f ∷ fs) above = let first = above 0 f (omega arith) in rw first refl
put_before e (d ∷ es) fs above =
    elim (cases_Bool (is_below e.id d.id)) [
      | inl h ↦ rw h refl
      | inr h ↦ rw h (ap (λ rest. d ∷ rest) (put_before e es fs above))
    ]

-- another chunk in place of one
pub replaced : (ls rs : List (List Edge)) (k new : List Edge) → AreChunks (ls ++ k ∷ rs) → 0 < length new → AreInOrder new → AreApart (edges_in ls) new
    → AreApart new (edges_in rs) → AreChunks (ls ++ new ∷ rs)
replaced ls rs k new are some order below above =
    let here = last_part ls (k ∷ rs) are in
    joined ls (new ∷ rs) (first_part ls (k ∷ rs) are) (some, order, above, here.3)
    (apart_both (edges_in ls) new (edges_in rs) below (apart_rest (edges_in ls) k (edges_in rs) (parts_apart ls (k ∷ rs) are)))

-- edges below a character stand below one more at it
below_put : (e : Edge) (es k : List Edge) → AreBelow es e.id → AreApart es k → AreApart es (put_in e k)
below_put e es k below apart i d within =
    all_put (λ f. is_below (get_or es i d).id f.id ≡ true) e k (below i d within) (apart i d within)

-- an edge is put into a chunk
pub put_chunks : (ls rs : List (List Edge)) (k : List Edge) (e : Edge) → AreChunks (ls ++ k ∷ rs) → AreInOrder (put_in e k) → AreBelow (edges_in ls) e.id
    → AreAbove e.id (edges_in rs) → AreChunks (ls ++ put_in e k ∷ rs)
put_chunks ls rs k e are order below above =
    let here = last_part ls (k ∷ rs) are in
    replaced ls rs k (put_in e k) are (some_put e k) order
    (below_put e (edges_in ls) k below (apart_first (edges_in ls) k (edges_in rs) (parts_apart ls (k ∷ rs) are)))
    (all_put (λ f. AreAbove f.id (edges_in rs)) e k above here.2)

pub put_edges : (ls rs : List (List Edge)) (k : List Edge) (e : Edge) → AreBelow (edges_in ls) e.id → AreAbove e.id (edges_in rs)
    → edges_in (ls ++ put_in e k ∷ rs) ≡ put_in e (edges_in (ls ++ k ∷ rs))
put_edges ls rs k e below above =
    rw (
      edges_in-append ls (put_in e k ∷ rs),
      edges_in-append ls (k ∷ rs),
      put_behind e (edges_in ls) (k ++ edges_in rs) below,
      put_before e k (edges_in rs) above,
    ) refl

-- one edge is in order
pub order_one : (e : Edge) → AreInOrder (e ∷ [])
order_one e k d low more = absurd (omega arith)

-- an edge becomes a chunk
pub new_chunks : (ls rs : List (List Edge)) (e : Edge) → AreChunks (ls ++ rs) → AreBelow (edges_in ls) e.id → AreAbove e.id (edges_in rs)
    → AreChunks (ls ++ (e ∷ []) ∷ rs)
new_chunks ls rs e are below above =
    joined ls ((e ∷ []) ∷ rs) (first_part ls rs are)
    (omega arith, order_one e, All-cons (λ f. AreAbove f.id (edges_in rs)) e [] above (All-nil (λ f. AreAbove f.id (edges_in rs))), last_part ls rs are)
    (λ i d within. All-cons (λ f. is_below (get_or (edges_in ls) i d).id f.id ≡ true) e (edges_in rs) (below i d within) (parts_apart ls rs are i d within))

pub new_edges : (ls rs : List (List Edge)) (e : Edge) → AreBelow (edges_in ls) e.id → AreAbove e.id (edges_in rs)
    → edges_in (ls ++ (e ∷ []) ∷ rs) ≡ put_in e (edges_in (ls ++ rs))
new_edges ls rs e below above =
    rw (
      edges_in-append ls ((e ∷ []) ∷ rs),
      edges_in-append ls rs,
      put_behind e (edges_in ls) (edges_in rs) below,
      put_before e [] (edges_in rs) above,
    ) refl

-- it is put into the i-th chunk
pub put_set : (ks : List (List Edge)) (i : ℕ) (k new : List Edge) (e : Edge) → AreChunks ks → i < length ks → k ≡ get_or ks i k → new ≡ put_in e k
    → AreInOrder new → AreBelow (edges_in (take i ks)) e.id → AreAbove e.id (edges_in (drop (i + 1) ks))
    → AreChunks (set ks i new) × (edges_in (set ks i new) ≡ put_in e (edges_in ks))
put_set ks i k new e are within is is_new order below above =
    let read = get_or_read ks i k within is [] in
    let next : suc i ≡ i + 1 = omega arith in
    let made : set ks i new ≡ take i ks ++ put_in e (get_or ks i []) ∷ drop (i + 1) ks =
    set_split ks i new within ∙ rw (next, is_new, read) refl in
    let same : put_in e (get_or ks i []) ≡ new = ap (put_in e) (sym read) ∙ sym is_new in (
      rw made (put_chunks (take i ks) (drop (i + 1) ks) (get_or ks i []) e (subst AreChunks (around ks i within) are) (subst AreInOrder (sym same) order) below above),
      rw made (put_edges (take i ks) (drop (i + 1) ks) (get_or ks i []) e below above ∙ ap (λ all. put_in e (edges_in all)) (sym (around ks i within))),
    )

-- it becomes the i-th chunk
pub put_new : (ks : List (List Edge)) (i : ℕ) (e : Edge) → AreChunks ks → AreBelow (edges_in (take i ks)) e.id → AreAbove e.id (edges_in (drop i ks))
    → AreChunks (insert ks i (e ∷ [])) × (edges_in (insert ks i (e ∷ [])) ≡ put_in e (edges_in ks))
put_new ks i e are below above = (
  new_chunks (take i ks) (drop i ks) e (subst AreChunks (sym (take-append-drop i ks)) are) below above,
  new_edges (take i ks) (drop i ks) e below above ∙ ap (λ all. put_in e (edges_in all)) (take-append-drop i ks),
)

-- edges with one more, and then more
pub put_then : (e : Edge) (es more all : List Edge) → IsPermutation (more ++ put_in e es) all → IsPermutation (more ++ (e ∷ es)) all
put_then e es more all then =
    IsPermutation-trans (more ++ (e ∷ es)) (more ++ put_in e es) all (IsPermutation-append_right more (e ∷ es) (put_in e es) (put_moves e es)) then
