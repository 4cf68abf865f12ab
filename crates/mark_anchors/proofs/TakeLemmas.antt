-- An edge that was put last is taken back; and where the edges of a character stand.
use Rattle.std.proofs.Common.{◌≡◌, ℕ, suc, ◌+◌, ◌-◌, ◌<◌, ◌≤◌, Bool, true, false, inl, inr, List, [], ◌∷◌, ◌++◌, length, take, drop}
use Rattle.std.proofs.Math.ListN.{set}
use Rattle.std.proofs.Common.{get_or, refl, sym, ◌∙◌, ap, subst, append_assoc, append-nil, length-append, length-drop, arith}
use Rattle.std.specs.Prelude.{filter}
use Rattle.std.specs.List.{remove, All}
use Rattle.std.proofs.lemmas.Bool.{cases_Bool, cases_order, true≢false}
use Rattle.std.proofs.lemmas.List.{drop_more, get_or-take, get_or-drop, length-take-le}
use Rattle.std.proofs.lemmas.List.{take-append-drop, drop-set-lt, take-set, set_split, nil_from_length, get_or_read}
use Rattle.std.proofs.lemmas.List.Elements.{All-append, All-tail, All-take, All-drop, filter-append}
use Rattle.std.proofs.lemmas.List.Edits.{get_or-remove_below, get_or-remove_above, length-remove}
use Rattle.std.proofs.lemmas.List.Sorted.{sorted_far}
use Rattle.op_ids.specs.Id.{Id, is_below, is_same}
use Rattle.mark_anchors.specs.declared.edge.Edge.{Edge}
use Rattle.mark_anchors.specs.Edges.{comes_before, AreInOrder}
use Rattle.mark_anchors.specs.EdgeChunks.{edges_in, put_in, AreAbove, AreBelow, AreChunks}
use Rattle.mark_anchors.proofs.EdgeLemmas.{order_of_edges, none_same, one_way, same_between}
use Rattle.mark_anchors.specs.EdgeChunks.{IsWithoutLast}
use Rattle.mark_anchors.proofs.ChunkLemmas.{apart_first, apart_rest, around, edges_in-append, first_part, joined, last_part}
use Rattle.mark_anchors.proofs.ChunkLemmas.{not_itself, parts_apart}
use Rattle.mark_anchors.proofs.PutLemmas.{replaced}

-- an edge at a character doesn't stand above it
not_all_above : (e : Edge) (es : List Edge) → AreAbove e.id (put_in e es) → ⊥
not_all_above e [] above = true≢false (sym (above 0 e (omega arith)) ∙ not_itself e.id)
not_all_above e (d ∷ ds) above =
    elim (cases_Bool (is_below e.id d.id)) [
      | inl h ↦ let all : AreAbove e.id (e ∷ d ∷ ds) = rw h at above in true≢false (sym (all 0 e (omega arith)) ∙ not_itself e.id)
      | inr h ↦ let all : AreAbove e.id (d ∷ put_in e ds) = rw h at above in
          not_all_above e ds (All-tail (λ f. is_below e.id f.id ≡ true) d (put_in e ds) all)
    ]

-- nor do edges, one of which was put there
pub not_put : (id : Id) (e : Edge) (es all : List Edge) → AreAbove id all → e.id ≡ id → all ≡ put_in e es → ⊥
not_put id e es all above own same =
    let P : Id → Type 0 = λ (x : Id). AreAbove x all in
    not_all_above e es (subst (AreAbove e.id) same (subst P (sym own) above))

-- the first of edges that begin with such as don't stand above a character
first_up_to : (id : Id) (ls rs fs : List Edge) (d f : Edge) → All (λ e. is_below id e.id ≡ false) ls → is_below id d.id ≡ false → ls ++ d ∷ rs ≡ f ∷ fs
    → is_below id f.id ≡ false
first_up_to id [] rs fs d f all one same = let is : d ≡ f = cc in rw (← is) one
first_up_to id (l ∷ ls) rs fs d f all one same = let is : l ≡ f = cc in rw (← is) (all 0 l (omega arith))

-- without the last edge that doesn't stand above its character, an edge that was put is gone
pub taken_back : (ls rs es : List Edge) (d e : Edge) → All (λ f. is_below e.id f.id ≡ false) ls → is_below e.id d.id ≡ false → AreAbove e.id rs
    → ls ++ d ∷ rs ≡ put_in e es → ls ++ rs ≡ es
taken_back [] rs [] d e all one above same = cc
taken_back [] rs (f ∷ fs) d e all one above same =
    elim (cases_Bool (is_below e.id f.id)) [
      | inl h ↦ let put : d ∷ rs ≡ e ∷ f ∷ fs = rw h at same in cc
      | inr h ↦ let put : d ∷ rs ≡ f ∷ put_in e fs = rw h at same in
          let rest : rs ≡ put_in e fs = cc in
          absurd (not_all_above e fs (subst (AreAbove e.id) rest above))
    ]
taken_back (l ∷ ls) rs [] d e all one above same =
    let long = ap length same in
    let parts = length-append ls (d ∷ rs) in
    absurd (omega arith)
taken_back (l ∷ ls) rs (f ∷ fs) d e all one above same =
    elim (cases_Bool (is_below e.id f.id)) [
      | inl h ↦ let put : l ∷ (ls ++ d ∷ rs) ≡ e ∷ f ∷ fs = rw h at same in
          let rest : ls ++ d ∷ rs ≡ f ∷ fs = cc in
          absurd (true≢false (sym h ∙ first_up_to e.id ls rs fs d f (All-tail (λ g. is_below e.id g.id ≡ false) l ls all) one rest))
      | inr h ↦ let put : l ∷ (ls ++ d ∷ rs) ≡ f ∷ put_in e fs = rw h at same in
          let rest : ls ++ d ∷ rs ≡ put_in e fs = cc in
          let first : l ≡ f = cc in
          let back = taken_back ls rs fs d e (All-tail (λ g. is_below e.id g.id ≡ false) l ls all) one above rest in
          cc
    ]

-- what holds of each edge holds of each that is left
all_remove : (P : Edge → Type 0) (es : List Edge) (i : ℕ) → All P es → All P (remove es i)
all_remove P es i all = All-append P (take i es) (drop (suc i) es) (All-take P i es all) (All-drop P (suc i) es all)

-- edges stay in order without one of them
order_remove : (es : List Edge) (i : ℕ) → AreInOrder es → i < length es → AreInOrder (remove es i)
order_remove es i order within k d low more =
    let long = length-remove es i within in
    elim (cases_order (k + 1) i) [
      | inl last ↦ rw (get_or-remove_above es i d (k + 1) (omega arith) within, get_or-remove_below es i d k (omega arith) within)
          (sorted_far comes_before order_of_edges es order k (k + 1 + 1) d (omega arith) (omega arith))
      | inr o ↦ elim o [
        | inl less ↦ rw (get_or-remove_below es i d (k + 1) less within, get_or-remove_below es i d k (omega arith) within) (order k d (omega arith) (omega arith))
        | inr behind ↦ rw (get_or-remove_above es i d (k + 1) (omega arith) within, get_or-remove_above es i d k (omega arith) within)
            (order (k + 1) d (omega arith) (omega arith))
      ]
    ]

-- chunks without one edge of one of them
pub left_chunks : (ks : List (List Edge)) (i n : ℕ) (k new : List Edge) → AreChunks ks → i < length ks → k ≡ get_or ks i k → n < length k → new ≡ remove k n
    → 0 < length new → AreChunks (set ks i new)
left_chunks ks i n k new are within is inside is_new some =
    let read = get_or_read ks i k within is [] in
    let next : suc i ≡ i + 1 = omega arith in
    let here : AreChunks (take i ks ++ k ∷ drop (i + 1) ks) = rw read (subst AreChunks (around ks i within) are) in
    let both = last_part (take i ks) (k ∷ drop (i + 1) ks) here in
    let below = apart_first (edges_in (take i ks)) k (edges_in (drop (i + 1) ks)) (parts_apart (take i ks) (k ∷ drop (i + 1) ks) here) in
    rw (set_split ks i new within, next)
    (replaced (take i ks) (drop (i + 1) ks) k new here some (rw is_new (order_remove k n both.1 inside))
    (λ j d low. rw is_new (all_remove (λ f. is_below (get_or (edges_in (take i ks)) j d).id f.id ≡ true) k n (below j d low)))
    (rw is_new (all_remove (λ f. AreAbove f.id (edges_in (drop (i + 1) ks))) k n both.2)))

-- chunks without one of them
pub fewer_chunks : (ks : List (List Edge)) (i : ℕ) (new : List Edge) → AreChunks ks → i < length ks → AreChunks (remove (set ks i new) i)
fewer_chunks ks i new are within =
    let all = subst AreChunks (around ks i within) are in
    let next : suc i ≡ i + 1 = omega arith in
    rw (take-set ks i new, next, drop-set-lt (i + 1) ks i new (omega arith))
    (joined (take i ks) (drop (i + 1) ks) (first_part (take i ks) (get_or ks i [] ∷ drop (i + 1) ks) all)
    (last_part (take i ks) (get_or ks i [] ∷ drop (i + 1) ks) all).3
    (apart_rest (edges_in (take i ks)) (get_or ks i []) (edges_in (drop (i + 1) ks)) (parts_apart (take i ks) (get_or ks i [] ∷ drop (i + 1) ks) all)))

-- their edges are those that are left
pub fewer_edges : (ks : List (List Edge)) (i : ℕ) (new : List Edge) → i < length ks → length new ≡ 0 → edges_in (remove (set ks i new) i) ≡ edges_in (set ks i new)
fewer_edges ks i new within none =
    let next : suc i ≡ i + 1 = omega arith in
    let gone : remove (set ks i new) i ≡ take i ks ++ drop (i + 1) ks = rw (take-set ks i new, next, drop-set-lt (i + 1) ks i new (omega arith)) refl in
    let held : set ks i new ≡ take i ks ++ [] ∷ drop (i + 1) ks = set_split ks i new within ∙ rw (next, nil_from_length new none) refl in
    ap edges_in gone
    ∙ (edges_in-append (take i ks) (drop (i + 1) ks) ∙ sym (ap edges_in held ∙ edges_in-append (take i ks) ([] ∷ drop (i + 1) ks)))

-- without the last edge that doesn't stand above its character, the edge that was put is gone
pub left_edges : (ks : List (List Edge)) (id : Id) (i : ℕ) (k new es : List Edge) (e : Edge) → i < length ks → k ≡ get_or ks i k → IsWithoutLast id k new
    → AreBelow (edges_in (take i ks)) id → AreAbove id (edges_in (drop (i + 1) ks)) → e.id ≡ id → edges_in ks ≡ put_in e es → edges_in (set ks i new) ≡ es
left_edges ks id i k new es e within is without below above own put =
    let front = edges_in (take i ks) in
    let back = edges_in (drop (i + 1) ks) in
    let n = without.place in
    let one = get_or k n e in
    let first = take n k in
    let last = drop (n + 1) k in
    let read = get_or_read ks i k within is [] in
    let next : suc i ≡ i + 1 = omega arith in
    let next_edge : suc n ≡ n + 1 = omega arith in
    let few = length-take-le n k (let inside = without.within in omega arith) in
    let left = length-drop (n + 1) k in
    let split : k ≡ first ++ one ∷ last = sym (take-append-drop n k) ∙ ap (λ rest. first ++ rest) (drop_more k n e without.within) in
    let flat : edges_in ks ≡ (front ++ first) ++ one ∷ (last ++ back) =
    ap edges_in (around ks i within)
    ∙ (edges_in-append (take i ks) (get_or ks i [] ∷ drop (i + 1) ks)
    ∙ (ap (λ all. front ++ (all ++ back)) (sym read ∙ split)
    ∙ (ap (λ all. front ++ all) (append_assoc first (one ∷ last) back) ∙ sym (append_assoc front first (one ∷ (last ++ back)))))) in
    let made : edges_in (set ks i new) ≡ (front ++ first) ++ (last ++ back) =
    rw (set_split ks i new within, next, edges_in-append (take i ks) (new ∷ drop (i + 1) ks), without.rest, next_edge)
    (ap (λ all. front ++ all) (append_assoc first last back) ∙ sym (append_assoc front first (last ++ back))) in
    let P : Id → Type 0 = λ (x : Id). All (λ f. is_below x f.id ≡ false) (front ++ first) in
    let Q : Id → Type 0 = λ (x : Id). All (λ f. is_below x f.id ≡ true) (last ++ back) in
    let R : Id → Type 0 = λ (x : Id). is_below x one.id ≡ false in
    let all_first_up_to : P id =
    All-append (λ f. is_below id f.id ≡ false) front first (λ j d low. one_way (get_or front j d).id id (below j d low))
    (λ j d low. rw (get_or-take n k j d (omega arith)) (without.up_to j d (omega arith))) in
    let all_last_above : Q id =
    All-append (λ f. is_below id f.id ≡ true) last back
    (λ j d low. rw (get_or-drop (n + 1) k j d) (without.above (n + 1 + j) d (omega arith) (omega arith))) above in
    made
    ∙ taken_back (front ++ first) (last ++ back) es one e (subst P (sym own) all_first_up_to) (subst R (sym own) (without.up_to n e (omega arith)))
    (subst Q (sym own) all_last_above) (sym flat ∙ put)

-- the same of the last chunk that doesn't begin above the character, as chunks that are read say it
pub left_edges_of : (ks read : List (List Edge)) (id : Id) (n : ℕ) (k new es : List Edge) (e : Edge) → read ≡ ks → 0 < n → n ≤ length read → k ≡ get_or ks (n - 1) k
    → IsWithoutLast id k new → (0 < n → AreBelow (edges_in (take (n - 1) read)) id) → AreAbove id (edges_in (drop n read)) → e.id ≡ id
    → edges_in ks ≡ put_in e es → edges_in (set ks (n - 1) new) ≡ es
left_edges_of ks read id n k new es e same some within is without below above own put =
    let next : n - 1 + 1 ≡ n = omega arith in
    let inside : n ≤ length ks = rw same at within in
    left_edges ks id (n - 1) k new es e (omega arith) is without ((rw same at below) some) (rw next (rw same at above)) own put

-- of edges below a character none stands at it
none_below : (id : Id) (es : List Edge) → AreBelow es id → filter (λ e. is_same e.id id) es ≡ []
none_below id [] below = refl
none_below id (e ∷ es) below =
    let first = below 0 e (omega arith) in
    let here : is_same e.id id ≡ false = same_between e.id id ∙ rw (first, one_way e.id id first) refl in
    rw here (none_below id es (All-tail (λ f. is_below f.id id ≡ true) e es below))

-- all edges of a character stand in one chunk
pub found_at : (ks : List (List Edge)) (id : Id) (n : ℕ) (k : List Edge) → 0 < n → n ≤ length ks → k ≡ get_or ks (n - 1) k
    → AreBelow (edges_in (take (n - 1) ks)) id → AreAbove id (edges_in (drop n ks)) → filter (λ e. is_same e.id id) k ≡ filter (λ e. is_same e.id id) (edges_in ks)
found_at ks id n k some within is below above =
    let front = edges_in (take (n - 1) ks) in
    let back = edges_in (drop n ks) in
    let p : Edge → Bool = λ (e : Edge). is_same e.id id in
    let next : n - 1 + 1 ≡ n = omega arith in
    let inside : n - 1 < length ks = omega arith in
    let all : edges_in ks ≡ front ++ (k ++ back) =
    ap edges_in (around ks (n - 1) inside)
    ∙ (edges_in-append (take (n - 1) ks) (get_or ks (n - 1) [] ∷ drop (n - 1 + 1) ks)
    ∙ rw (next, get_or_read ks (n - 1) k inside is []) refl) in
    sym (ap (filter p) all
    ∙ (filter-append p front (k ++ back)
    ∙ (ap (λ es. es ++ filter p (k ++ back)) (none_below id front below)
    ∙ (filter-append p k back ∙ (ap (λ es. filter p k ++ es) (none_same back id above) ∙ append-nil (filter p k))))))

-- if all chunks begin above a character, no edge stands at it
pub none_at : (ks : List (List Edge)) (id : Id) (n : ℕ) → n ≡ 0 → AreAbove id (edges_in (drop n ks)) → [] ≡ filter (λ e. is_same e.id id) (edges_in ks)
none_at ks id n is above = sym (none_same (edges_in ks) id (rw is at above))
