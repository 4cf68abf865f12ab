-- Chunks of edges that are cut between two characters.
use Rattle.std.proofs.Common.{◌≡◌, ℕ, zero, suc, ◌+◌, ◌<◌, ◌≤◌, true, false, List, [], ◌∷◌, ◌++◌, length, take, drop}
use Rattle.std.proofs.Math.ListN.{set}
use Rattle.std.proofs.Common.{get_or, refl, sym, ◌∙◌, ap, subst, append_assoc, append-nil, length-drop, arith}
use Rattle.std.specs.List.{insert}
use Rattle.std.specs.List.Sorted.{IsPartitionPoint}
use Rattle.std.proofs.lemmas.List.{get_or-take, get_or-drop, length-take-le}
use Rattle.std.proofs.lemmas.List.{take-append-drop, get_or_read}
use Rattle.std.proofs.lemmas.List.Elements.{All-append, All-nil}
use Rattle.std.proofs.lemmas.List.Edits.{get_or-insert_below, length-insert}
use Rattle.op_ids.specs.Id.{Id, is_below}
use Rattle.mark_anchors.specs.declared.edge.Edge.{Edge}
use Rattle.mark_anchors.specs.Edges.{AreInOrder}
use Rattle.mark_anchors.specs.EdgeChunks.{edges_in, AreAbove, AreApart, AreChunks}
use Rattle.mark_anchors.proofs.ChunkLemmas.{all_first, all_rest, apart_both, apart_first, apart_rest, below_not_above, not_above_below, edges_in-append}
use Rattle.mark_anchors.proofs.ChunkLemmas.{around, first_part, joined, last_part, order_of, parts_apart}

-- a chunk that is cut between two characters is in order, and each part of it
pub order_first : (es : List Edge) (n : ℕ) → AreInOrder es → n ≤ length es → AreInOrder (take n es)
order_first es n order within k d low more =
    let long = length-take-le n es within in
    rw (get_or-take n es (k + 1) d (omega arith), get_or-take n es k d (omega arith)) (order k d (omega arith) (omega arith))

pub order_rest : (es : List Edge) (n : ℕ) → AreInOrder es → AreInOrder (drop n es)
order_rest es n order k d low more =
    let long = length-drop n es in
    let next : n + (k + 1) ≡ n + k + 1 = omega arith in
    rw (get_or-drop n es (k + 1) d, get_or-drop n es k d, next) (order (n + k) d (omega arith) (omega arith))

-- edges up to a place that stand below those from there on
pub apart_at : (es : List Edge) (n : ℕ) → n ≤ length es
    → ((i j : ℕ) (d e : Edge) → i < n → n ≤ j → j < length es → is_below (get_or es i d).id (get_or es j e).id ≡ true) → AreApart (take n es) (drop n es)
apart_at es n within apart i d inside j e behind =
    let long = length-take-le n es within in
    let rest = length-drop n es in
    rw (get_or-take n es i d (omega arith), get_or-drop n es j e) (apart i (n + j) d e (omega arith) (omega arith) (omega arith))

-- before the character of one of them stand those below it
pub apart_before : (es : List Edge) (id : Id) (n : ℕ) → n ≤ length es
    → IsPartitionPoint (λ e. is_below e.id id ≡ true) (λ e. is_below e.id id ≡ false) es n → AreApart (take n es) (drop n es)
apart_before es id n within place =
    apart_at es n within (λ i j d e low high inside. below_not_above (get_or es i d).id id (get_or es j e).id (place.0 i d (omega arith) low) (place.1 j e high inside))

-- and up to it those that don't stand above it
pub apart_up_to : (es : List Edge) (id : Id) (n : ℕ) → n ≤ length es
    → IsPartitionPoint (λ e. is_below id e.id ≡ false) (λ e. is_below id e.id ≡ true) es n → AreApart (take n es) (drop n es)
apart_up_to es id n within place =
    apart_at es n within (λ i j d e low high inside. not_above_below (get_or es i d).id id (get_or es j e).id (place.0 i d (omega arith) low) (place.1 j e high inside))

-- a chunk more, of the first edges of those that are left
pub grown : (ks : List (List Edge)) (left : List Edge) (n : ℕ) → AreChunks ks → AreInOrder left → AreApart (edges_in ks) left → 0 < n → n ≤ length left
    → AreApart (take n left) (drop n left) → AreChunks (ks ++ take n left ∷ [])
grown ks left n are order apart some within cut =
    let long = length-take-le n left within in
    let P : List Edge → Type 0 = λ (es : List Edge). AreApart (edges_in ks) es in
    joined ks (take n left ∷ []) are (omega arith, order_first left n order within, (λ i d inside. All-nil (λ e. is_below (get_or (take n left) i d).id e.id ≡ true)), tt)
    (rw (append-nil (take n left)) (apart_first (edges_in ks) (take n left) (drop n left) (subst P (sym (take-append-drop n left)) apart)))

-- they stand below those that are then left
pub grown_apart : (ks : List (List Edge)) (left : List Edge) (n : ℕ) → AreApart (edges_in ks) left → AreApart (take n left) (drop n left)
    → AreApart (edges_in (ks ++ take n left ∷ [])) (drop n left)
grown_apart ks left n apart cut =
    let P : List Edge → Type 0 = λ (es : List Edge). AreApart (edges_in ks) es in
    rw (edges_in-append ks (take n left ∷ []), append-nil (take n left))
    (All-append (λ e. AreAbove e.id (drop n left)) (edges_in ks) (take n left)
    (apart_rest (edges_in ks) (take n left) (drop n left) (subst P (sym (take-append-drop n left)) apart)) cut)

-- and with these they are all edges
pub grown_edges : (ks : List (List Edge)) (left : List Edge) (n : ℕ) → edges_in (ks ++ take n left ∷ []) ++ drop n left ≡ edges_in ks ++ left
grown_edges ks left n =
    rw (edges_in-append ks (take n left ∷ []), append-nil (take n left), append_assoc (edges_in ks) (take n left) (drop n left), take-append-drop n left) refl

-- two chunks in place of one
pub cut_is : (ks : List (List Edge)) (i j : ℕ) (first rest : List Edge) → j ≡ suc i → i < length ks
    → set (insert ks j rest) i first ≡ take i ks ++ first ∷ rest ∷ drop (i + 1) ks
cut_is [] i j first rest next within = absurd (omega arith)
cut_is (k ∷ ks) zero j first rest next within = rw next refl
cut_is (k ∷ ks) (suc i) j first rest next within =
    let behind : suc i + 1 ≡ suc (i + 1) = omega arith in
    rw (next, behind) (ap (λ more. k ∷ more) (cut_is ks i (suc i) first rest refl (omega arith)))

pub cut_edges : (ls rs : List (List Edge)) (k first rest : List Edge) → k ≡ first ++ rest → edges_in (ls ++ first ∷ rest ∷ rs) ≡ edges_in (ls ++ k ∷ rs)
cut_edges ls rs k first rest is =
    rw (edges_in-append ls (first ∷ rest ∷ rs), edges_in-append ls (k ∷ rs), is, append_assoc first rest (edges_in rs)) refl

pub cut_chunks : (ls rs : List (List Edge)) (k first rest : List Edge) → AreChunks (ls ++ k ∷ rs) → k ≡ first ++ rest → 0 < length first → 0 < length rest
    → AreInOrder first → AreInOrder rest → AreApart first rest → AreChunks (ls ++ first ∷ rest ∷ rs)
cut_chunks ls rs k first rest are is some some_rest order order_too apart =
    let here = last_part ls (k ∷ rs) are in
    let P : List Edge → Type 0 = λ (es : List Edge). AreApart es (edges_in rs) in
    let above : AreApart (first ++ rest) (edges_in rs) = subst P is here.2 in
    let Q : List Edge → Type 0 = λ (es : List Edge). AreApart (edges_in ls) es in
    let same : k ++ edges_in rs ≡ first ++ (rest ++ edges_in rs) = ap (λ es. es ++ edges_in rs) is ∙ append_assoc first rest (edges_in rs) in
    joined ls (first ∷ rest ∷ rs) (first_part ls (k ∷ rs) are) (
      some,
      order,
      apart_both first rest (edges_in rs) apart (all_first (λ e. AreAbove e.id (edges_in rs)) first rest above),
      (some_rest, order_too, all_rest (λ e. AreAbove e.id (edges_in rs)) first rest above, here.3),
    ) (subst Q same (parts_apart ls (k ∷ rs) are))

-- a chunk that is cut: its rest is inserted behind it, and taken from it
pub cut_made : (ks now : List (List Edge)) (i len : ℕ) (k read first rest : List Edge) → AreChunks ks → i < length ks → k ≡ get_or ks i []
    → rest ≡ drop len k → now ≡ insert ks (i + 1) rest → read ≡ get_or now i read → first ≡ take len read → 0 < len → len < length k
    → AreApart (take len k) (drop len k) → AreChunks (set now i first) × (edges_in (set now i first) ≡ edges_in ks)
cut_made ks now i len k read first rest are within is is_rest is_now is_read is_first some less apart =
    let long = length-insert ks (i + 1) rest (omega arith) in
    let longer = ap length is_now in
    let here : read ≡ k =
    get_or_read now i read (omega arith) is_read []
    ∙ (ap (λ all. get_or all i []) is_now ∙ (get_or-insert_below ks (i + 1) rest [] i (omega arith) (omega arith) ∙ sym is)) in
    let made : set now i first ≡ take i ks ++ take len k ∷ drop len k ∷ drop (i + 1) ks =
    rw (is_now, is_first, here, is_rest) (cut_is ks i (i + 1) (take len k) (drop len k) (omega arith) within) in
    let all : AreChunks (take i ks ++ k ∷ drop (i + 1) ks) = rw is (subst AreChunks (around ks i within) are) in
    let same : edges_in (take i ks ++ k ∷ drop (i + 1) ks) ≡ edges_in ks = rw is (ap edges_in (sym (around ks i within))) in
    let order = order_of ks i are within in
    let order_here : AreInOrder k = subst AreInOrder (sym is) order in
    let few = length-take-le len k (omega arith) in
    let left = length-drop len k in (
      rw made (cut_chunks (take i ks) (drop (i + 1) ks) k (take len k) (drop len k) all (sym (take-append-drop len k)) (omega arith) (omega arith)
          (order_first k len order_here (omega arith)) (order_rest k len order_here) apart),
      rw made (cut_edges (take i ks) (drop (i + 1) ks) k (take len k) (drop len k) (sym (take-append-drop len k)) ∙ same),
    )
