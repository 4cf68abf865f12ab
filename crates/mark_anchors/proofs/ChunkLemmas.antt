-- Edges in chunks: what stands before a character and behind it, and one edge more or less.
use Rattle.std.proofs.Common.{◌≡◌, ℕ, zero, suc, ◌+◌, ◌-◌, ◌<◌, ◌≤◌, Bool, true, false, not, List, [], ◌∷◌, ◌++◌, length, take, drop}
use Rattle.std.proofs.Common.{get_or, refl, sym, ◌∙◌, ap, subst, append_assoc, append-nil, length-append, arith}
use Rattle.std.specs.List.{All}
use Rattle.std.specs.List.Sorted.{IsPartitionPoint, IsPartitionedBy}
use Rattle.std.proofs.lemmas.Bool.{true≢false}
use Rattle.std.proofs.lemmas.Bool.Decides.{nat_tests}
use Rattle.std.proofs.lemmas.List.{drop_more, get_or_append_left, get_or-append-add}
use Rattle.std.proofs.lemmas.List.{take-append-drop, get_or_default, get_or_read, take_more}
use Rattle.std.proofs.lemmas.List.Elements.{All-append, All-nil}
use Rattle.std.proofs.lemmas.List.Sorted.{sorted_far}
use Rattle.op_ids.specs.Id.{Id, is_below}
use Rattle.mark_anchors.specs.declared.edge.Edge.{Edge}
use Rattle.mark_anchors.specs.Edges.{comes_before, AreInOrder}
use Rattle.mark_anchors.specs.EdgeChunks.{edges_in, starts_above, AreAbove, AreApart, AreBelow, AreChunks}
use Rattle.mark_anchors.proofs.EdgeLemmas.{order_of_edges}

-- ids that follow one another
pub above_both : (a b c : Id) → is_below a b ≡ true → is_below b c ≡ true → is_below a c ≡ true
unfolding is_below
above_both a b c h k = grind (arith, nat_tests)

pub below_not_above : (a b c : Id) → is_below a b ≡ true → is_below c b ≡ false → is_below a c ≡ true
unfolding is_below
below_not_above a b c h k = grind (arith, nat_tests)

pub not_above_below : (a b c : Id) → is_below b a ≡ false → is_below b c ≡ true → is_below a c ≡ true
unfolding is_below
not_above_below a b c h k = grind (arith, nat_tests)

pub not_itself : (a : Id) → is_below a a ≡ false
unfolding is_below
not_itself a = grind (arith, nat_tests)

-- what holds of each of both lists holds of each of one
pub all_first : {X : Type 0} (P : X → Type 0) (xs ys : List X) → All P (xs ++ ys) → All P xs
all_first P xs ys all k d within =
    subst P (get_or_append_left xs ys d k within) (all k d (let long = length-append xs ys in omega arith))

pub all_rest : {X : Type 0} (P : X → Type 0) (xs ys : List X) → All P (xs ++ ys) → All P ys
all_rest P xs ys all k d within =
    subst P (get_or-append-add xs ys k d) (all (length xs + k) d (let long = length-append xs ys in omega arith))

pub apart_first : (k es fs : List Edge) → AreApart k (es ++ fs) → AreApart k es
apart_first k es fs apart i d within = all_first (λ e. is_below (get_or k i d).id e.id ≡ true) es fs (apart i d within)

pub apart_rest : (k es fs : List Edge) → AreApart k (es ++ fs) → AreApart k fs
apart_rest k es fs apart i d within = all_rest (λ e. is_below (get_or k i d).id e.id ≡ true) es fs (apart i d within)

pub apart_both : (k es fs : List Edge) → AreApart k es → AreApart k fs → AreApart k (es ++ fs)
apart_both k es fs one two i d within =
    All-append (λ e. is_below (get_or k i d).id e.id ≡ true) es fs (one i d within) (two i d within)

-- the edges of chunks and of others
pub edges_in-append : (ls rs : List (List Edge)) → edges_in (ls ++ rs) ≡ edges_in ls ++ edges_in rs
edges_in-append [] rs = refl
edges_in-append (k ∷ ls) rs = rw (edges_in-append ls rs) (sym (append_assoc k (edges_in ls) (edges_in rs)))

-- chunks, and then others above them
pub joined : (ls rs : List (List Edge)) → AreChunks ls → AreChunks rs → AreApart (edges_in ls) (edges_in rs) → AreChunks (ls ++ rs)
joined [] rs one two apart = two
joined (k ∷ ls) rs one two apart = (
  one.0,
  one.1,
  rw (edges_in-append ls rs) (apart_both k (edges_in ls) (edges_in rs) one.2 (all_first (λ e. AreAbove e.id (edges_in rs)) k (edges_in ls) apart)),
  joined ls rs one.3 two (all_rest (λ e. AreAbove e.id (edges_in rs)) k (edges_in ls) apart),
)

-- the same the other way
pub first_part : (ls rs : List (List Edge)) → AreChunks (ls ++ rs) → AreChunks ls
first_part [] rs are = tt
first_part (k ∷ ls) rs are =
    (are.0, are.1, apart_first k (edges_in ls) (edges_in rs) (rw (edges_in-append ls rs) at are.2), first_part ls rs are.3)

pub last_part : (ls rs : List (List Edge)) → AreChunks (ls ++ rs) → AreChunks rs
last_part [] rs are = are
last_part (k ∷ ls) rs are = last_part ls rs are.3

pub parts_apart : (ls rs : List (List Edge)) → AreChunks (ls ++ rs) → AreApart (edges_in ls) (edges_in rs)
parts_apart [] rs are = All-nil (λ e. AreAbove e.id (edges_in rs))
parts_apart (k ∷ ls) rs are =
    All-append (λ e. AreAbove e.id (edges_in rs)) k (edges_in ls) (apart_rest k (edges_in ls) (edges_in rs) (rw (edges_in-append ls rs) at are.2))
    (parts_apart ls rs are.3)

-- edges above one that is above a character stand above this, too
pub above_far : (id : Id) (e : Edge) (es : List Edge) → is_below id e.id ≡ true → AreAbove e.id es → AreAbove id es
above_far id e es first above k d within = above_both id e.id (get_or es k d).id first (above k d within)

-- of edges in order all stand above a character that the first one stands above
pub order_above : (id : Id) (e : Edge) (es : List Edge) → AreInOrder (e ∷ es) → is_below id e.id ≡ true → AreAbove id (e ∷ es)
order_above id e es order first k d within =
    below_not_above id e.id (get_or (e ∷ es) k d).id first (sorted_far comes_before order_of_edges (e ∷ es) order 0 k d (omega arith) within)

-- and all chunks do, whose first one begins above it
pub chunks_above : (id : Id) (k : List Edge) (ks : List (List Edge)) → AreChunks (k ∷ ks) → starts_above id k ≡ true → AreAbove id (k ++ edges_in ks)
chunks_above id [] ks are first = absurd (cc)
chunks_above id (e ∷ es) ks are first =
    All-append (λ f. is_below id f.id ≡ true) (e ∷ es) (edges_in ks) (order_above id e es are.1 first)
    (above_far id e (edges_in ks) first (are.2 0 e (omega arith)))

-- chunks stand below a character that a later one doesn't begin above
pub chunks_below : (id : Id) (es k fs : List Edge) → AreApart es (k ++ fs) → 0 < length k → starts_above id k ≡ false → AreBelow es id
chunks_below id es [] fs apart some first = absurd (omega arith)
chunks_below id es (e ∷ k) fs apart some first =
    λ i d within. below_not_above (get_or es i d).id e.id id (apart i d within 0 e (omega arith)) first

-- one of chunks has edges, and they are in order
pub some_at : (ks : List (List Edge)) (i : ℕ) → AreChunks ks → i < length ks → 0 < length (get_or ks i [])
some_at [] i are within = absurd (omega arith)
some_at (k ∷ ks) zero are within = are.0
some_at (k ∷ ks) (suc i) are within = some_at ks i are.3 (omega arith)

pub order_of : (ks : List (List Edge)) (i : ℕ) → AreChunks ks → i < length ks → AreInOrder (get_or ks i [])
order_of [] i are within = absurd (omega arith)
order_of (k ∷ ks) zero are within = are.1
order_of (k ∷ ks) (suc i) are within = order_of ks i are.3 (omega arith)

-- chunks are those before the i-th, itself, and those behind
pub around : (ks : List (List Edge)) (i : ℕ) → i < length ks → ks ≡ take i ks ++ get_or ks i [] ∷ drop (i + 1) ks
around ks i within = sym (take-append-drop i ks) ∙ ap (λ rest. take i ks ++ rest) (drop_more ks i [] within)

-- where all edges of chunks stand above a character, each of them begins above it
pub starts_in : (id : Id) (ks : List (List Edge)) (j : ℕ) (d : List Edge) → AreChunks ks → AreAbove id (edges_in ks) → j < length ks
    → starts_above id (get_or ks j d) ≡ true
starts_in id [] j d are above within = absurd (omega arith)
starts_in id ([] ∷ ks) zero d are above within = let some = are.0 in absurd (omega arith)
starts_in id ((e ∷ es) ∷ ks) zero d are above within = above 0 e (omega arith)
starts_in id (k ∷ ks) (suc j) d are above within = starts_in id ks j d are.3 (all_rest (λ e. is_below id e.id ≡ true) k (edges_in ks) above) (omega arith)

-- a later one of them begins above it, too
later_above : (id : Id) (k : List Edge) (ks : List (List Edge)) (j : ℕ) (d : List Edge) → AreChunks (k ∷ ks) → j < length ks → (first : Bool) → starts_above id k ≡ first
    → not (starts_above id (get_or ks j d)) ≡ true → not first ≡ true
later_above id k ks j d are within false is h = refl
later_above id k ks j d are within true is h =
    let rest = all_rest (λ e. is_below id e.id ≡ true) k (edges_in ks) (chunks_above id k ks are is) in
    let later = starts_in id ks j d are.3 rest within in
    absurd (true≢false (sym h ∙ ap not later))

-- chunks that don't begin above a character come first
pub chunk_parts : (ks : List (List Edge)) (id : Id) → AreChunks ks → IsPartitionedBy (λ k. not (starts_above id k)) ks
chunk_parts [] id are i j d le within h = absurd (omega arith)
chunk_parts (k ∷ ks) id are zero zero d le within h = h
chunk_parts (k ∷ ks) id are zero (suc j) d le within h = later_above id k ks j d are (omega arith) (starts_above id k) refl h
chunk_parts (k ∷ ks) id are (suc i) zero d le within h = absurd (omega arith)
chunk_parts (k ∷ ks) id are (suc i) (suc j) d le within h = chunk_parts ks id are.3 i j d (omega arith) (omega arith) h

-- behind so many chunks all edges stand above a character, if the next chunk begins above it
pub above_from : (ks : List (List Edge)) (id : Id) (n : ℕ) → AreChunks ks → ((d : List Edge) → n < length ks → starts_above id (get_or ks n d) ≡ true)
    → AreAbove id (edges_in (drop n ks))
above_from [] id zero are next = All-nil (λ e. is_below id e.id ≡ true)
above_from [] id (suc n) are next = All-nil (λ e. is_below id e.id ≡ true)
above_from (k ∷ ks) id zero are next = chunks_above id k ks are (next [] (omega arith))
above_from (k ∷ ks) id (suc n) are next = above_from ks id n are.3 (λ d within. next d (omega arith))

-- before a chunk all edges stand below a character that it doesn't begin above
pub below_to : (ks : List (List Edge)) (id : Id) (m : ℕ) → AreChunks ks → m < length ks → starts_above id (get_or ks m []) ≡ false
    → AreBelow (edges_in (take m ks)) id
below_to ks id m are within first =
    let apart : AreApart (edges_in (take m ks)) (get_or ks m [] ++ edges_in (drop (m + 1) ks)) =
    parts_apart (take m ks) (get_or ks m [] ∷ drop (m + 1) ks) (subst AreChunks (around ks m within) are) in
    chunks_below id (edges_in (take m ks)) (get_or ks m []) (edges_in (drop (m + 1) ks)) apart (some_at ks m are within) first

-- behind one chunk more all edges stand above it, too
pub above_next : (ks : List (List Edge)) (id : Id) (n : ℕ) → n < length ks → AreAbove id (edges_in (drop n ks)) → AreAbove id (edges_in (drop (n + 1) ks))
above_next ks id n within above =
    let P : List (List Edge) → Type 0 = λ (rest : List (List Edge)). AreAbove id (edges_in rest) in
    all_rest (λ e. is_below id e.id ≡ true) (get_or ks n []) (edges_in (drop (n + 1) ks)) (subst P (drop_more ks n [] within) above)

-- with a chunk below a character more all edges stand below it
pub below_next : (ks : List (List Edge)) (id : Id) (m : ℕ) → m < length ks → AreBelow (edges_in (take m ks)) id → AreBelow (get_or ks m []) id
    → AreBelow (edges_in (take (m + 1) ks)) id
below_next ks id m within below one =
    let P : List (List Edge) → Type 0 = λ (front : List (List Edge)). AreBelow (edges_in front) id in
    let both : AreBelow (edges_in (take m ks ++ get_or ks m [] ∷ [])) id =
    rw (edges_in-append (take m ks) (get_or ks m [] ∷ []), append-nil (get_or ks m []))
    (All-append (λ e. is_below e.id id ≡ true) (edges_in (take m ks)) (get_or ks m []) below one) in
    subst P (sym (take_more ks m [] within)) both

-- of edges in order all stand below a character that the last one stands below
pub order_below : (es : List Edge) (last : Edge) (id : Id) → AreInOrder es → 0 < length es → last ≡ get_or es (length es - 1) last → is_below last.id id ≡ true
    → AreBelow es id
order_below es last id order some is below k d within =
    let same = is ∙ get_or_default es (length es - 1) last d (omega arith) in
    let far : is_below last.id (get_or es k d).id ≡ false =
    rw same (sorted_far comes_before order_of_edges es order k (length es - 1) d (omega arith) (omega arith)) in
    not_above_below (get_or es k d).id last.id id far below

-- a chunk that is read is in order
pub order_read : (ks : List (List Edge)) (i : ℕ) (k : List Edge) → AreChunks ks → i < length ks → k ≡ get_or ks i k → AreInOrder k
order_read ks i k are within is = subst AreInOrder (sym (get_or_read ks i k within is [])) (order_of ks i are within)

-- up to a chunk that stands below a character all edges do
pub below_read : (ks : List (List Edge)) (id : Id) (n : ℕ) (k : List Edge) → 0 < n → n ≤ length ks → k ≡ get_or ks (n - 1) k
    → AreBelow (edges_in (take (n - 1) ks)) id → AreBelow k id → AreBelow (edges_in (take n ks)) id
below_read ks id n k some within is below one =
    let same : n - 1 + 1 ≡ n = omega arith in
    let P : List Edge → Type 0 = λ (es : List Edge). AreBelow es id in
    rw same at (below_next ks id (n - 1) (omega arith) below (subst P (get_or_read ks (n - 1) k (omega arith) is []) one))

-- of edges the first of which doesn't stand above a character, at least one doesn't
pub some_up_to : (es : List Edge) (id : Id) (n : ℕ) → 0 < length es → starts_above id es ≡ false
    → IsPartitionPoint (λ e. is_below id e.id ≡ false) (λ e. is_below id e.id ≡ true) es n → 0 < n
some_up_to [] id n some first place = absurd (omega arith)
some_up_to (e ∷ es) id zero some first place = absurd (true≢false (sym (place.1 0 e (omega arith) (omega arith)) ∙ first))
some_up_to (e ∷ es) id (suc n) some first place = omega arith
