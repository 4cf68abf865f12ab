-- Why what is made is what the definition says.
use Rattle.std.proofs.Common.{◌≡◌, ℕ, zero, suc, ◌+◌, ◌-◌, ◌≤◌, ◌<◌, Bool, true, false, if◌then◌else◌, List, [], ◌∷◌, ◌++◌, length, map, filter, take}
use Rattle.std.proofs.Common.{drop, length-append, Option, Some, None, refl, sym, ◌∙◌, ap, arith}
use Rattle.std.specs.Prelude.{nat_le}
use Rattle.std.proofs.Math.Seq.{drop-nil, take-nil}
use Rattle.std.proofs.lemmas.Bool.{le-leb}
use Rattle.std.proofs.lemmas.Bool.Decides.{nat_tests}
use Rattle.std.specs.declared.num.NonZeroU32.{NonZeroU32}
use Rattle.op_ids.specs.Id.{Id}
use Rattle.op_ids.specs.Clock.{advanced}
use Rattle.op_model.specs.declared.op.Op.{Op}
use Rattle.op_model.specs.declared.op.Body.{Body}
use Rattle.op_model.specs.declared.op.Body.TheVariants.{Remove, AddMark, RemoveMark}
use Rattle.op_model.specs.declared.mark.Mark.{Mark}
use Rattle.op_model.specs.declared.mark.MarkKey.{MarkKey}
use Rattle.op_model.specs.declared.anchor.Start.{Start}
use Rattle.op_model.specs.declared.anchor.End.{End}
use Rattle.op_model.specs.declared.edit.Edit.{Edit}
use Rattle.op_model.specs.declared.edit.Change.TheVariants as change
use Rattle.op_model.specs.declared.character.Character.{Character}
use Rattle.op_model.specs.Causality.{optional, clock_of}
use Rattle.op_model.specs.Text.{visible}
use Rattle.op_model.specs.Made.{id_at, id_before, last_or, tombstones_at, ends_after, origin_of, insert_bodies, numbered, greatest_counter, made}
use Rattle.op_model.specs.Made.{start_of, end_of}
use Rattle.char_sequence.specs.Content.{AreRemoves, IsRun}
use Rattle.mark_anchors.specs.Keeping.{kept_end_after, AreMarksOf, Kept}
use Rattle.mark_anchors.proofs.EndLemmas.{kept_say_ends}
use Rattle.op_model.specs.Marks.{key_of}
use Rattle.doc_core.specs.Making.{AreNextNumbers}
use Rattle.doc_core.specs.Typing.{run_from}

-- one more of the ids from an index on
pub ids_more : (cs : List Character) (at n : ℕ)
    → map (λ c. c.id) (take (n + 1) (drop at cs)) ≡ map (λ c. c.id) (take n (drop at cs)) ++ optional (id_at cs (at + n))
ids_more [] at n = rw (drop-nil at, take-nil n, take-nil (n + 1)) refl
ids_more (c ∷ cs) (suc at) n = let shift : suc at + n ≡ suc (at + n) = omega arith in rw shift (ids_more cs at n)
ids_more (c ∷ cs) zero zero = refl
ids_more (c ∷ cs) zero (suc n) =
    let up : suc n + 1 ≡ suc (n + 1) = omega arith in
    let here : 0 + suc n ≡ suc (0 + n) = omega arith in
    rw (up, here) (ap (λ ids. c.id ∷ ids) (ids_more cs zero n))

-- of characters the same ones pass two tests that agree of each id
passing_alike : (f g : Id → Bool) (cs : List Character) → ((id : Id) → f id ≡ g id) → filter (λ c. f c.id) cs ≡ filter (λ c. g c.id) cs
passing_alike f g [] same = refl
passing_alike f g (c ∷ cs) same =
    ap (λ passes. if passes then c ∷ filter (λ d. f d.id) cs else filter (λ d. f d.id) cs) (same c.id)
    ∙ ap (λ rest. if g c.id then c ∷ rest else rest) (passing_alike f g cs same)

-- where an index is, by what is found before it
at_within : (cs : List Character) (i : ℕ) (id : Id) → Some id ≡ id_at cs i → i < length cs
at_within [] i id found = cc
at_within (c ∷ cs) zero id found = omega arith
at_within (c ∷ cs) (suc i) id found = omega (arith, at_within cs i id found)

at_past : (cs : List Character) (i : ℕ) → None ≡ id_at cs i → length cs ≤ i
at_past [] i none = omega arith
at_past (c ∷ cs) zero none = cc
at_past (c ∷ cs) (suc i) none = omega (arith, at_past cs i none)

id_before_at : (cs : List Character) (at : ℕ) → 0 < at → id_before cs at ≡ id_at cs (at - 1)
id_before_at cs zero some = absurd (omega arith)
id_before_at cs (suc i) some = let back : suc i - 1 ≡ i = omega arith in rw back refl

pub before_there : (cs : List Character) (at : ℕ) (id : Id) → 0 < at → Some id ≡ id_at cs (at - 1)
    → (Some id ≡ id_before cs at) × (at ≤ length cs)
before_there cs at id some found = (found ∙ sym (id_before_at cs at some), omega (arith, at_within cs (at - 1) id found))

pub before_past : (cs : List Character) (at : ℕ) → 0 < at → None ≡ id_at cs (at - 1) → length cs < at
before_past cs at some none = omega (arith, at_past cs (at - 1) none)

-- inserts by the definition's origin are those of the edit
pub made_insert : (ops : List Op) (edit : Edit) (replica doc : ℕ) (token : Option ℕ) (counter at : ℕ) (clock : List (ℕ × ℕ)) (text : List ℕ) (origin : Option Id)
    → AreNextNumbers ops counter clock → edit.doc ≡ doc → edit.token ≡ token → edit.change ≡ change.Insert at text → origin ≡ origin_of ops doc at
    → numbered replica doc token counter clock (insert_bodies replica counter origin text) ≡ made ops replica edit
made_insert ops edit replica doc token counter at clock text origin next same_doc same_token same_change is_origin =
    rw (same_change, same_doc, same_token, next.counted, next.depends, is_origin) refl

-- the tombstone that the definition hangs an insert from
pub origin_there : (kept : Kept) (ops : List Op) (doc at : ℕ) (before origin : Option Id) → AreMarksOf kept ops doc
    → before ≡ id_before (visible ops doc) at
    → origin ≡ last_or before (filter (λ c. kept_end_after kept c.id) (tombstones_at ops doc at))
    → origin ≡ origin_of ops doc at
origin_there kept ops doc at before origin are is_before is_last =
    is_last
    ∙ ap (last_or before) (passing_alike (kept_end_after kept) (ends_after ops doc) (tombstones_at ops doc at) (λ id. kept_say_ends kept ops doc id are))
    ∙ ap (λ first. last_or first (filter (λ c. ends_after ops doc c.id) (tombstones_at ops doc at))) is_before

map_removes : (cs : List Character) → map Remove (map (λ c. c.id) cs) ≡ map (λ c. Remove c.id) cs
map_removes [] = refl
map_removes (c ∷ cs) = ap (λ bodies. Remove c.id ∷ bodies) (map_removes cs)

-- removes of the definition's characters are those of the edit
pub made_removes : (ops : List Op) (edit : Edit) (replica doc : ℕ) (token : Option ℕ) (counter at : ℕ) (count : NonZeroU32) (clock : List (ℕ × ℕ)) (targets ids : List Id) (bodies more : List Body)
    → AreNextNumbers ops counter clock → edit.doc ≡ doc → edit.token ≡ token → edit.change ≡ change.Delete at count → more ≡ bodies → bodies ≡ map Remove ids → ids ≡ targets
    → targets ≡ map (λ c. c.id) (take count.value (drop at (visible ops doc)))
    → numbered replica doc token counter clock more ≡ made ops replica edit
made_removes ops edit replica doc token counter at count clock targets ids bodies more next same_doc same_token same_change same_bodies are_removes same_ids are_seen =
    rw (same_change, same_doc, same_token, same_bodies, are_removes, same_ids, are_seen, next.counted, next.depends)
    (ap (numbered replica doc token (greatest_counter ops + 1) (clock_of ops)) (map_removes (take count.value (drop at (visible ops doc)))))

-- numbered removes remove their characters
pub removes_numbered : (replica doc : ℕ) (token : Option ℕ) (counter : ℕ) (clock : List (ℕ × ℕ)) (ids : List Id) → AreRemoves ids (numbered replica doc token counter clock (map Remove ids))
removes_numbered replica doc token counter clock [] = tt
removes_numbered replica doc token counter clock (id ∷ ids) = (refl, removes_numbered replica doc token (counter + 1) (advanced clock replica) ids)

-- numbered inserts of a text are a run
pub run_numbered : (replica doc : ℕ) (token : Option ℕ) (counter : ℕ) (clock : List (ℕ × ℕ)) (origin : Option Id) (text : List ℕ)
    → IsRun origin (run_from replica counter text) (numbered replica doc token counter clock (insert_bodies replica counter origin text))
run_numbered replica doc token counter clock origin [] = tt
run_numbered replica doc token counter clock origin (c ∷ cs) =
    (refl, refl, run_numbered replica doc token (counter + 1) (advanced clock replica) (Some (record { counter = counter; replica = replica })) cs)

-- one more target was found
pub found_more : (cs : List Character) (at i : ℕ) (before after : List Id) (found : Option Id) → after ≡ before ++ optional found
    → found ≡ id_at cs (at + i) → before ≡ map (λ c. c.id) (take i (drop at cs)) → after ≡ map (λ c. c.id) (take (i + 1) (drop at cs))
found_more cs at i before after found pushed is_found is_before = rw (pushed, is_found, is_before) (sym (ids_more cs at i))

pub few_more : (i : ℕ) (before after : List Id) (found : Option Id) → after ≡ before ++ optional found → length before ≤ i → length after ≤ i + 1
few_more i before after None pushed few = rw pushed (omega (arith, length-append before [], few))
few_more i before after (Some id) pushed few = rw pushed (omega (arith, length-append before (id ∷ []), few))

-- whether there are at least n is seen from what is found
pub shows_some : (cs : List Character) (n : ℕ) (id : Id) → 0 < n → Some id ≡ id_at cs (n - 1) → true ≡ nat_le n (length cs)
shows_some cs n id some found = sym (le-leb n (length cs) (before_there cs n id some found).1)

pub shows_none : (cs : List Character) (n : ℕ) → 0 < n → None ≡ id_at cs (n - 1) → false ≡ nat_le n (length cs)
shows_none cs n some none = sym (not_at_most n (length cs) (before_past cs n some none))
  where
    not_at_most : (a b : ℕ) → b < a → nat_le a b ≡ false
    not_at_most a b less = grind (arith, nat_tests)

-- the visible character before an index
pub last_there : (cs : List Character) (at : ℕ) (found : Option Id) → 0 < at → found ≡ id_at cs (at - 1) → found ≡ id_before cs at
last_there cs at found some is_it = is_it ∙ sym (id_before_at cs at some)

-- the operation that a mark makes
pub made_mark : (ops : List Op) (edit : Edit) (replica doc : ℕ) (token : Option ℕ) (counter from to : ℕ) (clock : List (ℕ × ℕ)) (mark : Mark) (start : Start) (end : End)
    → AreNextNumbers ops counter clock → edit.doc ≡ doc → edit.token ≡ token → edit.change ≡ change.Mark from to mark → start ≡ start_of (visible ops doc) from
    → end ≡ end_of (visible ops doc) (key_of mark) to
    → numbered replica doc token counter clock (AddMark mark start end ∷ []) ≡ made ops replica edit
made_mark ops edit replica doc token counter from to clock mark start end next same_doc same_token same_change is_start is_end =
    rw (same_change, same_doc, same_token, next.counted, next.depends, is_start, is_end) refl

pub made_unmark : (ops : List Op) (edit : Edit) (replica doc : ℕ) (token : Option ℕ) (counter from to : ℕ) (clock : List (ℕ × ℕ)) (key : MarkKey) (start : Start) (end : End)
    → AreNextNumbers ops counter clock → edit.doc ≡ doc → edit.token ≡ token → edit.change ≡ change.Unmark from to key → start ≡ start_of (visible ops doc) from
    → end ≡ end_of (visible ops doc) key to
    → numbered replica doc token counter clock (RemoveMark key start end ∷ []) ≡ made ops replica edit
made_unmark ops edit replica doc token counter from to clock key start end next same_doc same_token same_change is_start is_end =
    rw (same_change, same_doc, same_token, next.counted, next.depends, is_start, is_end) refl
