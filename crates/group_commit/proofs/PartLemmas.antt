-- A stream in pages, of which some are read at a time.
use Rattle.std.proofs.Common.{◌≡◌, ℕ, ◌+◌, ◌-◌, ◌*◌, ◌≤◌, Bool, true, false, ◌&&◌, min, List, [], ◌∷◌, ◌++◌, length, take, drop}
use Rattle.std.proofs.Common.{refl, sym, ap, subst, ◌∙◌, inl, inr, append_assoc, arith, Result, Ok, Err, IfOk, IfErr}
use Rattle.std.proofs.lemmas.Bool.{cases_Bool, cases_lt}
use Rattle.std.proofs.lemmas.Bool.Decides.{nat_tests}
use Rattle.std.proofs.lemmas.List.{append-nil, take-append-le, take-append-drop, take_all, drop_all}
use Rattle.std.proofs.Math.Seq.{take-append-add}
use Rattle.page_file.specs.Pages.{pages, are_whole, is_zero, joined}
use Rattle.change_codec.specs.declared.format.Format.{Format}
use Rattle.stream_list.specs.Streams.{HasNone, NeverHas}
use Rattle.group_commit.specs.Loading.{stream_of}
use Rattle.group_commit.specs.Parts.{IsFeedFault, IsPartFault, IsReadOn, NamesReadFault, TakesPart}
use Rattle.group_commit.specs.declared.load_parts.PartlyRead.{PartlyRead}
use Rattle.group_commit.specs.declared.open_fault.OpenError.{OpenError}
use Rattle.group_commit.specs.declared.open_fault.OpenError.TheVariants.{Memory, NoRoot, BadRoot, BadTable, BadStream, TooLong, ReadFailed, SyncFailed}
use Rattle.group_commit.proofs.ManyPages.{joined-append, length-joined, length-pages, pages-append}
use Rattle.group_commit.proofs.PlanLemmas.{drop_both}
use Rattle.group_commit.proofs.StreamReads.{is_stream, not_zero}

-- ---- two parts

take_both : (n : ℕ) (a b : List ℕ) → take n (a ++ b) ≡ take n a ++ take (n - length a) b
take_both n a b = elim (cases_lt n (length a)) [
  | inl less ↦
      let none : n - length a ≡ 0 = omega (arith, less) in
      take-append-le n a b (omega (arith, less)) ∙ sym (ap (λ (k : ℕ). take n a ++ take k b) none ∙ append-nil (take n a))
  | inr more ↦
      let place : n ≡ length a + (n - length a) = omega (arith, more) in
      ap (λ (k : ℕ). take k (a ++ b)) place ∙ take-append-add a b (n - length a)
      ∙ ap (λ (x : List ℕ). x ++ take (n - length a) b) (sym (take_all n a (omega (arith, more))))
]

zero_both : (a b : List ℕ) → is_zero (a ++ b) ≡ (is_zero a && is_zero b)
zero_both [] b = refl
zero_both (x ∷ xs) b = let rest = zero_both xs b in grind (arith, nat_tests)

whole_both : (a b : List (List ℕ)) → are_whole (a ++ b) ≡ (are_whole a && are_whole b)
whole_both [] b = refl
whole_both (x ∷ xs) b = let rest = whole_both xs b in grind (arith, nat_tests)

-- up to a place, or to their end
take_least : (n m : ℕ) (bytes : List ℕ) → m ≡ min n (length bytes) → take m bytes ≡ take n bytes
take_least n m bytes least = elim (cases_lt n (length bytes)) [
  | inl less ↦ ap (λ (k : ℕ). take k bytes) (omega (arith, least, less))
  | inr more ↦ take_all m bytes (omega (arith, least, more)) ∙ sym (take_all n bytes more)
]

drop_least : (n m : ℕ) (bytes : List ℕ) → m ≡ min n (length bytes) → drop m bytes ≡ drop n bytes
drop_least n m bytes least = elim (cases_lt n (length bytes)) [
  | inl less ↦ ap (λ (k : ℕ). drop k bytes) (omega (arith, least, less))
  | inr more ↦ drop_all m bytes (omega (arith, least, more)) ∙ sym (drop_all n bytes more)
]

pub cut_parts : (k : ℕ) (part others rest : List ℕ) → part ≡ take k rest → others ≡ drop k rest → part ++ others ≡ rest
cut_parts k part others rest front back = (λ i. front i ++ back i) ∙ take-append-drop k rest

-- ---- pages in two parts

pub joined_parts : (part others rest file : List ℕ) → part ++ others ≡ rest
    → joined (pages rest file) ≡ joined (pages part file) ++ joined (pages others file)
joined_parts part others rest file is =
    ap (λ (ns : List ℕ). joined (pages ns file)) (sym is) ∙ ap joined (pages-append part others file) ∙ joined-append (pages part file) (pages others file)

pub whole_parts : (part others rest file : List ℕ) → part ++ others ≡ rest → are_whole (pages rest file) ≡ true
    → (are_whole (pages part file) ≡ true) × (are_whole (pages others file) ≡ true)
whole_parts part others rest file is whole =
    let both : (are_whole (pages part file) && are_whole (pages others file)) ≡ true =
    sym (ap (λ (ns : List ℕ). are_whole (pages ns file)) (sym is) ∙ ap are_whole (pages-append part others file) ∙ whole_both (pages part file) (pages others file)) ∙ whole in
    (grind (arith, nat_tests), grind (arith, nat_tests))

pub length_whole : (part file : List ℕ) → are_whole (pages part file) ≡ true → length (joined (pages part file)) ≡ 4096 * length part
length_whole part file whole = length-joined (pages part file) whole ∙ ap (λ (n : ℕ). 4096 * n) (length-pages part file)

-- ---- what is read, and what is left

-- the bytes that are read of a stream, and those that stand in the rest of its pages, are all of it; so are its zeros
pub record Reads (n : ℕ) (all rest bytes : List ℕ) (left : ℕ) : Type 0 where
  pub stream : bytes ++ take left rest ≡ take n all
  pub zeros : is_zero (drop left rest) ≡ is_zero (drop n all)

-- the next part was read
reads_more : (n : ℕ) (all rest part others bytes : List ℕ) (left : ℕ) → rest ≡ part ++ others → Reads n all rest bytes left
    → is_zero (drop left part) ≡ true → Reads n all others (bytes ++ take left part) (left - length part)
reads_more n all rest part others bytes left is reads zeros = record {
  stream =
      append_assoc bytes (take left part) (take (left - length part) others)
      ∙ ap (λ (b : List ℕ). bytes ++ b) (sym (ap (take left) is ∙ take_both left part others)) ∙ reads.stream;
  zeros =
      sym (ap (λ (b : List ℕ). is_zero (drop left b)) is ∙ ap is_zero (drop_both left part others)
      ∙ zero_both (drop left part) (drop (left - length part) others)
      ∙ ap (λ (z : Bool). z && is_zero (drop (left - length part) others)) zeros) ∙ reads.zeros;
}

-- it has so many bytes
pub reads_next : (n : ℕ) (all rest part others : List ℕ) (it new : PartlyRead) (size : ℕ) → rest ≡ part ++ others → Reads n all rest it.tail it.left
    → TakesPart it part new → length part ≡ size → new.left ≡ it.left - size → Reads n all others new.tail new.left
reads_next n all rest part others it new size is reads takes long left =
    rw (takes.bytes, left, sym long) (reads_more n all rest part others it.tail it.left is reads takes.zeros)

-- a stream was read on in two parts
pub on_more : (begun it new : PartlyRead) (all rest part others : ℕ) → IsReadOn begun (4096 * (all - rest)) it → IsReadOn it (4096 * part) new
    → part + others ≡ rest → rest ≤ all → IsReadOn begun (4096 * (all - others)) new
on_more begun it new all rest part others first second is within = record {
  partly = second.partly;
  format = second.format ∙ first.format;
  count = second.count ∙ first.count;
  long = second.long ∙ first.long;
  left = omega (arith, second.left, first.left, is, within);
}

-- the bytes of a part up to the stream's end
pub part_taken : (n : ℕ) (part bytes all taken : List ℕ) (m size : ℕ) → bytes ≡ part → size ≡ length bytes → m ≡ min n size → all ≡ bytes → taken ≡ take m all
    → taken ≡ take n part
part_taken n part bytes all taken m size is long least whole front =
    front ∙ ap (take m) whole ∙ take_least n m bytes (least ∙ ap (λ (k : ℕ). min n k) long) ∙ ap (λ (b : List ℕ). take n b) is

-- and those that stand in the rest of it
pub part_rest : (n : ℕ) (part bytes all rest : List ℕ) (m size : ℕ) → bytes ≡ part → size ≡ length bytes → m ≡ min n size → all ≡ bytes → rest ≡ drop m all
    → rest ≡ drop n part
part_rest n part bytes all rest m size is long least whole back =
    back ∙ ap (drop m) whole ∙ drop_least n m bytes (least ∙ ap (λ (k : ℕ). min n k) long) ∙ ap (λ (b : List ℕ). drop n b) is

-- a part is taken if its bytes up to the stream's end are
pub takes_part : (r : Result PartlyRead OpenError) (it : PartlyRead) (part taken rest : List ℕ) → taken ≡ take it.left part → rest ≡ drop it.left part
    → is_zero rest ≡ true → IfOk r (λ new. new.tail ≡ it.tail ++ taken) → IfOk r (TakesPart it part)
takes_part (Ok new) it part taken rest is behind zeros more = record {
  bytes = more ∙ ap (λ (b : List ℕ). it.tail ++ b) is;
  zeros = sym (ap is_zero behind) ∙ zeros;
}
takes_part (Err e) it part taken rest is behind zeros more = tt

-- why the bytes of a part aren't fed is why the part isn't taken
feed_is_part : (e : OpenError) (it : PartlyRead) (part bytes : List ℕ) → bytes ≡ it.tail ++ take it.left part
    → IsFeedFault e it.reader.format bytes it.reader.count → IsPartFault e it part
feed_is_part Memory it part bytes is fault = tt
feed_is_part BadStream it part bytes is never = inr (subst (λ (b : List ℕ). NeverHas it.reader.format b it.reader.count) is never)
feed_is_part NoRoot it part bytes is fault = absurd fault
feed_is_part BadRoot it part bytes is fault = absurd fault
feed_is_part BadTable it part bytes is fault = absurd fault
feed_is_part TooLong it part bytes is fault = absurd fault
feed_is_part ReadFailed it part bytes is fault = absurd fault
feed_is_part SyncFailed it part bytes is fault = absurd fault

pub faults_part : (r : Result PartlyRead OpenError) (it : PartlyRead) (part taken : List ℕ) → taken ≡ take it.left part
    → IfErr r (λ e. IsFeedFault e it.reader.format (it.tail ++ taken) it.reader.count) → IfErr r (λ e. IsPartFault e it part)
faults_part (Ok new) it part taken is fault = tt
faults_part (Err e) it part taken is fault = feed_is_part e it part (it.tail ++ taken) (ap (λ (b : List ℕ). it.tail ++ b) is) fault

-- all of them were
pub reads_all : (n : ℕ) (ps : List (List ℕ)) (rest bytes : List ℕ) (left : ℕ) → are_whole ps ≡ true → rest ≡ [] → Reads n (joined ps) rest bytes left
    → stream_of n ps ≡ Ok bytes
reads_all n ps rest bytes left whole none reads =
    let zeros : is_zero (drop n (joined ps)) ≡ true = sym reads.zeros ∙ ap is_zero (nothing_behind left rest none) in
    is_stream n ps whole zeros ∙ ap (λ (b : List ℕ). Ok b)
    (sym reads.stream ∙ ap (λ (b : List ℕ). bytes ++ b) (nothing_before left rest none) ∙ append-nil bytes)
  where
    nothing_behind : (left : ℕ) (rest : List ℕ) → rest ≡ [] → drop left rest ≡ []
    nothing_behind left rest none = drop_all left rest (omega (arith, ap length none))

    nothing_before : (left : ℕ) (rest : List ℕ) → rest ≡ [] → take left rest ≡ []
    nothing_before left rest none = take_all left rest (omega (arith, ap length none)) ∙ none

-- behind the stream, a part isn't zero
rest_filled : (n : ℕ) (ps : List (List ℕ)) (rest part others bytes : List ℕ) (left : ℕ) → are_whole ps ≡ true → rest ≡ part ++ others
    → Reads n (joined ps) rest bytes left → is_zero (drop left part) ≡ false → stream_of n ps ≡ Err 46
rest_filled n ps rest part others bytes left whole is reads filled =
    not_zero n ps whole
    (sym reads.zeros ∙ ap (λ (b : List ℕ). is_zero (drop left b)) is ∙ ap is_zero (drop_both left part others)
    ∙ zero_both (drop left part) (drop (left - length part) others)
    ∙ ap (λ (z : Bool). z && is_zero (drop (left - length part) others)) filled)

-- no bytes behind those of a part make them a stream of so many operations
never_spelled : (n : ℕ) (f : Format) (count : ℕ) (ps : List (List ℕ)) (rest part others bytes : List ℕ) (left : ℕ) → are_whole ps ≡ true
    → rest ≡ part ++ others → Reads n (joined ps) rest bytes left → NeverHas f (bytes ++ take left part) count
    → NamesReadFault BadStream f count (stream_of n ps)
never_spelled n f count ps rest part others bytes left whole is reads never =
    elim (cases_Bool (is_zero (drop n (joined ps)))) [
      | inl zeros ↦ inr (take n (joined ps), is_stream n ps whole zeros, none)
      | inr filled ↦ inl (not_zero n ps whole filled)
    ]
  where
    none : HasNone f (take n (joined ps)) count
    none =
        subst (λ (b : List ℕ). HasNone f b count)
        (append_assoc bytes (take left part) (take (left - length part) others)
        ∙ ap (λ (b : List ℕ). bytes ++ b) (sym (ap (take left) is ∙ take_both left part others)) ∙ reads.stream)
        (never (take (left - length part) others))

-- why a part isn't taken is why the stream isn't read
pub part_fault : (n : ℕ) (f : Format) (count : ℕ) (ps : List (List ℕ)) (rest part others : List ℕ) (it : PartlyRead) (e : OpenError) → are_whole ps ≡ true
    → rest ≡ part ++ others → Reads n (joined ps) rest it.tail it.left → it.reader.format ≡ f → it.reader.count ≡ count → IsPartFault e it part
    → NamesReadFault e f count (stream_of n ps)
part_fault n f count ps rest part others it Memory whole is reads of_format counted fault = inl tt
part_fault n f count ps rest part others it ReadFailed whole is reads of_format counted fault = inl tt
part_fault n f count ps rest part others it BadStream whole is reads of_format counted (inl filled) =
    inl (rest_filled n ps rest part others it.tail it.left whole is reads filled)
part_fault n f count ps rest part others it BadStream whole is reads of_format counted (inr never) =
    never_spelled n f count ps rest part others it.tail it.left whole is reads
    (subst (λ (g : Format). NeverHas g (it.tail ++ take it.left part) count) of_format
    (subst (λ (c : ℕ). NeverHas it.reader.format (it.tail ++ take it.left part) c) counted never))
part_fault n f count ps rest part others it NoRoot whole is reads of_format counted fault = absurd fault
part_fault n f count ps rest part others it BadRoot whole is reads of_format counted fault = absurd fault
part_fault n f count ps rest part others it BadTable whole is reads of_format counted fault = absurd fault
part_fault n f count ps rest part others it TooLong whole is reads of_format counted fault = absurd fault
part_fault n f count ps rest part others it SyncFailed whole is reads of_format counted fault = absurd fault
