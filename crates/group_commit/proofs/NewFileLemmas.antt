-- The file of a new store has an empty root.
use Rattle.std.proofs.Common.{◌≡◌, ◌≢◌, ℕ, zero, suc, ◌+◌, true, false, List, [], ◌∷◌, ◌++◌, length, take, drop, refl, sym, ap, ◌∙◌}
use Rattle.std.proofs.Common.{arith, length-append, Result, Ok, Err}
use Rattle.std.specs.Prelude.{replicate, OnOk}
use Rattle.std.proofs.lemmas.List.{take_all, drop_all, take_at, drop_at, append-nil, take-replicate}
use Rattle.disk_trait.specs.File.{overwritten}
use Rattle.disk_trait.specs.declared.facts.DiskFacts.{Ghosts}
use Rattle.page_file.specs.Pages.{pages, are_pages, is_zero, joined}
use Rattle.change_codec.specs.declared.format.Format.{Format}
use Rattle.root_slots.specs.Body.{root_of}
use Rattle.root_slots.specs.Root.{is_root, tables_of, data_count, stream_length_of}
use Rattle.root_slots.specs.Slots.{first_byte, gate, body}
use Rattle.group_commit.specs.Saved.{Saved}
use Rattle.group_commit.specs.Image.{stream_in, tables_in, data_pages_in, entries}
use Rattle.group_commit.specs.Standing.{Stands}
use Rattle.group_commit.specs.NewFile.{slot_page, new_file, Raises, IsMade}
use Rattle.group_commit.specs.declared.phase.Phase.TheVariants.{Idle}
use Rattle.group_commit.proofs.Roots.{stream_there}

-- a write at the end of a file
pub put_at_end : (file : List ℕ) (at : ℕ) (bytes : List ℕ) → length file ≡ at → overwritten file at bytes ≡ file ++ bytes
put_at_end file at bytes size =
    ap (λ f. f ++ bytes ++ drop (at + length bytes) file) (take_all at file (omega (arith, size)))
    ∙ ap (λ f. (file ++ bytes) ++ f) (drop_all (at + length bytes) file (omega (arith, size)))
    ∙ append-nil (file ++ bytes)

-- two writes one behind the other
pub put_both : (zero_file one two first second : List ℕ) → zero_file ≡ [] → one ≡ overwritten zero_file 0 first → length first ≡ 4096
    → two ≡ overwritten one 4096 second → two ≡ first ++ second
put_both zero_file one two first second none is_one size is_two =
    let same : one ≡ first = is_one ∙ ap (λ f. overwritten f 0 first) none ∙ put_at_end [] 0 first refl in
    is_two ∙ ap (λ f. overwritten f 4096 second) same ∙ put_at_end first 4096 second size

-- the opened gate
pub opened_file : (page file body : List ℕ) → page ≡ slot_page 0 body → file ≡ overwritten (page ++ replicate 4096 0) 0 (1 ∷ []) → file ≡ new_file body
opened_file page file body is_page is_file = is_file ∙ ap (λ p. overwritten (p ++ replicate 4096 0) 0 (1 ∷ [])) is_page

-- a new file has its root
pub stands_new : (root next : Saved) (format : Format) (version replica : ℕ) → is_root root.body ≡ true → length root.body ≡ 4088 → root.stream ≡ [] → root.pages ≡ []
    → root_of root.body ≡ record { format = format; version = version; replica = replica; stream_length = 0; operations = 0; tables = [] }
    → Stands Idle 0 false root next (new_file root.body)
stands_new root next format version replica valid size no_stream no_pages says =
    let tables : tables_of root.body ≡ [] = ap (λ r. r.tables) says in
    let file = new_file root.body in
    let tabled : tables_in file root.body ≡ [] = ap (λ ns. pages ns file) tables in
    let none : data_pages_in root.body [] ≡ [] = take_all (data_count root.body) [] (omega arith) in
    let filled : pages (data_pages_in root.body []) file ≡ [] = ap (λ ns. pages ns file) none in
    let rest : is_zero (drop (data_count root.body) (entries [])) ≡ true = ap is_zero (drop_all (data_count root.body) [] (omega arith)) in
    let once : are_pages (tables_of root.body ++ data_pages_in root.body []) ≡ true =
    ap (λ ns. are_pages (ns ++ data_pages_in root.body [])) tables ∙ ap are_pages none in
    let zeros : is_zero (drop (stream_length_of root.body) (joined [])) ≡ true = ap is_zero (drop_all (stream_length_of root.body) [] (omega arith)) in
    let same : take (stream_length_of root.body) (joined []) ≡ [] = take_all (stream_length_of root.body) [] (omega arith) in
    let slot : length (slot_page 1 root.body) ≡ 4096 = omega (arith, size) in
    let shut = stale_shut root.body slot in
    record {
      whole = omega (arith, length-append (slot_page 1 root.body) (replicate 4096 0), slot, length-zeros 4096);
      is_open = refl;
      holds = take_at root.body (replicate 4096 0) 4088 size;
      keeps = record {
        spells = ap (λ ts. stream_in root.body ts (pages (data_pages_in root.body ts) file)) tabled ∙ ap (stream_in root.body []) filled
            ∙ stream_there root.body [] [] valid refl rest once refl zeros ∙ ap Ok (same ∙ sym no_stream);
        reaches = ap (λ ts. tables_of root.body ++ data_pages_in root.body ts) tabled ∙ ap (λ ns. ns ++ data_pages_in root.body []) tables ∙ none ∙ sym no_pages;
      };
      stale_slot = ((λ is. absurd (shut is)), record { opened = λ is. absurd cc; closed = λ is. shut });
    }
  where
    length-zeros : (n : ℕ) → length (replicate {A = ℕ} n 0) ≡ n
    length-zeros zero = refl
    length-zeros (suc n) = let rest = length-zeros n in omega (arith, rest)

    stale_shut : (bytes : List ℕ) → length (slot_page 1 bytes) ≡ 4096 → gate 1 (new_file bytes) ≢ 1
    stale_shut bytes slot is =
        let zero_there : gate 1 (new_file bytes) ≡ 0 =
        ap (λ f. first_byte (take 1 f)) (drop_at (slot_page 1 bytes) (replicate 4096 0) 4096 slot) ∙ ap first_byte (take-replicate {X = ℕ} 1 4096 0 (omega arith)) in
        omega (arith, is, zero_there)

-- the file is made where the calls that make it went well
pub made_by : {D T E : Type 0} (facts : Ghosts D) (result : Result T E) (file : List ℕ) (writes syncs : ℕ) (old new : D) → OnOk result (facts.content new ≡ file)
    → OnOk result (Raises facts 0 writes syncs old new) → OnOk result (IsMade facts file writes syncs old new)
made_by facts (Ok x) file writes syncs old new made counts = record { made = made; counts = counts }
made_by facts (Err e) file writes syncs old new made counts = tt
