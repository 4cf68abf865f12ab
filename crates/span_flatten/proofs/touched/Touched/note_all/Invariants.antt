use Rattle.std.proofs.Common.{◌≡◌, ℕ, true, take}
use Rattle.std.specs.BTreeMap.{is_at}
use Rattle.std.specs.List.{list_any}
use Rattle.span_flatten.specs.Ranking.{id_order}
use Rattle.span_flatten.specs.Spots.{has_chunk, NotesChunks}
use Rattle.span_flatten.proofs.touched.Touched.note_all.Given as goal

-- the chunks of the characters so far are noted, and those that were noted still are
abbrev pub invariant-loop-id : goal.invariant-loop-id
invariant-loop-id l = record {
  noted : NotesChunks l.sequence l.self (λ id. list_any (is_at (id_order id)) (take l.id-index l.id-items));
  kept : (i : ℕ) → has_chunk l.fn.self i ≡ true → has_chunk l.self i ≡ true;
}
