use Rattle.std.proofs.Common.{rules, ◌≡◌, ℕ, ◌≤◌, ◌++◌, ap, sym, ◌∙◌, true, false, arith, List, length, Ok}
use Rattle.root_slots.specs.Root.{pages_for}
use Rattle.root_slots.specs.Body.{tables_for}
use Rattle.root_slots.proofs.HeadLemmas.{most_tables}
use Rattle.group_commit.specs.Loading.{reached_in}
use Rattle.group_commit.proofs.StreamReads.{test_whole, no_tables}
use Rattle.group_commit.proofs.load_stream.read_tables.Goals as goal

pub returns-then-not-are_within-clause-fault : goal.returns-then-not-are_within-clause-fault
returns-then-not-are_within-clause-fault g c = λ told.
    let file = g.D.DiskFacts.content c.args.disk.now in
    let out : c.are_within.result ≡ false = search rules in
    rw (sym c.tables-tables.ensures) (no_tables c.tables-tables.result.now (pages_for 4096 c.args.head.now.stream_length) file
    (test_whole c.tables-tables.result.now file c.args.size (c.requires.size told) ∙ sym c.are_within.ensures ∙ out))

pub data_pages-count-requires : goal.data_pages-count-requires
data_pages-count-requires g c = rw (c.stream_length.ensures) c.requires.valid.stream

reached_value : (tables tables' its named : List ℕ) (count n : ℕ) (file : List ℕ) → tables ≡ tables' → count ≡ n → its ≡ tables
    → reached_in tables count file ≡ Ok (its ++ named) → reached_in tables' n file ≡ Ok (tables' ++ named)
reached_value tables tables' its named count n file same counted is value =
    rw (sym same, sym counted) (value ∙ ap (λ t. Ok (t ++ named)) is)

few_tables : (n t : ℕ) → n ≤ 1073741824 → t ≡ tables_for n → t ≤ 256
few_tables n t most is = omega (arith, most_tables n most, is)

pub load-requires : goal.load-requires
load-requires g c = record {
  whole = λ told.
      let file = g.D.DiskFacts.content c.args.disk.now in
      let inside : c.are_within.result ≡ true = search rules in
      test_whole c.tables-tables.result.now file c.args.size (c.requires.size told) ∙ sym c.are_within.ensures ∙ inside;
  few = few_tables c.args.head.now.stream_length (length c.tables-tables.result.now) c.requires.valid.stream (ap length c.tables-tables.ensures ∙ c.requires.valid.tables);
}
