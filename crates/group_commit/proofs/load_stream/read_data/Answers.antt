use Rattle.std.proofs.Common.{rules, ◌≡◌, sym, ◌∙◌, true, false, inl}
use Rattle.page_file.specs.Pages.{pages}
use Rattle.group_commit.proofs.StreamReads.{test_whole, not_whole}
use Rattle.group_commit.proofs.load_stream.read_data.Goals as goal

pub returns-then-not-are_within-clause-fault : goal.returns-then-not-are_within-clause-fault
returns-then-not-are_within-clause-fault g c = λ told.
    let file = g.D.DiskFacts.content c.args.disk.now in
    let out : c.are_within.result ≡ false = search rules in
    inl (not_whole c.args.head.now.stream_length (pages c.args.numbers.now file)
    (test_whole c.args.numbers.now file c.args.size (c.requires.size told) ∙ sym c.are_within.ensures ∙ out))

pub read_parts-requires-clause-whole : goal.read_parts-requires-clause-whole
read_parts-requires-clause-whole g c = λ told.
    let file = g.D.DiskFacts.content c.args.disk.now in
    let inside : c.are_within.result ≡ true = search rules in
    test_whole c.args.numbers.now file c.args.size (c.requires.size told) ∙ sym c.are_within.ensures ∙ inside
