use Rattle.std.proofs.Common.{◌≡◌, length, take, drop, rules}
use Rattle.page_file.specs.Pages.{pages, joined}
use Rattle.group_commit.proofs.PartLemmas.{part_taken, part_rest, takes_part, faults_part}
use Rattle.group_commit.proofs.load_parts.read_part.Goals as goal

pub returns-clause-takes : goal.returns-clause-takes
returns-clause-takes g c = λ told.
    let it = c.args.it in
    let bytes = c.in_ok-bytes.bytes.items in
    let part = joined (pages c.args.numbers.now (g.D.DiskFacts.content c.args.disk.now)) in
    let long : c.len.result ≡ length bytes = search rules in
    let taken : c.split_at.result.0.now ≡ take it.left part =
    part_taken it.left part bytes c.deref.result.now c.split_at.result.0.now c.min-len.result c.len.result (c.in_ok-bytes.ensures.read told) long
    c.min-len.ensures c.deref.ensures.value c.split_at.ensures.front in
    let rest : c.split_at.result.1.now ≡ drop it.left part =
    part_rest it.left part bytes c.deref.result.now c.split_at.result.1.now c.min-len.result c.len.result (c.in_ok-bytes.ensures.read told) long
    c.min-len.ensures c.deref.ensures.value c.split_at.ensures.back in
    takes_part c.and.result it part c.split_at.result.0.now c.split_at.result.1.now taken rest (search rules) c.and.ensures.more

pub returns-clause-fault : goal.returns-clause-fault
returns-clause-fault g c = λ told.
    let it = c.args.it in
    let bytes = c.in_ok-bytes.bytes.items in
    let part = joined (pages c.args.numbers.now (g.D.DiskFacts.content c.args.disk.now)) in
    let long : c.len.result ≡ length bytes = search rules in
    faults_part c.and.result it part c.split_at.result.0.now
    (part_taken it.left part bytes c.deref.result.now c.split_at.result.0.now c.min-len.result c.len.result (c.in_ok-bytes.ensures.read told) long
    c.min-len.ensures c.deref.ensures.value c.split_at.ensures.front)
    c.and.ensures.fault
