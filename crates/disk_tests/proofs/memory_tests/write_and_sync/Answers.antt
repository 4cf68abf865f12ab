use Rattle.std.proofs.Common.{ℕ, List, length, rules}
use Rattle.disk_trait.specs.File.{Torn}
use Rattle.disk_trait.proofs.CallLemmas.{torn_same, settles_no_more}
use Rattle.disk_trait.proofs.Moments.{moments_of_call, moments_then}
use Rattle.disk_tests.proofs.memory_tests.write_and_sync.Goals as goal

pub returns-clause-moments : goal.returns-clause-moments
returns-clause-moments g c told =
    let disk = g.D.DiskFacts in
    let lawful = g.met.D.Disk.lawful in
    let old = c.args.disk.now in
    let mid = c.write_at.new.self in
    let new = c.sync.new.self in
    let P : List ℕ → Type 0 = λ left. (d : List ℕ) × disk.survives old d × Torn c.args.pos (length c.args.bytes.now) d left in
    let still : disk.tells mid = search rules in
    let torn = (c.in_ok-write_at.ensures.written told).torn.no_more in
    let settled = settles_no_more disk mid new (lawful mid still) (c.in_ok-sync.ensures.settled still) in
    moments_then disk P old mid new
    (moments_of_call disk P old mid (lawful old told) (c.in_ok-write_at.ensures.call told) (λ left now. (left, now, torn_same _ _ left)) torn)
    (moments_of_call disk P mid new (lawful mid still) (c.in_ok-sync.ensures.call still) torn (λ left now. torn left (settled left now)))
