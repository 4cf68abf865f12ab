use Rattle.std.proofs.Common.{◌≡◌, ℕ, List, length, take, drop, min, ◌-◌, replicate, rules, arith, ◌∙◌, ap, length-take}
use Rattle.disk_trait.proofs.FaultLemmas.{padded_by_read}
use Rattle.disk_trait.proofs.fault.read_padded.Goals as goal

pub returns-clause-read : goal.returns-clause-read
returns-clause-read g c told =
    let n = length c.args.bytes.now in
    let file = g.D.DiskFacts.content c.args.disk.now in
    let still : g.D.DiskFacts.tells c.size.new.self = search rules in
    let same : g.D.DiskFacts.content c.size.new.self ≡ file = search rules in
    let size : c.in_ok-size.size ≡ length file = c.in_ok-size.ensures.size told in
    let there : c.min-there.result ≡ min n (length file - c.args.pos) = grind (arith, size) in
    let fill : c.fill.new.self ≡ replicate n 0 = search rules in
    let count : length (take c.min-there.result c.fill.new.self) ≡ c.min-there.result = omega (arith, length-take c.min-there.result c.fill.new.self, c.fill.ensures.len) in
    let read : c.read_at.new.bytes ≡ take c.min-there.result (drop c.args.pos file) =
    (c.in_ok-read_at.ensures.read still).read ∙ ap (λ (k : ℕ). take k (drop c.args.pos (g.D.DiskFacts.content c.size.new.self))) count
    ∙ ap (λ (xs : List ℕ). take c.min-there.result (drop c.args.pos xs)) same in
    rw (read, fill) (padded_by_read _ _ n _ there)
