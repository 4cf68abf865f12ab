use Rattle.std.proofs.Common.{◌≡◌, ℕ, List, length, subst, rules, ◌∙◌, ap}
use Rattle.disk_trait.specs.Calls.{Tears}
use Rattle.disk_trait.specs.File.{overwritten}
use Rattle.disk_trait.specs.Fault.{padded}
use Rattle.disk_trait.proofs.CallLemmas.{keeps_tears, tears_again}
use Rattle.disk_trait.proofs.FaultLemmas.{overwritten_padded}
use Rattle.disk_trait.proofs.fault.rewrite_piece.Goals as goal

pub returns-clause-torn : goal.returns-clause-torn
returns-clause-torn g c told =
    let facts = g.D.DiskFacts in
    let still : facts.tells c.read_padded.new.disk = search rules in
    let count : length c.read_padded.new.bytes ≡ c.args.len = search rules in
    tears_again facts c.args.pos c.args.len _ _ _ (keeps_tears facts c.args.pos c.args.len _ _ (c.in_ok-read_padded.ensures.keeps told))
    (subst (λ (n : ℕ). Tears facts c.args.pos n c.read_padded.new.disk c.write_at.new.self) count (c.in_ok-write_at.ensures.written still).torn)

pub returns-clause-same : goal.returns-clause-same
returns-clause-same g c told within =
    let content = g.D.DiskFacts.content in
    let still : g.D.DiskFacts.tells c.read_padded.new.disk = search rules in
    let same : content c.read_padded.new.disk ≡ content c.args.disk.now = search rules in
    let count : length c.read_padded.new.bytes ≡ c.args.len = search rules in
    let read : c.read_padded.new.bytes ≡ padded (content c.args.disk.now) c.args.pos c.args.len = search (rules, count) in
    (c.in_ok-write_at.ensures.written still).written ∙ ap (λ (file : List ℕ). overwritten file c.args.pos c.read_padded.new.bytes) same
    ∙ ap (λ (bytes : List ℕ). overwritten (content c.args.disk.now) c.args.pos bytes) read ∙ overwritten_padded (content c.args.disk.now) c.args.pos c.args.len within
