use Rattle.std.proofs.Common.{ℕ, ◌≡◌, ◌+◌, ◌-◌, ◌*◌, ap, take, drop, arith}
use Rattle.group_commit.proofs.step.bytes_at.Goals as goal

page_long : (k : ℕ) → 4096 * k + 4096 - 4096 * k ≡ 4096
page_long k = omega arith

pub returns-clause-bytes : goal.returns-clause-bytes
returns-clause-bytes c = ap (λ n. take n (drop (4096 * c.args.k) c.args.pages.now)) (page_long c.args.k)
