use Rattle.std.proofs.Common.{◌≡◌, ◌-◌, ◌*◌, length, take, drop, ◌∙◌, ap, arith}
use Rattle.char_sequence.specs.Sums.{seen}
use Rattle.char_sequence.proofs.GroupLemmas.{one_group_more, still_groups}
use Rattle.char_sequence.proofs.groups.count_last.Goals as goal

pub returns-then-chunks-start-eq-GROUP : goal.returns-then-chunks-start-eq-GROUP
returns-then-chunks-start-eq-GROUP c = λ held k are more.
    let start = c.len-start.result * 64 in
    let many = c.len-start.ensures in
    let ok = c.args.groups.now.ok.0 in
    let whole = c.if-chunks-start-eq-GROUP.true in
    let full : length c.args.chunks.now - start ≡ 64 = omega arith in
    let first : start ≡ 64 * length c.args.groups.now.items = omega arith in
    one_group_more c.args.groups.now.items c.push_reserved.new.self.items held c.args.chunks.now k c.seen_in.result are more (omega arith)
    (c.seen_in.ensures ∙ (ap (λ n. seen (take n (drop start c.args.chunks.now))) full ∙ ap (λ n. seen (take 64 (drop n c.args.chunks.now))) first))
    c.push_reserved.ensures.items

pub returns-else-chunks-start-eq-GROUP : goal.returns-else-chunks-start-eq-GROUP
returns-else-chunks-start-eq-GROUP c = λ held k are more.
    let many = c.len-start.ensures in
    let ok = c.args.groups.now.ok.0 in
    let most = c.requires.rest in
    let part = c.if-chunks-start-eq-GROUP.false in
    still_groups c.args.groups.now.items held c.args.chunks.now k are more (omega arith)
