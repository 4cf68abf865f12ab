use Rattle.std.proofs.Common.{◌≡◌, ◌+◌, ◌-◌, ◌*◌, ◌<◌, length, take, drop, refl, ◌∙◌, ap, arith}
use Rattle.char_sequence.specs.Sums.{seen}
use Rattle.char_sequence.proofs.GroupLemmas.{one_counted}
use Rattle.char_sequence.proofs.groups.count.Goals as goal
use Rattle.char_sequence.proofs.groups.count.Goals.{then-g-same, else-g-same}

pub bounds-old-g : goal.bounds-old-g
bounds-old-g c = (c.requires.same c.loop-g.g c.if-g-same.true (omega arith)).0

pub loop-g-preserved : goal.loop-g-preserved
loop-g-preserved c =
    let inside : c.loop-g.g < length c.loop-g.groups = omega arith in
    one_counted c.loop-g.groups _ c.args.chunks.now c.loop-g.g c.if-g-same.groups refl inside
    (elim c.if-g-same.branch [
      | then-g-same w ↦ w.groups-is ∙ (c.requires.same c.loop-g.g w.if-g-same.true (omega arith)).1
      | else-g-same w ↦
          let many : c.loop-g.g * 64 + 64 - c.loop-g.g * 64 ≡ 64 = omega arith in
          let first : c.loop-g.g * 64 ≡ 64 * c.loop-g.g = omega arith in
          w.groups-is ∙ (w.seen_in.ensures ∙ (ap (λ n. seen (take n (drop (c.loop-g.g * 64) c.args.chunks.now))) many
          ∙ ap (λ n. seen (take 64 (drop n c.args.chunks.now))) first))
    ])
    c.loop-g.invariant
