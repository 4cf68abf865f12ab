use Rattle.std.proofs.Common.{◌≡◌, ◌≤◌, ◌++◌, length, ap, subst, sym, ◌∙◌, arith}
use Rattle.change_codec.specs.Spelling.{spelled}
use Rattle.piece_codec.specs.Spelling.{spelled_run}
use Rattle.hub_parts.specs.Adding.{Adds}
use Rattle.hub_parts.proofs.TypedWaits.{first_is, on_ok, one_typed, others_are, singles_add, typed_adds, typed_first}
use Rattle.hub_parts.proofs.waiting.put_text.Goals as goal

pub returns-then-text-lt2-clause-ok : goal.returns-then-text-lt2-clause-ok
returns-then-text-lt2-clause-ok c =
    let fits = c.requires.fits in
    let single = sym (one_typed c.args.ops.now c.args.text.now c.requires.typed c.if-text-lt2.true) in
    on_ok c.put_ops.result _ _ c.put_ops.ensures.ok
    (λ put. subst (λ n. Adds c.args.waiting.now.items c.put_ops.new.out.items c.args.ops.now n) single
    (singles_add c.args.ops.now c.args.waiting.now.items c.put_ops.new.out.items fits put))

pub put_typed-requires-clause-whole : goal.put_typed-requires-clause-whole
put_typed-requires-clause-whole c =
    let more : 2 ≤ length c.args.text.now = omega (arith, c.if-text-lt2.false) in
    let bytes : c.deref.result.now ≡ spelled c.index-ops-0.result =
    c.deref.ensures.value ∙ c.in_ok-put_op.ensures.ok ∙ ap (λ w. w ++ spelled c.index-ops-0.result) c.new-first.ensures.items in
    (typed_first c.args.ops.now c.args.text.now c.deref.result.now c.index-ops-0.result c.requires.typed c.requires.fits more c.index-ops-0.is bytes).whole

pub put_typed-requires-clause-short : goal.put_typed-requires-clause-short
put_typed-requires-clause-short c =
    let more : 2 ≤ length c.args.text.now = omega (arith, c.if-text-lt2.false) in
    let bytes : c.deref.result.now ≡ spelled c.index-ops-0.result =
    c.deref.ensures.value ∙ c.in_ok-put_op.ensures.ok ∙ ap (λ w. w ++ spelled c.index-ops-0.result) c.new-first.ensures.items in
    (typed_first c.args.ops.now c.args.text.now c.deref.result.now c.index-ops-0.result c.requires.typed c.requires.fits more c.index-ops-0.is bytes).short

pub returns-clause-ok : goal.returns-clause-ok
returns-clause-ok c =
    let more : 2 ≤ length c.args.text.now = omega (arith, c.if-text-lt2.false) in
    let bytes : c.deref.result.now ≡ spelled c.index-ops-0.result =
    c.deref.ensures.value ∙ c.in_ok-put_op.ensures.ok ∙ ap (λ w. w ++ spelled c.index-ops-0.result) c.new-first.ensures.items in
    let t = c.requires.typed in
    let first = typed_first c.args.ops.now c.args.text.now c.deref.result.now c.index-ops-0.result t c.requires.fits more c.index-ops-0.is bytes in
    let put = c.put_typed.ensures t.run.first first.is first.inserts (c.index-text-0.is ∙ first_is c.args.ops.now c.args.text.now _ t) in
    typed_adds c.args.ops.now c.args.text.now c.args.waiting.now.items c.put_typed.new.out.items t c.requires.fits more
    (put.items ∙ (λ i. c.in_ok-reserve.ensures.items i ++ spelled_run t.run.first (others_are c.args.text.now i)))
