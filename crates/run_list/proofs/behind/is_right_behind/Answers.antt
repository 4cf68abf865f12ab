use Rattle.std.proofs.Common.{◌≡◌, length, refl, sym, ap, ◌∙◌}
use Rattle.std.specs.Prelude.{true, false}
use Rattle.change_codec.specs.Heads.{head_of, origin_of}
use Rattle.run_list.specs.Writer.{is_id, is_numbered_behind}
use Rattle.run_list.proofs.behind.is_right_behind.Goals as goal

pub record_head-head-requires : goal.record_head-head-requires
record_head-head-requires c = (c.requires.0, length c.args.bytes.now, c.requires.1)

pub record_origin-requires : goal.record_origin-requires
record_origin-requires c = (c.requires.0, length c.args.bytes.now, c.requires.1)

pub returns-then-not-is_numbered_behind : goal.returns-then-not-is_numbered_behind
returns-then-not-is_numbered_behind c = λ op is.
    let head : c.record_head-head.result ≡ head_of op = c.record_head-head.ensures op (length c.args.bytes.now) is in
    let off : c.is_numbered_behind.result ≡ false = cc in
    let other : is_numbered_behind c.args.last op.id op.doc ≡ false =
    sym (ap (λ h. is_numbered_behind c.args.last h.id h.doc) head) ∙ sym c.is_numbered_behind.ensures ∙ off in
    rw other refl

pub returns : goal.returns
returns c = λ op is.
    let head : c.record_head-head.result ≡ head_of op = c.record_head-head.ensures op (length c.args.bytes.now) is in
    let on : c.is_numbered_behind.result ≡ true = cc in
    let numbered : is_numbered_behind c.args.last op.id op.doc ≡ true = sym (ap (λ h. is_numbered_behind c.args.last h.id h.doc) head) ∙ sym c.is_numbered_behind.ensures ∙ on in
    let origin : c.record_origin.result ≡ origin_of op.body = c.record_origin.ensures op (length c.args.bytes.now) is in
    c.is_id.ensures ∙ ap (λ o. is_id o c.args.last.id) origin ∙ rw numbered refl
