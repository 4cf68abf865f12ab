use Rattle.std.proofs.Common.{List, ℕ, sym, ap, ◌∙◌, refl}
use Rattle.op_pieces.specs.Pieces.{is_piece}
use Rattle.piece_codec.specs.Reading.{first_of}
use Rattle.piece_codec.proofs.Counts.{deps_are}
use Rattle.piece_codec.proofs.run.make_run.Goals as goal

pub new-requires : goal.new-requires
new-requires c =
    let same = deps_are c.args.front.now.deps.now (c.in_ok-deps.deps, c.in_ok-deps.field-0-1.now) c.in_ok-deps.ensures in
    ap (λ (deps : List (ℕ × ℕ)). is_piece (record { first = first_of c.args.front.now.head deps c.args.front.now.tail c.args.value; others = c.args.others.items })) (sym same) ∙ c.requires.piece

pub returns-clause-ok : goal.returns-clause-ok
returns-clause-ok c =
    let same = deps_are c.args.front.now.deps.now (c.in_ok-deps.deps, c.in_ok-deps.field-0-1.now) c.in_ok-deps.ensures in
    rw (c.new.ensures, same) refl
