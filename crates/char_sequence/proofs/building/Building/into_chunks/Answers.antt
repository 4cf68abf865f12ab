use Rattle.std.proofs.Common.{◌≡◌, length, ◌∙◌, ap, arith}
use Rattle.char_sequence.specs.Chunks.{cells_of}
use Rattle.char_sequence.proofs.BuildingLemmas.{first_chunks, last_chunk}
use Rattle.char_sequence.proofs.building.Building.into_chunks.Goals as goal
use Rattle.char_sequence.proofs.building.Building.into_chunks.Goals.{then-len-eq0+in_ok-insert, else-len-eq0+in_ok-append}

pub returns : goal.returns
returns c =
    let many = c.len.ensures in
    elim c.if-len-eq0.branch [
      | then-len-eq0+in_ok-insert w ↦
          let none : length c.self.inside.chunks ≡ 0 = (let is = w.if-len-eq0.true in omega arith) in
          ap cells_of w.chunks-is
          ∙ first_chunks c.self.inside.chunks w.insert.new.self c.self.inside.rest.items c.args.self none
          (rw w.deref.ensures.value at w.in_ok-insert.ensures.put) c.self.view_is
      | else-len-eq0+in_ok-append w ↦
          ap cells_of w.chunks-is
          ∙ last_chunk c.self.inside.chunks w.append.new.self c.self.inside.rest.items c.args.self
          (rw w.deref-else-len-eq0.ensures.value at w.in_ok-append.ensures.put) c.self.view_is
    ]
