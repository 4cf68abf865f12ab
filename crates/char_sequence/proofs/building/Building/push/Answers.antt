use Rattle.std.proofs.Common.{◌≡◌, length, sym, arith}
use Rattle.char_sequence.proofs.BuildingLemmas.{cell_more, first_long, room_made, HasRoom}
use Rattle.char_sequence.proofs.building.Building.push.Goals as goal
use Rattle.char_sequence.proofs.building.Building.push.Goals.{then-len-eq-MAX_CHUNK+in_ok-append, else-len-eq-MAX_CHUNK}

-- the cells that have no chunk are 512
full : (c : goal.After-deref) → length c.deref.result.now ≡ 512
full c = let all = c.deref.ensures.len in let many = c.len.ensures in let is = c.if-len-eq-MAX_CHUNK.true in omega arith

pub slice_bounds-append-end : goal.slice_bounds-append-end
slice_bounds-append-end c = sym (first_long c.deref.result.now (full c))

pub append-requires-clause-many : goal.append-requires-clause-many
append-requires-clause-many c = let long = first_long c.deref.result.now (full c) in omega arith

pub append-requires-clause-few : goal.append-requires-clause-few
append-requires-clause-few c = let long = first_long c.deref.result.now (full c) in omega arith

-- there is room for one cell more
has_room : (c : goal.In_ok-push) → HasRoom c.if-len-eq-MAX_CHUNK.self-inside.chunks c.if-len-eq-MAX_CHUNK.self-inside.rest.items c.args.self.now
has_room c =
    let many = c.len.ensures in
    let ok = c.self.inside.rest.ok.0 in
    elim c.if-len-eq-MAX_CHUNK.branch [
      | then-len-eq-MAX_CHUNK+in_ok-append w ↦
          let full : length c.self.inside.rest.items ≡ 512 = (let is = w.if-len-eq-MAX_CHUNK.true in omega arith) in
          let left = w.drop-drain.ensures.items in
          let kept = w.drain.ensures.kept in
          rw w.self-inside-is
          (room_made c.self.inside.chunks w.append.new.self c.self.inside.rest.items w.drop-drain.new.self.0.items c.args.self.now c.self.invariant full
          (rw w.deref.ensures.value at w.in_ok-append.ensures.put) (rw kept at left) c.self.view_is)
      | else-len-eq-MAX_CHUNK w ↦
          rw w.self-inside-is
          (record {
            building = c.self.invariant;
            room = let is = w.if-len-eq-MAX_CHUNK.false in let few = c.self.invariant.few in omega arith;
            cells = c.self.view_is;
          })
    ]

pub invariant_of-self-2 : goal.invariant_of-self-2
invariant_of-self-2 c = (cell_more _ _ _ c.args.self.now c.args.cell (has_room c) c.in_ok-push.ensures.items).0

pub returns-clause-put : goal.returns-clause-put
returns-clause-put c = (cell_more _ _ _ c.args.self.now c.args.cell (has_room c) c.in_ok-push.ensures.items).1
