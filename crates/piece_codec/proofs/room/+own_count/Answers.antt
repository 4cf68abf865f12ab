use Rattle.std.proofs.Common.{◌≡◌, ◌<◌, true, false, eqb, arith}
use Rattle.std.proofs.lemmas.Bool.Decides.{nat_tests}
use Rattle.piece_codec.proofs.Counts.{none_left, some_pair, own_found, own_behind}
use Rattle.piece_codec.proofs.room.+own_count.Goals as goal

pub returns-then-entries-eq0 : goal.returns-then-entries-eq0
returns-then-entries-eq0 t c = λ low es end read.
    let none : c.args.entries ≡ 0 = (let test = c.if-entries-eq0.true in grind (arith, nat_tests)) in
    none_left c.args.entries low c.args.replica c.args.bytes.now es end none read

pub returns-in-Err : goal.returns-in-Err
returns-in-Err t c = λ low es end read.
    let some : 0 < c.args.entries = (let test = c.if-entries-eq0.false in grind (arith, nat_tests)) in
    absurd (some_pair c.args.entries low c.args.bytes.now es end c.in-Err.field-0 some c.in-Err.ensures read)

pub returns-then-entry-replica : goal.returns-then-entry-replica
returns-then-entry-replica t c = λ low es end read.
    let some : 0 < c.args.entries = (let test = c.if-entries-eq0.false in grind (arith, nat_tests)) in
    let same : eqb c.in-Ok.entry.0 c.args.replica ≡ true = (let test = c.if-entry-replica.true in grind (arith, nat_tests)) in
    own_found c.args.entries low c.args.replica c.args.bytes.now es end c.in-Ok.entry c.in-Ok.rest.now some c.in-Ok.ensures same read

pub returns-else-entry-replica : goal.returns-else-entry-replica
returns-else-entry-replica t c = λ low es end read.
    let some : 0 < c.args.entries = (let test = c.if-entries-eq0.false in grind (arith, nat_tests)) in
    let other : eqb c.in-Ok.entry.0 c.args.replica ≡ false = (let test = c.if-entry-replica.false in grind (arith, nat_tests)) in
    own_behind c.args.entries low c.args.replica c.own_count.result c.args.bytes.now es end c.in-Ok.entry c.in-Ok.rest.now some c.in-Ok.ensures other c.own_count.ensures read
