use Rattle.std.proofs.Common.{◌≡◌, ◌≤◌, ◌++◌, ◌∷◌, [], length, rules, arith}
use Rattle.disk_trait.specs.File.{overwritten}
use Rattle.disk_trait.proofs.FileLemmas.{overwritten_is_torn}
use Rattle.disk_trait.proofs.SurvivorLemmas.{still_leaves_after, leaves_torn_after, leaves_only_torn_after}
use Rattle.disk_trait.proofs.memory.MemDiskDisk.write_at.Goals as goal

pub returns-clause-written : goal.returns-clause-written
returns-clause-written c =
    let old = c.args.self.now.medium in
    let within : c.args.pos ≤ length old.bytes.items = search rules in
    let bytes : c.write.new.self.bytes.items ≡ overwritten old.bytes.items c.args.pos c.args.bytes.now = search rules in
    let settled : c.write.new.self.settled.items ≡ old.settled.items = search rules in
    let ranges : c.write.new.self.unsettled.items ≡ old.unsettled.items ++ (c.args.pos, length c.args.bytes.now) ∷ [] = search rules in
    record {
      torn = record {
        reads = rw bytes (overwritten_is_torn _ _ _ within);
        no_more = rw (bytes, settled, ranges) (leaves_only_torn_after _ _ _ _ _ within (omega (arith, old.reads_survive.no_shorter)));
        no_fewer = rw (bytes, settled, ranges) (still_leaves_after _ _ _ _ _ within);
      };
      written = search rules;
      past_end = search rules;
      unchanged = search rules;
    }

pub returns-clause-all_torn : goal.returns-clause-all_torn
returns-clause-all_torn c d left =
    let old = c.args.self.now.medium in
    let within : c.args.pos ≤ length old.bytes.items = search rules in
    let bytes : c.write.new.self.bytes.items ≡ overwritten old.bytes.items c.args.pos c.args.bytes.now = search rules in
    let settled : c.write.new.self.settled.items ≡ old.settled.items = search rules in
    let ranges : c.write.new.self.unsettled.items ≡ old.unsettled.items ++ (c.args.pos, length c.args.bytes.now) ∷ [] = search rules in
    rw (bytes, settled, ranges) (leaves_torn_after _ _ _ _ _ within d left)
