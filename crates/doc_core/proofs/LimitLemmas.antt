-- Operations that keep the limits.
use Rattle.std.proofs.Common.{◌≡◌, ℕ, ◌+◌, ◌≤◌, ◌<◌, Bool, true, ◌&&◌, arith}
use Rattle.std.specs.Prelude.{nat_le, nat_lt}
use Rattle.std.proofs.lemmas.Bool.Decides.{nat_tests}
use Rattle.op_ids.specs.Clock.{advanced_by, is_clock}
use Rattle.op_ids.proofs.RoomLemmas.{fewer_fit}
use Rattle.op_model.specs.declared.author.Author.{Author}
use Rattle.doc_core.specs.Limits.{keep_limits}

-- what keeping the limits says
pub record AreFew (author : Author) (n : ℕ) : Type 0 where
  pub few : n ≤ 256
  pub above_zero : 0 < author.counter
  pub in_range : author.counter + n ≤ 281474976710656
  pub room : is_clock (advanced_by author.clock.now author.replica n) ≡ true

last_of : (a b c d : Bool) → (a && b && c && d) ≡ true → d ≡ true
last_of a b c d all = grind (arith, nat_tests)

pub are_few : (author : Author) (n : ℕ) → keep_limits author n ≡ true → AreFew author n
are_few author n kept = record {
  few = grind (arith, nat_tests);
  above_zero = grind (arith, nat_tests);
  in_range = grind (arith, nat_tests);
  room = last_of (nat_le n 256) (nat_lt 0 author.counter) (nat_le (author.counter + n) 281474976710656)
      (is_clock (advanced_by author.clock.now author.replica n)) kept;
}

-- fewer keep them too
pub fewer_room : (author : Author) (m n : ℕ) → is_clock author.clock.now ≡ true → 0 < author.replica → m ≤ n
    → keep_limits author n ≡ true → is_clock (advanced_by author.clock.now author.replica m) ≡ true
fewer_room author m n valid positive within kept =
    fewer_fit author.clock.now author.replica m n valid positive within (are_few author n kept).room
