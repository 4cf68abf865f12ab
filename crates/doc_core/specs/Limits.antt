-- How many operations a replica can make at once.
use Rattle.std.specs.Prelude.{ℕ, ◌+◌, Bool, ◌&&◌, nat_le, nat_lt}
use Rattle.fixed_numbers.specs.declared.limits.TheConstants.{MAX_COUNTER, MAX_EDIT}
use Rattle.op_ids.specs.Clock.{advanced_by, is_clock}
use Rattle.op_model.specs.declared.author.Author.{Author}

-- an author's next n operations keep the limits: at most 256, their counters are from 1 to 2^48 - 1, and the clock behind them is
-- one, of at most 16 replicas with counts of at most 2^24
abbrev pub keep_limits : Author → ℕ → Bool
keep_limits author n =
    nat_le n MAX_EDIT && nat_lt 0 author.counter && nat_le (author.counter + n) (MAX_COUNTER + 1)
    && is_clock (advanced_by author.clock.now author.replica n)
