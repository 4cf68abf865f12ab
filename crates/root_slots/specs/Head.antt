-- The numbers of a root body before those of its table pages.
use Rattle.std.specs.Prelude.{ℕ, ◌==◌, Bool, ◌&&◌, nat_le, List, length}
use Rattle.fixed_numbers.specs.declared.limits.TheConstants.{MAX_OPERATIONS, MAX_STREAM_LENGTH}
use Rattle.fixed_numbers.specs.declared.sizes.TheConstants.{BODY_LENGTH}
use Rattle.root_slots.specs.Body.{tables_for}
use Rattle.root_slots.specs.Root.{magic_of, is_magic, version_of, replica_of, stream_length_of, count_of, table_count, gap_of}

-- a magic, a version of at least 1, and a replica that isn't nil
unfoldable pub is_named : ℕ → ℕ → ℕ → Bool
is_named start version replica = is_magic start && nat_le 1 version && nat_le 1 replica

-- at most 2^30 bytes of stream, at most 2^24 operations, as many table pages as the stream needs, and a gap of zeros
unfoldable pub are_counts : ℕ → ℕ → ℕ → ℕ → Bool
are_counts stream_length operations tables gap =
    nat_le stream_length MAX_STREAM_LENGTH && nat_le operations MAX_OPERATIONS && tables == tables_for stream_length && gap == 0

-- the bytes are as long as a root body, and the numbers before those of the table pages keep their rules
unfoldable pub is_head : List ℕ → Bool
is_head body =
    length body == BODY_LENGTH && is_named (magic_of body) (version_of body) (replica_of body)
    && are_counts (stream_length_of body) (count_of body) (table_count body) (gap_of body)
