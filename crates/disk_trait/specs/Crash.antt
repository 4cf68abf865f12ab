-- What a crash makes of a file that was written since its last sync.
use Rattle.std.specs.Prelude.{ℕ, ◌-◌, Bool, List, [], ◌∷◌, ◌++◌, length, take, replicate, if◌then◌else◌}
use Rattle.disk_trait.specs.File.{overwritten}
use Rattle.disk_trait.specs.Survivors.{Range}
use Rattle.disk_trait.specs.declared.medium.Fate.{Fate}
use Rattle.disk_trait.specs.declared.medium.Fate.TheVariants.{Old, New, Fill}

-- the file with this byte all over these ranges
abbrev pub filled : ℕ → List Range → List ℕ → List ℕ
filled byte [] file = file
filled byte (range ∷ ranges) file =
    filled byte ranges (overwritten file range.0 (replicate range.1 byte))

-- The file at its greatest size, where each unsettled byte is the settled one or a zero past the
-- settled end; or the one that was written; or this byte.
abbrev pub left_whole : Fate → List ℕ → List ℕ → List Range → List ℕ
left_whole Old bytes settled ranges = settled ++ replicate (length bytes - length settled) 0
left_whole New bytes settled ranges = bytes
left_whole (Fill byte) bytes settled ranges =
    take (length settled) (filled byte ranges bytes) ++ replicate (length bytes - length settled) byte

-- and with the greatest size or the settled one
abbrev pub left : Fate → Bool → List ℕ → List ℕ → List Range → List ℕ
left fate grown bytes settled ranges =
    let size = if grown then length bytes else length settled in
    take size (left_whole fate bytes settled ranges)
