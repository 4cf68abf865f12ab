-- The places at which a text stands in another one.
use Rattle.std.specs.Prelude.{ℕ, suc, Bool, List, [], ◌∷◌, length, take, drop, if◌then◌else◌}
use Rattle.std.specs.Str.{bytes_eq}
use Rattle.text_search.specs.declared.finding.TheConstants.{MAX_FOUND}

-- a text begins with another one
abbrev pub begins_with : List ℕ → List ℕ → Bool
begins_with sought text = bytes_eq (take (length sought) text) sought

-- where it stands, if so many characters stand before the first of these
abbrev pub stands_after : ℕ → List ℕ → List ℕ → List ℕ
stands_after at sought [] = []
stands_after at sought (c ∷ cs) =
    if begins_with sought (c ∷ cs) then at ∷ stands_after (suc at) sought cs else stands_after (suc at) sought cs

-- the first 1,024 places, from one on, at which a text stands in another one
abbrev pub places_of : List ℕ → List ℕ → ℕ → List ℕ
places_of sought text from = take MAX_FOUND (stands_after from sought (drop from text))
