-- Bit maps: which fields stand in a record. Assumes nothing.
use Rattle.std.specs.Prelude.{ℕ, ◌+◌, ◌*◌, ◌/◌, ◌%◌, ◌^◌, Bool, cond, List, [], ◌∷◌, ◌==◌}

-- whether a bit stands in a map, bit 0 being the lowest
abbrev pub stands : ℕ → ℕ → Bool
stands bit map = map / 2 ^ bit % 2 == 1

-- the map in which just the bits given stand, bit 0 first
abbrev pub map_of : List Bool → ℕ
map_of [] = 0
map_of (b ∷ bs) = cond b 1 0 + 2 * map_of bs
