-- Where a resource's level stands among those held. Assumes nothing.
use Rattle.std.specs.Prelude.{ℕ, suc, cond, List, [], ◌∷◌, length, Some, None, Option, ◌==◌, nat_lt}
use Rattle.raised.specs.declared.level.RaisedLevel.{RaisedLevel}

-- the first place with the resource, or the number of levels
abbrev pub place_in : ℕ → List RaisedLevel → ℕ
place_in n [] = 0
place_in n (x ∷ xs) = cond (x.resource == n) 0 (suc (place_in n xs))

-- the place of the resource's level, if it has one
abbrev pub place_of : ℕ → List RaisedLevel → Option ℕ
place_of n xs = cond (nat_lt (place_in n xs) (length xs)) (Some (place_in n xs)) None
