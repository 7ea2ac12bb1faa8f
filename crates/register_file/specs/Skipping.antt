-- How long a card is, by its map and its counts. Assumes nothing.
use Rattle.std.specs.Prelude.{ℕ, zero, suc, ◌+◌, ◌*◌, cond, List, Some, None, Ok, Err, Option, ◌==◌, nat_lt}
use Rattle.wire.specs.Maps.{stands}
use Rattle.wire.specs.Reading.{Read, byte_at, word_at}

-- a number that was read, or 0
abbrev pub or_zero : Read ℕ → ℕ
or_zero (Ok x) = x.0
or_zero (Err f) = 0

abbrev pub width_of : ℕ → ℕ → ℕ → ℕ
width_of map bit width = cond (stands bit map) width 0

-- all of a card before its pairs and rows
abbrev pub fixed_length : ℕ → ℕ
fixed_length map = 13 + width_of map 0 8 + width_of map 1 8 + width_of map 2 4 + width_of map 3 4 + width_of map 4 4 + width_of map 5 4

-- a count, and rows of one width
abbrev pub rows_length : ℕ → ℕ → ℕ → List ℕ → ℕ → ℕ
rows_length map bit width bytes at = cond (stands bit map) (1 + or_zero (byte_at bytes at) * width) 0

abbrev pub pairs_place : List ℕ → ℕ → ℕ
pairs_place bytes at = at + fixed_length (or_zero (word_at bytes (at + 3)))

abbrev pub rows_place : List ℕ → ℕ → ℕ
rows_place bytes at = pairs_place bytes at + rows_length (or_zero (word_at bytes (at + 3))) 6 6 bytes (pairs_place bytes at)

-- the place after a card
abbrev pub after_card : List ℕ → ℕ → ℕ
after_card bytes at = rows_place bytes at + rows_length (or_zero (word_at bytes (at + 3))) 7 12 bytes (rows_place bytes at)

-- the place of a number among so many cards: the first card whose number is not lower has it, or none does
abbrev pub find_at : ℕ → ℕ → List ℕ → ℕ → Option ℕ
find_at n zero bytes at = None
find_at n (suc k) bytes at = cond (nat_lt (or_zero (word_at bytes at)) n) (find_at n k bytes (after_card bytes at)) (cond (or_zero (word_at bytes at) == n) (Some at) None)
