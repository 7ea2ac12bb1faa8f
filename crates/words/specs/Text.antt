-- Quantities, prices and bytes as text. Assumes nothing.
use Rattle.std.specs.Prelude.{ℕ, ◌+◌, ◌/◌, ◌%◌, ℤ, pos, negsuc, suc, true, List, [], ◌∷◌, ◌++◌, codes, decimal, flat_map}
use Rattle.std.specs.Fmt.{digit_glyph}

-- two decimal digits
abbrev pub two_digits : ℕ → List ℕ
two_digits n = (48 + n / 10) ∷ (48 + n % 10) ∷ []

-- hundredths: the whole part, a point and two digits
abbrev pub with_point : ℕ → List ℕ
with_point n = decimal (n / 100) ++ (codes "." ++ two_digits (n % 100))

-- cents: a sign where they are below 0, and the dollars
abbrev pub dollars : ℤ → List ℕ
dollars (pos n) = codes "$" ++ with_point n
dollars (negsuc n) = codes "-$" ++ with_point (suc n)

-- a byte as two hexadecimal digits, the letters in capitals
abbrev pub hex_digits : ℕ → List ℕ
hex_digits b = digit_glyph true (b / 16) ∷ digit_glyph true (b % 16) ∷ []

abbrev pub after_space : ℕ → List ℕ
after_space b = codes " " ++ hex_digits b

-- bytes in hexadecimal, a space between each and the next
abbrev pub hex_text : List ℕ → List ℕ
hex_text [] = []
hex_text (b ∷ bs) = hex_digits b ++ flat_map after_space bs
