-- Numbers as bytes, the highest byte first. Assumes nothing.
use Rattle.std.specs.Prelude.{ℕ, zero, suc, ◌+◌, ◌*◌, ◌/◌, ◌%◌, ◌^◌, ◌<◌, List, [], ◌∷◌, length, ℤ}
use Rattle.std.specs.Int.{w32}
use Rattle.std.proofs.Common.{to_z, of_z}
use Rattle.std.specs.List.{AllByRecursion}

-- each number of the list is a byte
abbrev pub Bytes : List ℕ → Type 0
Bytes = AllByRecursion (λ b. b < 256)

-- the number that some bytes write
abbrev pub big_endian : List ℕ → ℕ
big_endian [] = 0
big_endian (b ∷ bs) = b * 256 ^ length bs + big_endian bs

-- a number below 256 ^ n in n bytes
abbrev pub bytes_of : ℕ → ℕ → List ℕ
bytes_of zero v = []
bytes_of (suc n) v = v / 256 ^ n ∷ bytes_of n (v % 256 ^ n)

abbrev pub byte_bytes : ℕ → List ℕ
byte_bytes = bytes_of 1

abbrev pub word_bytes : ℕ → List ℕ
word_bytes = bytes_of 2

abbrev pub long_bytes : ℕ → List ℕ
long_bytes = bytes_of 4

-- a signed number of 32 bits and its bits: two's complement
abbrev pub signed_of : ℕ → ℤ
signed_of = to_z w32

abbrev pub bits_of : ℤ → ℕ
bits_of = of_z w32

abbrev pub signed_bytes : ℤ → List ℕ
signed_bytes z = long_bytes (bits_of z)
