-- What reading a field at a place of some bytes gives: its value and the place after it, or a fault and where it is. Assumes nothing.
use Rattle.std.specs.Prelude.{ℕ, ◌+◌, ◌-◌, ◌^◌, min, Bool, cond, ◌&&◌, List, length, take, drop, ℤ, pos, negsuc, Ok, Err, Result, int_le, nat_le, nat_lt}
use Rattle.faults.specs.declared.Fault.{Fault}
use Rattle.faults.specs.declared.Fault.TheVariants.{Record}
use Rattle.faults.specs.declared.RecordFault.{RecordFault}
use Rattle.faults.specs.declared.RecordFault.TheVariants.{CutShort, UnknownBit, BadCount, OutOfRange}
use Rattle.wire.specs.Bytes.{big_endian, signed_of}

abbrev pub Read : Type 0 → Type 0
Read A = Result (A × ℕ) Fault

-- one field, and then what follows it
abbrev pub and_then : {A B : Type 0} → Read A → (A → ℕ → Result B Fault) → Result B Fault
and_then (Ok x) f = f x.0 x.1
and_then (Err e) f = Err e

-- a place has 32 bits in a fault; one beyond them is told as the last
abbrev pub place_of : ℕ → ℕ
place_of at = min at 4294967295

abbrev pub fault_at : RecordFault → ℕ → Fault
fault_at f at = Record f (place_of at)

-- the next n bytes; they are cut short where the bytes end before the last one
abbrev pub array_at : ℕ → List ℕ → ℕ → Read (List ℕ)
array_at n bytes at = cond (nat_le n (length bytes - at)) (Ok (take n (drop at bytes), at + n)) (Err (fault_at CutShort (length bytes)))

-- a number of n bytes; it is cut short where the bytes end before its last one
abbrev pub number_at : ℕ → List ℕ → ℕ → Read ℕ
number_at n bytes at = cond (nat_le n (length bytes - at)) (Ok (big_endian (take n (drop at bytes)), at + n)) (Err (fault_at CutShort (length bytes)))

abbrev pub byte_at : List ℕ → ℕ → Read ℕ
byte_at = number_at 1

abbrev pub word_at : List ℕ → ℕ → Read ℕ
word_at = number_at 2

abbrev pub long_at : List ℕ → ℕ → Read ℕ
long_at = number_at 4

-- a value that stood at `at`, refused there where the test fails
abbrev pub ranged : {A : Type 0} → RecordFault → (A → Bool) → ℕ → A → ℕ → Read A
ranged fault test at v next = cond (test v) (Ok (v, next)) (Err (fault_at fault at))

-- a number of n bytes that has to pass a test
abbrev pub ranged_at : RecordFault → ℕ → (ℕ → Bool) → List ℕ → ℕ → Read ℕ
ranged_at fault n test bytes at = and_then (number_at n bytes at) (ranged fault test at)

-- hundredths of a MW
abbrev pub is_quantity : ℕ → Bool
is_quantity v = nat_le v 10000000

-- cents, from -10,000,000 to 10,000,000
abbrev pub is_price : ℤ → Bool
is_price v = int_le (negsuc 9999999) v && int_le v (pos 10000000)

abbrev pub quantity_at : List ℕ → ℕ → Read ℕ
quantity_at = ranged_at OutOfRange 4 is_quantity

-- hundredths of a MW in a minute
abbrev pub rate_at : List ℕ → ℕ → Read ℕ
rate_at = quantity_at

abbrev pub price_at : List ℕ → ℕ → Read ℤ
price_at bytes at = and_then (long_at bytes at) (λ v next. ranged OutOfRange is_price at (signed_of v) next)

-- cents, any number of 32 bits
abbrev pub cost_at : List ℕ → ℕ → Read ℕ
cost_at = long_at

-- minutes, any number of 16 bits
abbrev pub down_time_at : List ℕ → ℕ → Read ℕ
down_time_at = word_at

-- a count byte of at least 1 and at most `most`
abbrev pub is_count : ℕ → ℕ → Bool
is_count most v = nat_le 1 v && nat_le v (min most 255)

abbrev pub count_at : ℕ → List ℕ → ℕ → Read ℕ
count_at most = ranged_at BadCount 1 (is_count most)

-- a bit map of 16 bits in which no bit stands above the last one that has a meaning
abbrev pub is_map : ℕ → ℕ → Bool
is_map last v = nat_lt v (2 ^ (last + 1))

abbrev pub map_at : ℕ → List ℕ → ℕ → Read ℕ
map_at last = ranged_at UnknownBit 2 (is_map last)

-- a field that makes a value
abbrev pub made_at : {A C : Type 0} → (A → C) → (List ℕ → ℕ → Read A) → List ℕ → ℕ → Read C
made_at make field bytes at = and_then (field bytes at) (λ x next. Ok (make x, next))

-- two fields, one after the other, that make one value
abbrev pub pair_at : {A B C : Type 0} → (A → B → C) → (List ℕ → ℕ → Read A) → (List ℕ → ℕ → Read B) → List ℕ → ℕ → Read C
pair_at make first second bytes at = and_then (first bytes at) (λ x next. and_then (second bytes next) (λ y after. Ok (make x y, after)))
