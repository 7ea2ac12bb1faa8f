-- Counted rows of a field in a fixed array, and a field that a bit of the map may leave out. Assumes nothing.
use Rattle.std.specs.Prelude.{◌≡◌, ℕ, zero, suc, ◌+◌, ◌-◌, Bool, true, cond, ◌&&◌, List, [], ◌∷◌, ◌++◌, length, take, drop, replicate, is_some, Some, None, Ok, Option, ◌==◌}
use Rattle.std.specs.List.{flat_map}
use Rattle.wire.specs.declared.counted.Counted.{Counted}
use Rattle.wire.specs.Bytes.{Bytes, byte_bytes}
use Rattle.wire.specs.Reading.{Read, and_then, count_at, is_count}
use Rattle.wire.specs.Writing.{Written, put_at, then_put, rows_put}

-- the rows that count
abbrev pub entries : {A : Type 0} {n : ℕ} → Counted A n → List A
entries c = take c.count c.rows

-- a list of rows as a fixed array: blanks behind them
abbrev pub packed : {A : Type 0} → A → (n : ℕ) → List A → Counted A n
packed blank n xs = record { count = length xs; rows = xs ++ replicate (n - length xs) blank }

-- k rows more after those in acc, and blanks up to n
abbrev pub packed_at : {A : Type 0} → A → (List ℕ → ℕ → Read A) → (n : ℕ) → ℕ → List A → List ℕ → ℕ → Read (Counted A n)
packed_at blank parsed n zero acc bytes at = Ok (packed blank n acc, at)
packed_at blank parsed n (suc k) acc bytes at = and_then (parsed bytes at) (λ x next. packed_at blank parsed n k (acc ++ x ∷ []) bytes next)

-- a count from 1 to n, and that many rows
abbrev pub counted_at : {A : Type 0} → A → (List ℕ → ℕ → Read A) → (n : ℕ) → List ℕ → ℕ → Read (Counted A n)
counted_at blank parsed n bytes at = and_then (count_at n bytes at) (λ count next. packed_at blank parsed n count [] bytes next)

abbrev pub counted_bytes : {A : Type 0} {n : ℕ} → (A → List ℕ) → Counted A n → List ℕ
counted_bytes bytes_of c = byte_bytes c.count ++ flat_map bytes_of (entries c)

abbrev pub counted_put : {A : Type 0} {n : ℕ} → (A → List ℕ → ℕ → Written) → Counted A n → List ℕ → ℕ → Written
counted_put put c out at = then_put (put_at (byte_bytes c.count) out at) (rows_put put (entries c))

-- each row of a list holds
abbrev pub all_held : {A : Type 0} → (A → Bool) → List A → Bool
all_held held [] = true
all_held held (x ∷ xs) = held x && all_held held xs

-- the count is right, the rows that count hold, and the others are blank
abbrev pub counted_held : {A : Type 0} {n : ℕ} → (A → Bool) → (A → Bool) → Counted A n → Bool
counted_held {n = n} held is_blank c = is_count n c.count && length c.rows == n && all_held held (entries c) && all_held is_blank (drop c.count c.rows)

-- a field that stands where its bit does
abbrev pub optional_at : {A : Type 0} → Bool → (List ℕ → ℕ → Read A) → List ℕ → ℕ → Read (Option A)
optional_at present parsed bytes at = cond present (and_then (parsed bytes at) (λ x next. Ok (Some x, next))) (Ok (None, at))

abbrev pub optional_bytes : {A : Type 0} → (A → List ℕ) → Option A → List ℕ
optional_bytes bytes_of None = []
optional_bytes bytes_of (Some x) = bytes_of x

abbrev pub optional_put : {A : Type 0} → (A → List ℕ → ℕ → Written) → Option A → List ℕ → ℕ → Written
optional_put put None out at = (Ok at, out)
optional_put put (Some x) out at = put x out at

abbrev pub optional_held : {A : Type 0} → (A → Bool) → Option A → Bool
optional_held held None = true
optional_held held (Some x) = held x

-- reading and writing a field that may be left out undo each other
pub record OptionalUndone {A : Type 0} (present : Bool) (parsed : List ℕ → ℕ → Read A) (bytes_of : A → List ℕ) (held : A → Bool) : Type 0 where
  pub restores : (v : Option A) (bytes rest : List ℕ) (at : ℕ) → is_some v ≡ present → optional_held held v ≡ true → drop at bytes ≡ optional_bytes bytes_of v ++ rest
      → optional_at present parsed bytes at ≡ Ok (v, at + length (optional_bytes bytes_of v))
  pub exact : (bytes : List ℕ) (at : ℕ) (v : Option A) (next : ℕ) → Bytes bytes → optional_at present parsed bytes at ≡ Ok (v, next)
      → (is_some v ≡ present) × (optional_held held v ≡ true) × (next ≡ at + length (optional_bytes bytes_of v)) × (drop at bytes ≡ optional_bytes bytes_of v ++ drop next bytes)
