-- Counted rows, one row at a time. Assumes nothing.
use Rattle.std.proofs.Common.{◌≡◌, ℕ, suc, ◌+◌, ◌-◌, ◌<◌, ◌≤◌, min, List, [], ◌∷◌, ◌++◌, length, take, drop, set, replicate, Ok, Err, sym, ap, ◌∙◌, inl, inr, arith, take-append-drop}
use Rattle.std.proofs.lemmas.List.{drop-drop, drop-set-lt, drop-replicate, length-take-le, take_all, length-take}
use Rattle.std.proofs.lemmas.Bool.{cases_lt}
use Rattle.faults.specs.declared.Fault.{Fault}
use Rattle.wire.specs.Reading.{Read, and_then}
use Rattle.wire.specs.Rows.{packed, packed_at}

module _ {A : Type 0} (blank : A) (parsed : List ℕ → ℕ → Read A) (n : ℕ) where
  unfolds : (count i : ℕ) → i < count → (acc : List A) (bytes : List ℕ) (at : ℕ)
      → packed_at blank parsed n (count - i) acc bytes at ≡ and_then (parsed bytes at) (λ x next. packed_at blank parsed n (count - (i + 1)) (acc ++ x ∷ []) bytes next)
  unfolds count i h acc bytes at =
      let e : count - i ≡ suc (count - (i + 1)) = omega arith in
      ap (λ k. packed_at blank parsed n k acc bytes at) e

  pub row_more : (count i : ℕ) → i < count → (acc : List A) (bytes : List ℕ) (at : ℕ) (x : A) (after : ℕ) → parsed bytes at ≡ Ok (x, after)
      → packed_at blank parsed n (count - i) acc bytes at ≡ packed_at blank parsed n (count - (i + 1)) (acc ++ x ∷ []) bytes after
  row_more count i h acc bytes at x after e =
      unfolds count i h acc bytes at ∙ ap (λ r. and_then r (λ x next. packed_at blank parsed n (count - (i + 1)) (acc ++ x ∷ []) bytes next)) e

  pub row_fails : (count i : ℕ) → i < count → (acc : List A) (bytes : List ℕ) (at : ℕ) (e : Fault) → parsed bytes at ≡ Err e
      → packed_at blank parsed n (count - i) acc bytes at ≡ Err e
  row_fails count i h acc bytes at f e =
      unfolds count i h acc bytes at ∙ ap (λ r. and_then r (λ x next. packed_at blank parsed n (count - (i + 1)) (acc ++ x ∷ []) bytes next)) e

  pub rows_done : (acc : List A) (k : ℕ) → k ≡ 0 → (bytes : List ℕ) (at : ℕ) → packed_at blank parsed n k acc bytes at ≡ Ok (packed blank n acc, at)
  rows_done acc k e bytes at = ap (λ j. packed_at blank parsed n j acc bytes at) e

  -- the rows past the one that was written are still blank
  pub blank_more : (rows : List A) (i : ℕ) (x : A) → i < length rows → drop i rows ≡ replicate (n - i) blank → drop (i + 1) (set rows i x) ≡ replicate (n - (i + 1)) blank
  blank_more rows i x within rest =
      let lt : i < i + 1 = omega arith in
      let less : n - i - 1 ≡ n - (i + 1) = omega arith in
      drop-set-lt (i + 1) rows i x lt ∙ sym (drop-drop 1 i rows) ∙ ap (drop 1) rest ∙ drop-replicate 1 (n - i) blank ∙ ap (λ k. replicate k blank) less

  -- the rows that stand, and the blanks, are all of them
  pub all_rows : (rows : List A) (count i : ℕ) → count ≡ i → i ≤ length rows → drop i rows ≡ replicate (n - i) blank → record { count = count; rows = rows } ≡ packed blank n (take i rows)
  all_rows rows count i same within rest =
      let long : length (take i rows) ≡ i = length-take-le i rows within in
      let e : count ≡ length (take i rows) = same ∙ sym long in
      let all : rows ≡ take i rows ++ replicate (n - length (take i rows)) blank = sym (take-append-drop i rows) ∙ ap (λ l. take i rows ++ l) (rest ∙ ap (λ k. replicate (n - k) blank) (sym long)) in
      λ j. record { count = e j; rows = all j }

-- no more rows stand than there are
pub take_standing : {A : Type 0} (xs : List A) (k m : ℕ) → m ≡ length (take k xs) → take m xs ≡ take k xs
take_standing xs k m e = elim (cases_lt (length xs) k) [
  | inl h ↦ (let all : length xs ≤ m = omega (arith, length-take k xs) in let also : length xs ≤ k = omega arith in take_all m xs all ∙ sym (take_all k xs also))
  | inr h ↦ ap (λ j. take j xs) (omega (arith, length-take k xs))
]

-- rows in front of blanks are packed
pub packed_front : {A : Type 0} (blank : A) (n : ℕ) (xs : List A) (count : ℕ) → count ≡ length xs → record { count = count; rows = xs ++ drop count (replicate n blank) } ≡ packed blank n xs
packed_front blank n xs count e =
    let behind : drop count (replicate n blank) ≡ replicate (n - length xs) blank = drop-replicate count n blank ∙ ap (λ k. replicate (n - k) blank) e in
    λ j. record { count = e j; rows = xs ++ behind j }

-- rows copied to the front of blanks are packed, as far as there is room for them
pub packed_copy : {A : Type 0} (blank : A) (n : ℕ) (xs copied : List A) (count : ℕ) → count ≡ min (length xs) (min n 255) → copied ≡ take count xs
    → record { count = count; rows = copied ++ drop count (replicate n blank) } ≡ packed blank n (take (min n 255) xs)
packed_copy blank n xs copied count few e =
    let long : count ≡ length (take (min n 255) xs) = omega (arith, length-take (min n 255) xs) in
    ap (λ l. record { count = count; rows = l ++ drop count (replicate n blank) }) (e ∙ take_standing xs (min n 255) count long) ∙ packed_front blank n (take (min n 255) xs) count long
