-- Bit maps: a map and the bits that stand in it determine each other. Assumes nothing.
use Rattle.std.proofs.Common.{◌≡◌, ℕ, zero, suc, ◌+◌, ◌*◌, ◌/◌, ◌%◌, ◌^◌, ◌<◌, ◌≤◌, Bool, true, false, cond, eqb, List, [], ◌∷◌, length, get_or, sym, refl, ap, ◌∙◌, inl, inr, arith}
use native.Mathlib.Nat.{zero-div, div-eq_of_lt, pow-succ', div-div-eq-div-mul, pow-le-pow_right}
use lib.Bits.{bit_and, and_mask}
use Rattle.std.proofs.lemmas.Bool.{cases_lt, lt-ltb, le-ltb, ne_eqb}
use Rattle.std.proofs.lemmas.Nat.{le-div, pow_pos}
use Rattle.wire.specs.Reading.{is_map}
use Rattle.wire.specs.Maps.{stands, map_of}

-- the lowest bit of a number
pub lowest : (n : ℕ) → bit_and n 1 ≡ n % 2
lowest n = and_mask n 1

pub none_above : (map bit : ℕ) → map < 65536 → 16 ≤ bit → stands bit map ≡ false
none_above map bit small high =
    let top : 65536 ≤ 2 ^ bit = pow-le-pow_right {n = 2} (omega arith) high in
    let none : map / 2 ^ bit ≡ 0 = div-eq_of_lt (omega arith) in
    ap (λ q. eqb (q % 2) 1) none

-- the bits above the lowest are those of the half
pub stands_above : (bit map : ℕ) → stands (suc bit) map ≡ stands bit (map / 2)
stands_above bit map = ap (λ q. eqb (q % 2) 1) (ap (λ p. map / p) (pow-succ' 2 bit) ∙ sym (div-div-eq-div-mul map 2 (2 ^ bit)))

none_in_zero : (bit : ℕ) → stands bit 0 ≡ false
none_in_zero bit = ap (λ q. eqb (q % 2) 1) (zero-div (2 ^ bit))

lowest-stands : (b : Bool) (m : ℕ) → stands 0 (cond b 1 0 + 2 * m) ≡ b
lowest-stands true m = let e : (1 + 2 * m) / 1 % 2 ≡ 1 = omega arith in ap (λ q. eqb q 1) e
lowest-stands false m = let e : (0 + 2 * m) / 1 % 2 ≡ 0 = omega arith in ap (λ q. eqb q 1) e

half : (b : Bool) (m : ℕ) → (cond b 1 0 + 2 * m) / 2 ≡ m
half true m = omega arith
half false m = omega arith

-- the bits of a map are those that it was made of
pub stands-map_of : (bs : List Bool) (bit : ℕ) → stands bit (map_of bs) ≡ get_or bs bit false
stands-map_of [] bit = none_in_zero bit
stands-map_of (b ∷ bs) zero = lowest-stands b (map_of bs)
stands-map_of (b ∷ bs) (suc bit) = stands_above bit (map_of (b ∷ bs)) ∙ ap (stands bit) (half b (map_of bs)) ∙ stands-map_of bs bit

-- whether each of n bits stands, from bit k on
abbrev pub bits_from : ℕ → ℕ → ℕ → List Bool
bits_from k zero map = []
bits_from k (suc n) map = stands k map ∷ bits_from (suc k) n map

bits_above : (k n map : ℕ) → bits_from (suc k) n map ≡ bits_from k n (map / 2)
bits_above k zero map = refl
bits_above k (suc n) map = ap (λ b. b ∷ bits_from (suc (suc k)) n map) (stands_above k map) ∙ ap (λ l. stands k (map / 2) ∷ l) (bits_above (suc k) n map)

lowest_bit : (map : ℕ) → cond (stands 0 map) 1 0 + 2 * (map / 2) ≡ map
lowest_bit map = elim (cases_lt (map % 2) 1) [
  | inl h ↦ (let e : map / 1 % 2 ≡ 0 = omega arith in ap (λ q. cond (eqb q 1) 1 0 + 2 * (map / 2)) e ∙ omega arith)
  | inr h ↦ (let e : map / 1 % 2 ≡ 1 = omega arith in ap (λ q. cond (eqb q 1) 1 0 + 2 * (map / 2)) e ∙ omega arith)
]

-- a map without a bit above n is made of its lowest n bits
pub map_of_bits : (n map : ℕ) → map < 2 ^ n → map_of (bits_from 0 n map) ≡ map
map_of_bits zero map h = omega arith
map_of_bits (suc n) map h =
    let less : map / 2 < 2 ^ n = omega (arith, pow-succ' 2 n) in
    ap (λ l. cond (stands 0 map) 1 0 + 2 * map_of l) (bits_above 0 n map) ∙ ap (λ m. cond (stands 0 map) 1 0 + 2 * m) (map_of_bits n (map / 2) less) ∙ lowest_bit map

-- no bit stands above the last one that has a meaning exactly when nothing is left of the map past it
pub map_tested : (last map : ℕ) → eqb (map / 2 ^ (last + 1)) 0 ≡ is_map last map
map_tested last map = elim (cases_lt map (2 ^ (last + 1))) [
  | inl below ↦ ap (λ q. eqb q 0) (div-eq_of_lt below) ∙ sym (lt-ltb map (2 ^ (last + 1)) below)
  | inr above ↦ (
      let some : 0 < map / 2 ^ (last + 1) = le-div 1 map (2 ^ (last + 1)) (pow_pos (last + 1)) (omega arith) in
      ne_eqb _ _ (λ e. omega arith) ∙ sym (le-ltb map (2 ^ (last + 1)) above))
]

-- where every bit has a meaning, no map has another
pub map_whole : (last map : ℕ) → map < 65536 → 15 ≤ last → true ≡ is_map last map
map_whole last map small all =
    let top : 65536 ≤ 2 ^ (last + 1) = pow-le-pow_right {n = 2} (omega arith) {i = 16} {j = last + 1} (omega arith) in
    sym (lt-ltb map (2 ^ (last + 1)) (omega arith))

pub map_of_lt : (bs : List Bool) → map_of bs < 2 ^ length bs
map_of_lt [] = omega arith
map_of_lt (true ∷ bs) = let ih = map_of_lt bs in omega (arith, pow-succ' 2 (length bs))
map_of_lt (false ∷ bs) = let ih = map_of_lt bs in omega (arith, pow-succ' 2 (length bs))
