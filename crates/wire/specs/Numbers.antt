-- Numbers in bytes: reading and writing undo each other, at every width. Assumes nothing.
use Rattle.std.specs.Prelude.{◌≡◌, ℕ, zero, suc, ◌+◌, ◌-◌, ◌*◌, ◌/◌, ◌%◌, ◌^◌, ◌<◌, ◌≤◌, List, [], ◌∷◌, length, take, drop, Ok, nat_le, slice_index, slice_index_or, refl}
use Rattle.std.proofs.Common.{sym, ap, ◌∙◌, div-add-mod', mod-lt, mod-eq_of_lt, add-zero, pow-suc, suc-mul, mul_comm, mul-le-mul_right, arith}
use Rattle.std.proofs.Math.Nat.{mul-add-div_right, mul-add-mod_self_right, div-eq_of_lt, one-le-pow}
use Rattle.std.proofs.lemmas.List.{drop_more}
use Rattle.std.proofs.lemmas.Bool.{le-leb, cond-true}
use Rattle.wire.specs.Bytes.{Bytes, big_endian, bytes_of}
use Rattle.wire.specs.Reading.{number_at}

pow_pos : (n : ℕ) → 0 < 256 ^ n
pow_pos n = one-le-pow n 256 (omega arith)

-- one byte more at a place
pub bytes_more : (xs : List ℕ) (at n : ℕ) → at < length xs → take (suc n) (drop at xs) ≡ slice_index xs at ∷ take n (drop (at + 1) xs)
bytes_more xs at n h = ap (take (suc n)) (drop_more xs at 0 h)

pub number_stands : (n : ℕ) (bytes : List ℕ) (at v : ℕ) → n ≤ length bytes - at → v ≡ big_endian (take n (drop at bytes)) → Ok (v, at + n) ≡ number_at n bytes at
number_stands n bytes at v room e = ap (λ x. Ok (x, at + n)) e ∙ sym (cond-true (nat_le n (length bytes - at)) _ _ (le-leb n (length bytes - at) room))

pub one_byte : (xs : List ℕ) (at : ℕ) → at < length xs → slice_index xs at ≡ big_endian (take 1 (drop at xs))
one_byte xs at h = let e = ap big_endian (bytes_more xs at 0 h) in let d : slice_index_or xs at 0 ≡ slice_index xs at * 1 + 0 = omega arith in d ∙ sym e

pub two_bytes : (xs : List ℕ) (at : ℕ) → at + 2 ≤ length xs → slice_index xs at * 256 + slice_index xs (at + 1) ≡ big_endian (take 2 (drop at xs))
two_bytes xs at h =
    let h₀ : at < length xs = omega arith in
    let h₁ : at + 1 < length xs = omega arith in
    let e = ap big_endian (bytes_more xs at 1 h₀ ∙ ap (λ t. slice_index xs at ∷ t) (bytes_more xs (at + 1) 0 h₁)) in
    let d : slice_index_or xs at 0 * 256 + slice_index xs (at + 1) ≡ slice_index xs at * 256 + (slice_index xs (at + 1) * 1 + 0) = omega arith in
    d ∙ sym e

pub four_bytes : (xs : List ℕ) (at : ℕ) → at + 4 ≤ length xs
    → slice_index xs at * 16777216 + slice_index xs (at + 1) * 65536 + slice_index xs (at + 2) * 256 + slice_index xs (at + 3) ≡ big_endian (take 4 (drop at xs))
four_bytes xs at h =
    let h₀ : at < length xs = omega arith in
    let h₁ : at + 1 < length xs = omega arith in
    let h₂ : at + 1 + 1 < length xs = omega arith in
    let h₃ : at + 1 + 1 + 1 < length xs = omega arith in
    let e₂ : at + 1 + 1 ≡ at + 2 = omega arith in
    let e₃ : at + 1 + 1 + 1 ≡ at + 3 = omega arith in
    let e = ap big_endian (bytes_more xs at 3 h₀ ∙ ap (λ t. slice_index xs at ∷ t) (bytes_more xs (at + 1) 2 h₁ ∙ ap (λ t. slice_index xs (at + 1) ∷ t) (bytes_more xs (at + 1 + 1) 1 h₂ ∙ ap (λ t. slice_index xs (at + 1 + 1) ∷ t) (bytes_more xs (at + 1 + 1 + 1) 0 h₃)))) in
    let d : slice_index_or xs at 0 * 16777216 + slice_index xs (at + 1) * 65536 + slice_index xs (at + 1 + 1) * 256 + slice_index xs (at + 1 + 1 + 1) ≡ slice_index xs at * 16777216 + (slice_index xs (at + 1) * 65536 + (slice_index xs (at + 1 + 1) * 256 + (slice_index xs (at + 1 + 1 + 1) * 1 + 0))) = omega arith in
    let f : slice_index_or xs at 0 * 16777216 + slice_index xs (at + 1) * 65536 + slice_index xs (at + 2) * 256 + slice_index xs (at + 3) ≡ slice_index xs at * 16777216 + slice_index xs (at + 1) * 65536 + slice_index xs (at + 1 + 1) * 256 + slice_index_or xs (at + 1 + 1 + 1) 0 =
    ap (λ k. slice_index xs at * 16777216 + slice_index xs (at + 1) * 65536 + slice_index xs k * 256 + slice_index xs (at + 3)) (sym e₂) ∙ ap (λ k. slice_index xs at * 16777216 + slice_index xs (at + 1) * 65536 + slice_index xs (at + 1 + 1) * 256 + slice_index xs k) (sym e₃) in
    f ∙ d ∙ sym e

pub length-bytes_of : (n v : ℕ) → length (bytes_of n v) ≡ n
length-bytes_of zero v = refl
length-bytes_of (suc n) v = ap suc (length-bytes_of n (v % 256 ^ n))

-- the number that a number's bytes write is that number
pub number_bytes_of : (n v : ℕ) → v < 256 ^ n → big_endian (bytes_of n v) ≡ v
number_bytes_of zero v h = omega arith
number_bytes_of (suc n) v h =
    let pos : 0 < 256 ^ n = pow_pos n in
    ap (λ k. v / 256 ^ n * 256 ^ k + big_endian (bytes_of n (v % 256 ^ n))) (length-bytes_of n (v % 256 ^ n))
    ∙ ap (λ k. v / 256 ^ n * 256 ^ n + k) (number_bytes_of n (v % 256 ^ n) (mod-lt v pos))
    ∙ div-add-mod' v (256 ^ n)

pub big_endian_lt : (bs : List ℕ) → Bytes bs → big_endian bs < 256 ^ length bs
big_endian_lt [] h = omega arith
big_endian_lt (b ∷ bs) h =
    let ih = big_endian_lt bs h.1 in
    let top : suc b * 256 ^ length bs ≤ 256 * 256 ^ length bs = mul-le-mul_right (256 ^ length bs) h.0 in
    omega (arith, suc-mul b (256 ^ length bs), pow-suc 256 (length bs), mul_comm 256 (256 ^ length bs))

-- the bytes of the number that some bytes write are those bytes
pub bytes_of_number : (bs : List ℕ) → Bytes bs → bytes_of (length bs) (big_endian bs) ≡ bs
bytes_of_number [] h = refl
bytes_of_number (b ∷ bs) h =
    let pos : 0 < 256 ^ length bs = pow_pos (length bs) in
    let low : big_endian bs < 256 ^ length bs = big_endian_lt bs h.1 in
    let first : (b * 256 ^ length bs + big_endian bs) / 256 ^ length bs ≡ b = mul-add-div_right pos b (big_endian bs) ∙ ap (λ k. b + k) (div-eq_of_lt low) ∙ add-zero b in
    let rest : (b * 256 ^ length bs + big_endian bs) % 256 ^ length bs ≡ big_endian bs = mul-add-mod_self_right b (256 ^ length bs) (big_endian bs) ∙ mod-eq_of_lt low in
    ap (λ k. k ∷ bytes_of (length bs) ((b * 256 ^ length bs + big_endian bs) % 256 ^ length bs)) first ∙ ap (λ k. b ∷ bytes_of (length bs) k) rest ∙ ap (λ t. b ∷ t) (bytes_of_number bs h.1)
