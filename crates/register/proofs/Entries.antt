-- Start-up pairs and ramp rows, by what is answered of the first and of each behind another. Assumes nothing.
use Rattle.std.proofs.Common.{◌≡◌, ℕ, zero, suc, ◌+◌, ◌<◌, Bool, true, false, ◌&&◌, eqb, ltb, List, [], ◌∷◌, length, get_or, Some, None, Option, MatchOption, Bor, sym, refl, ap, ◌∙◌, arith}
use Rattle.std.specs.List.{IsAllAdjacentAnswer, slice_get}
use Rattle.std.specs.Option.{option_copied}
use Rattle.std.proofs.lemmas.Bool.{and_from, and_left, and_right}
use Rattle.wire.specs.Rows.{all_held}
use Rattle.register.specs.declared.data.StartUpLimit.{StartUpLimit}
use Rattle.register.specs.declared.data.RampLimits.{RampLimits}
use Rattle.register.specs.Kept.{rises_from, is_limit, may_be_first, may_follow, start_up_kept, is_row, ramp_kept}
use Rattle.register.specs.RowKeeps.{some_same, none_some}

module _ {A : Type 0} (starts : A → Bool) (follows : A → A → Bool) where
  -- each of a list follows the one before it, and the first follows this one
  abbrev pub all_follow : A → List A → Bool
  all_follow b [] = true
  all_follow b (x ∷ xs) = follows b x && all_follow x xs

  -- the first may stand there, and each other follows the one before it
  abbrev pub all_stand : List A → Bool
  all_stand [] = true
  all_stand (x ∷ xs) = starts x && all_follow x xs

  follow_where : (b : A) (xs : List A) → ((k : ℕ) (d : A) → k + 1 < length (b ∷ xs) → follows (get_or (b ∷ xs) k d) (get_or (b ∷ xs) (k + 1) d) ≡ true) → all_follow b xs ≡ true
  follow_where b [] h = refl
  follow_where b (x ∷ xs) h = and_from _ _ (h 0 b (omega arith))
      (follow_where x xs (λ k d lt. let next : suc k + 1 ≡ suc (k + 1) = omega arith in ap (λ j. follows (get_or (b ∷ x ∷ xs) (suc k) d) (get_or (b ∷ x ∷ xs) j d)) (sym next) ∙ h (suc k) d (omega arith)))

  fails_where : (b : A) (xs : List A) (k : ℕ) (d : A) → k + 1 < length (b ∷ xs) → follows (get_or (b ∷ xs) k d) (get_or (b ∷ xs) (k + 1) d) ≡ false → all_follow b xs ≡ false
  fails_where b [] k d lt h = absurd (omega arith)
  fails_where b (x ∷ xs) zero d lt h = and_left _ _ h
  fails_where b (x ∷ xs) (suc k) d lt h =
      let next : suc k + 1 ≡ suc (k + 1) = omega arith in
      and_right _ _ (fails_where x xs k d (omega arith) (ap (λ j. follows (get_or (b ∷ x ∷ xs) (suc k) d) (get_or (b ∷ x ∷ xs) j d)) (sym next) ∙ h))

  followed : (b : A) (xs : List A) (r : Bool) → IsAllAdjacentAnswer (λ x y v. v ≡ follows x y) (b ∷ xs) r → r ≡ all_follow b xs
  followed b xs true h = sym (follow_where b xs (λ k d lt. sym (h k d lt)))
  followed b xs false h = sym (fails_where b xs h.0 b h.1 (sym (h.2 b)))

  -- the first may stand there, if there is one
  abbrev pub first_may : List A → Bool
  first_may [] = true
  first_may (x ∷ xs) = starts x

  pub first_answered : {P : Bor A → Type 0} (xs : List A) (o : Option (Bor A)) (r : Bool) → option_copied o ≡ slice_get xs 0 → MatchOption o (r ≡ true) P → ((x : Bor A) → P x → r ≡ starts x.now) → r ≡ first_may xs
  first_answered [] None r e m k = m
  first_answered [] (Some x) r e m k = absurd (none_some x.now (sym e))
  first_answered (y ∷ ys) None r e m k = absurd (none_some y e)
  first_answered (y ∷ ys) (Some x) r e m k = k x m ∙ ap starts (some_same e)

  pub all_answered : (xs : List A) → first_may xs ≡ true → (r : Bool) → IsAllAdjacentAnswer (λ x y v. v ≡ follows x y) xs r → r ≡ all_stand xs
  all_answered [] h true w = refl
  all_answered [] h false w = absurd (omega (arith, w.1))
  all_answered (x ∷ xs) h r w = followed x xs r w ∙ sym (ap (λ b. b && all_follow x xs) h)

pair_first : (l z a d h : Bool) → (l && z && (a && d && h)) ≡ (l && a && z && d && h)
pair_first false z a d h = refl
pair_first true false false d h = refl
pair_first true false true d h = refl
pair_first true true false d h = refl
pair_first true true true d h = refl

pair_more : (l d h a dr hr : Bool) → (l && d && h && (a && dr && hr)) ≡ (l && a && (d && dr) && (h && hr))
pair_more false d h a dr hr = refl
pair_more true false h false dr hr = refl
pair_more true false h true dr hr = refl
pair_more true true false false dr hr = refl
pair_more true true true false dr hr = refl
pair_more true true false true false hr = refl
pair_more true true false true true hr = refl
pair_more true true true true dr hr = refl

row_first : (z i a d : Bool) → (z && i && (a && d)) ≡ (i && a && z && d)
row_first false false a d = refl
row_first false true false d = refl
row_first false true true d = refl
row_first true false a d = refl
row_first true true false d = refl
row_first true true true d = refl

row_more : (d i a dr : Bool) → (d && i && (a && dr)) ≡ (i && a && (d && dr))
row_more false false a dr = refl
row_more false true false dr = refl
row_more false true true dr = refl
row_more true false a dr = refl
row_more true true a dr = refl

-- start-up pairs are tested as they are defined
pairs_follow : (b : StartUpLimit) (xs : List StartUpLimit) → all_follow may_be_first may_follow b xs ≡ (all_held is_limit xs && rises_from (λ p. p.down_time) b.down_time xs && rises_from (λ p. p.highest) b.highest xs)
pairs_follow b [] = refl
pairs_follow b (x ∷ xs) = ap (λ t. may_follow b x && t) (pairs_follow x xs) ∙ pair_more (is_limit x) _ _ (all_held is_limit xs) _ _

pub pairs_stand : (xs : List StartUpLimit) → all_stand may_be_first may_follow xs ≡ start_up_kept xs
pairs_stand [] = refl
pairs_stand (x ∷ xs) = ap (λ t. may_be_first x && t) (pairs_follow x xs) ∙ pair_first (is_limit x) _ (all_held is_limit xs) _ _

-- and so are ramp rows
module _ (pmin pmax : ℕ) where
  abbrev pub row_may_be_first : RampLimits → Bool
  row_may_be_first r = eqb r.level pmin && is_row pmax r

  abbrev pub row_may_follow : RampLimits → RampLimits → Bool
  row_may_follow b r = ltb b.level r.level && is_row pmax r

  rows_follow : (b : RampLimits) (xs : List RampLimits) → all_follow row_may_be_first row_may_follow b xs ≡ (all_held (is_row pmax) xs && rises_from (λ r. r.level) b.level xs)
  rows_follow b [] = refl
  rows_follow b (x ∷ xs) = ap (λ t. row_may_follow b x && t) (rows_follow x xs) ∙ row_more _ (is_row pmax x) (all_held (is_row pmax) xs) _

  pub rows_stand : (xs : List RampLimits) → all_stand row_may_be_first row_may_follow xs ≡ ramp_kept pmin pmax xs
  rows_stand [] = refl
  rows_stand (x ∷ xs) = ap (λ t. row_may_be_first x && t) (rows_follow x xs) ∙ row_first _ (is_row pmax x) (all_held (is_row pmax) xs) _
