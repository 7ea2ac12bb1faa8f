-- Lists whose numbers rise strictly, by places. Assumes nothing.
use Rattle.std.proofs.Common.{◌≡◌, ℕ, zero, suc, ◌<◌, true, ltb, List, [], ◌∷◌, length, get_or, refl, arith}
use Rattle.std.proofs.lemmas.Bool.{and_parts, ltb-true}
use Rattle.register.specs.Kept.{rises_from, rises}

module _ {A : Type 0} (key : A → ℕ) (d : A) where
  pub rises_behind : (b : ℕ) (xs : List A) → rises_from key b xs ≡ true → rises key xs ≡ true
  rises_behind b [] h = refl
  rises_behind b (x ∷ xs) h = (and_parts (ltb b (key x)) (rises_from key (key x) xs) h).1

  pub above_before : (b : ℕ) (xs : List A) → rises_from key b xs ≡ true → (j : ℕ) → j < length xs → b < key (get_or xs j d)
  above_before b [] h j l = absurd (omega arith)
  above_before b (x ∷ xs) h zero l = ltb-true b (key x) (and_parts (ltb b (key x)) (rises_from key (key x) xs) h).0
  above_before b (x ∷ xs) h (suc j) l =
      let p = and_parts (ltb b (key x)) (rises_from key (key x) xs) h in
      omega (arith, ltb-true b (key x) p.0, above_before (key x) xs p.1 j (omega arith))

  -- of two places, the later has the larger number
  pub in_order : (xs : List A) → rises key xs ≡ true → (i j : ℕ) → i < j → j < length xs → key (get_or xs i d) < key (get_or xs j d)
  in_order [] h i j l m = absurd (omega arith)
  in_order (x ∷ xs) h i zero l m = absurd (omega arith)
  in_order (x ∷ xs) h zero (suc j) l m = above_before (key x) xs h j (omega arith)
  in_order (x ∷ xs) h (suc i) (suc j) l m = in_order xs (rises_behind (key x) xs h) i j (omega arith) (omega arith)
