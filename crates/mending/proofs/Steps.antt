-- Steps of a curve: the last one, one more, and the price and end at which they stop. Assumes nothing.
use Rattle.std.proofs.Common.{Some, Option, ◌≡◌, ℕ, suc, ◌+◌, ◌-◌, ◌<◌, ◌≤◌, min, Bool, true, false, ltb, leb, List, [], ◌∷◌, ◌++◌, length, get_or, set, replicate, ℤ, Ok, Err, Result, sym, refl, ap, ◌∙◌, subst, append_assoc, w32, to_z, of_z, SFits, arith}
use lib.Signed.{le_z}
use Rattle.std.specs.List.{slice_get}
use Rattle.std.specs.Option.{option_map_or}
use Rattle.std.proofs.lemmas.Option.{slice_get-get_or}
use Rattle.std.proofs.lemmas.List.{set-append_left, set_at, length-append, length-set, get_or_append_left}
use Rattle.std.proofs.lemmas.Int.{to_z-of_z}
use Rattle.std.proofs.lemmas.Bool.{leb-true, and_parts, cond-true, cond-false, lt-ltb, le-ltb}
use Rattle.faults.specs.declared.Fault.{Fault}
use Rattle.faults.specs.declared.Fault.TheVariants.{Rule}
use Rattle.faults.specs.declared.RuleFault.TheVariants.{EleventhStep}
use Rattle.wire.specs.declared.counted.Counted.{Counted}
use Rattle.wire.specs.Reading.{is_count}
use Rattle.wire.specs.Rows.{entries, packed}
use Rattle.bid.specs.declared.components.Curve.{Curve}
use Rattle.bid.specs.declared.components.Step.{Step}
use Rattle.bid.specs.Fields.{step, curve, blank_step}
use Rattle.checks.specs.Terms.{end_of, steps_of}
use Rattle.mending.specs.Mending.{price_of, lengthened, extended_steps, steps_made, curve_made, extended, Tidy, is_tidy}
use Rattle.mending.proofs.Tidied.{tidy_so}

-- the price at which steps stop is that of the last one
pub price_last : (p : ℤ) (ss : List Step) → 0 < length ss → price_of p ss ≡ (get_or ss (length ss - 1) blank_step).price
price_last p [] h = absurd (omega arith)
price_last p (s ∷ []) h = refl
price_last p (s ∷ t ∷ ss) h =
    let e : suc (suc (length ss) - 1) ≡ suc (suc (length ss)) - 1 = omega arith in
    price_last s.price (t ∷ ss) (omega arith) ∙ ap (λ k. (get_or (s ∷ t ∷ ss) k blank_step).price) e

-- where steps end is where the last one does
pub end_last : (e : ℕ) (ss : List Step) → 0 < length ss → (get_or ss (length ss - 1) blank_step).end ≡ end_of e ss
end_last e [] h = absurd (omega arith)
end_last e (s ∷ []) h = refl
end_last e (s ∷ t ∷ ss) h =
    let i : suc (suc (length ss)) - 1 ≡ suc (suc (length ss) - 1) = omega arith in
    ap (λ k. (get_or (s ∷ t ∷ ss) k blank_step).end) i ∙ end_last s.end (t ∷ ss) (omega arith)

pub last_end : (e : ℕ) (ss : List Step) → option_map_or (λ s. s.end) (slice_get ss (length ss - 1)) e ≡ end_of e ss
last_end e [] = refl
last_end e (s ∷ ss) = ap (λ o. option_map_or (λ t. t.end) o e) (slice_get-get_or (s ∷ ss) (length (s ∷ ss) - 1) blank_step (omega arith)) ∙ end_last e (s ∷ ss) (omega arith)

-- to lengthen the last step is to set it
pub lengthened_last : (target : ℕ) (ss : List Step) → 0 < length ss → lengthened target ss ≡ set ss (length ss - 1) (step target (get_or ss (length ss - 1) blank_step).price)
lengthened_last target [] h = absurd (omega arith)
lengthened_last target (s ∷ []) h = refl
lengthened_last target (s ∷ t ∷ ss) h =
    let n : ℕ = length ss in
    let e : suc (suc n - 1) ≡ suc (suc n) - 1 = omega arith in
    ap (λ l. s ∷ l) (lengthened_last target (t ∷ ss) (omega arith))
    ∙ ap (λ k. set (s ∷ t ∷ ss) k (step target (get_or (s ∷ t ∷ ss) k blank_step).price)) e

-- steps as a curve keeps them: at least one, and zeros behind them
module _ (c : Counted Step 10) (counted : is_count 10 c.count ≡ true) (tidy : c ≡ packed blank_step 10 (entries c)) where
  ss : List Step
  ss = entries c

  count_is : c.count ≡ length ss
  unfolding ss
  count_is = ap (λ d. d.count) tidy

  rows_are : c.rows ≡ ss ++ replicate (10 - length ss) blank_step
  unfolding ss
  rows_are = ap (λ d. d.rows) tidy

  some : 0 < length ss
  some = subst (λ k. 0 < k) count_is (leb-true 1 c.count (and_parts (leb 1 c.count) (leb c.count (min 10 255)) counted).0)

  few : length ss ≤ 10
  few = subst (λ k. k ≤ 10) count_is (leb-true c.count 10 (and_parts (leb 1 c.count) (leb c.count (min 10 255)) counted).1)

  last_is : get_or c.rows (c.count - 1) blank_step ≡ get_or ss (length ss - 1) blank_step
  last_is =
      let inside : length ss - 1 < length ss = omega (arith, some) in
      ap (λ l. get_or l (c.count - 1) blank_step) rows_are ∙ ap (λ k. get_or (ss ++ replicate (10 - length ss) blank_step) (k - 1) blank_step) count_is ∙ get_or_append_left ss (replicate (10 - length ss) blank_step) blank_step (length ss - 1) inside

  price_is : (p : ℤ) → price_of p ss ≡ (get_or c.rows (c.count - 1) blank_step).price
  price_is p = price_last p ss some ∙ ap (λ s. s.price) (sym last_is)

  lengthens : (price : ℤ) (target : ℕ) → le_z price (get_or c.rows (c.count - 1) blank_step).price ≡ true
      → ◌≡◌ {A = Result (Counted Step 10) Fault} (Ok (record { count = c.count; rows = set c.rows (c.count - 1) (step target (get_or c.rows (c.count - 1) blank_step).price) })) (steps_made (extended_steps target price ss))
  lengthens price target h =
      let inside : length ss - 1 < length ss = omega (arith, some) in
      let x : Step = step target (get_or ss (length ss - 1) blank_step).price in
      let same : lengthened target ss ≡ set ss (length ss - 1) x = lengthened_last target ss some in
      let long : length (lengthened target ss) ≡ length ss = ap length same ∙ length-set ss (length ss - 1) x in
      let counts : c.count ≡ length (lengthened target ss) = count_is ∙ sym long in
      let rows : set c.rows (c.count - 1) (step target (get_or c.rows (c.count - 1) blank_step).price) ≡ lengthened target ss ++ replicate (10 - length (lengthened target ss)) blank_step =
      ap (λ y. set c.rows (c.count - 1) (step target y.price)) last_is ∙ ap (λ l. set l (c.count - 1) x) rows_are ∙ ap (λ k. set (ss ++ replicate (10 - length ss) blank_step) (k - 1) x) count_is
      ∙ set-append_left ss (replicate (10 - length ss) blank_step) (length ss - 1) x inside ∙ ap (λ l. l ++ replicate (10 - length ss) blank_step) (sym same) ∙ ap (λ k. lengthened target ss ++ replicate (10 - k) blank_step) (sym long) in
      (λ j. Ok (record { count = counts j; rows = rows j }))
      ∙ sym (ap steps_made (cond-true (le_z price (price_of price ss)) _ _ (ap (le_z price) (price_is price) ∙ h)))

  grows : (price : ℤ) (target : ℕ) → le_z price (get_or c.rows (c.count - 1) blank_step).price ≡ false → c.count < 10
      → ◌≡◌ {A = Result (Counted Step 10) Fault} (Ok (record { count = c.count + 1; rows = set c.rows c.count (step target price) })) (steps_made (extended_steps target price ss))
  grows price target h room =
      let x : Step = step target price in
      let less : length ss < 10 = subst (λ k. k < 10) count_is room in
      let long : length (ss ++ x ∷ []) ≡ length ss + 1 = length-append ss (x ∷ []) in
      let counts : c.count + 1 ≡ length (ss ++ x ∷ []) = ap (λ k. k + 1) count_is ∙ sym long in
      let behind : replicate (10 - length ss) blank_step ≡ blank_step ∷ replicate (10 - (length ss + 1)) blank_step = (let e : 10 - length ss ≡ suc (10 - (length ss + 1)) = omega arith in ap (λ k. replicate k blank_step) e) in
      let rows : set c.rows c.count x ≡ (ss ++ x ∷ []) ++ replicate (10 - length (ss ++ x ∷ [])) blank_step =
      ap (λ l. set l c.count x) rows_are ∙ ap (λ k. set (ss ++ replicate (10 - length ss) blank_step) k x) count_is ∙ ap (λ l. set (ss ++ l) (length ss) x) behind
      ∙ set_at ss blank_step (replicate (10 - (length ss + 1)) blank_step) x (length ss) refl ∙ sym (append_assoc ss (x ∷ []) (replicate (10 - (length ss + 1)) blank_step)) ∙ ap (λ k. (ss ++ x ∷ []) ++ replicate (10 - k) blank_step) (sym long) in
      (λ j. Ok (record { count = counts j; rows = rows j }))
      ∙ sym (ap steps_made (cond-false (le_z price (price_of price ss)) _ _ (ap (le_z price) (price_is price) ∙ h) ∙ cond-true (ltb (length ss) 10) _ _ (lt-ltb (length ss) 10 less)))

  refuses : (price : ℤ) (target : ℕ) → le_z price (get_or c.rows (c.count - 1) blank_step).price ≡ false → 10 ≤ c.count
      → ◌≡◌ {A = Result (Counted Step 10) Fault} (Err (Rule EleventhStep 0)) (steps_made (extended_steps target price ss))
  refuses price target h full =
      sym (ap steps_made (cond-false (le_z price (price_of price ss)) _ _ (ap (le_z price) (price_is price) ∙ h) ∙ cond-false (ltb (length ss) 10) _ _ (le-ltb (length ss) 10 (subst (λ k. 10 ≤ k) count_is full))))

  pub extended_lengthens : (price : ℤ) (target : ℕ) → le_z price (get_or c.rows (c.count - 1) blank_step).price ≡ true
      → ◌≡◌ {A = Result (Counted Step 10) Fault} (Ok (record { count = c.count; rows = set c.rows (c.count - 1) (step target (get_or c.rows (c.count - 1) blank_step).price) })) (steps_made (extended_steps target price (entries c)))
  unfolding ss
  extended_lengthens = lengthens

  pub extended_grows : (price : ℤ) (target : ℕ) → le_z price (get_or c.rows (c.count - 1) blank_step).price ≡ false → c.count < 10
      → ◌≡◌ {A = Result (Counted Step 10) Fault} (Ok (record { count = c.count + 1; rows = set c.rows c.count (step target price) })) (steps_made (extended_steps target price (entries c)))
  unfolding ss
  extended_grows = grows

  pub extended_refuses : (price : ℤ) (target : ℕ) → le_z price (get_or c.rows (c.count - 1) blank_step).price ≡ false → 10 ≤ c.count
      → ◌≡◌ {A = Result (Counted Step 10) Fault} (Err (Rule EleventhStep 0)) (steps_made (extended_steps target price (entries c)))
  unfolding ss
  extended_refuses = refuses

-- a tidy curve is made to end at a target, or refused an eleventh step
module _ (o : Option Curve) (v : Curve) (is : o ≡ Some v) (kept : is_tidy o ≡ true) (from target : ℕ) (price : ℤ) (price_fits : SFits w32 price) (last_fits : SFits w32 (get_or v.steps.rows (v.steps.count - 1) blank_step).price) where
  abbrev Reads : Bool → Type 0
  Reads b = le_z (to_z w32 (of_z w32 price)) (to_z w32 (of_z w32 (get_or v.steps.rows (v.steps.count - 1) blank_step).price)) ≡ b

  told : (b : Bool) → Reads b → le_z price (get_or v.steps.rows (v.steps.count - 1) blank_step).price ≡ b
  told b h = simp to_z-of_z at h

  tidy : Tidy (Some v)
  tidy = subst Tidy is (tidy_so o kept)

  whole : {r : Result (Counted Step 10) Fault} → r ≡ steps_made (extended_steps target price (steps_of v)) → curve_made v.start r ≡ extended from target price o
  whole e = ap (curve_made v.start) e ∙ ap (extended from target price) (sym is)

  pub curve_lengthened : Reads true → ◌≡◌ {A = Result (Option Curve) Fault} (Ok (Some (curve v.start (record { count = v.steps.count; rows = set v.steps.rows (v.steps.count - 1) (step target (get_or v.steps.rows (v.steps.count - 1) blank_step).price) })))) (extended from target price o)
  curve_lengthened h = whole (extended_lengthens v.steps tidy.0 tidy.1 price target (told true h))

  pub curve_grown : Reads false → v.steps.count < 10 → ◌≡◌ {A = Result (Option Curve) Fault} (Ok (Some (curve v.start (record { count = v.steps.count + 1; rows = set v.steps.rows v.steps.count (step target price) })))) (extended from target price o)
  curve_grown h room = whole (extended_grows v.steps tidy.0 tidy.1 price target (told false h) room)

  pub eleventh_refused : Reads false → 10 ≤ v.steps.count → ◌≡◌ {A = Result (Option Curve) Fault} (Err (Rule EleventhStep 0)) (extended from target price o)
  eleventh_refused h full = whole (extended_refuses v.steps tidy.0 tidy.1 price target (told false h) full)
