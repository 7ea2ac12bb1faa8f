-- Each fault is answered exactly when its condition holds first. Assumes nothing.
use Rattle.std.proofs.Common.{◌≡◌, ℕ, zero, suc, ◌+◌, ◌-◌, ◌*◌, ◌%◌, ◌<◌, ◌≤◌, min, Bool, true, false, cond, not, ◌&&◌, eqb, ltb, ◌⊎◌, List, [], ◌∷◌, ◌++◌, map, length, get_or, drop, ℤ, pos, ◌<ℤ◌, Some, None, Ok, Err, Decides, Option, Result, sym, refl, ap, ◌∙◌, subst, inl, inr, add-one, arith}
use lib.Signed.{le_z}
use Rattle.std.proofs.lemmas.List.{drop_more, drop_all, length-map}
use Rattle.std.proofs.lemmas.Bool.{cases_lt, cases_eq, cases_order, cond_both}
use Rattle.std.proofs.lemmas.Bool.Decides.{nat_tests, Decides-eqb, Decides-ltb, Decides-not, Decides-or, Decides-and, Decides-like}
use Rattle.std.specs.Int.{int_min}
use Rattle.faults.specs.Answers.{answer_of, answered, result_answer, rule_number}
use Rattle.faults.specs.declared.Fault.{Fault}
use Rattle.faults.specs.declared.Fault.TheVariants.{Register, Rule}
use Rattle.faults.specs.declared.RegisterFault.TheVariants.{NotTheOwner, NoSuchHour}
use Rattle.faults.specs.declared.RuleFault.{RuleFault}
use Rattle.faults.specs.declared.RuleFault.TheVariants.{SelfSchedule, CurveStart, StepEnd, StepPrice, Service as ServiceFault, StartUp as StartUpFault, Ramp as RampFault, ReserveAboveTop, EleventhStep}
use Rattle.wire.specs.Rows.{entries}
use Rattle.wire.specs.CountedRows.{entries-packed}
use Rattle.bid.specs.declared.components.Components.{Components}
use Rattle.bid.specs.declared.components.Curve.{Curve}
use Rattle.bid.specs.declared.components.Ramp.{Ramp}
use Rattle.bid.specs.declared.components.RampPair.{RampPair}
use Rattle.bid.specs.declared.components.Service.{Service}
use Rattle.bid.specs.declared.components.Services.{Services}
use Rattle.bid.specs.declared.components.StartUp.{StartUp}
use Rattle.bid.specs.declared.components.StartUpPair.{StartUpPair}
use Rattle.bid.specs.declared.components.Step.{Step}
use Rattle.bid.specs.Fields.{step, blank_step, is_blank_step, blank_start_up_pair, blank_ramp_pair}
use Rattle.bid.specs.Kept.{keeps}
use Rattle.bid.specs.FieldLaws.{step_blanks}
use Rattle.register.specs.declared.data.Card.{Card}
use Rattle.register.specs.declared.data.RampLimits.{RampLimits}
use Rattle.register.specs.declared.data.StartUpLimit.{StartUpLimit}
use Rattle.register.specs.Cards.{blank_limit, blank_limits}
use Rattle.register.specs.Meaning.{Meaning}
use Rattle.checks.specs.Checks.{Passed, first_broken, checks, filing_checks, self_schedule_checks, step_checks, curve_checks, service_checks, pair_checks, start_up_checks, row_checks, ramp_checks}
use Rattle.rule_laws.specs.Exactly.{Breaks, not_held, not_owner, no_hour, schedule, start, step_end, step_price, service, start_up_count, start_up_pair, ramp_count, ramp_pair, reserves, eleventh, step_at, pair_at, service_at, certified_at, remaining, turn, layer_of, BreaksFirst, ExactlyThen, TellsLayers}
use Rattle.rule_laws.specs.Judging.{after_checks, ruled_by, ruled}
use Rattle.mending.specs.Mending.{curve_of, capped_step, capped, reserve, has_energy, mended_services, price_of, lengthened, extended_steps, steps_made, curve_made, extended, reached, row_made, mended}
use Rattle.checks.specs.Passing.{in_turn, checks_passed}
use Rattle.checks.specs.Terms.{top, base, ceiling, extension_price, quantity_of, need, end_of, steps_of, curve_end}
use Rattle.checks.proofs.Broken.{checks_passed_lem}
use Rattle.rule_laws.proofs.Deciding.{before, least, decides_lt_z, decides_above, decides_full, decides_leb, decides_end, decides_price, decides_pair, decides_row}
use Rattle.rule_laws.proofs.Layers.{layer_known}
use Rattle.rule_laws.proofs.Sayings.{by_some, by_none, Says, PairBroken, RowBroken, PlaceBroken, says, few_steps, few_pairs_lem, few_rows_lem, known}
use Rattle.rule_laws.proofs.Turns.{Known, alike_number, alike_place, known_at, number_at, Clear, Tells, tells_later, tells_next, tells_check, tells_each}

-- the numbers that have their turns within bounds
curve_numbers : (t : ℕ) → 5 ≤ t → t < 25 → (number_at t ≡ 11) ⊎ (number_at t ≡ 12)
curve_numbers t low high =
    let e : number_at t ≡ 11 + (t - 5) % 2 = grind (arith, nat_tests) in
    elim (cases_eq ((t - 5) % 2) 0) [ inl z ↦ inl (omega arith) | inr z ↦ inr (omega arith) ]

-- two lists side by side, from a place on; where one of them ends, nothing more is read
module _ {X Y Z : Type 0} (x : X) (y : Y) (F : List X → List Y → Z) (xs : List X) (ys : List Y) where
  both_more : (k : ℕ) → k < length xs → k < length ys → F (get_or xs k x ∷ drop (suc k) xs) (get_or ys k y ∷ drop (suc k) ys) ≡ F (drop k xs) (drop k ys)
  both_more k lt lt' =
      let e₁ : drop k xs ≡ get_or xs k x ∷ drop (suc k) xs = drop_more xs k x lt ∙ ap (λ i. get_or xs k x ∷ drop i xs) (add-one k) in
      let e₂ : drop k ys ≡ get_or ys k y ∷ drop (suc k) ys = drop_more ys k y lt' ∙ ap (λ i. get_or ys k y ∷ drop i ys) (add-one k) in
      sym (λ j. F (e₁ j) (e₂ j))

  both_all : (z : Z) → ((l : List Y) → z ≡ F [] l) → ((h : X) (l : List X) → z ≡ F (h ∷ l) []) → z ≡ F (drop (min (length xs) (length ys)) xs) (drop (min (length xs) (length ys)) ys)
  both_all z none only =
      let k : ℕ = min (length xs) (length ys) in
      elim (cases_lt (length ys) (length xs)) [
        | inl lt ↦ rest (drop k xs) ∙ ap (F (drop k xs)) (sym (drop_all k ys (omega arith)))
        | inr le ↦ none (drop k ys) ∙ ap (λ l. F l (drop k ys)) (sym (drop_all k xs (omega arith)))
      ]
    where
      rest : (l : List X) → z ≡ F l []
      rest [] = none []
      rest (h ∷ l) = only h l

-- the one step or pair that has a place
at_place : {P : ℕ → Type 0} (count k : ℕ) → ((j : ℕ) × (k + 1 ≡ j + 1) × (j < count) × P j) → P k
at_place {P = P} count k w = let e : w.0 ≡ k = omega (arith, w.1) in subst P e w.3

-- what the reserves that remain need
need-remaining : (c : Card) (b : Components) → need (mended_services c b) ≡ remaining b
need-remaining c b = both (has_energy b) b.services.spinning b.services.non_spinning
  where
    both : (energy : Bool) (s t : Option Service) → quantity_of (reserve energy s) + quantity_of (reserve energy t) ≡ cond energy (quantity_of s + quantity_of t) 0
    both true s t = refl
    both false s t = refl

end-capped : (limit : ℤ) (from : ℕ) (ss : List Step) → end_of from (map (capped_step limit) ss) ≡ end_of from ss
end-capped limit from [] = refl
end-capped limit from (s ∷ ss) = end-capped limit s.end ss

price_capped : (limit p : ℤ) (ss : List Step) (k : ℕ) → length ss ≡ suc k → price_of p (map (capped_step limit) ss) ≡ int_min (get_or ss k blank_step).price limit
price_capped limit p [] k e = absurd (omega arith)
price_capped limit p (s ∷ []) zero e = refl
price_capped limit p (s ∷ []) (suc k) e = absurd (omega arith)
price_capped limit p (s ∷ t ∷ ss) zero e = absurd (omega arith)
price_capped limit p (s ∷ t ∷ ss) (suc k) e = price_capped limit (int_min s.price limit) (t ∷ ss) k (omega arith)

-- extending a curve fails exactly when it ends too low, its last price is too low, and there is no room
extended_is : (from : ℕ) (fault : Fault) (low keep room : Bool) (xs ys : List Step) (v : Option Curve)
    → cond (low && (not keep && not room)) (Err fault) (Ok (cond low (Some (cond keep (curve_of from xs) (curve_of from ys))) v)) ≡ cond low (curve_made from (steps_made (cond keep (Ok xs) (cond room (Ok ys) (Err fault))))) (Ok v)
extended_is from fault false keep room xs ys v = refl
extended_is from fault true true room xs ys v = refl
extended_is from fault true false true xs ys v = refl
extended_is from fault true false false xs ys v = refl

module _ (coordinator : ℕ) (m : Meaning) (b : Components) (bk : keeps b ≡ true) where
  abbrev Broken : ℕ → ℕ → Type 0
  Broken = Breaks coordinator m b

  knows : (n p : ℕ) → Broken n p → Known n p
  knows = known coordinator m b bk

  abbrev Told : {A : Type 0} → ℕ → ℕ → Result A Fault → Type 0
  Told = Tells Broken knows

  -- what a condition says, by the number that its turn has
  said : (n p x : ℕ) → Broken n p → number_at (turn n p) ≡ x → Says coordinator m b x p
  said n p x h e = says coordinator m b x p (subst (λ y. Broken y p) (sym (knows n p h).number ∙ e) h)

  turn_of : (n p x : ℕ) → Broken n p → number_at (turn n p) ≡ x → turn n p ≡ turn x p
  turn_of n p x h e = ap (λ y. turn y p) (sym (knows n p h).number ∙ e)

  -- counts that have to agree, and then each pair beside the card's in turn, for a fault whose turns are those from one up to another
  module _ (f : RuleFault) (from upto count limits : ℕ) (Row : ℕ → Type 0) (test : ℕ → Bool) (rows : ℕ → Passed)
      (turns : (p : ℕ) → turn (rule_number f) p ≡ from + p) (numbers : (t : ℕ) → from ≤ t → t < upto → number_at t ≡ rule_number f) (own : (p : ℕ) → from + p < upto → Known (rule_number f) p) (few : from + count < upto)
      (decides : (k : ℕ) → Decides (test k) (Row k)) (breaks : (p : ℕ) → PlaceBroken count limits Row p → Broken (rule_number f) p) (broken : (p : ℕ) → Broken (rule_number f) p → PlaceBroken count limits Row p)
      (opens : (k : ℕ) → k < count → k < limits → cond (test k) (Err (Rule f (k + 1))) (rows (suc k)) ≡ rows k) (ends : Ok tt ≡ rows (min count limits)) where
    row_broken : (k : ℕ) → PlaceBroken count limits Row (k + 1) → Row k
    row_broken k h = elim h [ inl x ↦ absurd (omega (arith, x.0)) | inr w ↦ (let e : w.0 ≡ k = omega (arith, w.1) in subst Row e w.4) ]

    count_broken : PlaceBroken count limits Row 0 → count ≡ limits → ⊥
    count_broken h = elim h [ inl x ↦ x.1 | inr w ↦ absurd (omega (arith, w.1)) ]

    told_row : (k : ℕ) → k < min count limits → Told (from + 1 + 1 * suc k) upto (rows (suc k)) → Told (from + 1 + 1 * k) upto (rows k)
    told_row k lt rest =
        let lt₁ : k < count = omega arith in
        let lt₂ : k < limits = omega arith in
        subst (Told (from + 1 + 1 * k) upto) (opens k lt₁ lt₂)
        (tells_check Broken knows (from + 1 + 1 * k) upto (Rule f (k + 1)) (test k) (rows (suc k)) (own (k + 1) (omega arith)) (turns (k + 1) ∙ omega arith) (omega arith)
        (Decides-like (test k) (λ h. breaks (k + 1) (inr (k, refl, lt₁, lt₂, h))) (λ h. row_broken k (broken (k + 1) h)) (decides k))
        (subst (λ t. Told t upto (rows (suc k))) (omega arith) rest))

    no_row : Clear Broken knows (from + 1 + 1 * min count limits) upto
    no_row n p low high h =
        let e : n ≡ rule_number f = sym (knows n p h).number ∙ numbers (turn n p) (omega arith) high in
        let t : turn n p ≡ from + p = ap (λ x. turn x p) e ∙ turns p in
        elim (broken p (subst (λ x. Broken x p) e h)) [ inl x ↦ omega (arith, x.0) | inr w ↦ omega (arith, w.1, w.2, w.3) ]

    told_places : Told from upto (cond (not (eqb count limits)) (Err (Rule f 0)) (rows 0))
    told_places =
        tells_check Broken knows from upto (Rule f 0) (not (eqb count limits)) (rows 0) (own 0 (omega arith)) (turns 0 ∙ omega arith) (omega arith)
        (Decides-like _ (λ h. breaks 0 (inl (refl, h))) (λ h. count_broken (broken 0 h)) (Decides-not _ (Decides-eqb count limits)))
        (subst (λ t. Told t upto (rows 0)) (omega arith)
        (tells_each Broken knows rows (from + 1) 1 upto (min count limits) told_row (subst (Told (from + 1 + 1 * min count limits) upto) ends no_row)))

  module _ (c : Card) (held : m.cards b.resource ≡ Some c) where
    told_filing : Told 1 3 (first_broken (filing_checks coordinator m.day c b))
    told_filing =
        tells_check Broken knows 1 3 (Register NotTheOwner 0) _ _ (known_at 7 0 (omega arith) (omega arith) (omega arith) (omega arith)) refl (omega arith)
        (Decides-like _ (λ h. not_owner c held h) (λ h. by_some held (says coordinator m b 7 0 h)) (Decides-not _ (Decides-eqb coordinator c.owner)))
        (tells_check Broken knows 2 3 (Register NoSuchHour 0) _ _ (known_at 8 0 (omega arith) (omega arith) (omega arith) (omega arith)) refl (omega arith)
        (Decides-like _ (λ h. no_hour c held h) (λ h. by_some held (says coordinator m b 8 0 h)) (Decides-or _ _ (Decides-eqb b.hour 0) (Decides-ltb m.day.hours b.hour)))
        (λ n p low high. absurd (omega arith)))

    told_schedule : (o : Option ℕ) → b.self_schedule ≡ o → Told 3 4 (first_broken (self_schedule_checks c o))
    told_schedule None f = λ n p low high h. by_none f (by_some held (said n p 9 h (grind (arith, nat_tests))))
    told_schedule (Some q) f =
        tells_check Broken knows 3 4 (Rule SelfSchedule 0) _ _ (known_at 9 0 (omega arith) (omega arith) (omega arith) (omega arith)) refl (omega arith)
        (Decides-like _ (λ h. schedule c held q f h) (λ h. by_some f (by_some held (says coordinator m b 9 0 h))) (Decides-or _ _ (Decides-ltb q c.pmin) (Decides-ltb (top c) q)))
        (λ n p low high. absurd (omega arith))

    -- each step in turn, with what stands before it
    module _ (v : Curve) (f : b.curve ≡ Some v) where
      steps : ℕ → Passed
      steps k = first_broken (step_checks (top c) m.day (k + 1) (before m.day v k) (drop k (steps_of v)))

      told-step : (k : ℕ) → k < length (steps_of v) → Told (5 + 2 * suc k) 25 (steps (suc k)) → Told (5 + 2 * k) 25 (steps k)
      unfolding steps before
      told-step k lt rest =
          let ss : List Step = steps_of v in
          let few = few_steps b bk v f in
          let rest₁ : Told (5 + 2 * (k + 1)) 25 (first_broken (step_checks (top c) m.day (k + 1 + 1) (step_at v k) (drop (k + 1) ss))) =
          subst (λ i. Told (5 + 2 * i) 25 (first_broken (step_checks (top c) m.day (i + 1) (step_at v k) (drop i ss)))) (sym (add-one k)) rest in
          let rest₂ : Told (5 + 2 * k + 1 + 1) 25 (first_broken (step_checks (top c) m.day (k + 1 + 1) (step_at v k) (drop (k + 1) ss))) =
          subst (λ t. Told t 25 (first_broken (step_checks (top c) m.day (k + 1 + 1) (step_at v k) (drop (k + 1) ss)))) (omega arith) rest₁ in
          subst (λ l. Told (5 + 2 * k) 25 (first_broken (step_checks (top c) m.day (k + 1) (before m.day v k) l))) (sym (drop_more ss k blank_step lt))
          (tells_check Broken knows (5 + 2 * k) 25 (Rule StepEnd (k + 1)) _ _ (known_at 11 (k + 1) (omega arith) (omega arith) (omega arith) (omega arith)) (omega arith) (omega arith)
          (Decides-like _ (λ h. step_end c held v f k lt h) (λ h. at_place _ k (by_some f (by_some held (says coordinator m b 11 (k + 1) h)))) (decides_end m.day c v k))
          (tells_check Broken knows (5 + 2 * k + 1) 25 (Rule StepPrice (k + 1)) _ _ (known_at 12 (k + 1) (omega arith) (omega arith) (omega arith) (omega arith)) (omega arith) (omega arith)
          (Decides-like _ (λ h. step_price c held v f k lt h) (λ h. at_place _ k (by_some f (by_some held (says coordinator m b 12 (k + 1) h)))) (decides_price m.day v k))
          rest₂))

      no_step : Clear Broken knows (5 + 2 * length (steps_of v)) 25
      no_step n p low high h = elim (curve_numbers (turn n p) (omega arith) high) [
        | inl e ↦ (let w = by_some f (by_some held (said n p 11 h e)) in omega (arith, w.1, w.2, turn_of n p 11 h e))
        | inr e ↦ (let w = by_some f (by_some held (said n p 12 h e)) in omega (arith, w.1, w.2, turn_of n p 12 h e))
      ]

      told_steps : Told 5 25 (steps 0)
      unfolding steps
      told_steps =
          let count : ℕ = length (steps_of v) in
          tells_each Broken knows steps 5 2 25 count told-step
          (subst (λ l. Told (5 + 2 * count) 25 (first_broken (step_checks (top c) m.day (count + 1) (before m.day v count) l))) (sym (drop_all count (steps_of v) (omega arith))) no_step)

    told-curve : (o : Option Curve) → b.curve ≡ o → Told 4 25 (first_broken (curve_checks (base c b) (top c) m.day o))
    unfolding steps before
    told-curve None f = λ n p low high h. elim (cases_lt (turn n p) 5) [
      | inl lt ↦ by_none f (by_some held (said n p 10 h (grind (arith, nat_tests))))
      | inr le ↦ elim (curve_numbers (turn n p) le high) [ inl e ↦ by_none f (by_some held (said n p 11 h e)) | inr e ↦ by_none f (by_some held (said n p 12 h e)) ]
    ]
    told-curve (Some v) f =
        tells_check Broken knows 4 25 (Rule CurveStart 0) _ _ (known_at 10 0 (omega arith) (omega arith) (omega arith) (omega arith)) refl (omega arith)
        (Decides-like _ (λ h. start c held v f h) (λ h. by_some f (by_some held (says coordinator m b 10 0 h))) (Decides-not _ (Decides-eqb v.start (base c b))))
        (told_steps v f)

    told-service : (k : ℕ) → 1 ≤ k → k ≤ 4 → (o : Option Service) → service_at b.services k ≡ o → Told (24 + k) (25 + k) (first_broken (service_checks m.day k (certified_at c k) o))
    told-service k some few None f = λ n p low high h.
        let e : number_at (turn n p) ≡ 13 = grind (arith, nat_tests) in
        let place : p ≡ k = omega (arith, turn_of n p 13 h e) in
        by_none (ap (service_at b.services) place ∙ f) (by_some held (said n p 13 h e))
    told-service k some few (Some s) f =
        tells_check Broken knows (24 + k) (25 + k) (Rule ServiceFault k) _ _ (known_at 13 k (omega arith) (omega arith) some few) refl (omega arith)
        (Decides-like _ (λ h. service c held k s f h) (λ h. by_some f (by_some held (says coordinator m b 13 k h)))
        (Decides-or _ _ (Decides-or _ _ (Decides-ltb (certified_at c k) s.quantity) (decides_lt_z s.price (pos 0))) (decides_lt_z m.day.service_cap s.price)))
        (λ n p low high. absurd (omega arith))

    pair_breaks : (u : StartUp) → b.start_up ≡ Some u → (p : ℕ) → PlaceBroken (length (entries u.pairs)) (length (entries c.start_up)) (PairBroken c u) p → Broken 14 p
    pair_breaks u f p h = elim h [
      | inl x ↦ subst (Broken 14) (sym x.0) (start_up_count c held u f x.1)
      | inr w ↦ subst (Broken 14) (sym w.1) (start_up_pair c held u f w.0 w.2 w.3 w.4)
    ]

    row_breaks : (r : Ramp) → b.ramp ≡ Some r → (p : ℕ) → PlaceBroken (length (entries r.pairs)) (length (entries c.ramp)) (RowBroken c r) p → Broken 15 p
    row_breaks r f p h = elim h [
      | inl x ↦ subst (Broken 15) (sym x.0) (ramp_count c held r f x.1)
      | inr w ↦ subst (Broken 15) (sym w.1) (ramp_pair c held r f w.0 w.2 w.3 w.4)
    ]

    told-start_up : (o : Option StartUp) → b.start_up ≡ o → Told 29 33 (first_broken (start_up_checks (entries c.start_up) o))
    unfolding least
    told-start_up None f = λ n p low high h. by_none f (by_some held (said n p 14 h (grind (arith, nat_tests))))
    told-start_up (Some u) f =
        let ps : List StartUpPair = entries u.pairs in
        let ls : List StartUpLimit = entries c.start_up in
        told_places StartUpFault 29 33 (length ps) (length ls) (PairBroken c u) _ (λ k. first_broken (pair_checks (k + 1) (least u k) (drop k ps) (drop k ls)))
        (λ p. refl) (λ t low high. grind (arith, nat_tests)) (λ p lt. known_at 14 p (omega arith) (omega arith) (omega arith) (omega arith)) (omega (arith, few_pairs_lem b bk u f))
        (decides_pair c u) (pair_breaks u f) (λ p h. by_some f (by_some held (says coordinator m b 14 p h)))
        (λ k lt₁ lt₂. ap (cond _ (Err (Rule StartUpFault (k + 1)))) (ap (λ i. first_broken (pair_checks (i + 1) ((pair_at u k).cost + 1) (drop (suc k) ps) (drop (suc k) ls))) (sym (add-one k)))
        ∙ both_more blank_start_up_pair blank_limit (λ ps ls. first_broken (pair_checks (k + 1) (least u k) ps ls)) ps ls k lt₁ lt₂)
        (both_all blank_start_up_pair blank_limit (λ l l'. first_broken (pair_checks (min (length ps) (length ls) + 1) (least u (min (length ps) (length ls))) l l')) ps ls (Ok tt) (λ l. refl) (λ h l. refl))

    told-ramp : (o : Option Ramp) → b.ramp ≡ o → Told 33 38 (first_broken (ramp_checks (entries c.ramp) o))
    told-ramp None f = λ n p low high h. by_none f (by_some held (said n p 15 h (grind (arith, nat_tests))))
    told-ramp (Some r) f =
        let ps : List RampPair = entries r.pairs in
        let ls : List RampLimits = entries c.ramp in
        told_places RampFault 33 38 (length ps) (length ls) (RowBroken c r) _ (λ k. first_broken (row_checks (k + 1) (drop k ps) (drop k ls)))
        (λ p. refl) (λ t low high. grind (arith, nat_tests)) (λ p lt. known_at 15 p (omega arith) (omega arith) (omega arith) (omega arith)) (omega (arith, few_rows_lem b bk r f))
        (decides_row c r) (row_breaks r f) (λ p h. by_some f (by_some held (says coordinator m b 15 p h)))
        (λ k lt₁ lt₂. ap (cond _ (Err (Rule RampFault (k + 1)))) (ap (λ i. first_broken (row_checks (i + 1) (drop (suc k) ps) (drop (suc k) ls))) (sym (add-one k)))
        ∙ both_more blank_ramp_pair blank_limits (λ ps ls. first_broken (row_checks (k + 1) ps ls)) ps ls k lt₁ lt₂)
        (both_all blank_ramp_pair blank_limits (λ l l'. first_broken (row_checks (min (length ps) (length ls) + 1) l l')) ps ls (Ok tt) (λ l. refl) (λ h l. refl))

    decides_eleventh : (v : Curve) → b.curve ≡ Some v
        → Decides (ltb (end_of v.start (steps_of v)) (base c b + remaining b) && (not (le_z (extension_price m.day c) (price_of (extension_price m.day c) (map (capped_step (ceiling m.day c)) (steps_of v)))) && not (ltb (length (map (capped_step (ceiling m.day c)) (steps_of v))) 10))) (Broken 17 0)
    decides_eleventh v f =
        let price : ℤ = extension_price m.day c in
        let limit : ℤ = ceiling m.day c in
        let xs : List Step = map (capped_step limit) (steps_of v) in
        let long : length xs ≡ length (steps_of v) = length-map (steps_of v) (capped_step limit) in
        let few = few_steps b bk v f in
        let last : length (steps_of v) ≡ 10 → price_of price xs ≡ int_min (step_at v 9).price limit = price_capped limit price (steps_of v) 9 in
        Decides-like _
        (λ h. let ten : length (steps_of v) ≡ 10 = omega (arith, h.1.1) in eleventh c held v f ten h.0 (subst (λ z. z <ℤ price) (last ten) h.1.0))
        (λ h. let w = by_some f (by_some held (says coordinator m b 17 0 h)) in (w.1, (subst (λ z. z <ℤ price) (sym (last w.0)) w.2, omega (arith, w.0))))
        (Decides-and _ _ (Decides-ltb (end_of v.start (steps_of v)) (base c b + remaining b)) (Decides-and _ _ (decides_above price (price_of price xs)) (decides_full (length xs))))

    told_reach : (o : Option Curve) → b.curve ≡ o
        → Told 39 40 (cond (ltb (curve_end (base c b) (capped (ceiling m.day c) o)) (base c b + remaining b)) (extended (base c b) (base c b + remaining b) (extension_price m.day c) (capped (ceiling m.day c) o)) (Ok (capped (ceiling m.day c) o)))
    told_reach None f =
        let none : Clear Broken knows 39 40 = λ n p low high h. by_none f (by_some held (said n p 17 h (grind (arith, nat_tests)))) in
        let target : ℕ = base c b + remaining b in
        cond_both (ltb (base c b) target) (Ok (Some (curve_of (base c b) (step target (extension_price m.day c) ∷ [])))) (Ok None) (Told {A = Option Curve} 39 40) (λ _. none) (λ _. none)
    told_reach (Some v) f =
        let price : ℤ = extension_price m.day c in
        let limit : ℤ = ceiling m.day c in
        let target : ℕ = base c b + remaining b in
        let xs : List Step = map (capped_step limit) (steps_of v) in
        let w : Option Curve = Some (curve_of v.start xs) in
        subst (λ l. Told 39 40 (cond (ltb (end_of v.start l) target) (curve_made v.start (steps_made (extended_steps target price l))) (Ok w))) (sym (entries-packed blank_step is_blank_step step_blanks refl 10 xs))
        (subst (λ e. Told 39 40 (cond (ltb e target) (curve_made v.start (steps_made (extended_steps target price xs))) (Ok w))) (sym (end-capped limit v.start (steps_of v)))
        (subst (Told 39 40) (extended_is v.start (Rule EleventhStep 0) (ltb (end_of v.start (steps_of v)) target) (le_z price (price_of price xs)) (ltb (length xs) 10) (lengthened target xs) (xs ++ step target price ∷ []) w)
        (tells_check Broken knows 39 40 (Rule EleventhStep 0) _ _ (known_at 17 0 (omega arith) (omega arith) (omega arith) (omega arith)) refl (omega arith) (decides_eleventh v f) (λ n p low high. absurd (omega arith)))))

    told_made : (s : Services) (r : Result (Option Curve) Fault) → Told 38 40 r → Told 38 40 (row_made b s r)
    told_made s (Ok v) h = h
    told_made s (Err f) h = h

    told-mended : Told 38 40 (mended m.day c b)
    unfolding mended
    told-mended =
        let limit : ℤ = ceiling m.day c in
        told_made (mended_services c b) (reached (base c b) (top c) (need (mended_services c b)) (extension_price m.day c) (capped limit b.curve))
        (subst (λ k. Told 38 40 (reached (base c b) (top c) k (extension_price m.day c) (capped limit b.curve))) (sym (need-remaining c b))
        (tells_check Broken knows 38 40 (Rule ReserveAboveTop 0) _ _ (known_at 16 0 (omega arith) (omega arith) (omega arith) (omega arith)) refl (omega arith)
        (Decides-like _ (λ h. reserves c held h.0 h.1) (λ h. by_some held (says coordinator m b 16 0 h)) (Decides-and _ _ (decides_leb 1 (remaining b)) (Decides-ltb (top c) (base c b + remaining b))))
        (told_reach b.curve refl)))

    -- one group after another
    next : (from mid upto : ℕ) (p q : Passed) → from ≤ mid → mid ≤ upto → Told from mid p → Told mid upto q → Told from upto (in_turn p q)
    next = tells_next Broken knows in_turn (λ x r. refl) (λ f r. refl)

    told-checks : Told 1 38 (checks_passed coordinator m.day c b)
    told-checks =
        let s : Services = b.services in
        next 1 3 38 _ _ (omega arith) (omega arith) told_filing
        (next 3 4 38 _ _ (omega arith) (omega arith) (told_schedule b.self_schedule refl)
        (next 4 25 38 _ _ (omega arith) (omega arith) (told-curve b.curve refl)
        (next 25 29 38 _ _ (omega arith) (omega arith)
        (next 25 26 29 _ _ (omega arith) (omega arith) (told-service 1 (omega arith) (omega arith) s.regulation_up refl)
        (next 26 27 29 _ _ (omega arith) (omega arith) (told-service 2 (omega arith) (omega arith) s.regulation_down refl)
        (next 27 28 29 _ _ (omega arith) (omega arith) (told-service 3 (omega arith) (omega arith) s.spinning refl) (told-service 4 (omega arith) (omega arith) s.non_spinning refl))))
        (next 29 33 38 _ _ (omega arith) (omega arith) (told-start_up b.start_up refl) (told-ramp b.ramp refl)))))

  told-ruled : (o : Option Card) → m.cards b.resource ≡ o → Told 0 40 (ruled_by coordinator m b o)
  told-ruled None e = record { holds = not_held e; low = omega arith; high = omega arith; before = λ n p low high. absurd (omega arith) }
  told-ruled (Some c) e =
      let there : Clear Broken knows 0 1 = λ n p low high h. let none = said n p 6 h (grind (arith, nat_tests)) in let z : ◌≡◌ {A = ℕ} 0 1 = cc in omega arith in
      tells_later Broken knows 0 1 40 _ (omega arith) there
      (tells_next Broken knows after_checks (λ x r. refl) (λ f r. refl) 1 38 40 (first_broken (checks coordinator m.day c b)) (mended m.day c b) (omega arith) (omega arith)
      (subst (Told 1 38) (sym (checks_passed_lem coordinator m.day c b)) (told-checks c e)) (told-mended c e))

  -- a verdict that tells of all turns answers exactly
  denied_first : (r : Result Components Fault) → Told 0 40 r → (n p : ℕ) → (result_answer r).number ≡ n → (result_answer r).place ≡ p → 0 < n → BreaksFirst coordinator m b n p
  denied_first (Ok x) t n p e e' some = absurd (omega arith)
  denied_first (Err f) t n p e e' some = subst (BreaksFirst coordinator m b n) e' (subst (λ k. BreaksFirst coordinator m b k (answer_of f).place) e (t.holds, λ n' p' lt h. t.before n' p' (omega arith) lt h))

  first_answered : (r : Result Components Fault) → Told 0 40 r → (n p : ℕ) → BreaksFirst coordinator m b n p → ((result_answer r).number ≡ n) × ((result_answer r).place ≡ p)
  first_answered (Ok x) t n p h = absurd (t n p (omega arith) (knows n p h.0).last h.0)
  first_answered (Err f) t n p h =
      let n' : ℕ = (answer_of f).number in
      let p' : ℕ = (answer_of f).place in
      elim (cases_order (turn n' p') (turn n p)) [
        | inl e ↦ (let K = knows n' p' t.holds in let K' = knows n p h.0 in (alike_number K K' e, alike_place K K' e))
        | inr e ↦ elim e [ inl lt ↦ absurd (h.1 n' p' lt t.holds) | inr lt ↦ absurd (t.before n p (omega arith) lt h.0) ]
      ]

  granted_clear : (r : Result Components Fault) → Told 0 40 r → (result_answer r).number ≡ 0 → (n p : ℕ) → Broken n p → ⊥
  granted_clear (Ok x) t e n p h = t n p (omega arith) (knows n p h).last h
  granted_clear (Err f) t e n p h = omega (arith, (knows (answer_of f).number (answer_of f).place t.holds).some)

  clear_granted : (r : Result Components Fault) → Told 0 40 r → ((n p : ℕ) → Broken n p → ⊥) → (result_answer r).number ≡ 0
  clear_granted (Ok x) t none = refl
  clear_granted (Err f) t none = absurd (none _ _ t.holds)

  -- and it tells the layer of what it answers
  denied_layer : (r : Result Components Fault) → Told 0 40 r → 0 < (result_answer r).number → (result_answer r).layer ≡ layer_of (result_answer r).number
  denied_layer (Ok x) t some = absurd (omega arith)
  denied_layer (Err f) t some = layer_known f (knows (answer_of f).number (answer_of f).place t.holds)

  granted_zeros : (r : Result Components Fault) → Told 0 40 r → (result_answer r).number ≡ 0 → result_answer r ≡ answered 0 0 0
  granted_zeros (Ok x) t e = refl
  granted_zeros (Err f) t e = absurd (omega (arith, (knows (answer_of f).number (answer_of f).place t.holds).some))

-- each fault is answered exactly when its condition holds and none that is checked earlier does
pub exactly_then : (coordinator : ℕ) (m : Meaning) (b : Components) → keeps b ≡ true → ExactlyThen coordinator m b
unfolding ruled
exactly_then coordinator m b bk =
    let t = told-ruled coordinator m b bk (m.cards b.resource) refl in
    let r : Result Components Fault = ruled_by coordinator m b (m.cards b.resource) in
    record { denied = denied_first coordinator m b bk r t; answers = first_answered coordinator m b bk r t; granted = granted_clear coordinator m b bk r t; passes = clear_granted coordinator m b bk r t }

-- each answer tells its layer
pub tells_layers : (coordinator : ℕ) (m : Meaning) (b : Components) → keeps b ≡ true → TellsLayers coordinator m b
unfolding ruled
tells_layers coordinator m b bk =
    let t = told-ruled coordinator m b bk (m.cards b.resource) refl in
    let r : Result Components Fault = ruled_by coordinator m b (m.cards b.resource) in
    record { denied = denied_layer coordinator m b bk r t; granted = granted_zeros coordinator m b bk r t }
