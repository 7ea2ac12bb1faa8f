-- Marks are honest. Assumes nothing.
use Rattle.std.proofs.Common.{◌≡◌, ℕ, zero, suc, ◌*◌, ◌<◌, Bool, true, false, cond, not, eqb, List, [], ◌∷◌, length, get_or, ℤ, pos, negsuc, Some, None, Option, sym, refl, ap, ◌∙◌, subst, arith}
use Rattle.std.proofs.lemmas.Bool.{and_parts, and_from, eqb-true, eq-eqb, not-false, both_ways}
use Rattle.wire.specs.Maps.{stands, map_of}
use Rattle.wire.proofs.Maps.{stands-map_of, map_of_lt}
use Rattle.bid.specs.declared.components.Components.{Components}
use Rattle.bid.specs.declared.components.Curve.{Curve}
use Rattle.bid.specs.declared.components.Service.{Service}
use Rattle.bid.specs.declared.components.Step.{Step}
use Rattle.bid.specs.Fields.{blank_step}
use Rattle.rule_laws.specs.Honest.{PricesKept, QuantitiesKept, Tells, Honest}
use Rattle.mending.specs.Marks.{same_price, same_service, same_prices, same_ends, same_quantities, curve_prices, mark, marks}
use Rattle.checks.specs.Terms.{steps_of}
use Rattle.rule_laws.proofs.SettledBytes.{price_same, service_same}

pub price_is : (x y : ℤ) → same_price x y ≡ true → x ≡ y
price_is (pos a) (pos b) h = ap pos (eqb-true a b h)
price_is (pos a) (negsuc b) h = absurd (both_ways false refl h)
price_is (negsuc a) (pos b) h = absurd (both_ways false refl h)
price_is (negsuc a) (negsuc b) h = ap negsuc (eqb-true a b h)

price_from : (x y : ℤ) → x ≡ y → same_price x y ≡ true
price_from x y e = subst (λ z. same_price x z ≡ true) e (price_same x)

service_is : (s t : Option Service) → same_service s t ≡ true → s ≡ t
service_is None None h = refl
service_is None (Some t) h = absurd (both_ways false refl h)
service_is (Some s) None h = absurd (both_ways false refl h)
service_is (Some s) (Some t) h =
    let a = and_parts (eqb s.quantity t.quantity) (same_price s.price t.price) h in
    let q = eqb-true s.quantity t.quantity a.0 in
    let p = price_is s.price t.price a.1 in
    λ j. Some (record { quantity = q j; price = p j })

service_from : (s t : Option Service) → s ≡ t → same_service s t ≡ true
service_from s t e = subst (λ z. same_service s z ≡ true) e (service_same s)

prices_are : (ss ts : List Step) → same_prices ss ts ≡ true → (k : ℕ) → k < length ss → (k < length ts) × ((get_or ss k blank_step).price ≡ (get_or ts k blank_step).price)
prices_are [] ts h k lt = absurd (omega arith)
prices_are (s ∷ ss) [] h k lt = absurd (both_ways false refl h)
prices_are (s ∷ ss) (t ∷ ts) h zero lt = (omega arith, price_is s.price t.price (and_parts (same_price s.price t.price) (same_prices ss ts) h).0)
prices_are (s ∷ ss) (t ∷ ts) h (suc k) lt =
    let ih = prices_are ss ts (and_parts (same_price s.price t.price) (same_prices ss ts) h).1 k (omega arith) in
    (omega (arith, ih.0), ih.1)

prices_from : (ss ts : List Step) → ((k : ℕ) → k < length ss → (k < length ts) × ((get_or ss k blank_step).price ≡ (get_or ts k blank_step).price)) → same_prices ss ts ≡ true
prices_from [] ts h = refl
prices_from (s ∷ ss) [] h = absurd (omega (arith, (h 0 (omega arith)).0))
prices_from (s ∷ ss) (t ∷ ts) h =
    and_from _ _ (price_from s.price t.price (h 0 (omega arith)).1) (prices_from ss ts (λ k lt. let x = h (suc k) (omega arith) in (omega (arith, x.0), x.1)))

ends_are : (ss ts : List Step) → same_ends ss ts ≡ true → (length ss ≡ length ts) × ((k : ℕ) → k < length ss → (get_or ss k blank_step).end ≡ (get_or ts k blank_step).end)
ends_are [] [] h = (refl, λ k lt. refl)
ends_are [] (t ∷ ts) h = absurd (both_ways false refl h)
ends_are (s ∷ ss) [] h = absurd (both_ways false refl h)
ends_are (s ∷ ss) (t ∷ ts) h =
    let a = and_parts (eqb s.end t.end) (same_ends ss ts) h in
    let ih = ends_are ss ts a.1 in
    (ap suc ih.0, at_each s t ss ts (eqb-true s.end t.end a.0) ih.1)
  where
    at_each : (s t : Step) (ss ts : List Step) → s.end ≡ t.end → ((k : ℕ) → k < length ss → (get_or ss k blank_step).end ≡ (get_or ts k blank_step).end) → (k : ℕ) → k < suc (length ss) → (get_or (s ∷ ss) k blank_step).end ≡ (get_or (t ∷ ts) k blank_step).end
    at_each s t ss ts e h zero lt = e
    at_each s t ss ts e h (suc k) lt = h k (omega arith)

ends_from : (ss ts : List Step) → length ss ≡ length ts → ((k : ℕ) → k < length ss → (get_or ss k blank_step).end ≡ (get_or ts k blank_step).end) → same_ends ss ts ≡ true
ends_from [] [] e h = refl
ends_from [] (t ∷ ts) e h = absurd (omega arith)
ends_from (s ∷ ss) [] e h = absurd (omega arith)
ends_from (s ∷ ss) (t ∷ ts) e h = and_from _ _ (eq-eqb s.end t.end (h 0 (omega arith))) (ends_from ss ts (omega arith) (λ k lt. h (suc k) (omega arith)))

prices_kept : (v w : Option Curve) → curve_prices v w ≡ true → PricesKept v w
prices_kept None w h = tt
prices_kept (Some v) None h = both_ways false refl h
prices_kept (Some v) (Some w) h = prices_are (steps_of v) (steps_of w) h

pub kept_prices : (v w : Option Curve) → PricesKept v w → curve_prices v w ≡ true
kept_prices None w h = refl
kept_prices (Some v) None h = absurd h
kept_prices (Some v) (Some w) h = prices_from (steps_of v) (steps_of w) h

quantities_kept : (v w : Option Curve) → same_quantities v w ≡ true → QuantitiesKept v w
quantities_kept None None h = tt
quantities_kept None (Some w) h = both_ways false refl h
quantities_kept (Some v) None h = both_ways false refl h
quantities_kept (Some v) (Some w) h =
    let a = and_parts (eqb v.start w.start) (same_ends (steps_of v) (steps_of w)) h in
    let e = ends_are (steps_of v) (steps_of w) a.1 in
    (eqb-true v.start w.start a.0, e.0, e.1)

pub kept_quantities : (v w : Option Curve) → QuantitiesKept v w → same_quantities v w ≡ true
kept_quantities None None h = refl
kept_quantities None (Some w) h = absurd h
kept_quantities (Some v) None h = absurd h
kept_quantities (Some v) (Some w) h = and_from _ _ (eq-eqb v.start w.start h.0) (ends_from (steps_of v) (steps_of w) h.1 h.2)

-- the marks as a map: a bit for each part that is not the same
bit_of : (bit : ℕ) (b : Bool) → mark bit b ≡ bit * cond (not b) 1 0
bit_of bit true = omega arith
bit_of bit false = omega arith

parts_of : Components → Components → List Bool
parts_of b r =
    not (curve_prices b.curve r.curve) ∷ not (same_quantities b.curve r.curve) ∷ not (same_service b.services.spinning r.services.spinning)
    ∷ not (same_service b.services.non_spinning r.services.non_spinning) ∷ not (same_service b.services.regulation_up r.services.regulation_up)
    ∷ not (same_service b.services.regulation_down r.services.regulation_down) ∷ []

marks-map : (b r : Components) → marks b r ≡ map_of (parts_of b r)
unfolding marks parts_of
marks-map b r =
    let m₁ = bit_of 1 (curve_prices b.curve r.curve) in
    let m₂ = bit_of 2 (same_quantities b.curve r.curve) in
    let m₃ = bit_of 4 (same_service b.services.spinning r.services.spinning) in
    let m₄ = bit_of 8 (same_service b.services.non_spinning r.services.non_spinning) in
    let m₅ = bit_of 16 (same_service b.services.regulation_up r.services.regulation_up) in
    let m₆ = bit_of 32 (same_service b.services.regulation_down r.services.regulation_down) in
    omega arith

tells : (b r : Components) (bit : ℕ) (same : Bool) (kept : Type 0) → get_or (parts_of b r) bit false ≡ not same → (same ≡ true → kept) → (kept → same ≡ true) → Tells bit (marks b r) kept
tells b r bit same kept is to back =
    let e : stands bit (marks b r) ≡ not same = ap (stands bit) (marks-map b r) ∙ stands-map_of (parts_of b r) bit ∙ is in
    record { clear = λ h. to (not-false same (sym e ∙ h)); stays = λ k. e ∙ ap not (back k) }

pub honest : (b r : Components) → Honest b r
unfolding parts_of
honest b r = record {
  prices = tells b r 0 (curve_prices b.curve r.curve) _ refl (prices_kept b.curve r.curve) (kept_prices b.curve r.curve);
  quantities = tells b r 1 (same_quantities b.curve r.curve) _ refl (quantities_kept b.curve r.curve) (kept_quantities b.curve r.curve);
  spinning = tells b r 2 (same_service b.services.spinning r.services.spinning) _ refl (service_is _ _) (service_from _ _);
  non_spinning = tells b r 3 (same_service b.services.non_spinning r.services.non_spinning) _ refl (service_is _ _) (service_from _ _);
  regulation_up = tells b r 4 (same_service b.services.regulation_up r.services.regulation_up) _ refl (service_is _ _) (service_from _ _);
  regulation_down = tells b r 5 (same_service b.services.regulation_down r.services.regulation_down) _ refl (service_is _ _) (service_from _ _);
  no_other = subst (λ n. n < 64) (sym (marks-map b r)) (map_of_lt (parts_of b r));
}
