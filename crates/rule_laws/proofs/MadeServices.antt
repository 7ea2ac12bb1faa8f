-- The services that mending makes are those said of the filing, and no others are. Assumes nothing.
use Rattle.std.proofs.Common.{◌≡◌, ℕ, ◌+◌, ◌≤◌, Bool, true, false, cond, ◌&&◌, leb, is_some, Some, None, Option, sym, refl, ap, ◌∙◌, inl, inr, arith}
use Rattle.std.proofs.lemmas.Bool.{and_parts, and_cases, both_ways, cases_Bool, cond-true, cond-false, leb-true, leb-false, ltb-true, ltb-false}
use Rattle.bid.specs.declared.components.Components.{Components}
use Rattle.bid.specs.declared.components.Service.{Service}
use Rattle.bid.specs.Fields.{service}
use Rattle.register.specs.declared.data.Card.{Card}
use Rattle.register.specs.declared.data.Regulation.{Regulation}
use Rattle.rule_laws.specs.Exactly.{remaining}
use Rattle.rule_laws.specs.Made.{ReserveMade, price_filed, Offered, RegulationMade}
use Rattle.mending.specs.Mending.{reserve, has_energy, regulated, above_limit, mended_services}
use Rattle.checks.specs.Terms.{quantity_of, need}

pub some_same : {A : Type 0} {x y : A} → ◌≡◌ {A = Option A} (Some x) (Some y) → x ≡ y
some_same e = cc

pub some_not_none : {A : Type 0} (x : A) → ◌≡◌ {A = Option A} (Some x) None → ⊥
some_not_none x e = let z : ◌≡◌ {A = ℕ} 0 1 = cc in omega arith

-- what the reserves that remain need
need_remains : (energy : Bool) (x y : Option Service) → cond energy (quantity_of x + quantity_of y) 0 ≡ quantity_of (reserve energy x) + quantity_of (reserve energy y)
need_remains true x y = refl
need_remains false x y = refl

pub remaining_is : (c : Card) (b : Components) → remaining b ≡ need (mended_services c b)
remaining_is c b = need_remains (has_energy b) b.services.spinning b.services.non_spinning

pub reserve_made : (b : Components) (filed : Option Service) → ReserveMade b filed (reserve (has_energy b) filed)
reserve_made b filed = (λ h. cond-true (has_energy b) filed None h, λ h. cond-false (has_energy b) filed None h)

pub one_reserve : (b : Components) (filed row row' : Option Service) → ReserveMade b filed row → ReserveMade b filed row' → row ≡ row'
one_reserve b filed row row' r r' = elim (cases_Bool (has_energy b)) [ inl h ↦ r.0 h ∙ sym (r'.0 h) | inr h ↦ r.1 h ∙ sym (r'.1 h) ]

-- a regulation bid that is there, and one that is not
present : (allowed : Type 0) (spare : ℕ) (r : Regulation) (filed row : Option Service) → row ≡ Some (service spare (price_filed filed)) → allowed → Offered spare r filed → RegulationMade allowed spare r filed row
present allowed spare r filed row e a o = record {
  there = λ h. (a, o);
  made = λ a₁ o₁. ap is_some e;
  says = λ s h. let same : s ≡ service spare (price_filed filed) = some_same (sym h ∙ e) in (ap (λ x. x.quantity) same, ap (λ x. x.price) same);
}

absent : (allowed : Type 0) (spare : ℕ) (r : Regulation) (filed row : Option Service) → row ≡ None → (allowed → Offered spare r filed → ⊥) → RegulationMade allowed spare r filed row
absent allowed spare r filed row e never = record {
  there = λ h. absurd (both_ways (is_some row) (ap is_some e) h);
  made = λ a o. absurd (never a o);
  says = λ s h. absurd (some_not_none s (sym h ∙ e));
}

regulated_made : (allowed : Type 0) (spare : ℕ) (r : Regulation) (filed : Option Service) → allowed → RegulationMade allowed spare r filed (regulated spare r.award filed)
regulated_made allowed spare r None a =
    let t : Bool = leb 1 r.award && leb 1 spare in
    elim (cases_Bool t) [
      | inl h ↦ (
          let p = and_parts (leb 1 r.award) (leb 1 spare) h in
          present allowed spare r None _ (cond-true t _ _ h) a (leb-true 1 spare p.1, inr (leb-true 1 r.award p.0)))
      | inr h ↦ absent allowed spare r None _ (cond-false t _ _ h) (λ a₁ o. elim (and_cases (leb 1 r.award) (leb 1 spare) h) [
        | inl k ↦ elim o.1 [ inl s ↦ both_ways false refl s | inr s ↦ omega (arith, leb-false 1 r.award k) ]
        | inr k ↦ omega (arith, leb-false 1 spare k, o.0)
      ])
    ]
regulated_made allowed spare r (Some s) a = elim (cases_Bool (leb 1 spare)) [
  | inl h ↦ present allowed spare r (Some s) _ (cond-true (leb 1 spare) _ _ h) a (leb-true 1 spare h, inl refl)
  | inr h ↦ absent allowed spare r (Some s) _ (cond-false (leb 1 spare) _ _ h) (λ a₁ o. omega (arith, leb-false 1 spare h, o.0))
]

-- a bid is allowed unless a test says otherwise
pub regulation_made : (allowed : Type 0) (barred : Bool) (spare : ℕ) (r : Regulation) (filed : Option Service) → (barred ≡ true → allowed → ⊥) → (barred ≡ false → allowed)
    → RegulationMade allowed spare r filed (cond barred None (regulated spare r.award filed))
regulation_made allowed true spare r filed bars lets = absent allowed spare r filed None refl (λ a o. bars refl a)
regulation_made allowed false spare r filed bars lets = regulated_made allowed spare r filed (lets refl)

-- the test for Regulation Up
pub above_barred : (c : Card) (q : Option ℕ) → above_limit c q ≡ true → ((x : ℕ) → q ≡ Some x → x ≤ c.regulation_limit) → ⊥
above_barred c None h all = both_ways false refl h
above_barred c (Some x) h all = omega (arith, ltb-true c.regulation_limit x h, all x refl)

pub below_allowed : (c : Card) (q : Option ℕ) → above_limit c q ≡ false → (x : ℕ) → q ≡ Some x → x ≤ c.regulation_limit
below_allowed c None h x e = absurd (some_not_none x (sym e))
below_allowed c (Some y) h x e = omega (arith, ltb-false c.regulation_limit y h, some_same e)

pub one_regulation : (allowed : Type 0) (spare : ℕ) (r : Regulation) (filed row row' : Option Service) → RegulationMade allowed spare r filed row → RegulationMade allowed spare r filed row' → row ≡ row'
one_regulation allowed spare r filed None None m m' = refl
one_regulation allowed spare r filed None (Some s) m m' = let t = m'.there refl in absurd (both_ways false refl (m.made t.0 t.1))
one_regulation allowed spare r filed (Some s) None m m' = let t = m.there refl in absurd (both_ways false refl (m'.made t.0 t.1))
one_regulation allowed spare r filed (Some s) (Some s') m m' =
    let a = m.says s refl in
    let b = m'.says s' refl in
    let quantities : s.quantity ≡ s'.quantity = a.0 ∙ sym b.0 in
    let prices : s.price ≡ s'.price = a.1 ∙ sym b.1 in
    λ j. Some (record { quantity = quantities j; price = prices j })
