-- The first broken check, of lists put together. Assumes nothing.
use Rattle.std.proofs.Common.{◌≡◌, ℕ, ◌+◌, ◌<◌, Bool, true, false, cond, List, [], ◌∷◌, ◌++◌, length, get_or, drop, Err, sym, refl, ap, ◌∙◌}
use Rattle.std.proofs.lemmas.List.{drop_more}
use Rattle.faults.specs.declared.Fault.{Fault}
use Rattle.checks.specs.Checks.{Check, Passed, first_broken, checks, filing_checks, self_schedule_checks, curve_checks, service_checks, services_checks, start_up_checks, ramp_checks}
use Rattle.checks.specs.Passing.{in_turn, services_passed, checks_passed}
use Rattle.wire.specs.Rows.{entries}
use Rattle.bid.specs.declared.components.Components.{Components}
use Rattle.bid.specs.declared.components.Services.{Services}
use Rattle.register.specs.declared.data.Card.{Card}
use Rattle.register.specs.declared.data.Day.{Day}
use Rattle.checks.specs.Terms.{top, base}

cond-turn : (b : Bool) (f : Fault) (p q : Passed) → cond b (Err f) (in_turn p q) ≡ in_turn (cond b (Err f) p) q
cond-turn true f p q = refl
cond-turn false f p q = refl

pub first_append : (xs ys : List Check) → first_broken (xs ++ ys) ≡ in_turn (first_broken xs) (first_broken ys)
first_append [] ys = refl
first_append (x ∷ xs) ys = ap (cond x.1 (Err x.0)) (first_append xs ys) ∙ cond-turn x.1 x.0 (first_broken xs) (first_broken ys)

-- a group that fails answers
pub first_failed : (xs ys : List Check) (f : Fault) → Err f ≡ first_broken xs → Err f ≡ first_broken (xs ++ ys)
first_failed xs ys f e = ap (λ p. in_turn p (first_broken ys)) e ∙ sym (first_append xs ys)

services_passed_lem : (d : Day) (c : Card) (s : Services) → first_broken (services_checks d c s) ≡ services_passed d c s
services_passed_lem d c s =
    let p₁ : List Check = service_checks d 1 c.up.certified s.regulation_up in
    let p₂ : List Check = service_checks d 2 c.down.certified s.regulation_down in
    let p₃ : List Check = service_checks d 3 c.spinning s.spinning in
    let p₄ : List Check = service_checks d 4 c.non_spinning s.non_spinning in
    first_append p₁ (p₂ ++ (p₃ ++ p₄)) ∙ ap (in_turn (first_broken p₁)) (first_append p₂ (p₃ ++ p₄) ∙ ap (in_turn (first_broken p₂)) (first_append p₃ p₄))

pub checks_passed_lem : (coordinator : ℕ) (d : Day) (c : Card) (b : Components) → first_broken (checks coordinator d c b) ≡ checks_passed coordinator d c b
unfolding checks
checks_passed_lem coordinator d c b =
    let p₁ : List Check = filing_checks coordinator d c b in
    let p₂ : List Check = self_schedule_checks c b.self_schedule in
    let p₃ : List Check = curve_checks (base c b) (top c) d b.curve in
    let p₄ : List Check = services_checks d c b.services in
    let p₅ : List Check = start_up_checks (entries c.start_up) b.start_up in
    let p₆ : List Check = ramp_checks (entries c.ramp) b.ramp in
    first_append p₁ (p₂ ++ (p₃ ++ (p₄ ++ (p₅ ++ p₆)))) ∙ ap (in_turn (first_broken p₁)) (first_append p₂ (p₃ ++ (p₄ ++ (p₅ ++ p₆))) ∙ ap (in_turn (first_broken p₂)) (first_append p₃ (p₄ ++ (p₅ ++ p₆))
    ∙ ap (in_turn (first_broken p₃)) (first_append p₄ (p₅ ++ p₆) ∙ ap (λ q. in_turn q (first_broken (p₅ ++ p₆))) (services_passed_lem d c b.services) ∙ ap (in_turn (services_passed d c b.services)) (first_append p₅ p₆))))

-- one more of the things that are checked in turn: a group's checks, and then the others'
module _ {X : Type 0} (xs : List X) (i : ℕ) (d : X) (within : i < length xs) (checks_of : List X → List Check) (group : List Check) (others : List X → List Check)
    (opens : checks_of (get_or xs i d ∷ drop (i + 1) xs) ≡ group ++ others (drop (i + 1) xs)) where
  opened : checks_of (drop i xs) ≡ group ++ others (drop (i + 1) xs)
  opened = ap checks_of (drop_more xs i d within) ∙ opens

  pub turn_failed : (f : Fault) → Err f ≡ first_broken group → Err f ≡ first_broken (checks_of (drop i xs))
  turn_failed f e = first_failed group (others (drop (i + 1) xs)) f e ∙ sym (ap first_broken opened)
