-- Steps compared beside each other, and services by their fields. Assumes nothing.
use Rattle.std.proofs.Common.{◌≡◌, suc, ◌<◌, ◌≤◌, false, ◌&&◌, eqb, List, [], ◌∷◌, length, ℤ, pos, negsuc, Some, None, Option, sym, refl, ap, arith, rules, tests}
use Rattle.std.specs.List.{list_all, zip}
use Rattle.std.proofs.lemmas.Bool.{and_right}
use Rattle.std.proofs.lemmas.Bool.Decides.{nat_tests}
use Rattle.std.specs.Option.{option_eq}
use Rattle.std.specs.Ordering.{int_eq}
use Rattle.bid.specs.contracts.components.ServicePartialEq.TheImpl.{eq-value}
use Rattle.bid.specs.declared.components.Service.{Service}
use Rattle.bid.specs.declared.components.Step.{Step}
use Rattle.mending.specs.Marks.{same_price, same_service, same_prices, same_ends}

-- a row of fewer steps does not have the prices, and one of as many or more has them where each pair does
pub fewer_prices : (ss ts : List Step) → length ts < length ss → false ≡ same_prices ss ts
fewer_prices [] ts h = absurd (omega arith)
fewer_prices (s ∷ ss) [] h = refl
fewer_prices (s ∷ ss) (t ∷ ts) h = sym (and_right (same_price s.price t.price) (same_prices ss ts) (sym (fewer_prices ss ts (omega arith))))

pub prices_beside : (ss ts : List Step) → length ss ≤ length ts → list_all (λ p. same_price p.0.price p.1.price) (zip ss ts) ≡ same_prices ss ts
prices_beside [] ts h = refl
prices_beside (s ∷ ss) [] h = absurd (omega arith)
prices_beside (s ∷ ss) (t ∷ ts) h = ap (λ b. same_price s.price t.price && b) (prices_beside ss ts (omega arith))

-- a row of another count does not have the ends, and one of as many has them where each pair does
pub other_count : (ss ts : List Step) → (length ss ≡ length ts → ⊥) → false ≡ same_ends ss ts
other_count [] [] h = absurd (h refl)
other_count [] (t ∷ ts) h = refl
other_count (s ∷ ss) [] h = refl
other_count (s ∷ ss) (t ∷ ts) h = sym (and_right (eqb s.end t.end) (same_ends ss ts) (sym (other_count ss ts (λ e. h (ap suc e)))))

pub ends_beside : (ss ts : List Step) → length ss ≡ length ts → list_all (λ p. eqb p.0.end p.1.end) (zip ss ts) ≡ same_ends ss ts
ends_beside [] [] h = refl
ends_beside [] (t ∷ ts) h = absurd (omega arith)
ends_beside (s ∷ ss) [] h = absurd (omega arith)
ends_beside (s ∷ ss) (t ∷ ts) h = ap (λ b. eqb s.end t.end && b) (ends_beside ss ts (omega arith))

price_equal : (x y : ℤ) → int_eq x y ≡ same_price x y
price_equal (pos a) (pos b) = grind (arith, nat_tests)
price_equal (pos a) (negsuc b) = refl
price_equal (negsuc a) (pos b) = refl
price_equal (negsuc a) (negsuc b) = search (rules, tests)

-- services are compared by their fields
pub services_equal : (a b : Option Service) → option_eq eq-value.it a b ≡ same_service a b
services_equal None None = refl
services_equal None (Some t) = refl
services_equal (Some s) None = refl
services_equal (Some s) (Some t) = ap (λ b. eqb s.quantity t.quantity && b) (price_equal s.price t.price)
