-- Marks are honest: each stands exactly when the row differs from the filing in its part. Assumes nothing.
use Rattle.std.specs.Prelude.{◌≡◌, ℕ, ◌<◌, false, length, Some, None, Option}
use Rattle.wire.specs.Maps.{stands}
use Rattle.bid.specs.declared.components.Components.{Components}
use Rattle.bid.specs.declared.components.Curve.{Curve}
use Rattle.rule_laws.specs.Exactly.{step_at}
use Rattle.mending.specs.Marks.{marks}
use Rattle.checks.specs.Terms.{steps_of}

-- each filed step has a step in the row with its price
abbrev pub PricesKept : Option Curve → Option Curve → Type 0
PricesKept None w = Unit {0}
PricesKept (Some v) None = ⊥
PricesKept (Some v) (Some w) = (k : ℕ) → k < length (steps_of v) → (k < length (steps_of w)) × ((step_at v k).price ≡ (step_at w k).price)

-- no curve in both; or the same start, as many steps, and the same ends
abbrev pub QuantitiesKept : Option Curve → Option Curve → Type 0
QuantitiesKept None None = Unit {0}
QuantitiesKept None (Some w) = ⊥
QuantitiesKept (Some v) None = ⊥
QuantitiesKept (Some v) (Some w) = (v.start ≡ w.start) × (length (steps_of v) ≡ length (steps_of w)) × ((k : ℕ) → k < length (steps_of v) → (step_at v k).end ≡ (step_at w k).end)

-- the bit of a part is clear exactly when the part is kept
pub record Tells (bit stood : ℕ) (kept : Type 0) : Type 0 where
  pub clear : stands bit stood ≡ false → kept
  pub stays : kept → stands bit stood ≡ false

-- bits 0 to 5 are the marks 1, 2, 4, 8, 16 and 32; no other bit stands
pub record Honest (filed row : Components) : Type 0 where
  pub prices : Tells 0 (marks filed row) (PricesKept filed.curve row.curve)
  pub quantities : Tells 1 (marks filed row) (QuantitiesKept filed.curve row.curve)
  pub spinning : Tells 2 (marks filed row) (filed.services.spinning ≡ row.services.spinning)
  pub non_spinning : Tells 3 (marks filed row) (filed.services.non_spinning ≡ row.services.non_spinning)
  pub regulation_up : Tells 4 (marks filed row) (filed.services.regulation_up ≡ row.services.regulation_up)
  pub regulation_down : Tells 5 (marks filed row) (filed.services.regulation_down ≡ row.services.regulation_down)
  pub no_other : marks filed row < 64
