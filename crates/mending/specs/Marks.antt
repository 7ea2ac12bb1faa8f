-- Marks: where a row differs from its filing. Assumes nothing.
use Rattle.std.specs.Prelude.{ℕ, ◌+◌, Bool, true, false, cond, ◌&&◌, List, [], ◌∷◌, ℤ, pos, negsuc, Some, None, Option, ◌==◌}
use Rattle.bid.specs.declared.components.Components.{Components}
use Rattle.bid.specs.declared.components.Curve.{Curve}
use Rattle.bid.specs.declared.components.Service.{Service}
use Rattle.bid.specs.declared.components.Step.{Step}
use Rattle.checks.specs.Terms.{steps_of}
use Rattle.mending.specs.declared.marking.Mark.{Mark}
use Rattle.mending.specs.declared.marking.Mark.TheVariants.{Price, Quantities, Spinning, NonSpinning, RegulationUp, RegulationDown}

abbrev pub same_price : ℤ → ℤ → Bool
same_price (pos a) (pos b) = a == b
same_price (pos a) (negsuc b) = false
same_price (negsuc a) (pos b) = false
same_price (negsuc a) (negsuc b) = a == b

abbrev pub same_service : Option Service → Option Service → Bool
same_service None None = true
same_service None (Some t) = false
same_service (Some s) None = false
same_service (Some s) (Some t) = s.quantity == t.quantity && same_price s.price t.price

-- each filed step has its price in the row
abbrev pub same_prices : List Step → List Step → Bool
same_prices [] ts = true
same_prices (s ∷ ss) [] = false
same_prices (s ∷ ss) (t ∷ ts) = same_price s.price t.price && same_prices ss ts

-- as many steps, with the same ends
abbrev pub same_ends : List Step → List Step → Bool
same_ends [] [] = true
same_ends [] (t ∷ ts) = false
same_ends (s ∷ ss) [] = false
same_ends (s ∷ ss) (t ∷ ts) = s.end == t.end && same_ends ss ts

-- each step of a filed curve has its price in the row's curve
abbrev pub curve_prices : Option Curve → Option Curve → Bool
curve_prices None w = true
curve_prices (Some v) None = false
curve_prices (Some v) (Some w) = same_prices (steps_of v) (steps_of w)

-- no curve in both, or the same start and ends
abbrev pub same_quantities : Option Curve → Option Curve → Bool
same_quantities None None = true
same_quantities None (Some w) = false
same_quantities (Some v) None = false
same_quantities (Some v) (Some w) = v.start == w.start && same_ends (steps_of v) (steps_of w)

-- each mark's bit
abbrev pub bit_of : Mark → ℕ
bit_of Price = 1
bit_of Quantities = 2
bit_of Spinning = 4
bit_of NonSpinning = 8
bit_of RegulationUp = 16
bit_of RegulationDown = 32

-- the bit of a mark, where its part is not the same
abbrev pub mark : ℕ → Bool → ℕ
mark bit same = cond same 0 bit

-- 1 a filed step's price, 2 the curve's quantities, 4 Spinning, 8 Non-Spinning, 16 Regulation Up, 32 Regulation Down
unfoldable pub marks : Components → Components → ℕ
marks filed row =
    mark 1 (curve_prices filed.curve row.curve)
    + mark 2 (same_quantities filed.curve row.curve)
    + mark 4 (same_service filed.services.spinning row.services.spinning)
    + mark 8 (same_service filed.services.non_spinning row.services.non_spinning)
    + mark 16 (same_service filed.services.regulation_up row.services.regulation_up)
    + mark 32 (same_service filed.services.regulation_down row.services.regulation_down)
