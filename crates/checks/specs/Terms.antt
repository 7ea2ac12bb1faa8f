-- The quantities and prices that the rules speak of. Assumes nothing.
use Rattle.std.specs.Prelude.{ℕ, ◌+◌, ◌-◌, List, [], ◌∷◌, ℤ, Some, None, Option}
use Rattle.std.specs.Int.{int_max, int_min}
use Rattle.std.specs.Option.{unwrap_or}
use Rattle.wire.specs.Rows.{entries}
use Rattle.bid.specs.declared.components.Components.{Components}
use Rattle.bid.specs.declared.components.Curve.{Curve}
use Rattle.bid.specs.declared.components.Service.{Service}
use Rattle.bid.specs.declared.components.Services.{Services}
use Rattle.bid.specs.declared.components.Step.{Step}
use Rattle.register.specs.declared.data.Card.{Card}
use Rattle.register.specs.declared.data.Day.{Day}
use Rattle.register.specs.declared.data.Regulation.{Regulation}

-- the most that a resource can be scheduled or bid to
abbrev pub top : Card → ℕ
top c = c.pmax

-- where energy begins: the self-schedule, or else PMin
abbrev pub base : Card → Components → ℕ
base c b = unwrap_or b.self_schedule c.pmin

-- the larger of the soft cap and the smaller of level and hard cap
abbrev pub ceiling : Day → Card → ℤ
ceiling d c = int_max d.soft_cap (int_min c.level d.hard_cap)

-- the level brought into floor to ceiling
abbrev pub extension_price : Day → Card → ℤ
extension_price d c = int_max d.floor (int_min c.level (ceiling d c))

-- what of a regulation service is certified and not awarded in an hour; one award counts for every hour
abbrev pub free : ℕ → Regulation → ℕ
free hour r = r.certified - r.award

abbrev pub quantity_of : Option Service → ℕ
quantity_of None = 0
quantity_of (Some s) = s.quantity

-- what the reserves need above the base
abbrev pub need : Services → ℕ
need s = quantity_of s.spinning + quantity_of s.non_spinning

abbrev pub steps_of : Curve → List Step
steps_of v = entries v.steps

-- where steps that begin at a quantity end
abbrev pub end_of : ℕ → List Step → ℕ
end_of start [] = start
end_of start (s ∷ ss) = end_of s.end ss

-- where a bid's energy ends: its curve's last end, or the base without one
abbrev pub curve_end : ℕ → Option Curve → ℕ
curve_end from None = from
curve_end from (Some v) = end_of v.start (steps_of v)
