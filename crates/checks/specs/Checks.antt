-- The checks of a bid in their order: each a fault with its place, and whether it is broken. Assumes nothing.
use Rattle.std.specs.Prelude.{ℕ, ◌+◌, Bool, cond, not, ◌||◌, List, [], ◌∷◌, ◌++◌, length, pos, Some, None, Ok, Err, Option, Result, ◌==◌, int_lt, nat_le, nat_lt}
use Rattle.faults.specs.declared.Fault.{Fault}
use Rattle.faults.specs.declared.Fault.TheVariants.{Register, Rule}
use Rattle.faults.specs.declared.RegisterFault.TheVariants.{NotTheOwner, NoSuchHour}
use Rattle.faults.specs.declared.RuleFault.{RuleFault}
use Rattle.faults.specs.declared.RuleFault.TheVariants.{SelfSchedule, CurveStart, StepEnd, StepPrice, Service as ServiceFault, StartUp as StartUpFault, Ramp as RampFault}
use Rattle.wire.specs.Rows.{entries}
use Rattle.bid.specs.declared.components.Components.{Components}
use Rattle.bid.specs.declared.components.Curve.{Curve}
use Rattle.bid.specs.declared.components.Ramp.{Ramp}
use Rattle.bid.specs.declared.components.RampPair.{RampPair}
use Rattle.bid.specs.declared.components.Service.{Service}
use Rattle.bid.specs.declared.components.Services.{Services}
use Rattle.bid.specs.declared.components.StartUp.{StartUp}
use Rattle.bid.specs.declared.components.StartUpPair.{StartUpPair}
use Rattle.bid.specs.declared.components.Step.{Step}
use Rattle.bid.specs.Fields.{step}
use Rattle.register.specs.declared.data.Card.{Card}
use Rattle.register.specs.declared.data.Day.{Day}
use Rattle.register.specs.declared.data.RampLimits.{RampLimits}
use Rattle.register.specs.declared.data.StartUpLimit.{StartUpLimit}
use Rattle.checks.specs.Terms.{top, base, steps_of}

-- a fault with its place, and whether its condition holds
abbrev pub Check : Type 0
Check = Fault × Bool

abbrev pub Passed : Type 0
Passed = Result (Unit {0}) Fault

-- the first broken check answers
abbrev pub first_broken : List Check → Passed
first_broken [] = Ok tt
first_broken (c ∷ cs) = cond c.1 (Err c.0) (first_broken cs)

abbrev pub rule : RuleFault → ℕ → Bool → Check
rule f place broken = (Rule f place, broken)

-- the coordinator is the owner, and the day has the hour
abbrev pub filing_checks : ℕ → Day → Card → Components → List Check
filing_checks coordinator d c b = (Register NotTheOwner 0, not (coordinator == c.owner)) ∷ (Register NoSuchHour 0, (b.hour == 0) || nat_lt d.hours b.hour) ∷ []

abbrev pub self_schedule_checks : Card → Option ℕ → List Check
self_schedule_checks c None = []
self_schedule_checks c (Some q) = rule SelfSchedule 0 (nat_lt q c.pmin || nat_lt (top c) q) ∷ []

-- a step after the one before it: its end above the end before and not above the top, then its price not below the price before, the floor, nor above the hard cap
abbrev pub step_check : ℕ → Day → ℕ → Step → Step → List Check
step_check most d place before s =
    rule StepEnd place (nat_le s.end before.end || nat_lt most s.end)
    ∷ rule StepPrice place (int_lt s.price before.price || int_lt s.price d.floor || int_lt d.hard_cap s.price) ∷ []

-- each step in turn
abbrev pub step_checks : ℕ → Day → ℕ → Step → List Step → List Check
step_checks most d place before [] = []
step_checks most d place before (s ∷ ss) = step_check most d place before s ++ step_checks most d (place + 1) s ss

-- before the first step stand the curve's start and the floor
abbrev pub curve_checks : ℕ → ℕ → Day → Option Curve → List Check
curve_checks from most d None = []
curve_checks from most d (Some v) = rule CurveStart 0 (not (v.start == from)) ∷ step_checks most d 1 (step v.start d.floor) (steps_of v)

abbrev pub service_checks : Day → ℕ → ℕ → Option Service → List Check
service_checks d place certified None = []
service_checks d place certified (Some s) = rule ServiceFault place (nat_lt certified s.quantity || int_lt s.price (pos 0) || int_lt d.service_cap s.price) ∷ []

-- services 1 to 4 in turn
abbrev pub services_checks : Day → Card → Services → List Check
services_checks d c s =
    service_checks d 1 c.up.certified s.regulation_up ++ (service_checks d 2 c.down.certified s.regulation_down
    ++ (service_checks d 3 c.spinning s.spinning ++ service_checks d 4 c.non_spinning s.non_spinning))

-- a pair beside the card's: the same down time, a cost of at most the highest, and of at least `least`, one more than the cost before
abbrev pub pair_check : ℕ → ℕ → StartUpPair → StartUpLimit → List Check
pair_check place least p l = rule StartUpFault place (not (p.down_time == l.down_time) || nat_lt l.highest p.cost || nat_lt p.cost least) ∷ []

-- each pair in turn
abbrev pub pair_checks : ℕ → ℕ → List StartUpPair → List StartUpLimit → List Check
pair_checks place least [] ls = []
pair_checks place least (p ∷ ps) [] = []
pair_checks place least (p ∷ ps) (l ∷ ls) = pair_check place least p l ++ pair_checks (place + 1) (p.cost + 1) ps ls

abbrev pub start_up_checks : List StartUpLimit → Option StartUp → List Check
start_up_checks ls None = []
start_up_checks ls (Some u) = rule StartUpFault 0 (not (length (entries u.pairs) == length ls)) ∷ pair_checks 1 0 (entries u.pairs) ls

-- a pair beside the card's: the same level, a rate from lowest to highest
abbrev pub row_check : ℕ → RampPair → RampLimits → List Check
row_check place p l = rule RampFault place (not (p.level == l.level) || nat_lt p.rate l.lowest || nat_lt l.highest p.rate) ∷ []

-- each pair in turn
abbrev pub row_checks : ℕ → List RampPair → List RampLimits → List Check
row_checks place [] ls = []
row_checks place (p ∷ ps) [] = []
row_checks place (p ∷ ps) (l ∷ ls) = row_check place p l ++ row_checks (place + 1) ps ls

abbrev pub ramp_checks : List RampLimits → Option Ramp → List Check
ramp_checks ls None = []
ramp_checks ls (Some r) = rule RampFault 0 (not (length (entries r.pairs) == length ls)) ∷ row_checks 1 (entries r.pairs) ls

-- all checks in their order
unfoldable pub checks : ℕ → Day → Card → Components → List Check
checks coordinator d c b =
    filing_checks coordinator d c b ++ (self_schedule_checks c b.self_schedule ++ (curve_checks (base c b) (top c) d b.curve
    ++ (services_checks d c b.services ++ (start_up_checks (entries c.start_up) b.start_up ++ ramp_checks (entries c.ramp) b.ramp))))
