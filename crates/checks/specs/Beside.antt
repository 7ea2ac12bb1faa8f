-- Pairs of a bid beside those of the card, whatever pairs they are. Assumes nothing.
use Rattle.std.specs.Prelude.{ℕ, ◌+◌, Bool, not, ◌||◌, List, [], ◌∷◌, length, Some, None, Option, ◌==◌, nat_lt}
use Rattle.faults.specs.declared.RuleFault.{RuleFault}
use Rattle.bid.specs.declared.components.RampPair.{RampPair}
use Rattle.bid.specs.declared.components.StartUpPair.{StartUpPair}
use Rattle.register.specs.declared.data.RampLimits.{RampLimits}
use Rattle.register.specs.declared.data.StartUpLimit.{StartUpLimit}
use Rattle.checks.specs.Checks.{Check, rule}

-- each pair in turn, after the pair before it
abbrev pub turn_checks : {P L : Type 0} → RuleFault → (Option P → P → L → Bool) → ℕ → Option P → List P → List L → List Check
turn_checks f broken place before [] ls = []
turn_checks f broken place before (p ∷ ps) [] = []
turn_checks f broken place before (p ∷ ps) (l ∷ ls) = rule f place (broken before p l) ∷ turn_checks f broken (place + 1) (Some p) ps ls

-- as many pairs as the card has, and each in turn
abbrev pub beside_checks : {P L : Type 0} → RuleFault → (Option P → P → L → Bool) → List L → List P → List Check
beside_checks f broken ls ps = rule f 0 (not (length ps == length ls)) ∷ turn_checks f broken 1 None ps ls

-- the least cost after a pair: one more than its cost
abbrev pub least_after : Option StartUpPair → ℕ
least_after None = 0
least_after (Some p) = p.cost + 1

-- another down time, a cost above the highest, or one below the least
abbrev pub start_up_broken : Option StartUpPair → StartUpPair → StartUpLimit → Bool
start_up_broken before p l = not (p.down_time == l.down_time) || nat_lt l.highest p.cost || nat_lt p.cost (least_after before)

-- another level, or a rate outside lowest to highest
abbrev pub ramp_broken : Option RampPair → RampPair → RampLimits → Bool
ramp_broken before p l = not (p.level == l.level) || nat_lt p.rate l.lowest || nat_lt l.highest p.rate
