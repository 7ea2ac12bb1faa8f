use Rattle.std.proofs.Common.{◌≡◌, ◌-◌, map, length, take, drop, replicate}
use Rattle.bid.specs.Fields.{blank_step}
use Rattle.mending.specs.Mending.{capped_step}
use Rattle.mending.proofs.curves.capped_steps.Given as goal

-- the steps so far are capped, and what stands behind them is blank
abbrev pub invariant-loop-i : goal.invariant-loop-i
invariant-loop-i l = (length l.rows ≡ 10) × (drop l.i l.rows ≡ replicate (10 - l.i) blank_step) × (take l.i l.rows ≡ map (capped_step l.limit) (take l.i l.steps))
