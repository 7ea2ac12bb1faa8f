use Rattle.std.proofs.Common.{◌≡◌, ◌+◌, drop}
use Rattle.bid.specs.Fields.{step}
use Rattle.checks.specs.Checks.{first_broken, step_checks}
use Rattle.checks.specs.Terms.{top, steps_of}
use Rattle.checks.proofs.registered.Registered.check_steps.Given as goal

-- the checks of the steps that are left answer what all of them do
abbrev pub invariant-loop-i : goal.invariant-loop-i
invariant-loop-i l =
    let day = l.self.day.now in
    let most = top l.self.card.now in
    first_broken (step_checks most day (l.i + 1) l.before (drop l.i l.step-items)) ≡ first_broken (step_checks most day 1 (step l.curve.start day.floor) (steps_of l.curve))
