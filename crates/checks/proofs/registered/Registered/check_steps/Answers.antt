use Rattle.std.proofs.Common.{◌+◌, ◌<◌, length, get_or, Err, refl, ap, ◌∙◌, arith}
use Rattle.std.proofs.lemmas.Result.{err_from_is_err_and}
use Rattle.bid.specs.Fields.{blank_step}
use Rattle.checks.specs.Checks.{step_check, step_checks}
use Rattle.checks.specs.Terms.{top}
use Rattle.checks.proofs.Broken.{turn_failed}
use Rattle.checks.proofs.registered.Registered.check_steps.Goals as goal

pub returns-in_err-check_step : goal.returns-in_err-check_step
returns-in_err-check_step c =
    let p = err_from_is_err_and c.from_residual.result c.from_residual.ensures.1 in
    let day = c.args.self.now.day.now in
    let most = top c.args.self.now.card.now in
    let i = c.loop-i.i in
    let steps = c.standing-step-items.result.now in
    let s = get_or steps i blank_step in
    let lt : i < length steps = omega arith in
    p.1 ∙ ap Err p.2
    ∙ turn_failed steps i blank_step lt (step_checks most day (i + 1) c.loop-i.before) (step_check most day (i + 1) c.loop-i.before s) (step_checks most day (i + 1 + 1) s) refl _ c.in_err-check_step.ensures
    ∙ c.loop-i.invariant
