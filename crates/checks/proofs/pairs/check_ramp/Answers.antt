use Rattle.wire.specs.Rows.{entries}
use Rattle.checks.proofs.Beside.{ramp_beside}
use Rattle.checks.proofs.pairs.check_ramp.Goals as goal

pub returns-in-Some : goal.returns-in-Some
returns-in-Some c = cc (ramp_beside (entries c.args.limits.now) c.in-Some.ramp)
