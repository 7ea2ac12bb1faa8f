use Rattle.wire.specs.Rows.{entries}
use Rattle.checks.proofs.Beside.{start_up_beside}
use Rattle.checks.proofs.pairs.check_start_up.Goals as goal

pub returns-in-Some : goal.returns-in-Some
returns-in-Some c = cc (start_up_beside (entries c.args.limits.now) c.in-Some.start_up)
