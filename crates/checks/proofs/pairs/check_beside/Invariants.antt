use Rattle.std.proofs.Common.{length}
use Rattle.wire.specs.Rows.{entries}
use Rattle.checks.proofs.Beside.{Left}
use Rattle.checks.proofs.pairs.check_beside.Given as goal

-- the checks of the pairs that are left answer what all of them do
abbrev pub invariant-loop-i : goal.invariant-loop-i
invariant-loop-i g l =
    let r = g.P.Beside in
    (goal.iterator-loop-i g).can_next l.i-iterator × (goal.iterator-loop-i g).is_finite l.i-iterator × Left r.FAULT r.broken (entries l.fn.pairs) (entries l.fn.limits) (length l.yielded) l.before
