-- The worked bids, computed. Assumes nothing.
use Rattle.std.proofs.Common.{refl}
use Rattle.bid.specs.Record.{record_read, record_bytes, record_written}
use Rattle.checks.specs.Checks.{checks}
use Rattle.rule_laws.specs.Judging.{ruled, judged}
use Rattle.mending.specs.Marks.{marks}
use Rattle.mending.specs.Mending.{mended}
use Rattle.rule_laws.specs.Worked.{WorkedOut}

pub worked_out : WorkedOut
unfolding judged ruled checks mended marks record_read record_bytes record_written
worked_out = refl
