-- Judging a bid against what a register means, and judging a record into lent memory. Assumes nothing.
use Rattle.std.specs.Prelude.{ℕ, cond, List, Some, None, Ok, Err, Option, Result, ◌==◌}
use Rattle.faults.specs.Answers.{answer_of}
use Rattle.faults.specs.declared.Fault.{Fault}
use Rattle.faults.specs.declared.Fault.TheVariants.{Register, Window}
use Rattle.faults.specs.declared.RegisterFault.TheVariants.{ResourceNotHeld}
use Rattle.faults.specs.declared.WindowFault.TheVariants.{NoCoordinator}
use Rattle.bid.specs.declared.components.Components.{Components}
use Rattle.bid.specs.Record.{record_read, record_written}
use Rattle.register.specs.declared.data.Card.{Card}
use Rattle.register.specs.Meaning.{Meaning}
use Rattle.checks.specs.Checks.{Passed, first_broken, checks}
use Rattle.mending.specs.Marks.{marks}
use Rattle.mending.specs.Mending.{mended}

abbrev pub after_checks : Passed → Result Components Fault → Result Components Fault
after_checks (Ok x) row = row
after_checks (Err f) row = Err f

abbrev pub ruled_by : ℕ → Meaning → Components → Option Card → Result Components Fault
ruled_by coordinator m b None = Err (Register ResourceNotHeld 0)
ruled_by coordinator m b (Some c) = after_checks (first_broken (checks coordinator m.day c b)) (mended m.day c b)

-- the row that the rules make of a bid, or the fault
unfoldable pub ruled : ℕ → Meaning → Components → Result Components Fault
ruled coordinator m b = ruled_by coordinator m b (m.cards b.resource)

-- a row with its marks
abbrev pub marked : Components → Result Components Fault → Result (Components × ℕ) Fault
marked filed (Ok row) = Ok (row, marks filed row)
marked filed (Err f) = Err f

-- number, layer, place, marks and written length
abbrev pub Verdict : Type 0
Verdict = ℕ × ℕ × ℕ × ℕ × ℕ

abbrev pub denied : Fault → Verdict
denied f = ((answer_of f).number, (answer_of f).layer, (answer_of f).place, 0, 0)

-- granted, with marks and length; or denied
abbrev pub verdict_of : Result (ℕ × ℕ) Fault → Verdict
verdict_of (Ok x) = (0, 0, 0, x.0, x.1)
verdict_of (Err f) = denied f

abbrev pub wrote : ℕ → Result ℕ Fault → List ℕ → Verdict × List ℕ
wrote stood (Ok n) after = ((0, 0, 0, stood, n), after)
wrote stood (Err f) after = (denied f, after)

-- a row is written at the front of the memory
abbrev pub row_written : Result (Components × ℕ) Fault → List ℕ → Verdict × List ℕ
row_written (Ok x) out = wrote x.1 (record_written x.0 out).0 (record_written x.0 out).1
row_written (Err f) out = (denied f, out)

abbrev pub read_judged : ℕ → Meaning → Result Components Fault → List ℕ → Verdict × List ℕ
read_judged coordinator m (Ok b) out = row_written (marked b (ruled coordinator m b)) out
read_judged coordinator m (Err f) out = (denied f, out)

-- coordinator 0 is refused first; then the record is read, the rules judge it, and the row is written at the front of the memory
unfoldable pub judged : ℕ → Meaning → List ℕ → List ℕ → Verdict × List ℕ
judged coordinator m bytes out = cond (coordinator == 0) (denied (Window NoCoordinator 0), out) (read_judged coordinator m (record_read bytes) out)
