-- What writing a field does to a writer. Assumes nothing.
use Rattle.std.specs.Prelude.{◌≡◌, ℕ, List, length, Ok, Err, Result}
use Rattle.faults.specs.declared.Fault.{Fault}
use Rattle.wire.specs.declared.writer.Writer.{Writer}
use Rattle.wire.specs.Bytes.{Bytes}
use Rattle.wire.specs.Writing.{Written}

-- an answer, and the place where the writer stands after it
abbrev pub writer_at : Result (Unit {0}) Fault → ℕ → Result ℕ Fault
writer_at (Ok v) next = Ok next
writer_at (Err f) next = Err f

-- it answers what writing at the writer's place does, and the memory lent to the writer holds that and keeps its length; each of its numbers is a byte, before and after
abbrev pub Writes : (List ℕ → ℕ → Written) → Writer → Result (Unit {0}) Fault → Writer → Type 0
Writes put old result new =
    (new.out.ghost_name ≡ old.out.ghost_name) × ((put old.out.now old.at).0 ≡ writer_at result new.at) × (new.out.now ≡ (put old.out.now old.at).1) × (length new.out.now ≡ length old.out.now)
    × Bytes old.out.now × Bytes new.out.now
