-- What reading a field does to a reader. Assumes nothing.
use Rattle.std.specs.Prelude.{◌≡◌, ℕ, List, Ok, Err, Result}
use Rattle.faults.specs.declared.Fault.{Fault}
use Rattle.wire.specs.declared.reader.Reader.{Reader}
use Rattle.wire.specs.Bytes.{Bytes}
use Rattle.wire.specs.Reading.{Read}

-- an answer, and the place where the reader stands after it
abbrev pub reader_at : {A : Type 0} → Result A Fault → ℕ → Read A
reader_at (Ok v) next = Ok (v, next)
reader_at (Err f) next = Err f

-- it answers what stands at the reader's place, and after a value the reader stands behind it; its numbers are the same, each a byte
abbrev pub Reads : {A : Type 0} → (List ℕ → ℕ → Read A) → Reader → Result A Fault → Reader → Type 0
Reads parsed old result new = (parsed old.bytes.now old.at ≡ reader_at result new.at) × (new.bytes ≡ old.bytes) × Bytes old.bytes.now
