-- What it is for reading a field and writing it to undo each other. Assumes nothing.
use Rattle.std.specs.Prelude.{◌≡◌, ℕ, ◌+◌, ◌≤◌, Bool, true, false, List, ◌++◌, length, drop, Ok, Err}
use Rattle.faults.specs.declared.Fault.{Fault}
use Rattle.faults.specs.declared.Fault.TheVariants.{Record, Register, Rule, Window}
use Rattle.faults.specs.declared.RecordFault.{RecordFault}
use Rattle.faults.specs.declared.RecordFault.TheVariants.{CutShort, UnknownBit, BadCount, OutOfRange, BytesLeftOver}
use Rattle.wire.specs.Bytes.{Bytes}
use Rattle.wire.specs.Reading.{Read}
use Rattle.wire.specs.Writing.{Written, laid}

-- a fault that a field can have: any of a record's but bytes left over
abbrev pub is_field_fault : RecordFault → Bool
is_field_fault CutShort = true
is_field_fault UnknownBit = true
is_field_fault BadCount = true
is_field_fault OutOfRange = true
is_field_fault BytesLeftOver = false

-- a field's fault at a place of at most n
abbrev pub FaultWithin : ℕ → Fault → Type 0
FaultWithin n (Record f p) = (is_field_fault f ≡ true) × (p ≤ n)
FaultWithin n (Register f p) = ⊥
FaultWithin n (Rule f p) = ⊥
FaultWithin n (Window f p) = ⊥

-- a field of at most `longest` bytes: how it is read, in which bytes it is written, and which values it holds
pub record Lawful {A : Type 0} (parsed : List ℕ → ℕ → Read A) (bytes_of : A → List ℕ) (held : A → Bool) (longest : ℕ) : Type 0 where
  -- what is written is read again
  pub restores : (v : A) (bytes rest : List ℕ) (at : ℕ) → held v ≡ true → drop at bytes ≡ bytes_of v ++ rest → parsed bytes at ≡ Ok (v, at + length (bytes_of v))
  -- what was read is what would be written
  pub exact : (bytes : List ℕ) (at : ℕ) (v : A) (next : ℕ) → Bytes bytes → parsed bytes at ≡ Ok (v, next)
      → (held v ≡ true) × (next ≡ at + length (bytes_of v)) × (drop at bytes ≡ bytes_of v ++ drop next bytes)
  -- a fault lies inside the field
  pub placed : (bytes : List ℕ) (at : ℕ) (f : Fault) → Bytes bytes → parsed bytes at ≡ Err f → FaultWithin (at + longest) f
  pub short : (v : A) → held v ≡ true → length (bytes_of v) ≤ longest

-- where the bytes fit, writing lays them in their place
abbrev pub Puts : (List ℕ → ℕ → Written) → List ℕ → Type 0
Puts put bs = (out : List ℕ) (at : ℕ) → at + length bs ≤ length out → put out at ≡ (Ok (at + length bs), laid bs out at)
