-- A register file that was made, by its bytes, and one that was not opened yet. Assumes nothing.
use Rattle.std.specs.Prelude.{ℕ, List, [], ◌∷◌, Ok, Err, Result}
use Rattle.faults.specs.declared.Fault.{Fault}
use Rattle.register.specs.Rows.{made_of}
use Rattle.register_file.specs.declared.file.RegisterFile.{RegisterFile}
use Rattle.register_file.specs.File.{file_at, answer_only}

-- a day of 24 hours without prices, and no cards
abbrev pub closed_bytes : List ℕ
closed_bytes = 24 ∷ 0 ∷ 0 ∷ 0 ∷ 0 ∷ 0 ∷ 0 ∷ 0 ∷ 0 ∷ 0 ∷ 0 ∷ 0 ∷ 0 ∷ 0 ∷ 0 ∷ 0 ∷ 0 ∷ 0 ∷ 0 ∷ []

abbrev pub file_told : Result RegisterFile Fault → Result (List ℕ) Fault
file_told (Ok r) = Ok r.bytes.now
file_told (Err f) = Err f

-- bytes that are accepted are taken; refused, the fault
abbrev pub file_made : List ℕ → Result (List ℕ) Fault
file_made bytes = made_of (answer_only (file_at bytes)) bytes
