-- A row and its marks, by the row's components. Assumes nothing.
use Rattle.std.specs.Prelude.{ℕ, Ok, Err, Result}
use Rattle.faults.specs.declared.Fault.{Fault}
use Rattle.bid.specs.declared.components.Components.{Components}
use Rattle.rules.specs.declared.judged.Judged.{Judged}

abbrev pub told : Result Judged Fault → Result (Components × ℕ) Fault
told (Ok j) = Ok (j.row.components, j.marks)
told (Err f) = Err f
