-- A granted row is what mending makes, no other row fits, and its marks are honest. Assumes nothing.
use Rattle.std.proofs.Common.{◌≡◌, ℕ, true, IfOk, Ok, Err, Result}
use Rattle.faults.specs.declared.Fault.{Fault}
use Rattle.bid.specs.declared.components.Components.{Components}
use Rattle.bid.specs.Kept.{keeps}
use Rattle.register.specs.Meaning.{Meaning}
use Rattle.rule_laws.specs.Granted.{GrantedRow}
use Rattle.rule_laws.specs.Judging.{ruled, marked}
use Rattle.rules.specs.declared.judged.Judged.{Judged}
use Rattle.rules.specs.Told.{told}
use Rattle.rule_laws.proofs.GrantedRows.{granted_row as row_of_bid}

pub granted_row : (coordinator : ℕ) (m : Meaning) (b : Components) → keeps b ≡ true → (r : Result Judged Fault) → told r ≡ marked b (ruled coordinator m b) → IfOk r (λ j. GrantedRow m b j.row.components j.marks)
granted_row coordinator m b bk (Err f) e = tt
granted_row coordinator m b bk (Ok j) e = row_of_bid coordinator m b j.row.components j.marks bk j.row.kept e
