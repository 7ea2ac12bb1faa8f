-- What holds of every register file. Assumes nothing.
use Rattle.std.specs.Prelude.{◌≡◌, ℕ, ◌≤◌, true, List, length, is_ok, Ok, Err}
use Rattle.std.specs.List.{AllByRecursion}
use Rattle.faults.specs.declared.Fault.{Fault}
use Rattle.faults.specs.declared.Fault.TheVariants.{Record, Register, Rule, Window}
use Rattle.register.specs.declared.data.Day.{Day}
use Rattle.register_file.specs.declared.standing.Standing.{Standing}
use Rattle.register.specs.CardRow.{row_checked, row_kept, row_meaning}
use Rattle.register_file.specs.File.{Contents, file_at, cards_of, file_meaning}
use Rattle.register_file.specs.Writing.{file_bytes, Writable}

-- a fault's place: a byte of the longest file, or a card of it
abbrev pub FaultPlaced : Fault → Type 0
FaultPlaced (Record f p) = p ≤ 7405474
FaultPlaced (Register f p) = p ≤ 65535
FaultPlaced (Rule f p) = ⊥
FaultPlaced (Window f p) = ⊥

-- the places of a file's faults are never cut to 32 bits
abbrev pub Placed : List ℕ → Type 0
Placed bytes = (f : Fault) → file_at bytes ≡ Err f → FaultPlaced f

-- the cards that are read from a file make a row of cards that is accepted, and the file means what that row means
abbrev pub ReadAsRow : List ℕ → Type 0
ReadAsRow bytes = (c : Contents) → file_at bytes ≡ Ok c → (row_checked c.day (cards_of c.standing) ≡ Ok tt) × (file_meaning bytes ≡ row_meaning c.day (cards_of c.standing))

-- what writing a kept day and at most 65,535 kept cards, each with a map that fits it, puts
pub record WrittenAs (bytes : List ℕ) (d : Day) (xs : List Standing) : Type 0 where
  pub puts : bytes ≡ file_bytes d xs
  pub kept : row_kept d (cards_of xs) ≡ true
  pub few : length xs ≤ 65535
  pub writable : AllByRecursion Writable xs

-- a file is accepted exactly when it is what writing puts, and then it means what was written
pub record FileWritten (bytes : List ℕ) : Type 0 where
  pub accepted : is_ok (file_at bytes) ≡ true → (d : Day) × (xs : List Standing) × WrittenAs bytes d xs
  pub written : (d : Day) (xs : List Standing) → WrittenAs bytes d xs → (is_ok (file_at bytes) ≡ true) × (file_meaning bytes ≡ row_meaning d (cards_of xs))
