-- A row of cards that was opened, by its day and its cards. Assumes nothing.
use Rattle.std.specs.Prelude.{List, pos, Ok, Err, Result}
use Rattle.faults.specs.declared.Fault.{Fault}
use Rattle.register.specs.declared.data.Day.{Day}
use Rattle.register.specs.declared.data.NumberedCard.{NumberedCard}
use Rattle.register.specs.declared.row.CardRow.{CardRow}
use Rattle.register.specs.CardRow.{row_checked}
use Rattle.register.specs.Meaning.{granted}

-- the day of a register that was not opened
abbrev pub closed_day : Day
closed_day = record { hours = 24; floor = pos 0; soft_cap = pos 0; hard_cap = pos 0; service_cap = pos 0 }

abbrev pub row_parts : CardRow → Day × List NumberedCard
row_parts r = (r.day, r.cards.now)

-- what was checked is taken; refused, everything stays
abbrev pub row_opened : Day × List NumberedCard → Day → List NumberedCard → Day × List NumberedCard
row_opened before d xs = granted (row_checked d xs) (d, xs) before

-- what was checked is made; refused, the fault
abbrev pub made_of : {A : Type 0} → Result (Unit {0}) Fault → A → Result A Fault
made_of (Ok x) new = Ok new
made_of (Err f) new = Err f

abbrev pub row_told : Result CardRow Fault → Result (Day × List NumberedCard) Fault
row_told (Ok r) = Ok (row_parts r)
row_told (Err f) = Err f

abbrev pub row_made : Day → List NumberedCard → Result (Day × List NumberedCard) Fault
row_made d xs = made_of (row_checked d xs) (d, xs)
