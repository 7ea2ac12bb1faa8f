-- A register file: what reading it gives, front to back, and what it means. Assumes nothing.
use Rattle.std.specs.Prelude.{ℕ, zero, suc, ◌+◌, cond, List, [], ◌∷◌, map, length, pos, None, Ok, Err, Result, nat_le}
use Rattle.faults.specs.declared.Fault.{Fault}
use Rattle.faults.specs.declared.RecordFault.TheVariants.{BytesLeftOver}
use Rattle.wire.specs.Reading.{Read, and_then, fault_at, word_at}
use Rattle.register.specs.declared.data.Day.{Day}
use Rattle.register.specs.declared.data.NumberedCard.{NumberedCard}
use Rattle.register_file.specs.declared.standing.Standing.{Standing}
use Rattle.register.specs.CardRow.{may_stand, breach_at, row_meaning}
use Rattle.register_file.specs.Fields.{day_at, standing_at}
use Rattle.register.specs.Kept.{day_kept}
use Rattle.register.specs.Meaning.{Meaning}

-- what was read, with something in front
abbrev pub before : {A : Type 0} → A → List A → ℕ → Read (List A)
before x xs next = Ok (x ∷ xs, next)

-- so many cards, the first being card `place` of the file, with numbers of at least `least`; each is tested after its last byte
abbrev pub cards_at : ℕ → ℕ → ℕ → List ℕ → ℕ → Read (List Standing)
cards_at zero place least bytes at = Ok ([], at)
cards_at (suc k) place least bytes at = and_then (standing_at bytes at) (λ x next. cond (may_stand least x.numbered) (and_then (cards_at k (place + 1) (x.numbered.resource + 1) bytes next) (before x)) (Err (breach_at place)))

-- what stands in a file
pub record Contents : Type 0 where
  pub day : Day
  pub standing : List Standing

abbrev pub contents : Day → List Standing → Contents
contents d xs = record { day = d; standing = xs }

-- the bytes end where the last card does
abbrev pub ending_at : List ℕ → Day → List Standing → ℕ → Result Contents Fault
ending_at bytes d xs end = cond (nat_le (length bytes) end) (Ok (contents d xs)) (Err (fault_at BytesLeftOver end))

-- the day, tested after its last price; the number of cards, and the cards
abbrev pub file_at : List ℕ → Result Contents Fault
file_at bytes = and_then (day_at bytes 0) (λ d a. cond (day_kept d) (and_then (word_at bytes a) (λ count b. and_then (cards_at count 1 0 bytes b) (ending_at bytes d))) (Err (breach_at 0)))

abbrev pub cards_of : List Standing → List NumberedCard
cards_of = map (λ x. x.numbered)

-- the day and the cards that stand in a file; a file that is refused means nothing, and no register holds one
abbrev pub contents_meaning : Result Contents Fault → Meaning
contents_meaning (Ok c) = row_meaning c.day (cards_of c.standing)
contents_meaning (Err f) = record { day = record { hours = 0; floor = pos 0; soft_cap = pos 0; hard_cap = pos 0; service_cap = pos 0 }; cards = λ n. None }

abbrev pub file_meaning : List ℕ → Meaning
file_meaning bytes = contents_meaning (file_at bytes)

-- granted, or the fault
abbrev pub answer_only : {A : Type 0} → Result A Fault → Result (Unit {0}) Fault
answer_only (Ok x) = Ok tt
answer_only (Err f) = Err f

-- the place after what was read, or the fault
abbrev pub end_of : {A : Type 0} → Read A → Result ℕ Fault
end_of (Ok x) = Ok x.1
end_of (Err f) = Err f
