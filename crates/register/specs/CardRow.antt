-- A day and a row of numbered cards: what is refused of them, and what they mean. Assumes nothing.
use Rattle.std.specs.Prelude.{ℕ, ◌+◌, Bool, cond, ◌&&◌, List, [], ◌∷◌, Some, None, Ok, Err, Option, Result, ◌==◌, nat_le, nat_lt}
use Rattle.faults.specs.declared.Fault.{Fault}
use Rattle.faults.specs.declared.Fault.TheVariants.{Register}
use Rattle.faults.specs.declared.RegisterFault.TheVariants.{Breach}
use Rattle.wire.specs.Rows.{all_held}
use Rattle.register.specs.declared.data.Card.{Card}
use Rattle.register.specs.declared.data.Day.{Day}
use Rattle.register.specs.declared.data.NumberedCard.{NumberedCard}
use Rattle.register.specs.Cards.{tidied}
use Rattle.register.specs.Kept.{day_kept, card_kept, rises}
use Rattle.register.specs.Meaning.{Meaning}

abbrev pub number_of : NumberedCard → ℕ
number_of x = x.resource

-- a number of 16 bits, and a card that keeps what cards keep
abbrev pub numbered_kept : NumberedCard → Bool
numbered_kept x = nat_lt x.resource 65536 && card_kept x.card

-- a card may stand where its number is at least the least that may come
abbrev pub may_stand : ℕ → NumberedCard → Bool
may_stand least x = nat_le least x.resource && numbered_kept x

-- what a day and a row of cards keep: numbers rise strictly
abbrev pub row_kept : Day → List NumberedCard → Bool
row_kept d xs = day_kept d && all_held numbered_kept xs && rises number_of xs

abbrev pub breach_at : ℕ → Fault
breach_at place = Register Breach place

-- the cards from a place on, whose numbers are to be at least `least`: the first one that breaks what it keeps, or does not rise, is refused
abbrev pub cards_checked : ℕ → ℕ → List NumberedCard → Result (Unit {0}) Fault
cards_checked place least [] = Ok tt
cards_checked place least (x ∷ xs) = cond (may_stand least x) (cards_checked (place + 1) (x.resource + 1) xs) (Err (breach_at place))

-- the day first, at place 0, then each card in turn, from 1
abbrev pub row_checked : Day → List NumberedCard → Result (Unit {0}) Fault
row_checked d xs = cond (day_kept d) (cards_checked 1 0 xs) (Err (breach_at 0))

-- the card that stands under a number
abbrev pub card_in : List NumberedCard → ℕ → Option Card
card_in [] n = None
card_in (x ∷ xs) n = cond (x.resource == n) (Some (tidied x.card)) (card_in xs n)

abbrev pub row_meaning : Day → List NumberedCard → Meaning
row_meaning d xs = record { day = d; cards = card_in xs }
