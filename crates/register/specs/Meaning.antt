-- What a register means: a day, and a partial map from resource numbers to cards. Assumes nothing.
use Rattle.std.specs.Prelude.{◌≡◌, ℕ, ◌<◌, true, Some, None, Ok, Err, Option, Result}
use Rattle.faults.specs.declared.Fault.{Fault}
use Rattle.register.specs.declared.data.Card.{Card}
use Rattle.register.specs.declared.data.Day.{Day}
use Rattle.register.specs.Cards.{tidied}
use Rattle.register.specs.Kept.{day_kept, card_kept}

pub record Meaning : Type 0 where
  pub day : Day
  pub cards : ℕ → Option Card

-- what is held of a number: it has 16 bits, and its card keeps what cards keep and has zeros past its counts
pub record Held (n : ℕ) (c : Card) : Type 0 where
  pub number : n < 65536
  pub card : card_kept c ≡ true
  pub tidy : c ≡ tidied c

pub record Keeps (m : Meaning) : Type 0 where
  pub day : day_kept m.day ≡ true
  pub cards : (n : ℕ) (c : Card) → m.cards n ≡ Some c → Held n c

-- the card that is held, or else the one that stood there
abbrev pub card_or : Card → Option Card → Card
card_or before (Some c) = c
card_or before None = before

-- what is new where a call was granted; refused, what stood before
abbrev pub granted : {A B : Type 0} → Result A Fault → B → B → B
granted (Ok x) new old = new
granted (Err f) new old = old
