-- What is granted: the row that mending makes, and no other; its marks; and a row without marks is the filing. Assumes nothing.
use Rattle.std.specs.Prelude.{◌≡◌, ℕ, true, Some}
use Rattle.bid.specs.declared.components.Components.{Components}
use Rattle.bid.specs.Kept.{keeps}
use Rattle.register.specs.declared.data.Card.{Card}
use Rattle.register.specs.Meaning.{Meaning}
use Rattle.rule_laws.specs.Honest.{Honest}
use Rattle.rule_laws.specs.Made.{Makes}

pub record GrantedRow (m : Meaning) (b row : Components) (stood : ℕ) : Type 0 where
  -- the row is what mending makes of the filing, with the card that is held
  pub makes : (c : Card) → m.cards b.resource ≡ Some c → Makes m.day c b row
  -- no other row fits
  pub only : (c : Card) → m.cards b.resource ≡ Some c → (other : Components) → keeps other ≡ true → Makes m.day c b other → other ≡ row
  -- each mark stands exactly when the row differs there
  pub honest : Honest b row
  -- without marks the row is the filing
  pub unmarked : stood ≡ 0 → row ≡ b
