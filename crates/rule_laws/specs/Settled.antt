-- A row is settled: judged again it comes out the same. Assumes nothing.
use Rattle.std.specs.Prelude.{◌≡◌, ℕ, ◌<◌, ◌≤◌, List, ◌++◌, length, take, drop}
use Rattle.register.specs.Meaning.{Meaning}
use Rattle.rule_laws.specs.Judging.{judged}

-- a granted row, judged again for the same coordinator in memory at least as long, is granted with the same bytes and no marks
abbrev pub Settled : ℕ → Meaning → List ℕ → List ℕ → Type 0
Settled coordinator m bytes out =
    (k n : ℕ) (after : List ℕ) → judged coordinator m bytes out ≡ ((0, 0, 0, k, n), after)
    → (again : List ℕ) → n ≤ length again → judged coordinator m (take n after) again ≡ ((0, 0, 0, 0, n), take n after ++ drop n again)

-- two meanings are the same to a bid: equal days, and equal cards at each number of 16 bits
pub record SameMeaning (m n : Meaning) : Type 0 where
  pub day : m.day ≡ n.day
  pub cards : (k : ℕ) → k < 65536 → m.cards k ≡ n.cards k

-- registers that mean the same judge every record alike
abbrev pub OnlyMeaning : ℕ → Meaning → List ℕ → List ℕ → Type 0
OnlyMeaning coordinator m bytes out = (n : Meaning) → SameMeaning m n → judged coordinator m bytes out ≡ judged coordinator n bytes out
