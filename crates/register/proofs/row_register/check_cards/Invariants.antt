use Rattle.std.proofs.Common.{◌≡◌, ◌+◌, ◌≤◌, drop}
use Rattle.register.specs.CardRow.{cards_checked}
use Rattle.register.proofs.row_register.check_cards.Given as goal

-- what is left to check answers for all; as many numbers lie below the least that may come
abbrev pub invariant-loop-i : goal.invariant-loop-i
invariant-loop-i l = (l.i ≤ l.least) × (l.least ≤ 65536) × (cards_checked (l.i + 1) l.least (drop l.i l.cards) ≡ cards_checked 1 0 l.cards)
