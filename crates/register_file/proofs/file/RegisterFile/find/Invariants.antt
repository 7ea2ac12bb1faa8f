use Rattle.std.proofs.Common.{◌≡◌, ℕ, ◌+◌, ◌-◌, true, is_ok}
use Rattle.register_file.specs.File.{cards_at}
use Rattle.register_file.specs.Skipping.{find_at}
use Rattle.register_file.proofs.file.RegisterFile.find.Given as goal

-- the cards that are left stand, and the search among them is the whole search
abbrev pub invariant-loop-i : goal.invariant-loop-i
invariant-loop-i l =
    ((least : ℕ) × (is_ok (cards_at (l._i-end - l._i) (l._i + 1) least l.bytes l.next) ≡ true))
    × (find_at l.resource (l._i-end - l._i) l.bytes l.next ≡ find_at l.resource l._i-end l.bytes 19)
