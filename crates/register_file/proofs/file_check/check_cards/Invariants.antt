use Rattle.std.proofs.Common.{◌≡◌, ◌+◌, ◌-◌, ◌≤◌}
use Rattle.register_file.specs.File.{cards_at, end_of}
use Rattle.register_file.proofs.file_check.check_cards.Given as goal

-- what is left to check answers for all
abbrev pub invariant-loop-i : goal.invariant-loop-i
invariant-loop-i l =
    (l.least ≤ 65536) × (l.reader.bytes ≡ l.initial.reader.bytes)
    × (end_of (cards_at (l.count - l.i) (l.i + 1) l.least l.reader.bytes.now l.reader.at) ≡ end_of (cards_at l.count 1 0 l.initial.reader.bytes.now l.initial.reader.at))
