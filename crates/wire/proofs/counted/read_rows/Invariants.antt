use Rattle.std.proofs.Common.{◌≡◌, ◌-◌, [], length, take}
use Rattle.wire.specs.Rows.{packed_at}
use Rattle.wire.proofs.counted.read_rows.Given as goal

-- what is left to read, after the rows that stand, gives what the whole reading gives
abbrev pub invariant-loop-row : goal.invariant-loop-row
invariant-loop-row g l =
    let f = g.T.Field in
    (length l.row-items ≡ l.count) × (l.reader.bytes ≡ l.initial.reader.bytes)
    × (packed_at g.T.Row.blank f.parsed g.row.N (l.count - l.row-index) (take l.row-index l.row-items) l.reader.bytes.now l.reader.at ≡ packed_at g.T.Row.blank f.parsed g.row.N l.count [] l.initial.reader.bytes.now l.initial.reader.at)
