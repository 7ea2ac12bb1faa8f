use Rattle.std.proofs.Common.{◌≡◌, length, drop}
use Rattle.wire.specs.Bytes.{Bytes}
use Rattle.wire.specs.Writing.{rows_put}
use Rattle.wire.proofs.writer.write_rows.Given as goal

-- what is left to write, from here, gives what the whole writing gives
abbrev pub invariant-loop-row : goal.invariant-loop-row
invariant-loop-row g l =
    (l.writer.out.ghost_name ≡ l.initial.writer.out.ghost_name)
    × Bytes l.initial.writer.out.now × Bytes l.writer.out.now × (length l.writer.out.now ≡ length l.initial.writer.out.now)
    × (rows_put g.T.Field.put (drop l.row-index l.rows) l.writer.out.now l.writer.at ≡ rows_put g.T.Field.put l.rows l.initial.writer.out.now l.initial.writer.at)
