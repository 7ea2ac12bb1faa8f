use Rattle.std.proofs.Common.{◌++◌, drop, replicate, ap, ◌∙◌, arith, rules}
use Rattle.wire.proofs.Rows.{packed_copy}
use Rattle.wire.proofs.counted.Counted.of.Goals as goal

pub returns : goal.returns
returns g c =
    ap (λ b. record { count = c.min-count.result; rows = c.copy_from_slice.new.self ++ drop c.min-count.result (replicate g.row.N b) }) c.blank-rows.ensures
    ∙ packed_copy g.T.Row.blank g.row.N c.args.given.now c.copy_from_slice.new.self c.min-count.result (omega arith) (search rules)
