use Rattle.std.proofs.Common.{◌≡◌, ◌+◌, ◌-◌, ◌<◌, ◌++◌, length, take, drop, set, replicate, Ok, Err, sym, ap, ◌∙◌, arith, length-set}
use Rattle.std.proofs.lemmas.List.{take_more_set, take_all}
use Rattle.std.proofs.lemmas.Result.{err_from_is_err_and}
use Rattle.wire.specs.Reads.{reader_at}
use Rattle.wire.specs.Rows.{packed, packed_at}
use Rattle.wire.proofs.Rows.{row_more, row_fails, rows_done, packed_front}
use Rattle.wire.proofs.counted.read_rows.Goals as goal

pub returns-in_err-row : goal.returns-in_err-row
returns-in_err-row g c =
    let p = err_from_is_err_and c.from_residual.result c.from_residual.ensures.1 in
    let i = c.loop-row.row-index in
    let lt : i < c.args.count = omega (arith, c.loop-row.invariant.0) in (
      sym c.loop-row.invariant.2 ∙ row_fails _ _ _ c.args.count i lt (take i c.loop-row.row-items) _ _ _ c.in_err-row.ensures.value.0 ∙ sym (ap (λ r. reader_at r c.read.new.reader.at) (p.1 ∙ ap Err p.2)),
      c.read.ensures.value.1 ∙ c.loop-row.invariant.1,
      c.tell_bytes.ensures,
    )

pub loop-row-preserved : goal.loop-row-preserved
loop-row-preserved g c =
    let i = c.loop-row.row-index in
    let items = c.loop-row.row-items in
    let lt : i < c.args.count = omega (arith, c.loop-row.invariant.0) in
    let inside : i < length items = omega (arith, c.loop-row.invariant.0) in
    let rest = packed_at g.T.Row.blank g.T.Field.parsed g.row.N (c.args.count - (i + 1)) in (
      length-set _ _ _ ∙ c.loop-row.invariant.0,
      c.read.ensures.value.1 ∙ c.loop-row.invariant.1,
      ap (λ b. rest (take (i + 1) (set items i c.in_ok-row.field-0)) b.now c.read.new.reader.at) c.read.ensures.value.1
          ∙ ap (λ l. rest l c.loop-row.reader.bytes.now c.read.new.reader.at) (take_more_set items i c.in_ok-row.field-0 inside)
          ∙ sym (row_more _ _ _ c.args.count i lt (take i items) _ _ _ _ c.in_ok-row.ensures.value.0) ∙ c.loop-row.invariant.2,
    )

pub returns : goal.returns
returns g c =
    let i = c.loop-row.row-index in
    let items = c.loop-row.row-items in
    let done : c.args.count - i ≡ 0 = omega (arith, c.loop-row.invariant.0) in
    let long : c.args.count ≡ length items = sym c.loop-row.invariant.0 in
    let all : take i items ≡ items = take_all i items (omega (arith, c.loop-row.invariant.0)) in (
      sym c.loop-row.invariant.2 ∙ rows_done _ _ _ (take i items) _ done _ _
          ∙ ap (λ l. Ok (l, c.loop-row.reader.at)) (sym (ap (λ b. record { count = c.args.count; rows = items ++ drop c.args.count (replicate g.row.N b) }) c.blank-rows.ensures ∙ packed_front g.T.Row.blank g.row.N items c.args.count long ∙ ap (packed g.T.Row.blank g.row.N) (sym all))),
      c.loop-row.invariant.1,
      c.tell_bytes.ensures,
    )
