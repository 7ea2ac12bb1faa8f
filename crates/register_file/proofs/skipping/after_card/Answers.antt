use Rattle.std.proofs.Common.{◌≤◌, Ok, sym, ap, ◌∙◌, arith}
use Rattle.register_file.specs.Skipping.{rows_place, after_card}
use Rattle.register_file.proofs.Skipped.{lent_bytes, skips, to_rows, to_end}
use Rattle.register_file.proofs.skipping.after_card.Goals as goal

pub overflow_add-rows : goal.overflow_add-rows
overflow_add-rows c =
    let bytes = c.args.bytes.now in
    let at = c.args.at in
    let is = to_rows bytes at c.word_or_zero-map.result c.fixed_length.result c.rows_length.result c.word_or_zero-map.ensures c.fixed_length.ensures.value c.rows_length.ensures in
    let most : rows_place bytes at ≤ after_card bytes at = omega arith in
    omega (arith, (skips bytes at (lent_bytes bytes c.type_inv.bytes) c.requires).1)

pub overflow_add-result : goal.overflow_add-result
overflow_add-result c =
    let bytes = c.args.bytes.now in
    let at = c.args.at in
    let is = to_end bytes at c.word_or_zero-map.result c.fixed_length.result c.rows_length.result c.word_or_zero-map.ensures c.fixed_length.ensures.value c.rows_length.ensures c.rows_length-2.result c.rows_length-2.ensures in
    omega (arith, (skips bytes at (lent_bytes bytes c.type_inv.bytes) c.requires).1)

pub returns-clause-end : goal.returns-clause-end
returns-clause-end c =
    let bytes = c.args.bytes.now in
    let at = c.args.at in
    let is = to_end bytes at c.word_or_zero-map.result c.fixed_length.result c.rows_length.result c.word_or_zero-map.ensures c.fixed_length.ensures.value c.rows_length.ensures c.rows_length-2.result c.rows_length-2.ensures in
    (skips bytes at (lent_bytes bytes c.type_inv.bytes) c.requires).0 ∙ ap Ok (sym is)
