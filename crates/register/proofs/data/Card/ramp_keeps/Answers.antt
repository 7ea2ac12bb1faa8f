use Rattle.std.proofs.Common.{rules, of_calls, sym, ap, ◌∙◌}
use Rattle.std.proofs.lemmas.Fn.{always_returns_same}
use Rattle.register.specs.Kept.{ramp_kept}
use Rattle.register.proofs.Entries.{first_answered, all_answered, row_may_be_first, row_may_follow, rows_stand}
use Rattle.register.proofs.data.Card.ramp_keeps.Goals as goal

pub returns-then-is_none_or : goal.returns-then-is_none_or
returns-then-is_none_or c =
    let low = c.args.self.now.pmin in
    let high = c.args.self.now.pmax in
    let xs = c.standing-rows.result.now in
    let first = first_answered (row_may_be_first low high) (row_may_follow low high) xs c.first.result c.is_none_or.result c.first.ensures.value c.is_none_or.ensures (λ x k. search (rules, of_calls)) in
    let others = c.is_sorted_by.ensures.cases (row_may_follow low high) (always_returns_same _ _ _ (λ a r f k. search (rules, of_calls))) in
    all_answered (row_may_be_first low high) (row_may_follow low high) xs (sym first ∙ c.if-is_none_or.true) c.is_sorted_by.result others ∙ rows_stand low high xs ∙ ap (ramp_kept low high) c.standing-rows.ensures.value
