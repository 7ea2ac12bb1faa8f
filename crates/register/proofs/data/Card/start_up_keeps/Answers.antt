use Rattle.std.proofs.Common.{rules, of_calls, sym, ap, ◌∙◌}
use Rattle.std.proofs.lemmas.Fn.{always_returns_same}
use Rattle.register.specs.Kept.{may_be_first, may_follow, start_up_kept}
use Rattle.register.proofs.Entries.{first_answered, all_answered, pairs_stand}
use Rattle.register.proofs.data.Card.start_up_keeps.Goals as goal

pub returns-then-is_none_or : goal.returns-then-is_none_or
returns-then-is_none_or c =
    let xs = c.standing-pairs.result.now in
    let first = first_answered may_be_first may_follow xs c.first.result c.is_none_or.result c.first.ensures.value c.is_none_or.ensures (λ x k. search (rules, of_calls)) in
    let others = c.is_sorted_by.ensures.cases may_follow (always_returns_same _ _ _ (λ a r f k. search (rules, of_calls))) in
    all_answered may_be_first may_follow xs (sym first ∙ c.if-is_none_or.true) c.is_sorted_by.result others ∙ pairs_stand xs ∙ ap start_up_kept c.standing-pairs.ensures.value
