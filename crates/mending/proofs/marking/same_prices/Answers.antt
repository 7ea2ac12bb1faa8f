use Rattle.std.proofs.Common.{rules, tests, ◌∙◌}
use Rattle.std.proofs.lemmas.Bool.{lt-leb}
use Rattle.std.proofs.lemmas.Iterator.{YieldsList-from_slice, YieldsList-from_zip}
use Rattle.std.proofs.lemmas.Iterator.Search.{all_from_yields_List}
use Rattle.mending.specs.Marks.{same_price}
use Rattle.mending.proofs.Same.{fewer_prices, prices_beside}
use Rattle.mending.proofs.marking.same_prices.Goals as goal

pub returns-then-filed-row : goal.returns-then-filed-row
returns-then-filed-row c =
    let f = c.args.filed.now in
    let r = c.args.row.now in
    all_from_yields_List (λ p. same_price p.0.price p.1.price) c.all.new.self _ _ c.all.ensures.ran (YieldsList-from_zip (YieldsList-from_slice f cc) (YieldsList-from_slice r cc)) (λ x b q k. search (rules, tests))
    ∙ prices_beside f r c.if-filed-row.true

pub returns-else-filed-row : goal.returns-else-filed-row
returns-else-filed-row c = lt-leb _ _ c.if-filed-row.false ∙ fewer_prices c.args.filed.now c.args.row.now c.if-filed-row.false
