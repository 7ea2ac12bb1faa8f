use Rattle.std.proofs.Common.{rules, tests, eqb, ap, ◌∙◌}
use Rattle.std.proofs.lemmas.Iterator.{YieldsList-from_slice}
use Rattle.std.proofs.lemmas.Iterator.Search.{position_from_yields_List}
use Rattle.raised.specs.Tables.{place_of}
use Rattle.raised.proofs.LevelLists.{place_is}
use Rattle.raised.proofs.levels.LevelTable.place_of.Goals as goal

pub returns : goal.returns
returns c =
    let xs = c.standing.result.now in
    let n = c.args.resource in
    position_from_yields_List (λ x. eqb x.resource n) _ _ c.position.result c.position.ensures.ran (YieldsList-from_slice xs cc) (λ x b q k. search (rules, tests))
    ∙ place_is n xs ∙ ap (place_of n) c.standing.ensures.value
