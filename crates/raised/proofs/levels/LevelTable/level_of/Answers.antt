use Rattle.std.proofs.Common.{rules, tests, of_calls, eqb, ap, ◌∙◌}
use Rattle.std.proofs.lemmas.Iterator.{YieldsList-from_slice}
use Rattle.std.proofs.lemmas.Iterator.Search.{find_from_yields_List}
use Rattle.raised.specs.Levels.{level_of}
use Rattle.raised.proofs.LevelLists.{found_level}
use Rattle.raised.proofs.levels.LevelTable.level_of.Goals as goal

pub returns : goal.returns
returns c =
    let xs = c.standing.result.now in
    let n = c.args.resource in
    let found = find_from_yields_List (λ x. eqb x.resource n) _ _ c.find.result c.find.ensures.ran (YieldsList-from_slice xs cc) (λ x b q k. search (rules, tests)) in
    found_level n xs c.find.result c.map.result found c.map.ensures.cases (λ x l k. search (rules, of_calls)) ∙ ap (λ l. level_of l n) c.standing.ensures.value
