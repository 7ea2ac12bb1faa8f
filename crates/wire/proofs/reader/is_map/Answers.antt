use Rattle.std.proofs.Common.{◌<◌, ◌∙◌, arith}
use Rattle.std.proofs.lemmas.Bool.{le-leb}
use Rattle.wire.proofs.Maps.{map_tested, map_whole}
use Rattle.wire.proofs.reader.is_map.Goals as goal

pub returns-then-last-ge15 : goal.returns-then-last-ge15
returns-then-last-ge15 c =
    let small : c.args.map < 65536 = omega arith in
    le-leb 15 c.args.last c.if-last-ge15.true ∙ map_whole c.args.last c.args.map small c.if-last-ge15.true

pub returns-else-last-ge15 : goal.returns-else-last-ge15
returns-else-last-ge15 c = map_tested c.args.last c.args.map
