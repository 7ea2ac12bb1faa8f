use Rattle.std.proofs.Common.{◌<◌, sym, ◌∙◌, arith}
use Rattle.std.proofs.lemmas.Bool.{le-ltb}
use Rattle.wire.proofs.Maps.{none_above}
use Rattle.wire.proofs.stands_in.Goals as goal

pub returns-else-bit-lt16 : goal.returns-else-bit-lt16
returns-else-bit-lt16 c =
    let small : c.args.map < 65536 = omega arith in
    le-ltb c.args.bit 16 c.if-bit-lt16.false ∙ sym (none_above c.args.map c.args.bit small c.if-bit-lt16.false)
