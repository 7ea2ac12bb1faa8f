use Rattle.std.proofs.Common.{sym}
use Rattle.register.proofs.CardRows.{row_kept_lem}
use Rattle.register.proofs.row.CardRow.new.Goals as goal

pub invariant_of-result : goal.invariant_of-result
invariant_of-result c = record { kept = row_kept_lem c.args.day c.args.cards.now (sym c.if-not-keeps.ensures) (sym c.in_ok-check_cards.ensures) }
