use Rattle.std.proofs.Common.{◌≡◌, true, sym, subst, rules}
use Rattle.bid.proofs.RecordLaws.{parts}
use Rattle.mending.specs.Mending.{is_tidy, capped}
use Rattle.mending.proofs.Tidied.{tidy_curve, tidy_capped}
use Rattle.mending.proofs.curves.Capped.of.Goals as goal

pub invariant_of-result : goal.invariant_of-result
invariant_of-result c =
    let b = c.args.bid.now in
    let made : c.map-curve.result ≡ capped c.args.limit b.components.curve = search rules in
    record { tidy = subst (λ v. is_tidy v ≡ true) (sym made) (tidy_capped c.args.limit b.components.curve (tidy_curve b.components.curve (parts b.components b.kept).curve)) }
