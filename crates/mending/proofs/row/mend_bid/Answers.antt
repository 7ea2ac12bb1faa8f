use Rattle.std.proofs.Common.{Ok, Err, ap, ◌∙◌, w32}
use Rattle.std.proofs.lemmas.Result.{err_from_is_err_and}
use Rattle.std.proofs.lemmas.Int.{to_z-of_z}
use Rattle.mending.specs.Mending.{mended, mended_services, row_made, remade}
use Rattle.mending.proofs.Mended.{joined}
use Rattle.mending.proofs.row.mend_bid.Goals as goal

pub returns-in_err-curve : goal.returns-in_err-curve
unfolding mended
returns-in_err-curve c =
    let p = err_from_is_err_and c.from_residual.result c.from_residual.ensures.1 in
    let d = c.args.registered.now.day.now in
    let k = c.args.registered.now.card.now in
    let b = c.args.bid.now.components in
    let price = to_z-of_z w32 c.extension_price.result (record { sfits = c.extension_price.type_inv }) in
    let limit = to_z-of_z w32 c.ceiling.result (record { sfits = c.ceiling.type_inv }) in
    p.1 ∙ ap Err p.2 ∙ ap (row_made b (mended_services k b)) (c.in_err-curve.ensures ∙ joined d k b _ _ _ _ _ _ _ c.base.ensures c.mended_services-services.ensures price c.extension_price.ensures limit c.ceiling.ensures c.of-capped.ensures)

pub returns : goal.returns
unfolding mended
returns c =
    let d = c.args.registered.now.day.now in
    let k = c.args.registered.now.card.now in
    let b = c.args.bid.now.components in
    let price = to_z-of_z w32 c.extension_price.result (record { sfits = c.extension_price.type_inv }) in
    let limit = to_z-of_z w32 c.ceiling.result (record { sfits = c.ceiling.type_inv }) in
    ap (λ s. Ok (remade b s c.in_ok-curve.curve)) c.mended_services-services.ensures
    ∙ ap (row_made b (mended_services k b)) (c.in_ok-curve.ensures ∙ joined d k b _ _ _ _ _ _ _ c.base.ensures c.mended_services-services.ensures price c.extension_price.ensures limit c.ceiling.ensures c.of-capped.ensures)
