use Rattle.std.proofs.Common.{◌<◌, [], ◌∷◌, ◌++◌, map, length, take, sym, ap, ◌∙◌, arith, length-set, w32, to_z, of_z}
use Rattle.std.proofs.lemmas.List.{take_more_set, map_more}
use Rattle.wire.proofs.Rows.{blank_more}
use Rattle.bid.specs.Fields.{blank_step, step_at}
use Rattle.mending.specs.Mending.{capped_step}
use Rattle.mending.proofs.curves.capped_steps.Goals as goal

pub loop-i-preserved : goal.loop-i-preserved
loop-i-preserved c =
    let i = c.loop-i.i in
    let steps = c.standing-steps.result.now in
    let lt : i < length steps = omega arith in
    let inside : i < length c.loop-i.rows = omega arith in (
      length-set _ _ _ ∙ c.loop-i.invariant.0,
      blank_more blank_step step_at 10 c.loop-i.rows i _ inside c.loop-i.invariant.1,
      take_more_set c.loop-i.rows i c.capped_step.result inside
          ∙ ap (λ l. l ++ c.capped_step.result ∷ []) c.loop-i.invariant.2
          ∙ ap (λ s. map (capped_step (to_z w32 (of_z w32 c.args.limit))) (take i steps) ++ s ∷ []) c.capped_step.ensures
          ∙ sym (map_more (capped_step (to_z w32 (of_z w32 c.args.limit))) steps i blank_step lt),
    )
