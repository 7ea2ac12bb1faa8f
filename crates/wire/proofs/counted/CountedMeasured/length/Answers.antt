use Rattle.std.proofs.Common.{◌+◌, ◌*◌, length, sym, ap, ◌∙◌}
use Rattle.wire.specs.CountedRows.{length_counted}
use Rattle.wire.proofs.counted.CountedMeasured.length.Goals as goal

pub returns-clause-value : goal.returns-clause-value
returns-clause-value g c = ap (λ l. 1 + length l * c.WIDTH.result) c.standing.ensures.value ∙ sym (length_counted g.T.Field.encoded c.WIDTH.result (λ x. g.met.T.OfWidth.wide x ∙ sym c.WIDTH.ensures) c.args.self.now)
