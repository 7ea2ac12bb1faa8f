use Rattle.std.proofs.Common.{◌+◌, set, Ok, Some, ap, ◌∙◌, rules}
use Rattle.bid.specs.Fields.{curve}
use Rattle.mending.proofs.Steps.{curve_lengthened, curve_grown, eleventh_refused}
use Rattle.mending.proofs.curves.Capped.extended.Goals as goal

pub returns-then-rows-count : goal.returns-then-rows-count
returns-then-rows-count c =
    let by = c.args.by.now in
    curve_lengthened _ c.in-Some.curve c.in-Some.is c.args.self.now.tidy by.from by.target by.price (search rules) (search rules) c.if-rows-count.true

pub returns-then-count-ge10 : goal.returns-then-count-ge10
returns-then-count-ge10 c =
    let by = c.args.by.now in
    eleventh_refused _ c.in-Some.curve c.in-Some.is c.args.self.now.tidy by.from by.target by.price (search rules) (search rules) c.if-rows-count.false c.if-count-ge10.true

pub returns : goal.returns
returns c =
    let v = c.in-Some.curve in
    let by = c.args.by.now in
    ap (λ s. Ok (Some (curve v.start (record { count = v.steps.count + 1; rows = set v.steps.rows v.steps.count s })))) c.step.ensures
    ∙ curve_grown _ v c.in-Some.is c.args.self.now.tidy by.from by.target by.price (search rules) (search rules) c.if-rows-count.false c.if-count-ge10.false
