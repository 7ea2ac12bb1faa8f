use Rattle.mending.specs.Marks.{marks}
use Rattle.mending.proofs.Same.{services_equal}
use Rattle.mending.proofs.marking.marks.Goals as goal

pub returns : goal.returns
unfolding marks
returns c =
    let f = c.args.filed.now.services in
    let r = c.args.row.now.services in
    cc (services_equal f.spinning r.spinning, services_equal f.non_spinning r.non_spinning, services_equal f.regulation_up r.regulation_up, services_equal f.regulation_down r.regulation_down)
