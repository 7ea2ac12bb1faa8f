use Rattle.wire.specs.Rows.{entries}
use Rattle.raised.specs.RaisedKeeps.{priced, raised_keeps}
use Rattle.raised.proofs.raised.RaisedRegister.day.Goals as goal

pub returns-clause-keeps : goal.returns-clause-keeps
returns-clause-keeps g c =
    let r = c.args.self.now in
    raised_keeps (g.R.Register.meaning r.below) (entries r.levels.levels) c.day.ensures.keeps (priced r.levels.levels r.levels.kept)
