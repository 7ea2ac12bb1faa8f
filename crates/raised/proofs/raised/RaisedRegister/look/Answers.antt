use Rattle.std.proofs.Common.{sym, ◌∙◌}
use Rattle.wire.specs.Rows.{entries}
use Rattle.raised.specs.Levels.{level_of}
use Rattle.raised.specs.RaisedKeeps.{priced, raised_keeps}
use Rattle.raised.proofs.RaisedLevels.{look_none}
use Rattle.raised.proofs.raised.RaisedRegister.look.Goals as goal

pub returns-then-not-look : goal.returns-then-not-look
returns-then-not-look g c =
    let r = c.args.self.now in
    let m = g.R.Register.meaning r.below in
    let n = c.args.resource in
    let xs = entries r.levels.levels in
    let none = look_none (level_of xs n) (m.cards n) c.args.card.now (sym c.if-not-look.ensures.answer) in
    record { answer = none.0; filled = c.look.ensures.filled ∙ none.1; keeps = raised_keeps m xs c.look.ensures.keeps (priced r.levels.levels r.levels.kept) }

pub returns-in-Some-clause-keeps : goal.returns-in-Some-clause-keeps
returns-in-Some-clause-keeps g c =
    let r = c.args.self.now in
    raised_keeps (g.R.Register.meaning r.below) (entries r.levels.levels) c.look.ensures.keeps (priced r.levels.levels r.levels.kept)

pub returns-else-level-card-clause-keeps : goal.returns-else-level-card-clause-keeps
returns-else-level-card-clause-keeps g c =
    let r = c.args.self.now in
    raised_keeps (g.R.Register.meaning r.below) (entries r.levels.levels) c.look.ensures.keeps (priced r.levels.levels r.levels.kept)

pub returns-else-not-look-clause-keeps : goal.returns-else-not-look-clause-keeps
returns-else-not-look-clause-keeps g c =
    let r = c.args.self.now in
    raised_keeps (g.R.Register.meaning r.below) (entries r.levels.levels) c.look.ensures.keeps (priced r.levels.levels r.levels.kept)
