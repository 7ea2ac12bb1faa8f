use Rattle.register.specs.RowKeeps.{row_keeps}
use Rattle.register.proofs.row_register.CardRowRegister.day.Goals as goal

pub returns-clause-keeps : goal.returns-clause-keeps
returns-clause-keeps c = row_keeps c.args.self.now.day c.args.self.now.cards.now c.args.self.now.kept
