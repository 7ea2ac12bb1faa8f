use Rattle.std.proofs.Common.{arith, ◌%◌}
use Rattle.std.proofs.lemmas.Grind.{common_steps}
use Rattle.words.proofs.TwoDigits.{two_padded}
use Rattle.words.proofs.units.HundredthsDisplay.fmt.Goals as goal

pub returns-clause-writes : goal.returns-clause-writes
returns-clause-writes g c = grind (arith, common_steps, two_padded (c.args.self.now.0 % 100) (omega arith))
