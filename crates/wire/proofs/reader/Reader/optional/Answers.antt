use Rattle.wire.specs.Lawful.{optional_undone}
use Rattle.wire.proofs.reader.Reader.optional.Goals as goal

pub returns-in_err-read-clause-lawful : goal.returns-in_err-read-clause-lawful
returns-in_err-read-clause-lawful g c = optional_undone g.met.T.Field.lawful c.args.present

pub returns-clause-lawful : goal.returns-clause-lawful
returns-clause-lawful g c = optional_undone g.met.T.Field.lawful c.args.present
