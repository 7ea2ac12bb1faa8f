use Rattle.rule_laws.proofs.WorkedOut.{worked_out}
use Rattle.rule_laws.proofs.worked_bids_stand.Goals as goal

pub returns : goal.returns
returns c = worked_out
