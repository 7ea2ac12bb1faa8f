use Rattle.std.proofs.Common.{sym, ap}
use Rattle.faults.specs.Words.{register_words}
use Rattle.faults.proofs.RegisterFault.words.Goals as goal

pub returns-in-ResourceNotHeld : goal.returns-in-ResourceNotHeld
returns-in-ResourceNotHeld c = ap register_words (sym c.in-ResourceNotHeld.is)

pub returns-in-NotTheOwner : goal.returns-in-NotTheOwner
returns-in-NotTheOwner c = ap register_words (sym c.in-NotTheOwner.is)

pub returns-in-NoSuchHour : goal.returns-in-NoSuchHour
returns-in-NoSuchHour c = ap register_words (sym c.in-NoSuchHour.is)

pub returns-in-RaiseNotAllowed : goal.returns-in-RaiseNotAllowed
returns-in-RaiseNotAllowed c = ap register_words (sym c.in-RaiseNotAllowed.is)

pub returns-in-Breach : goal.returns-in-Breach
returns-in-Breach c = ap register_words (sym c.in-Breach.is)
