use Rattle.std.proofs.Common.{sym, ap}
use Rattle.faults.specs.Words.{window_words}
use Rattle.faults.proofs.WindowFault.words.Goals as goal

pub returns-in-Full : goal.returns-in-Full
returns-in-Full c = ap window_words (sym c.in-Full.is)

pub returns-in-BookLength : goal.returns-in-BookLength
returns-in-BookLength c = ap window_words (sym c.in-BookLength.is)

pub returns-in-NoSuchRow : goal.returns-in-NoSuchRow
returns-in-NoSuchRow c = ap window_words (sym c.in-NoSuchRow.is)

pub returns-in-MemoryTooShort : goal.returns-in-MemoryTooShort
returns-in-MemoryTooShort c = ap window_words (sym c.in-MemoryTooShort.is)

pub returns-in-NoCoordinator : goal.returns-in-NoCoordinator
returns-in-NoCoordinator c = ap window_words (sym c.in-NoCoordinator.is)
