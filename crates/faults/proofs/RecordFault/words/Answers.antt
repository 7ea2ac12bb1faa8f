use Rattle.std.proofs.Common.{sym, ap}
use Rattle.faults.specs.Words.{record_words}
use Rattle.faults.proofs.RecordFault.words.Goals as goal

pub returns-in-CutShort : goal.returns-in-CutShort
returns-in-CutShort c = ap record_words (sym c.in-CutShort.is)

pub returns-in-UnknownBit : goal.returns-in-UnknownBit
returns-in-UnknownBit c = ap record_words (sym c.in-UnknownBit.is)

pub returns-in-BadCount : goal.returns-in-BadCount
returns-in-BadCount c = ap record_words (sym c.in-BadCount.is)

pub returns-in-OutOfRange : goal.returns-in-OutOfRange
returns-in-OutOfRange c = ap record_words (sym c.in-OutOfRange.is)

pub returns-in-BytesLeftOver : goal.returns-in-BytesLeftOver
returns-in-BytesLeftOver c = ap record_words (sym c.in-BytesLeftOver.is)
