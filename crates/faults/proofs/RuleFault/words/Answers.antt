use Rattle.std.proofs.Common.{sym, ap}
use Rattle.faults.specs.Words.{rule_words}
use Rattle.faults.proofs.RuleFault.words.Goals as goal

pub returns-in-SelfSchedule : goal.returns-in-SelfSchedule
returns-in-SelfSchedule c = ap rule_words (sym c.in-SelfSchedule.is)

pub returns-in-CurveStart : goal.returns-in-CurveStart
returns-in-CurveStart c = ap rule_words (sym c.in-CurveStart.is)

pub returns-in-StepEnd : goal.returns-in-StepEnd
returns-in-StepEnd c = ap rule_words (sym c.in-StepEnd.is)

pub returns-in-StepPrice : goal.returns-in-StepPrice
returns-in-StepPrice c = ap rule_words (sym c.in-StepPrice.is)

pub returns-in-Service : goal.returns-in-Service
returns-in-Service c = ap rule_words (sym c.in-Service.is)

pub returns-in-StartUp : goal.returns-in-StartUp
returns-in-StartUp c = ap rule_words (sym c.in-StartUp.is)

pub returns-in-Ramp : goal.returns-in-Ramp
returns-in-Ramp c = ap rule_words (sym c.in-Ramp.is)

pub returns-in-ReserveAboveTop : goal.returns-in-ReserveAboveTop
returns-in-ReserveAboveTop c = ap rule_words (sym c.in-ReserveAboveTop.is)

pub returns-in-EleventhStep : goal.returns-in-EleventhStep
returns-in-EleventhStep c = ap rule_words (sym c.in-EleventhStep.is)
