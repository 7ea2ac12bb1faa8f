-- What is answered for each fault: number, layer and place. Assumes nothing.
use Rattle.std.specs.Prelude.{ℕ, Ok, Err, Result}
use Rattle.faults.specs.declared.Answer.{Answer}
use Rattle.faults.specs.declared.Fault.{Fault}
use Rattle.faults.specs.declared.Fault.TheVariants.{Record, Register, Rule, Window}
use Rattle.faults.specs.declared.RecordFault.{RecordFault}
use Rattle.faults.specs.declared.RecordFault.TheVariants.{CutShort, UnknownBit, BadCount, OutOfRange, BytesLeftOver}
use Rattle.faults.specs.declared.RegisterFault.{RegisterFault}
use Rattle.faults.specs.declared.RegisterFault.TheVariants.{ResourceNotHeld, NotTheOwner, NoSuchHour, RaiseNotAllowed, Breach}
use Rattle.faults.specs.declared.RuleFault.{RuleFault}
use Rattle.faults.specs.declared.RuleFault.TheVariants.{SelfSchedule, CurveStart, StepEnd, StepPrice, Service, StartUp, Ramp, ReserveAboveTop, EleventhStep}
use Rattle.faults.specs.declared.WindowFault.{WindowFault}
use Rattle.faults.specs.declared.WindowFault.TheVariants.{Full, BookLength, NoSuchRow, MemoryTooShort, NoCoordinator}

abbrev pub record_number : RecordFault → ℕ
record_number CutShort = 1
record_number UnknownBit = 2
record_number BadCount = 3
record_number OutOfRange = 4
record_number BytesLeftOver = 5

abbrev pub register_number : RegisterFault → ℕ
register_number ResourceNotHeld = 6
register_number NotTheOwner = 7
register_number NoSuchHour = 8
register_number RaiseNotAllowed = 23
register_number Breach = 24

abbrev pub rule_number : RuleFault → ℕ
rule_number SelfSchedule = 9
rule_number CurveStart = 10
rule_number StepEnd = 11
rule_number StepPrice = 12
rule_number Service = 13
rule_number StartUp = 14
rule_number Ramp = 15
rule_number ReserveAboveTop = 16
rule_number EleventhStep = 17

abbrev pub window_number : WindowFault → ℕ
window_number Full = 18
window_number BookLength = 19
window_number NoSuchRow = 20
window_number MemoryTooShort = 21
window_number NoCoordinator = 22

abbrev pub answered : ℕ → ℕ → ℕ → Answer
answered n l p = record { number = n; layer = l; place = p }

-- the record's layer is 1, the register's 2, the rules' 3, the window's 4
abbrev pub answer_of : Fault → Answer
answer_of (Record f p) = answered (record_number f) 1 p
answer_of (Register f p) = answered (register_number f) 2 p
answer_of (Rule f p) = answered (rule_number f) 3 p
answer_of (Window f p) = answered (window_number f) 4 p

-- a granted call answers 0, 0, 0
abbrev pub result_answer : {A : Type 0} → Result A Fault → Answer
result_answer (Ok x) = answered 0 0 0
result_answer (Err f) = answer_of f
