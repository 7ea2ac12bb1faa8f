-- Each fault in plain words. Assumes nothing.
use Rattle.std.specs.Prelude.{ℕ, List, ◌++◌, codes, decimal}
use Rattle.faults.specs.Answers.{answer_of}
use Rattle.faults.specs.declared.Answer.{Answer}
use Rattle.faults.specs.declared.Fault.{Fault}
use Rattle.faults.specs.declared.Fault.TheVariants.{Record, Register, Rule, Window}
use Rattle.faults.specs.declared.RecordFault.{RecordFault}
use Rattle.faults.specs.declared.RecordFault.TheVariants.{CutShort, UnknownBit, BadCount, OutOfRange, BytesLeftOver}
use Rattle.faults.specs.declared.RegisterFault.{RegisterFault}
use Rattle.faults.specs.declared.RegisterFault.TheVariants.{ResourceNotHeld, NotTheOwner, NoSuchHour, RaiseNotAllowed, Breach}
use Rattle.faults.specs.declared.RuleFault.{RuleFault}
use Rattle.faults.specs.declared.RuleFault.TheVariants.{SelfSchedule, CurveStart, StepEnd, StepPrice, Service, StartUp, Ramp, ReserveAboveTop, EleventhStep}
use Rattle.faults.specs.declared.WindowFault.{WindowFault}
use Rattle.faults.specs.declared.WindowFault.TheVariants.{Full, BookLength, NoSuchRow, MemoryTooShort, NoCoordinator}

abbrev pub record_words : RecordFault → List ℕ
record_words CutShort = codes "the bytes end before a field that is due"
record_words UnknownBit = codes "a bit stands in the map that no field has"
record_words BadCount = codes "a count is 0 or too large"
record_words OutOfRange = codes "a number is out of its range"
record_words BytesLeftOver = codes "bytes are left over at the end"

abbrev pub register_words : RegisterFault → List ℕ
register_words ResourceNotHeld = codes "the register does not hold the resource"
register_words NotTheOwner = codes "the coordinator is not the resource's owner"
register_words NoSuchHour = codes "the day has no such hour"
register_words RaiseNotAllowed = codes "the raised level is below the registered level or above its threshold"
register_words Breach = codes "the day or a card breaks what it has to keep"

abbrev pub rule_words : RuleFault → List ℕ
rule_words SelfSchedule = codes "the self-schedule is below PMin or above the top"
rule_words CurveStart = codes "the energy curve does not start at the base"
rule_words StepEnd = codes "a step does not end above the one before, or ends above the top"
rule_words StepPrice = codes "a step's price is below the one before, below the floor or above the hard cap"
rule_words Service = codes "a service asks for more than is certified, or its price is below 0 or above the service cap"
rule_words StartUp = codes "the start-up pairs do not agree with the card"
rule_words Ramp = codes "the ramp pairs do not agree with the card"
rule_words ReserveAboveTop = codes "the base and the reserves together are above the top"
rule_words EleventhStep = codes "the curve would need an eleventh step"

abbrev pub window_words : WindowFault → List ℕ
window_words Full = codes "every place is taken"
window_words BookLength = codes "the book has over 4,096 places or fewer than its rows"
window_words NoSuchRow = codes "there is no such row to pull"
window_words MemoryTooShort = codes "the memory is too short"
window_words NoCoordinator = codes "the coordinator is 0"

abbrev pub words_of : Fault → List ℕ
words_of (Record f p) = record_words f
words_of (Register f p) = register_words f
words_of (Rule f p) = rule_words f
words_of (Window f p) = window_words f

abbrev pub numbered_text : Answer → List ℕ → List ℕ
numbered_text a words = codes "fault " ++ (decimal a.number ++ (codes ", layer " ++ (decimal a.layer ++ (codes ", place " ++ (decimal a.place ++ (codes ": " ++ words))))))

-- number, layer and place, then the words
abbrev pub fault_text : Fault → List ℕ
fault_text f = numbered_text (answer_of f) (words_of f)
