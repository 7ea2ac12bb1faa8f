-- The layer of a fault, by its number. Assumes nothing.
use Rattle.std.proofs.Common.{◌≡◌, ℕ, ◌<◌, ◌≤◌, refl, subst, arith}
use Rattle.std.proofs.lemmas.Bool.Decides.{nat_tests}
use Rattle.faults.specs.Answers.{answer_of}
use Rattle.faults.specs.declared.Fault.{Fault}
use Rattle.faults.specs.declared.Fault.TheVariants.{Record, Register, Rule, Window}
use Rattle.faults.specs.declared.RecordFault.TheVariants.{CutShort, UnknownBit, BadCount, OutOfRange, BytesLeftOver}
use Rattle.faults.specs.declared.RegisterFault.TheVariants.{ResourceNotHeld, NotTheOwner, NoSuchHour, RaiseNotAllowed, Breach}
use Rattle.faults.specs.declared.RuleFault.TheVariants.{SelfSchedule, CurveStart, StepEnd, StepPrice, Service, StartUp, Ramp, ReserveAboveTop, EleventhStep}
use Rattle.faults.specs.declared.WindowFault.TheVariants.{Full, BookLength, NoSuchRow, MemoryTooShort, NoCoordinator}
use Rattle.rule_laws.specs.Exactly.{turn, layer_of}
use Rattle.rule_laws.proofs.Turns.{Known, number_at}

layer_of_lem : (f : Fault) → 6 ≤ (answer_of f).number → (answer_of f).number ≤ 17 → (answer_of f).layer ≡ layer_of (answer_of f).number
layer_of_lem (Record CutShort p) low high = absurd (omega arith)
layer_of_lem (Record UnknownBit p) low high = absurd (omega arith)
layer_of_lem (Record BadCount p) low high = absurd (omega arith)
layer_of_lem (Record OutOfRange p) low high = absurd (omega arith)
layer_of_lem (Record BytesLeftOver p) low high = absurd (omega arith)
layer_of_lem (Register ResourceNotHeld p) low high = refl
layer_of_lem (Register NotTheOwner p) low high = refl
layer_of_lem (Register NoSuchHour p) low high = refl
layer_of_lem (Register RaiseNotAllowed p) low high = absurd (omega arith)
layer_of_lem (Register Breach p) low high = absurd (omega arith)
layer_of_lem (Rule SelfSchedule p) low high = refl
layer_of_lem (Rule CurveStart p) low high = refl
layer_of_lem (Rule StepEnd p) low high = refl
layer_of_lem (Rule StepPrice p) low high = refl
layer_of_lem (Rule Service p) low high = refl
layer_of_lem (Rule StartUp p) low high = refl
layer_of_lem (Rule Ramp p) low high = refl
layer_of_lem (Rule ReserveAboveTop p) low high = refl
layer_of_lem (Rule EleventhStep p) low high = refl
layer_of_lem (Window Full p) low high = absurd (omega arith)
layer_of_lem (Window BookLength p) low high = absurd (omega arith)
layer_of_lem (Window NoSuchRow p) low high = absurd (omega arith)
layer_of_lem (Window MemoryTooShort p) low high = absurd (omega arith)
layer_of_lem (Window NoCoordinator p) low high = absurd (omega arith)

number_most : (t : ℕ) → t < 40 → number_at t ≤ 17
number_most t lt = grind (arith, nat_tests)

-- a fault whose number and place have a turn is of the register's or the rules' layer
pub layer_known : (f : Fault) → Known (answer_of f).number (answer_of f).place → (answer_of f).layer ≡ layer_of (answer_of f).number
layer_known f k = layer_of_lem f k.some (subst (λ n. n ≤ 17) k.number (number_most (turn (answer_of f).number (answer_of f).place) k.last))
