-- What writing into lent memory answers, and what the memory holds after. Assumes nothing.
use Rattle.std.specs.Prelude.{ℕ, ◌+◌, cond, List, [], ◌∷◌, ◌++◌, length, take, drop, Ok, Err, Result, nat_le}
use Rattle.faults.specs.declared.Fault.{Fault}
use Rattle.faults.specs.declared.Fault.TheVariants.{Window}
use Rattle.faults.specs.declared.WindowFault.TheVariants.{MemoryTooShort}

-- the place after what was written, or the fault; and the memory after
abbrev pub Written : Type 0
Written = Result ℕ Fault × List ℕ

-- memory with some bytes laid over it from a place on
abbrev pub laid : List ℕ → List ℕ → ℕ → List ℕ
laid bs out at = take at out ++ (bs ++ drop (at + length bs) out)

abbrev pub too_short : Fault
too_short = Window MemoryTooShort 0

-- bytes that fit are laid at their place; else nothing is written
abbrev pub put_at : List ℕ → List ℕ → ℕ → Written
put_at bs out at = cond (nat_le (at + length bs) (length out)) (Ok (at + length bs), laid bs out at) (Err too_short, out)

-- writing goes on from where it ended; what does not fit ends it
abbrev pub onward : Result ℕ Fault → List ℕ → (List ℕ → ℕ → Written) → Written
onward (Ok next) out f = f out next
onward (Err e) out f = (Err e, out)

-- one thing written, and then the next
abbrev pub then_put : Written → (List ℕ → ℕ → Written) → Written
then_put w f = onward w.0 w.1 f

-- rows one after another
abbrev pub rows_put : {A : Type 0} → (A → List ℕ → ℕ → Written) → List A → List ℕ → ℕ → Written
rows_put put [] out at = (Ok at, out)
rows_put put (x ∷ xs) out at = then_put (put x out at) (rows_put put xs)

-- two fields of a value, one after the other
abbrev pub pair_put : {A B C : Type 0} → (C → A) → (C → B) → (A → List ℕ → ℕ → Written) → (B → List ℕ → ℕ → Written) → C → List ℕ → ℕ → Written
pair_put first second put_first put_second v out at = then_put (put_first (first v) out at) (put_second (second v))
