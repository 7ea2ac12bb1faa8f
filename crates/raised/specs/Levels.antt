-- Raised levels: which raise is granted, what is held after it, and what a register with raised levels means. Assumes nothing.
use Rattle.std.specs.Prelude.{ℕ, ◌+◌, ◌/◌, Bool, cond, ◌&&◌, ◌||◌, List, [], ◌∷◌, length, ℤ, pos, negsuc, is_some, Some, None, Ok, Err, Option, Result, ◌==◌, int_le, int_lt, nat_le, nat_lt}
use Rattle.faults.specs.declared.Fault.{Fault}
use Rattle.faults.specs.declared.Fault.TheVariants.{Record, Register, Window}
use Rattle.faults.specs.declared.RecordFault.TheVariants.{OutOfRange}
use Rattle.faults.specs.declared.RegisterFault.TheVariants.{ResourceNotHeld, RaiseNotAllowed}
use Rattle.faults.specs.declared.WindowFault.TheVariants.{Full}
use Rattle.wire.specs.declared.counted.Counted.{Counted}
use Rattle.wire.specs.Reading.{is_price}
use Rattle.wire.specs.Rows.{entries, all_held}
use Rattle.register.specs.declared.data.Card.{Card}
use Rattle.raised.specs.declared.level.RaisedLevel.{RaisedLevel}
use Rattle.register.specs.Meaning.{Meaning, granted}

abbrev pub raised_level : ℕ → ℤ → RaisedLevel
raised_level n l = record { resource = n; level = l }

-- the highest level that a raise may ask for: a tenth more, rounded down; a negative level is its own threshold
abbrev pub threshold : ℤ → ℤ
threshold (pos n) = pos (n + n / 10)
threshold (negsuc n) = negsuc n

abbrev pub has_price : RaisedLevel → Bool
has_price r = is_price r.level

-- at most 32 resources in 32 places, and levels that are prices
abbrev pub levels_kept : Counted RaisedLevel 32 → Bool
levels_kept c = nat_le c.count 32 && length c.rows == 32 && all_held has_price (entries c)

-- the level that is held for a resource
abbrev pub level_of : List RaisedLevel → ℕ → Option ℤ
level_of [] n = None
level_of (x ∷ xs) n = cond (x.resource == n) (Some x.level) (level_of xs n)

-- a level in the place of the one that is held, or behind the others
abbrev pub put_level : ℕ → ℤ → List RaisedLevel → List RaisedLevel
put_level n l [] = raised_level n l ∷ []
put_level n l (x ∷ xs) = cond (x.resource == n) (raised_level n l ∷ xs) (x ∷ put_level n l xs)

-- a resource that has a level, or a place that is left
abbrev pub has_place : List RaisedLevel → ℕ → Bool
has_place xs n = is_some (level_of xs n) || nat_lt (length xs) 32

abbrev pub put_answer : List RaisedLevel → ℕ → Result (Unit {0}) Fault
put_answer xs n = cond (has_place xs n) (Ok tt) (Err (Window Full 0))

-- from the level below up to the threshold
abbrev pub may_raise : ℤ → ℤ → Bool
may_raise below l = int_le below l && int_le l (threshold below)

abbrev pub raise_of : Option Card → List RaisedLevel → ℕ → ℤ → Result (Unit {0}) Fault
raise_of None xs n l = Err (Register ResourceNotHeld 0)
raise_of (Some c) xs n l = cond (may_raise c.level l) (put_answer xs n) (Err (Register RaiseNotAllowed 0))

-- the answer to a raise over what the register below means
abbrev pub raise_answer : Meaning → List RaisedLevel → ℕ → ℤ → Result (Unit {0}) Fault
raise_answer m xs n l = cond (is_price l) (raise_of (m.cards n) xs n l) (Err (Record OutOfRange 0))

-- the levels after it: refused, they stay
abbrev pub levels_after : Meaning → List RaisedLevel → ℕ → ℤ → List RaisedLevel
levels_after m xs n l = granted (raise_answer m xs n l) (put_level n l xs) xs

abbrev pub higher : ℤ → ℤ → ℤ
higher own raised = cond (int_lt own raised) raised own

abbrev pub with_level : Card → ℤ → Card
with_level c l = record {
  owner = c.owner;
  pmin = c.pmin;
  pmax = c.pmax;
  up = c.up;
  down = c.down;
  spinning = c.spinning;
  non_spinning = c.non_spinning;
  regulation_limit = c.regulation_limit;
  level = l;
  start_up = c.start_up;
  ramp = c.ramp;
}

-- a card with a raised level put in where it is higher
abbrev pub raised_card : Option ℤ → Option Card → Option Card
raised_card None c = c
raised_card (Some l) None = None
raised_card (Some l) (Some c) = Some (with_level c (higher c.level l))

abbrev pub raised_meaning : Meaning → List RaisedLevel → Meaning
raised_meaning m xs = record { day = m.day; cards = λ n. raised_card (level_of xs n) (m.cards n) }
