-- Raises one after another on a new layer, and what comes of them. Assumes nothing.
use Rattle.std.specs.Prelude.{◌≡◌, ℕ, true, cond, List, [], ◌∷◌, ℤ, is_ok, Some, None, Option, ◌==◌}
use Rattle.register.specs.declared.data.Card.{Card}
use Rattle.raised.specs.declared.level.RaisedLevel.{RaisedLevel}
use Rattle.raised.specs.Levels.{raise_answer, levels_after, may_raise, higher, with_level, raised_meaning}
use Rattle.register.specs.Meaning.{Meaning}

-- the levels after a list of raises over what the register below means
abbrev pub levels_after_all : Meaning → List RaisedLevel → List RaisedLevel → List RaisedLevel
levels_after_all m xs [] = xs
levels_after_all m xs (r ∷ rs) = levels_after_all m (levels_after m xs r.resource r.level) rs

-- those of the raises that were granted, each at its turn
abbrev pub granted_of : Meaning → List RaisedLevel → List RaisedLevel → List RaisedLevel
granted_of m xs [] = []
granted_of m xs (r ∷ rs) = cond (is_ok (raise_answer m xs r.resource r.level)) (r ∷ granted_of m (levels_after m xs r.resource r.level) rs) (granted_of m (levels_after m xs r.resource r.level) rs)

abbrev pub later : {A : Type 0} → Option A → Option A → Option A
later (Some x) before = Some x
later None before = before

-- the last level that some raises ask for a resource
abbrev pub last_for : ℕ → List RaisedLevel → Option ℤ
last_for n [] = None
last_for n (r ∷ rs) = later (last_for n rs) (cond (r.resource == n) (Some r.level) None)

-- any list of raises on a new layer over a register that means m
pub record RaisesHold (m : Meaning) (rs : List RaisedLevel) : Type 0 where
  -- the day is untouched
  pub day : (raised_meaning m (levels_after_all m [] rs)).day ≡ m.day
  -- a resource with a granted raise is held below, and has the last level granted where that is higher; its other fields are as below
  pub raised : (n : ℕ) (l : ℤ) → last_for n (granted_of m [] rs) ≡ Some l
      → (c : Card) × (m.cards n ≡ Some c) × (may_raise c.level l ≡ true) × ((raised_meaning m (levels_after_all m [] rs)).cards n ≡ Some (with_level c (higher c.level l)))
  -- every other card is as below
  pub others : (n : ℕ) → last_for n (granted_of m [] rs) ≡ None → (raised_meaning m (levels_after_all m [] rs)).cards n ≡ m.cards n
  -- refused raises count for nothing
  pub refused : levels_after_all m [] rs ≡ levels_after_all m [] (granted_of m [] rs)
