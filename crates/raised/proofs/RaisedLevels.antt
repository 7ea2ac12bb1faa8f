-- Raised levels over a register: what is kept, what is looked up, and what a list of raises comes to. Assumes nothing.
use Rattle.std.proofs.Common.{◌≡◌, ℕ, true, false, cond, eqb, ◌⊎◌, List, [], ◌∷◌, ℤ, is_some, is_ok, Some, None, Ok, Err, Option, Result, sym, refl, ap, ◌∙◌, inl, inr, arith}
use lib.Signed.{lt_z, le_z}
use Rattle.std.proofs.lemmas.Bool.{cases_Bool, cond-true, cond-false, and_from, both_ways, eqb-true, and_left, and_right}
use Rattle.std.proofs.lemmas.Int.{ints}
use Rattle.faults.specs.declared.Fault.{Fault}
use Rattle.faults.specs.declared.Fault.TheVariants.{Register}
use Rattle.faults.specs.declared.RegisterFault.TheVariants.{RaiseNotAllowed}
use Rattle.wire.specs.Reading.{is_price}
use Rattle.register.specs.declared.data.Card.{Card}
use Rattle.raised.specs.declared.level.RaisedLevel.{RaisedLevel}
use Rattle.raised.specs.Levels.{threshold, level_of, put_level, put_answer, may_raise, raise_of, raise_answer, levels_after, raised_card}
use Rattle.register.specs.Meaning.{Meaning, Held, Keeps, card_or, granted}
use Rattle.raised.specs.Runs.{levels_after_all, granted_of, later, last_for, RaisesHold}
use Rattle.register.specs.RowKeeps.{some_same, none_some}
use Rattle.raised.specs.RaisedKeeps.{level_kept}
use Rattle.raised.proofs.LevelLists.{level_put}

-- looking up finds nothing where nothing is held below
pub look_none : (lv : Option ℤ) (o : Option Card) (before : Card) → is_some o ≡ false → (false ≡ is_some (raised_card lv o)) × (card_or before o ≡ card_or before (raised_card lv o))
look_none None o before h = (sym h, refl)
look_none (Some l) None before h = (refl, refl)
look_none (Some l) (Some c) before h = absurd (both_ways true h refl)

module _ (m : Meaning) where
  -- a raise that is granted is of a held resource, and may be asked for
  answer_held : (xs : List RaisedLevel) (n : ℕ) (l : ℤ) (o : Option Card) → is_ok (raise_of o xs n l) ≡ true → (c : Card) × (o ≡ Some c) × (may_raise c.level l ≡ true)
  answer_held xs n l None h = absurd (both_ways false refl h)
  answer_held xs n l (Some c) h = elim (cases_Bool (may_raise c.level l)) [
    | inl t ↦ (c, refl, t)
    | inr t ↦ absurd (both_ways false refl (sym (ap is_ok (cond-false (may_raise c.level l) (put_answer xs n) _ t)) ∙ h))
  ]

  granted_held : (xs : List RaisedLevel) (n : ℕ) (l : ℤ) → is_ok (raise_answer m xs n l) ≡ true → (c : Card) × (m.cards n ≡ Some c) × (may_raise c.level l ≡ true)
  granted_held xs n l h = elim (cases_Bool (is_price l)) [
    | inl p ↦ answer_held xs n l (m.cards n) (sym (ap is_ok (cond-true (is_price l) (raise_of (m.cards n) xs n l) _ p)) ∙ h)
    | inr p ↦ absurd (both_ways false refl (sym (ap is_ok (cond-false (is_price l) (raise_of (m.cards n) xs n l) _ p)) ∙ h))
  ]

  after_granted : {A : Type 0} (a : Result (Unit {0}) Fault) (new old : A) → is_ok a ≡ true → granted a new old ≡ new
  after_granted (Ok x) new old h = refl
  after_granted (Err f) new old h = absurd (both_ways false refl h)

  after_refused : {A : Type 0} (a : Result (Unit {0}) Fault) (new old : A) → is_ok a ≡ false → granted a new old ≡ old
  after_refused (Ok x) new old h = absurd (both_ways true h refl)
  after_refused (Err f) new old h = refl

  later-later : {A : Type 0} (a b c : Option A) → later (later a b) c ≡ later a (later b c)
  later-later (Some x) b c = refl
  later-later None b c = refl

  -- what is held for a resource is the last that was granted, or what was held before
  held_last : (xs rs : List RaisedLevel) (n : ℕ) → level_of (levels_after_all m xs rs) n ≡ later (last_for n (granted_of m xs rs)) (level_of xs n)
  held_last xs [] n = refl
  held_last xs (r ∷ rs) n =
      let a : Result (Unit {0}) Fault = raise_answer m xs r.resource r.level in
      let ys : List RaisedLevel = levels_after m xs r.resource r.level in
      let one : Option ℤ = cond (eqb r.resource n) (Some r.level) None in
      elim (cases_Bool (is_ok a)) [
        | inl h ↦ (
            let put : level_of ys n ≡ cond (eqb r.resource n) (Some r.level) (level_of xs n) = ap (λ l. level_of l n) (after_granted a (put_level r.resource r.level xs) xs h) ∙ level_put r.resource r.level xs n in
            let split : cond (eqb r.resource n) (Some r.level) (level_of xs n) ≡ later one (level_of xs n) = elim (cases_Bool (eqb r.resource n)) [
              | inl e ↦ cond-true (eqb r.resource n) _ _ e ∙ sym (ap (λ o. later o (level_of xs n)) (cond-true (eqb r.resource n) (Some r.level) None e))
              | inr e ↦ cond-false (eqb r.resource n) _ _ e ∙ sym (ap (λ o. later o (level_of xs n)) (cond-false (eqb r.resource n) (Some r.level) None e))
            ] in
            held_last ys rs n ∙ ap (later (last_for n (granted_of m ys rs))) (put ∙ split) ∙ sym (later-later (last_for n (granted_of m ys rs)) one (level_of xs n))
            ∙ sym (ap (λ l. later (last_for n l) (level_of xs n)) (cond-true (is_ok a) (r ∷ granted_of m ys rs) (granted_of m ys rs) h)))
        | inr h ↦ held_last ys rs n ∙ ap (λ l. later (last_for n (granted_of m ys rs)) (level_of l n)) (after_refused a (put_level r.resource r.level xs) xs h)
            ∙ sym (ap (λ l. later (last_for n l) (level_of xs n)) (cond-false (is_ok a) (r ∷ granted_of m ys rs) (granted_of m ys rs) h))
      ]

  -- either a later raise answers, or this one does
  here : (r : RaisedLevel) (n : ℕ) (l : ℤ) → (c : Card) × (m.cards r.resource ≡ Some c) × (may_raise c.level r.level ≡ true)
      → (o : Option ℤ) → (o ≡ Some l → (c : Card) × (m.cards n ≡ Some c) × (may_raise c.level l ≡ true)) → later o (cond (eqb r.resource n) (Some r.level) None) ≡ Some l
      → (c : Card) × (m.cards n ≡ Some c) × (may_raise c.level l ≡ true)
  here r n l h (Some k) rest e = rest e
  here r n l h None rest e = elim (cases_Bool (eqb r.resource n)) [
    | inl s ↦ (
        let same : r.level ≡ l = some_same (sym (cond-true (eqb r.resource n) _ _ s) ∙ e) in
        (h.0, ap m.cards (sym (eqb-true r.resource n s)) ∙ h.1, ap (may_raise h.0.level) (sym same) ∙ h.2))
    | inr s ↦ absurd (none_some l (sym (cond-false (eqb r.resource n) (Some r.level) None s) ∙ e))
  ]

  -- the last granted raise of a resource was one that may be asked for
  last_held : (xs rs : List RaisedLevel) (n : ℕ) (l : ℤ) → last_for n (granted_of m xs rs) ≡ Some l → (c : Card) × (m.cards n ≡ Some c) × (may_raise c.level l ≡ true)
  last_held xs [] n l e = absurd (none_some l e)
  last_held xs (r ∷ rs) n l e =
      let a : Result (Unit {0}) Fault = raise_answer m xs r.resource r.level in
      let ys : List RaisedLevel = levels_after m xs r.resource r.level in
      elim (cases_Bool (is_ok a)) [
        | inl h ↦ here r n l (granted_held xs r.resource r.level h) (last_for n (granted_of m ys rs)) (last_held ys rs n l) (sym (ap (last_for n) (cond-true (is_ok a) (r ∷ granted_of m ys rs) (granted_of m ys rs) h)) ∙ e)
        | inr h ↦ last_held ys rs n l (sym (ap (last_for n) (cond-false (is_ok a) (r ∷ granted_of m ys rs) (granted_of m ys rs) h)) ∙ e)
      ]

  -- a refused raise leaves everything as it is
  only_granted : (xs rs : List RaisedLevel) → levels_after_all m xs rs ≡ levels_after_all m xs (granted_of m xs rs)
  only_granted xs [] = refl
  only_granted xs (r ∷ rs) =
      let a : Result (Unit {0}) Fault = raise_answer m xs r.resource r.level in
      let ys : List RaisedLevel = levels_after m xs r.resource r.level in
      elim (cases_Bool (is_ok a)) [
        | inl h ↦ only_granted ys rs ∙ sym (ap (levels_after_all m xs) (cond-true (is_ok a) (r ∷ granted_of m ys rs) (granted_of m ys rs) h))
        | inr h ↦ (
            let same : ys ≡ xs = after_refused a (put_level r.resource r.level xs) xs h in
            only_granted ys rs ∙ ap (λ l. levels_after_all m l (granted_of m ys rs)) same ∙ sym (ap (levels_after_all m xs) (cond-false (is_ok a) (r ∷ granted_of m ys rs) (granted_of m ys rs) h)))
      ]

  later_none : {A : Type 0} (o : Option A) → later o None ≡ o
  later_none (Some x) = refl
  later_none None = refl

  pub raises_hold : (rs : List RaisedLevel) → RaisesHold m rs
  raises_hold rs = record {
    day = refl;
    raised = λ n l e.
        let h = last_held [] rs n l e in
        let is : level_of (levels_after_all m [] rs) n ≡ Some l = held_last [] rs n ∙ later_none (last_for n (granted_of m [] rs)) ∙ e in
        (h.0, h.1, h.2, ap (λ o. raised_card o (m.cards n)) is ∙ ap (raised_card (Some l)) h.1);
    others = λ n e.
        let is : level_of (levels_after_all m [] rs) n ≡ None = held_last [] rs n ∙ later_none (last_for n (granted_of m [] rs)) ∙ e in
        ap (λ o. raised_card o (m.cards n)) is;
    refused = only_granted [] rs;
  }

module _ (m : Meaning) (xs : List RaisedLevel) (n : ℕ) (l : ℤ) where
  -- what stands after an answer that is known
  pub after_answer : (a : Result (Unit {0}) Fault) → raise_answer m xs n l ≡ a → granted a (put_level n l xs) xs ≡ levels_after m xs n l
  after_answer a e = sym (ap (λ r. granted r (put_level n l xs) xs) e)

  module _ (price : is_price l ≡ true) (before : Card) where
    of_price : raise_answer m xs n l ≡ raise_of (m.cards n) xs n l
    of_price = cond-true (is_price l) _ _ price

    of_some : (o : Option Card) → is_some o ≡ true → raise_of o xs n l ≡ cond (may_raise (card_or before o).level l) (put_answer xs n) (Err (Register RaiseNotAllowed 0))
    of_some None h = absurd (both_ways false refl h)
    of_some (Some c) h = refl

    pub raise_not_allowed : is_some (m.cards n) ≡ true → may_raise (card_or before (m.cards n)).level l ≡ false → raise_answer m xs n l ≡ Err (Register RaiseNotAllowed 0)
    raise_not_allowed h t = of_price ∙ of_some (m.cards n) h ∙ cond-false (may_raise (card_or before (m.cards n)).level l) _ _ t

    pub raise_put : is_some (m.cards n) ≡ true → may_raise (card_or before (m.cards n)).level l ≡ true → raise_answer m xs n l ≡ put_answer xs n
    raise_put h t = of_price ∙ of_some (m.cards n) h ∙ cond-true (may_raise (card_or before (m.cards n)).level l) _ _ t

price_in : (n : ℕ) (before : Card) (o : Option Card) → ((c : Card) → o ≡ Some c → Held n c) → is_some o ≡ true → is_price (card_or before o).level ≡ true
price_in n before None k h = absurd (both_ways false refl h)
price_in n before (Some c) k h = level_kept c (k c refl).card

pub held_price : (m : Meaning) (n : ℕ) (before : Card) → Keeps m → is_some (m.cards n) ≡ true → is_price (card_or before (m.cards n)).level ≡ true
held_price m n before k h = price_in n before (m.cards n) (k.cards n) h

not_lower : (a b : ℤ) → lt_z b a ≡ false → le_z a b ≡ true
not_lower a b h = grind (arith, ints)

lower : (a b : ℤ) → lt_z b a ≡ true → le_z a b ≡ false
lower a b h = grind (arith, ints)

-- below the level, or above its threshold
pub may_not : (b l : ℤ) → (lt_z l b ≡ true) ⊎ (lt_z (threshold b) l ≡ true) → may_raise b l ≡ false
may_not b l (inl h) = and_left (le_z b l) (le_z l (threshold b)) (lower b l h)
may_not b l (inr h) = and_right (le_z b l) (le_z l (threshold b)) (lower l (threshold b) h)

-- from the level up to its threshold
pub may : (b l : ℤ) → lt_z l b ≡ false → lt_z (threshold b) l ≡ false → may_raise b l ≡ true
may b l h k = and_from (le_z b l) (le_z l (threshold b)) (not_lower b l h) (not_lower l (threshold b) k)
