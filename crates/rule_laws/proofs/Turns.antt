-- Checks that are run in turn, and what the first broken one tells of the conditions. Assumes nothing.
use Rattle.std.proofs.Common.{◌≡◌, ℕ, zero, suc, ◌+◌, ◌-◌, ◌*◌, ◌/◌, ◌%◌, ◌<◌, ◌≤◌, Bool, true, false, cond, ◌&&◌, eqb, ltb, leb, Ok, Err, Decides, Result, sym, refl, ap, ◌∙◌, subst, inl, inr, arith}
use Rattle.std.proofs.lemmas.Bool.{cases_lt, both_ways}
use Rattle.std.proofs.lemmas.Bool.Decides.{nat_tests}
use Rattle.faults.specs.Answers.{answer_of}
use Rattle.faults.specs.declared.Fault.{Fault}
use Rattle.checks.specs.Checks.{Passed}
use Rattle.rule_laws.specs.Exactly.{turn}

-- the number and the place that have a turn
abbrev pub number_at : ℕ → ℕ
number_at t = cond (ltb t 5) (t + 6) (cond (ltb t 25) (11 + (t - 5) % 2) (cond (ltb t 29) 13 (cond (ltb t 33) 14 (cond (ltb t 38) 15 (t - 22)))))

abbrev pub place_at : ℕ → ℕ
place_at t = cond (ltb t 5) 0 (cond (ltb t 25) ((t - 3) / 2) (cond (ltb t 29) (t - 24) (cond (ltb t 33) (t - 29) (cond (ltb t 38) (t - 33) 0))))

-- a number and a place with a turn of their own
pub record Known (n p : ℕ) : Type 0 where
  pub number : number_at (turn n p) ≡ n
  pub place : place_at (turn n p) ≡ p
  pub some : 6 ≤ n
  pub last : turn n p < 40

pub alike_number : {n p n' p' : ℕ} → Known n p → Known n' p' → turn n p ≡ turn n' p' → n ≡ n'
alike_number k k' e = sym k.number ∙ ap number_at e ∙ k'.number

pub alike_place : {n p n' p' : ℕ} → Known n p → Known n' p' → turn n p ≡ turn n' p' → p ≡ p'
alike_place k k' e = sym k.place ∙ ap place_at e ∙ k'.place

-- the places that a number can have
abbrev pub lowest : ℕ → ℕ
lowest n = cond (leb 11 n && leb n 13) 1 0

abbrev pub highest : ℕ → ℕ
highest n = cond (leb 11 n && leb n 12) 10 (cond (eqb n 13) 4 (cond (eqb n 14) 3 (cond (eqb n 15) 4 0)))

pub known_at : (n p : ℕ) → 6 ≤ n → n ≤ 17 → lowest n ≤ p → p ≤ highest n → Known n p
known_at n p some most low high = record { number = grind (arith, nat_tests); place = grind (arith, nat_tests); some = some; last = grind (arith, nat_tests) }

-- conditions by number and place, each with a turn of its own
module _ (Broken : ℕ → ℕ → Type 0) (known : (n p : ℕ) → Broken n p → Known n p) where
  -- no condition holds whose turn is from one up to another
  abbrev pub Clear : ℕ → ℕ → Type 0
  Clear from upto = (n p : ℕ) → from ≤ turn n p → turn n p < upto → Broken n p → ⊥

  -- a fault's condition holds, its turn is within bounds, and nothing holds before it
  pub record First (from upto : ℕ) (f : Fault) : Type 0 where
    pub holds : Broken (answer_of f).number (answer_of f).place
    pub low : from ≤ turn (answer_of f).number (answer_of f).place
    pub high : turn (answer_of f).number (answer_of f).place < upto
    pub before : Clear from (turn (answer_of f).number (answer_of f).place)

  -- a fault is told exactly of the first condition within bounds
  abbrev pub Tells : {A : Type 0} → ℕ → ℕ → Result A Fault → Type 0
  Tells from upto (Ok x) = Clear from upto
  Tells from upto (Err f) = First from upto f

  clear_join : (from mid upto : ℕ) → Clear from mid → Clear mid upto → Clear from upto
  clear_join from mid upto h h' n p low high broken = elim (cases_lt (turn n p) mid) [ inl lt ↦ h n p low lt broken | inr le ↦ h' n p le high broken ]

  -- nothing holds before, so what is told is told from there on
  pub tells_later : {A : Type 0} (from mid upto : ℕ) (r : Result A Fault) → from ≤ mid → Clear from mid → Tells mid upto r → Tells from upto r
  tells_later from mid upto (Ok x) le h t = clear_join from mid upto h t
  tells_later from mid upto (Err f) le h t = record {
    holds = t.holds;
    low = omega (arith, t.low);
    high = t.high;
    before = clear_join from mid (turn (answer_of f).number (answer_of f).place) h t.before;
  }

  -- one thing after another, for any way to say that the first fault of the two answers
  pub tells_next : {B : Type 0} (next : Passed → Result B Fault → Result B Fault) → ((x : Unit {0}) (r : Result B Fault) → next (Ok x) r ≡ r) → ((f : Fault) (r : Result B Fault) → next (Err f) r ≡ Err f)
      → (from mid upto : ℕ) (p : Passed) (r : Result B Fault) → from ≤ mid → mid ≤ upto → Tells from mid p → Tells mid upto r → Tells from upto (next p r)
  tells_next next passes fails from mid upto (Ok x) r le le' t t' = subst (Tells from upto) (sym (passes x r)) (tells_later from mid upto r le t t')
  tells_next next passes fails from mid upto (Err f) r le le' t t' = subst (Tells from upto) (sym (fails f r)) (record { holds = t.holds; low = t.low; high = omega (arith, t.high); before = t.before })

  -- one check in front: its test decides the condition whose turn it is
  pub tells_check : {A : Type 0} (from upto : ℕ) (f : Fault) (test : Bool) (r : Result A Fault) → Known (answer_of f).number (answer_of f).place → turn (answer_of f).number (answer_of f).place ≡ from → from < upto
      → Decides test (Broken (answer_of f).number (answer_of f).place) → Tells (from + 1) upto r → Tells from upto (cond test (Err f) r)
  tells_check from upto f true r k e lt d t = record { holds = d.0 refl; low = omega arith; high = omega arith; before = λ n p low high. absurd (omega arith) }
  tells_check from upto f false r k e lt d t =
      let none : Clear from (from + 1) = λ n p low high broken.
      let same : turn n p ≡ turn (answer_of f).number (answer_of f).place = omega arith in
      let K = known n p broken in
      both_ways false refl (d.1 (subst (λ x. Broken x (answer_of f).place) (alike_number K k same) (subst (Broken n) (alike_place K k same) broken))) in
      tells_later from (from + 1) upto r (omega arith) none t

  -- as many groups in turn as there are things, of so many turns each
  pub tells_each : {A : Type 0} (groups : ℕ → Result A Fault) (from width upto count : ℕ)
      → ((k : ℕ) → k < count → Tells (from + width * suc k) upto (groups (suc k)) → Tells (from + width * k) upto (groups k))
      → Tells (from + width * count) upto (groups count) → Tells (from + width * 0) upto (groups 0)
  tells_each groups from width upto zero each last = last
  tells_each groups from width upto (suc n) each last = tells_each groups from width upto n (λ k lt. each k (omega arith)) (each n (omega arith) last)
