-- What each fault's condition says of the card that is held and of the components that are there. Assumes nothing.
use Rattle.std.proofs.Common.{◌≡◌, ℕ, ◌+◌, ◌<◌, ◌≤◌, true, eqb, leb, ◌⊎◌, length, pos, ◌<ℤ◌, Some, None, MatchBool, Option, sym, refl, ap, ◌∙◌, subst, inl, inr, arith}
use Rattle.std.proofs.lemmas.Bool.{and_parts, leb-true, cases_lt}
use Rattle.std.proofs.lemmas.Bool.Decides.{nat_tests}
use Rattle.std.specs.Int.{int_min}
use Rattle.wire.specs.Rows.{entries, optional_held}
use Rattle.wire.specs.CountedRows.{at_most, entries_long}
use Rattle.bid.specs.declared.components.Components.{Components}
use Rattle.bid.specs.declared.components.Curve.{Curve}
use Rattle.bid.specs.declared.components.Ramp.{Ramp}
use Rattle.bid.specs.declared.components.Service.{Service}
use Rattle.bid.specs.declared.components.Services.{Services}
use Rattle.bid.specs.declared.components.StartUp.{StartUp}
use Rattle.bid.specs.Fields.{blank_start_up_pair, is_blank_start_up_pair, start_up_pair_held, start_up_held, blank_ramp_pair, is_blank_ramp_pair, ramp_pair_held, ramp_held, curve_held}
use Rattle.bid.specs.Kept.{keeps}
use Rattle.bid.specs.FieldLaws.{start_up_pair_blanks, ramp_pair_blanks}
use Rattle.bid.proofs.RecordLaws.{parts}
use Rattle.register.specs.declared.data.Card.{Card}
use Rattle.register.specs.declared.data.Day.{Day}
use Rattle.register.specs.Meaning.{Meaning}
use Rattle.rule_laws.specs.Exactly.{Breaks, not_held, not_owner, no_hour, schedule, start, step_end, step_price, service, start_up_count, start_up_pair, ramp_count, ramp_pair, reserves, eleventh, step_at, end_before, BelowBefore, pair_at, limit_at, NotAboveBefore, ramp_at, limits_at, service_at, certified_at, remaining}
use Rattle.checks.specs.Terms.{top, base, ceiling, extension_price, end_of, steps_of}
use Rattle.rule_laws.proofs.RowKept.{curve_fits}
use Rattle.rule_laws.proofs.Turns.{Known, known_at}

-- something is there, of which P holds
pub record There {A : Type 0} (o : Option A) (P : A → Type 0) : Type 0 where
  pub value : A
  pub is : o ≡ Some value
  pub holds : P value

some_by : {A : Type 0} {P : A → Type 0} {o : Option A} {x : A} → o ≡ Some x → P x → There o P
some_by {x = x} e h = record { value = x; is = e; holds = h }

pub by_some : {A : Type 0} {P : A → Type 0} {o : Option A} {x : A} → o ≡ Some x → There o P → P x
by_some {P = P} {x = x} e t = let same : t.value ≡ x = cc t.is in subst P same t.holds

pub by_none : {A : Type 0} {P : A → Type 0} {o : Option A} → o ≡ None → There o P → ⊥
by_none e t = let z : ◌≡◌ {A = ℕ} 0 1 = cc t.is in omega arith

abbrev pub EndBroken : Card → Curve → ℕ → Type 0
EndBroken c v k = ((step_at v k).end ≤ end_before v k) ⊎ (top c < (step_at v k).end)

abbrev pub PriceBroken : Day → Curve → ℕ → Type 0
PriceBroken d v k = (BelowBefore v k ⊎ ((step_at v k).price <ℤ d.floor)) ⊎ (d.hard_cap <ℤ (step_at v k).price)

abbrev pub ServiceBroken : Day → ℕ → Service → Type 0
ServiceBroken d certified s = ((certified < s.quantity) ⊎ (s.price <ℤ pos 0)) ⊎ (d.service_cap <ℤ s.price)

abbrev pub PairBroken : Card → StartUp → ℕ → Type 0
PairBroken c u k = ((((pair_at u k).down_time ≡ (limit_at c k).down_time) → ⊥) ⊎ ((limit_at c k).highest < (pair_at u k).cost)) ⊎ NotAboveBefore u k

abbrev pub RowBroken : Card → Ramp → ℕ → Type 0
RowBroken c r k = ((((ramp_at r k).level ≡ (limits_at c k).level) → ⊥) ⊎ ((ramp_at r k).rate < (limits_at c k).lowest)) ⊎ ((limits_at c k).highest < (ramp_at r k).rate)

-- place 0 is that of the counts; a later place is that of a pair beside the card's
abbrev pub PlaceBroken : ℕ → ℕ → (ℕ → Type 0) → ℕ → Type 0
PlaceBroken count limits Row p = ((p ≡ 0) × (count ≡ limits → ⊥)) ⊎ ((k : ℕ) × (p ≡ k + 1) × (k < count) × (k < limits) × Row k)

abbrev pub SaysOf : ℕ → Day → Card → Components → ℕ → ℕ → Type 0
SaysOf coordinator d c b n p =
    MatchBool (eqb n 7) (coordinator ≡ c.owner → ⊥)
    (MatchBool (eqb n 8) ((b.hour ≡ 0) ⊎ (d.hours < b.hour))
    (MatchBool (eqb n 9) (There b.self_schedule (λ q. (q < c.pmin) ⊎ (top c < q)))
    (MatchBool (eqb n 10) (There b.curve (λ v. v.start ≡ base c b → ⊥))
    (MatchBool (eqb n 11) (There b.curve (λ v. (k : ℕ) × (p ≡ k + 1) × (k < length (steps_of v)) × EndBroken c v k))
    (MatchBool (eqb n 12) (There b.curve (λ v. (k : ℕ) × (p ≡ k + 1) × (k < length (steps_of v)) × PriceBroken d v k))
    (MatchBool (eqb n 13) (There (service_at b.services p) (ServiceBroken d (certified_at c p)))
    (MatchBool (eqb n 14) (There b.start_up (λ u. PlaceBroken (length (entries u.pairs)) (length (entries c.start_up)) (PairBroken c u) p))
    (MatchBool (eqb n 15) (There b.ramp (λ r. PlaceBroken (length (entries r.pairs)) (length (entries c.ramp)) (RowBroken c r) p))
    (MatchBool (eqb n 16) ((1 ≤ remaining b) × (top c < base c b + remaining b))
    (There b.curve (λ v. (length (steps_of v) ≡ 10) × (end_of v.start (steps_of v) < base c b + remaining b) × (int_min (step_at v 9).price (ceiling d c) <ℤ extension_price d c))))))))))))

abbrev pub Says : ℕ → Meaning → Components → ℕ → ℕ → Type 0
Says coordinator m b n p = MatchBool (eqb n 6) (m.cards b.resource ≡ None) (There (m.cards b.resource) (λ c. SaysOf coordinator m.day c b n p))

pub says : (coordinator : ℕ) (m : Meaning) (b : Components) (n p : ℕ) → Breaks coordinator m b n p → Says coordinator m b n p
says coordinator m b _ _ (not_held e) = e
says coordinator m b _ _ (not_owner c e h) = some_by e h
says coordinator m b _ _ (no_hour c e h) = some_by e h
says coordinator m b _ _ (schedule c e q f h) = some_by e (some_by f h)
says coordinator m b _ _ (start c e v f h) = some_by e (some_by f h)
says coordinator m b _ _ (step_end c e v f k lt h) = some_by e (some_by f (k, refl, lt, h))
says coordinator m b _ _ (step_price c e v f k lt h) = some_by e (some_by f (k, refl, lt, h))
says coordinator m b _ _ (service c e n s f h) = some_by e (some_by f h)
says coordinator m b _ _ (start_up_count c e u f h) = some_by e (some_by f (inl (refl, h)))
says coordinator m b _ _ (start_up_pair c e u f k lt lt' h) = some_by e (some_by f (inr (k, refl, lt, lt', h)))
says coordinator m b _ _ (ramp_count c e r f h) = some_by e (some_by f (inl (refl, h)))
says coordinator m b _ _ (ramp_pair c e r f k lt lt' h) = some_by e (some_by f (inr (k, refl, lt, lt', h)))
says coordinator m b _ _ (reserves c e h h') = some_by e (h, h')
says coordinator m b _ _ (eleventh c e v f h h' h'') = some_by e (some_by f (h, h', h''))

-- a filed curve has at most ten steps, start-up at most three pairs, ramp at most four
pub few_steps : (b : Components) → keeps b ≡ true → (v : Curve) → b.curve ≡ Some v → length (steps_of v) ≤ 10
few_steps b bk v f =
    let count = (curve_fits v (sym (ap (optional_held curve_held) f) ∙ (parts b bk).curve)).1.0 in
    leb-true (length (steps_of v)) 10 (and_parts (leb 1 (length (steps_of v))) (leb (length (steps_of v)) 10) count).1

pub few_pairs_lem : (b : Components) → keeps b ≡ true → (u : StartUp) → b.start_up ≡ Some u → length (entries u.pairs) ≤ 3
few_pairs_lem b bk u f =
    let held : start_up_held u ≡ true = sym (ap (optional_held start_up_held) f) ∙ (parts b bk).start_up in
    omega (arith, at_most blank_start_up_pair is_blank_start_up_pair start_up_pair_blanks refl start_up_pair_held u.pairs held, entries_long blank_start_up_pair is_blank_start_up_pair start_up_pair_blanks refl start_up_pair_held u.pairs held)

pub few_rows_lem : (b : Components) → keeps b ≡ true → (r : Ramp) → b.ramp ≡ Some r → length (entries r.pairs) ≤ 4
few_rows_lem b bk r f =
    let held : ramp_held r ≡ true = sym (ap (optional_held ramp_held) f) ∙ (parts b bk).ramp in
    omega (arith, at_most blank_ramp_pair is_blank_ramp_pair ramp_pair_blanks refl ramp_pair_held r.pairs held, entries_long blank_ramp_pair is_blank_ramp_pair ramp_pair_blanks refl ramp_pair_held r.pairs held)

-- there are services 1 to 4
service_at_none : (s : Services) (n : ℕ) → (1 ≤ n → n ≤ 4 → ⊥) → service_at s n ≡ None
service_at_none s n h = grind (arith, nat_tests)

four_services : (s : Services) (n : ℕ) (x : Service) → service_at s n ≡ Some x → (1 ≤ n) × (n ≤ 4)
four_services s n x e =
    let none : (1 ≤ n → n ≤ 4 → ⊥) → ⊥ = λ h. let e' = service_at_none s n h in let z : ◌≡◌ {A = ℕ} 0 1 = cc in omega arith in
    elim (cases_lt 0 n) [ inl lt ↦ elim (cases_lt n 5) [ inl lt' ↦ (omega arith, omega arith) | inr le ↦ absurd (none (λ a b. omega arith)) ] | inr le ↦ absurd (none (λ a b. omega arith)) ]

-- each condition has a turn of its own
pub known : (coordinator : ℕ) (m : Meaning) (b : Components) → keeps b ≡ true → (n p : ℕ) → Breaks coordinator m b n p → Known n p
known coordinator m b bk _ _ (not_held e) = known_at 6 0 (omega arith) (omega arith) (omega arith) (omega arith)
known coordinator m b bk _ _ (not_owner c e h) = known_at 7 0 (omega arith) (omega arith) (omega arith) (omega arith)
known coordinator m b bk _ _ (no_hour c e h) = known_at 8 0 (omega arith) (omega arith) (omega arith) (omega arith)
known coordinator m b bk _ _ (schedule c e q f h) = known_at 9 0 (omega arith) (omega arith) (omega arith) (omega arith)
known coordinator m b bk _ _ (start c e v f h) = known_at 10 0 (omega arith) (omega arith) (omega arith) (omega arith)
known coordinator m b bk _ _ (step_end c e v f k lt h) = known_at 11 (k + 1) (omega arith) (omega arith) (omega arith) (omega (arith, few_steps b bk v f))
known coordinator m b bk _ _ (step_price c e v f k lt h) = known_at 12 (k + 1) (omega arith) (omega arith) (omega arith) (omega (arith, few_steps b bk v f))
known coordinator m b bk _ _ (service c e n s f h) = let few = four_services b.services n s f in known_at 13 n (omega arith) (omega arith) few.0 few.1
known coordinator m b bk _ _ (start_up_count c e u f h) = known_at 14 0 (omega arith) (omega arith) (omega arith) (omega arith)
known coordinator m b bk _ _ (start_up_pair c e u f k lt lt' h) = known_at 14 (k + 1) (omega arith) (omega arith) (omega arith) (omega (arith, few_pairs_lem b bk u f))
known coordinator m b bk _ _ (ramp_count c e r f h) = known_at 15 0 (omega arith) (omega arith) (omega arith) (omega arith)
known coordinator m b bk _ _ (ramp_pair c e r f k lt lt' h) = known_at 15 (k + 1) (omega arith) (omega arith) (omega arith) (omega (arith, few_rows_lem b bk r f))
known coordinator m b bk _ _ (reserves c e h h') = known_at 16 0 (omega arith) (omega arith) (omega arith) (omega arith)
known coordinator m b bk _ _ (eleventh c e v f h h' h'') = known_at 17 0 (omega arith) (omega arith) (omega arith) (omega arith)
