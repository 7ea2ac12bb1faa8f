-- The tests of the checks decide the conditions of the faults. Assumes nothing.
use Rattle.std.proofs.Common.{ℕ, zero, suc, ◌+◌, ◌≤◌, Bool, not, ◌||◌, eqb, ltb, leb, ℤ, ◌<ℤ◌, Decides, inl, inr, arith}
use lib.Signed.{lt_z, le_z}
use Rattle.std.proofs.lemmas.Int.{ints}
use Rattle.std.proofs.lemmas.Bool.{leb-true, le-leb, ltb-true, lt-ltb, or_cases, or_left}
use Rattle.std.proofs.lemmas.Bool.Decides.{nat_tests, Decides-eqb, Decides-ltb, Decides-not, Decides-or}
use Rattle.bid.specs.declared.components.Curve.{Curve}
use Rattle.bid.specs.declared.components.Ramp.{Ramp}
use Rattle.bid.specs.declared.components.StartUp.{StartUp}
use Rattle.bid.specs.declared.components.Step.{Step}
use Rattle.bid.specs.Fields.{step}
use Rattle.register.specs.declared.data.Card.{Card}
use Rattle.register.specs.declared.data.Day.{Day}
use Rattle.rule_laws.specs.Exactly.{step_at, pair_at, limit_at, NotAboveBefore, ramp_at, limits_at}
use Rattle.checks.specs.Terms.{top}
use Rattle.rule_laws.proofs.Sayings.{EndBroken, PriceBroken, PairBroken, RowBroken}

pub decides_lt_z : (x y : ℤ) → Decides (lt_z x y) (x <ℤ y)
decides_lt_z x y = (λ h. grind (arith, ints), λ h. grind (arith, ints))

pub decides_above : (x y : ℤ) → Decides (not (le_z x y)) (y <ℤ x)
decides_above x y = (λ h. grind (arith, ints), λ h. grind (arith, ints))

pub decides_full : (n : ℕ) → Decides (not (ltb n 10)) (10 ≤ n)
decides_full n = (λ h. grind (arith, nat_tests), λ h. grind (arith, nat_tests))

pub decides_leb : (x y : ℕ) → Decides (leb x y) (x ≤ y)
decides_leb x y = (leb-true x y, le-leb x y)

-- what stands before a step: the step before, or the curve's start and the floor
unfoldable pub before : Day → Curve → ℕ → Step
before d v zero = step v.start d.floor
before d v (suc k) = step_at v k

pub decides_end : (d : Day) (c : Card) (v : Curve) (k : ℕ) → Decides (leb (step_at v k).end (before d v k).end || ltb (top c) (step_at v k).end) (EndBroken c v k)
unfolding before
decides_end d c v zero = Decides-or _ _ (decides_leb (step_at v 0).end v.start) (Decides-ltb (top c) (step_at v 0).end)
decides_end d c v (suc k) = Decides-or _ _ (decides_leb (step_at v (suc k)).end (step_at v k).end) (Decides-ltb (top c) (step_at v (suc k)).end)

pub decides_price : (d : Day) (v : Curve) (k : ℕ) → Decides (lt_z (step_at v k).price (before d v k).price || lt_z (step_at v k).price d.floor || lt_z d.hard_cap (step_at v k).price) (PriceBroken d v k)
unfolding before
decides_price d v zero =
    let low : Bool = lt_z (step_at v 0).price d.floor in
    let D = decides_lt_z (step_at v 0).price d.floor in
    Decides-or (low || low) _ (λ h. inr (elim (or_cases low low h) [ inl e ↦ D.0 e | inr e ↦ D.0 e ]), λ h. elim h [ inl e ↦ absurd e | inr e ↦ or_left low low (D.1 e) ]) (decides_lt_z d.hard_cap (step_at v 0).price)
decides_price d v (suc k) =
    Decides-or _ _ (Decides-or _ _ (decides_lt_z (step_at v (suc k)).price (step_at v k).price) (decides_lt_z (step_at v (suc k)).price d.floor)) (decides_lt_z d.hard_cap (step_at v (suc k)).price)

-- the least cost of a pair: one more than the cost before
unfoldable pub least : StartUp → ℕ → ℕ
least u zero = 0
least u (suc k) = (pair_at u k).cost + 1

pub decides_rise : (u : StartUp) (k : ℕ) → Decides (ltb (pair_at u k).cost (least u k)) (NotAboveBefore u k)
unfolding least
decides_rise u zero = (λ h. absurd (omega (arith, ltb-true (pair_at u 0).cost 0 h)), λ h. absurd h)
decides_rise u (suc k) = (λ h. omega (arith, ltb-true (pair_at u (suc k)).cost ((pair_at u k).cost + 1) h), λ h. lt-ltb (pair_at u (suc k)).cost ((pair_at u k).cost + 1) (omega arith))

pub decides_pair : (c : Card) (u : StartUp) (k : ℕ) → Decides (not (eqb (pair_at u k).down_time (limit_at c k).down_time) || ltb (limit_at c k).highest (pair_at u k).cost || ltb (pair_at u k).cost (least u k)) (PairBroken c u k)
decides_pair c u k =
    Decides-or _ _ (Decides-or _ _ (Decides-not _ (Decides-eqb (pair_at u k).down_time (limit_at c k).down_time)) (Decides-ltb (limit_at c k).highest (pair_at u k).cost)) (decides_rise u k)

pub decides_row : (c : Card) (r : Ramp) (k : ℕ) → Decides (not (eqb (ramp_at r k).level (limits_at c k).level) || ltb (ramp_at r k).rate (limits_at c k).lowest || ltb (limits_at c k).highest (ramp_at r k).rate) (RowBroken c r k)
decides_row c r k =
    Decides-or _ _ (Decides-or _ _ (Decides-not _ (Decides-eqb (ramp_at r k).level (limits_at c k).level)) (Decides-ltb (ramp_at r k).rate (limits_at c k).lowest)) (Decides-ltb (limits_at c k).highest (ramp_at r k).rate)
