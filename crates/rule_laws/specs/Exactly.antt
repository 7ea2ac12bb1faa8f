-- When each fault of the rules is answered: its condition in fields of bid, card and day, and the order of the checks. Assumes nothing.
use Rattle.std.specs.Prelude.{◌≡◌, ℕ, zero, suc, ◌+◌, ◌*◌, ◌<◌, ◌≤◌, cond, ◌||◌, ◌⊎◌, length, pos, ◌<ℤ◌, is_some, Some, None, Option, ◌==◌, ◌≢◌, nat_le, slice_index_or}
use Rattle.std.specs.Int.{int_min}
use Rattle.faults.specs.Answers.{answered, result_answer}
use Rattle.wire.specs.Rows.{entries}
use Rattle.bid.specs.declared.components.Components.{Components}
use Rattle.bid.specs.declared.components.Curve.{Curve}
use Rattle.bid.specs.declared.components.Ramp.{Ramp}
use Rattle.bid.specs.declared.components.RampPair.{RampPair}
use Rattle.bid.specs.declared.components.Service.{Service}
use Rattle.bid.specs.declared.components.Services.{Services}
use Rattle.bid.specs.declared.components.StartUp.{StartUp}
use Rattle.bid.specs.declared.components.StartUpPair.{StartUpPair}
use Rattle.bid.specs.declared.components.Step.{Step}
use Rattle.bid.specs.Fields.{blank_step, blank_start_up_pair, blank_ramp_pair}
use Rattle.register.specs.declared.data.Card.{Card}
use Rattle.register.specs.declared.data.RampLimits.{RampLimits}
use Rattle.register.specs.declared.data.StartUpLimit.{StartUpLimit}
use Rattle.register.specs.Cards.{blank_limit, blank_limits}
use Rattle.register.specs.Meaning.{Meaning}
use Rattle.rule_laws.specs.Judging.{ruled}
use Rattle.checks.specs.Terms.{top, base, ceiling, extension_price, quantity_of, end_of, steps_of}

abbrev pub step_at : Curve → ℕ → Step
step_at v k = slice_index_or (steps_of v) k blank_step

-- where the step before a step ends: for the first one, the curve's start
abbrev pub end_before : Curve → ℕ → ℕ
end_before v zero = v.start
end_before v (suc k) = (step_at v k).end

-- a step's price is below that of the step before; the first step has none before
abbrev pub BelowBefore : Curve → ℕ → Type 0
BelowBefore v zero = ⊥
BelowBefore v (suc k) = (step_at v (suc k)).price <ℤ (step_at v k).price

abbrev pub pair_at : StartUp → ℕ → StartUpPair
pair_at u k = slice_index_or (entries u.pairs) k blank_start_up_pair

abbrev pub limit_at : Card → ℕ → StartUpLimit
limit_at c k = slice_index_or (entries c.start_up) k blank_limit

-- a pair's cost is not above that of the pair before
abbrev pub NotAboveBefore : StartUp → ℕ → Type 0
NotAboveBefore u zero = ⊥
NotAboveBefore u (suc k) = (pair_at u (suc k)).cost ≤ (pair_at u k).cost

abbrev pub ramp_at : Ramp → ℕ → RampPair
ramp_at r k = slice_index_or (entries r.pairs) k blank_ramp_pair

abbrev pub limits_at : Card → ℕ → RampLimits
limits_at c k = slice_index_or (entries c.ramp) k blank_limits

-- services by number: 1 Regulation Up, 2 Regulation Down, 3 Spinning, 4 Non-Spinning
abbrev pub service_at : Services → ℕ → Option Service
service_at s n = cond (n == 1) s.regulation_up (cond (n == 2) s.regulation_down (cond (n == 3) s.spinning (cond (n == 4) s.non_spinning None)))

abbrev pub certified_at : Card → ℕ → ℕ
certified_at c n = cond (n == 1) c.up.certified (cond (n == 2) c.down.certified (cond (n == 3) c.spinning c.non_spinning))

-- what the reserves that remain need: all of it where a self-schedule or a curve was filed, else nothing
abbrev pub remaining : Components → ℕ
remaining b = cond (is_some b.self_schedule || is_some b.curve) (quantity_of b.services.spinning + quantity_of b.services.non_spinning) 0

-- the condition of each fault, by its number and place
pub data Breaks (coordinator : ℕ) (m : Meaning) (b : Components) : ℕ → ℕ → Type 0 where
  not_held : m.cards b.resource ≡ None → Breaks coordinator m b 6 0
  not_owner : (c : Card) → m.cards b.resource ≡ Some c → (coordinator ≢ c.owner) → Breaks coordinator m b 7 0
  no_hour : (c : Card) → m.cards b.resource ≡ Some c → (b.hour ≡ 0) ⊎ (m.day.hours < b.hour) → Breaks coordinator m b 8 0
  schedule : (c : Card) → m.cards b.resource ≡ Some c → (q : ℕ) → b.self_schedule ≡ Some q → (q < c.pmin) ⊎ (top c < q) → Breaks coordinator m b 9 0
  start : (c : Card) → m.cards b.resource ≡ Some c → (v : Curve) → b.curve ≡ Some v → (v.start ≢ base c b) → Breaks coordinator m b 10 0
  step_end : (c : Card) → m.cards b.resource ≡ Some c → (v : Curve) → b.curve ≡ Some v → (k : ℕ) → k < length (steps_of v)
      → ((step_at v k).end ≤ end_before v k) ⊎ (top c < (step_at v k).end) → Breaks coordinator m b 11 (k + 1)
  step_price : (c : Card) → m.cards b.resource ≡ Some c → (v : Curve) → b.curve ≡ Some v → (k : ℕ) → k < length (steps_of v)
      → (BelowBefore v k ⊎ ((step_at v k).price <ℤ m.day.floor)) ⊎ (m.day.hard_cap <ℤ (step_at v k).price) → Breaks coordinator m b 12 (k + 1)
  service : (c : Card) → m.cards b.resource ≡ Some c → (n : ℕ) (s : Service) → service_at b.services n ≡ Some s
      → ((certified_at c n < s.quantity) ⊎ (s.price <ℤ pos 0)) ⊎ (m.day.service_cap <ℤ s.price) → Breaks coordinator m b 13 n
  start_up_count : (c : Card) → m.cards b.resource ≡ Some c → (u : StartUp) → b.start_up ≡ Some u → (length (entries u.pairs) ≢ length (entries c.start_up)) → Breaks coordinator m b 14 0
  start_up_pair : (c : Card) → m.cards b.resource ≡ Some c → (u : StartUp) → b.start_up ≡ Some u → (k : ℕ) → k < length (entries u.pairs) → k < length (entries c.start_up)
      → ((((pair_at u k).down_time ≡ (limit_at c k).down_time) → ⊥) ⊎ ((limit_at c k).highest < (pair_at u k).cost)) ⊎ NotAboveBefore u k → Breaks coordinator m b 14 (k + 1)
  ramp_count : (c : Card) → m.cards b.resource ≡ Some c → (r : Ramp) → b.ramp ≡ Some r → (length (entries r.pairs) ≢ length (entries c.ramp)) → Breaks coordinator m b 15 0
  ramp_pair : (c : Card) → m.cards b.resource ≡ Some c → (r : Ramp) → b.ramp ≡ Some r → (k : ℕ) → k < length (entries r.pairs) → k < length (entries c.ramp)
      → ((((ramp_at r k).level ≡ (limits_at c k).level) → ⊥) ⊎ ((ramp_at r k).rate < (limits_at c k).lowest)) ⊎ ((limits_at c k).highest < (ramp_at r k).rate) → Breaks coordinator m b 15 (k + 1)
  reserves : (c : Card) → m.cards b.resource ≡ Some c → 1 ≤ remaining b → top c < base c b + remaining b → Breaks coordinator m b 16 0
  eleventh : (c : Card) → m.cards b.resource ≡ Some c → (v : Curve) → b.curve ≡ Some v → length (steps_of v) ≡ 10 → end_of v.start (steps_of v) < base c b + remaining b
      → int_min (step_at v 9).price (ceiling m.day c) <ℤ extension_price m.day c → Breaks coordinator m b 17 0

-- the order of the checks: each step's end before its price, step by step; at most ten steps, four services, three pairs and four rows
abbrev pub turn : ℕ → ℕ → ℕ
turn n p =
    cond (n == 6) 0 (cond (n == 7) 1 (cond (n == 8) 2 (cond (n == 9) 3 (cond (n == 10) 4 (cond (n == 11) (3 + 2 * p) (cond (n == 12) (4 + 2 * p)
    (cond (n == 13) (24 + p) (cond (n == 14) (29 + p) (cond (n == 15) (33 + p) (cond (n == 16) 38 39))))))))))

-- the layer of a fault by its number: 6, 7 and 8 are the register's, 9 to 17 the rules'
abbrev pub layer_of : ℕ → ℕ
layer_of n = cond (nat_le n 8) 2 3

-- a fault's condition holds and none that is checked earlier does
abbrev pub BreaksFirst : ℕ → Meaning → Components → ℕ → ℕ → Type 0
BreaksFirst coordinator m b n p = Breaks coordinator m b n p × ((n' p' : ℕ) → turn n' p' < turn n p → Breaks coordinator m b n' p' → ⊥)

-- a fault is answered exactly when its condition holds first; a bid is granted exactly when none holds
pub record ExactlyThen (coordinator : ℕ) (m : Meaning) (b : Components) : Type 0 where
  pub denied : (n p : ℕ) → (result_answer (ruled coordinator m b)).number ≡ n → (result_answer (ruled coordinator m b)).place ≡ p → 0 < n → BreaksFirst coordinator m b n p
  pub answers : (n p : ℕ) → BreaksFirst coordinator m b n p → ((result_answer (ruled coordinator m b)).number ≡ n) × ((result_answer (ruled coordinator m b)).place ≡ p)
  pub granted : (result_answer (ruled coordinator m b)).number ≡ 0 → (n p : ℕ) → Breaks coordinator m b n p → ⊥
  pub passes : ((n p : ℕ) → Breaks coordinator m b n p → ⊥) → (result_answer (ruled coordinator m b)).number ≡ 0

-- a fault is answered with the layer of its number; a bid that is granted is answered with zeros
pub record TellsLayers (coordinator : ℕ) (m : Meaning) (b : Components) : Type 0 where
  pub denied : 0 < (result_answer (ruled coordinator m b)).number → (result_answer (ruled coordinator m b)).layer ≡ layer_of (result_answer (ruled coordinator m b)).number
  pub granted : (result_answer (ruled coordinator m b)).number ≡ 0 → result_answer (ruled coordinator m b) ≡ answered 0 0 0
