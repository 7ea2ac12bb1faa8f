-- The fields that a bid's components are made of: how each is read, written and held. Assumes nothing.
use Rattle.std.specs.Prelude.{ℕ, Bool, false, ◌&&◌, List, ◌++◌, ℤ, pos, negsuc, ◌==◌, nat_le, nat_lt}
use Rattle.faults.specs.declared.RecordFault.TheVariants.{OutOfRange}
use Rattle.wire.specs.declared.counted.Counted.{Counted}
use Rattle.wire.specs.Bytes.{long_bytes, word_bytes, signed_bytes}
use Rattle.wire.specs.Reading.{Read, made_at, pair_at, ranged_at, is_quantity, is_price, quantity_at, price_at, rate_at, cost_at, down_time_at}
use Rattle.wire.specs.Rows.{counted_at, counted_bytes, counted_put, counted_held}
use Rattle.wire.specs.Writing.{Written, put_at, pair_put}
use Rattle.bid.specs.declared.components.Step.{Step}
use Rattle.bid.specs.declared.components.Curve.{Curve}
use Rattle.bid.specs.declared.components.Service.{Service}
use Rattle.bid.specs.declared.components.StartUpPair.{StartUpPair}
use Rattle.bid.specs.declared.components.RampPair.{RampPair}
use Rattle.bid.specs.declared.components.Ramp.{Ramp}
use Rattle.bid.specs.declared.components.StartUp.{StartUp}

abbrev pub is_zero : ℤ → Bool
is_zero (pos n) = n == 0
is_zero (negsuc n) = false

-- a step of the energy curve: end and price
abbrev pub step : ℕ → ℤ → Step
step x y = record { end = x; price = y }

abbrev pub blank_step : Step
blank_step = step 0 (pos 0)

abbrev pub is_blank_step : Step → Bool
is_blank_step v = v.end == 0 && is_zero v.price

abbrev pub step_at : List ℕ → ℕ → Read Step
step_at = pair_at step quantity_at price_at

abbrev pub step_bytes : Step → List ℕ
step_bytes v = long_bytes v.end ++ signed_bytes v.price

abbrev pub step_put : Step → List ℕ → ℕ → Written
step_put = pair_put (λ v. v.end) (λ v. v.price) (λ x. put_at (long_bytes x)) (λ x. put_at (signed_bytes x))

abbrev pub step_held : Step → Bool
step_held v = is_quantity v.end && is_price v.price

-- a service asks for at least 1
abbrev pub is_service_quantity : ℕ → Bool
is_service_quantity v = nat_le 1 v && is_quantity v

abbrev pub service_quantity_at : List ℕ → ℕ → Read ℕ
service_quantity_at = ranged_at OutOfRange 4 is_service_quantity

-- an ancillary service: quantity and price
abbrev pub service : ℕ → ℤ → Service
service x y = record { quantity = x; price = y }

abbrev pub service_at : List ℕ → ℕ → Read Service
service_at = pair_at service service_quantity_at price_at

abbrev pub service_bytes : Service → List ℕ
service_bytes v = long_bytes v.quantity ++ signed_bytes v.price

abbrev pub service_put : Service → List ℕ → ℕ → Written
service_put = pair_put (λ v. v.quantity) (λ v. v.price) (λ x. put_at (long_bytes x)) (λ x. put_at (signed_bytes x))

abbrev pub service_held : Service → Bool
service_held v = is_service_quantity v.quantity && is_price v.price

abbrev pub is_down_time : ℕ → Bool
is_down_time v = nat_lt v 65536

abbrev pub is_cost : ℕ → Bool
is_cost v = nat_lt v 4294967296

-- a start-up pair: down time and cost
abbrev pub start_up_pair : ℕ → ℕ → StartUpPair
start_up_pair x y = record { down_time = x; cost = y }

abbrev pub blank_start_up_pair : StartUpPair
blank_start_up_pair = start_up_pair 0 0

abbrev pub is_blank_start_up_pair : StartUpPair → Bool
is_blank_start_up_pair v = v.down_time == 0 && v.cost == 0

abbrev pub start_up_pair_at : List ℕ → ℕ → Read StartUpPair
start_up_pair_at = pair_at start_up_pair down_time_at cost_at

abbrev pub start_up_pair_bytes : StartUpPair → List ℕ
start_up_pair_bytes v = word_bytes v.down_time ++ long_bytes v.cost

abbrev pub start_up_pair_put : StartUpPair → List ℕ → ℕ → Written
start_up_pair_put = pair_put (λ v. v.down_time) (λ v. v.cost) (λ x. put_at (word_bytes x)) (λ x. put_at (long_bytes x))

abbrev pub start_up_pair_held : StartUpPair → Bool
start_up_pair_held v = is_down_time v.down_time && is_cost v.cost

-- a ramp pair: operating level and rate
abbrev pub ramp_pair : ℕ → ℕ → RampPair
ramp_pair x y = record { level = x; rate = y }

abbrev pub blank_ramp_pair : RampPair
blank_ramp_pair = ramp_pair 0 0

abbrev pub is_blank_ramp_pair : RampPair → Bool
is_blank_ramp_pair v = v.level == 0 && v.rate == 0

abbrev pub ramp_pair_at : List ℕ → ℕ → Read RampPair
ramp_pair_at = pair_at ramp_pair quantity_at rate_at

abbrev pub ramp_pair_bytes : RampPair → List ℕ
ramp_pair_bytes v = long_bytes v.level ++ long_bytes v.rate

abbrev pub ramp_pair_put : RampPair → List ℕ → ℕ → Written
ramp_pair_put = pair_put (λ v. v.level) (λ v. v.rate) (λ x. put_at (long_bytes x)) (λ x. put_at (long_bytes x))

abbrev pub ramp_pair_held : RampPair → Bool
ramp_pair_held v = is_quantity v.level && is_quantity v.rate

-- the energy curve: start quantity, a count from 1 to 10, and that many steps
abbrev pub curve : ℕ → Counted Step 10 → Curve
curve x y = record { start = x; steps = y }

abbrev pub steps_at : List ℕ → ℕ → Read (Counted Step 10)
steps_at = counted_at blank_step step_at 10

abbrev pub steps_held : Counted Step 10 → Bool
steps_held = counted_held step_held is_blank_step

abbrev pub curve_at : List ℕ → ℕ → Read Curve
curve_at = pair_at curve quantity_at steps_at

abbrev pub curve_bytes : Curve → List ℕ
curve_bytes v = long_bytes v.start ++ counted_bytes step_bytes v.steps

abbrev pub curve_put : Curve → List ℕ → ℕ → Written
curve_put = pair_put (λ v. v.start) (λ v. v.steps) (λ x. put_at (long_bytes x)) (counted_put step_put)

abbrev pub curve_held : Curve → Bool
curve_held v = is_quantity v.start && steps_held v.steps

-- start-up: a count from 1 to 3, and that many pairs
abbrev pub start_up : Counted StartUpPair 3 → StartUp
start_up x = record { pairs = x }

abbrev pub start_up_at : List ℕ → ℕ → Read StartUp
start_up_at = made_at start_up (counted_at blank_start_up_pair start_up_pair_at 3)

abbrev pub start_up_bytes : StartUp → List ℕ
start_up_bytes v = counted_bytes start_up_pair_bytes v.pairs

abbrev pub start_up_put : StartUp → List ℕ → ℕ → Written
start_up_put v = counted_put start_up_pair_put v.pairs

abbrev pub start_up_held : StartUp → Bool
start_up_held v = counted_held start_up_pair_held is_blank_start_up_pair v.pairs

-- ramp: a count from 1 to 4, and that many pairs
abbrev pub ramp : Counted RampPair 4 → Ramp
ramp x = record { pairs = x }

abbrev pub ramp_at : List ℕ → ℕ → Read Ramp
ramp_at = made_at ramp (counted_at blank_ramp_pair ramp_pair_at 4)

abbrev pub ramp_bytes : Ramp → List ℕ
ramp_bytes v = counted_bytes ramp_pair_bytes v.pairs

abbrev pub ramp_put : Ramp → List ℕ → ℕ → Written
ramp_put v = counted_put ramp_pair_put v.pairs

abbrev pub ramp_held : Ramp → Bool
ramp_held v = counted_held ramp_pair_held is_blank_ramp_pair v.pairs
