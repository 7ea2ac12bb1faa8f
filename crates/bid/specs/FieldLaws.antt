-- The fields of a bid: reading and writing undo each other. Assumes nothing.
use Rattle.std.specs.Prelude.{◌≡◌, ℕ, true, ℤ, pos, negsuc, nat_le, refl}
use Rattle.std.proofs.Common.{ap, arith}
use Rattle.std.proofs.lemmas.Bool.{eqb-true, leb-true, and_parts}
use Rattle.faults.specs.declared.RecordFault.TheVariants.{OutOfRange}
use Rattle.wire.specs.Bytes.{long_bytes, word_bytes, signed_bytes}
use Rattle.wire.specs.Laws.{Lawful, Puts}
use Rattle.wire.specs.Reading.{is_quantity}
use Rattle.wire.specs.Writing.{put_at}
use Rattle.wire.specs.Rows.{counted_bytes, counted_put}
use Rattle.wire.specs.CountedRows.{counted_lawful}
use Rattle.wire.specs.Laid.{puts_bytes, puts_then, puts_counted}
use Rattle.wire.specs.Lawful.{number_lawful, ranged_lawful, quantity_lawful, price_lawful, made_lawful, pair_lawful}
use Rattle.bid.specs.declared.components.Curve.{Curve}
use Rattle.bid.specs.declared.components.Step.{Step}
use Rattle.bid.specs.declared.components.Service.{Service}
use Rattle.bid.specs.declared.components.StartUpPair.{StartUpPair}
use Rattle.bid.specs.declared.components.RampPair.{RampPair}
use Rattle.bid.specs.declared.components.Ramp.{Ramp}
use Rattle.bid.specs.declared.components.StartUp.{StartUp}
use Rattle.bid.specs.Fields.{is_zero, is_service_quantity, service_quantity_at, step, step_at, step_bytes, step_put, step_held, blank_step, is_blank_step, service, service_at, service_bytes, service_put, service_held, start_up_pair, start_up_pair_at, start_up_pair_bytes, start_up_pair_put, start_up_pair_held, blank_start_up_pair, is_blank_start_up_pair, ramp_pair, ramp_pair_at, ramp_pair_bytes, ramp_pair_put, ramp_pair_held, blank_ramp_pair, is_blank_ramp_pair, curve, steps_at, steps_held, curve_at, curve_bytes, curve_put, curve_held, start_up, ramp, start_up_at, start_up_bytes, start_up_put, start_up_held, ramp_at, ramp_bytes, ramp_put, ramp_held}

zero_is : (z : ℤ) → is_zero z ≡ true → z ≡ pos 0
zero_is (pos n) h = ap pos (eqb-true n 0 h)
zero_is (negsuc n) h = absurd (let z : ◌≡◌ {A = ℕ} 0 1 = cc in omega arith)

service_quantity_lawful : Lawful service_quantity_at long_bytes is_service_quantity 4
service_quantity_lawful = ranged_lawful OutOfRange refl 4 (omega arith) is_service_quantity (λ v h. omega (arith, leb-true v 10000000 (and_parts (nat_le 1 v) (is_quantity v) h).1))

pub step_lawful : Lawful step_at step_bytes step_held 8
step_lawful = pair_lawful step (λ v. v.end) (λ v. v.price) (λ v. refl) (λ x y. refl) (λ x y. refl) quantity_lawful price_lawful

pub step_puts : (v : Step) → Puts (step_put v) (step_bytes v)
step_puts v = puts_then (put_at (long_bytes v.end)) (put_at (signed_bytes v.price)) (long_bytes v.end) (signed_bytes v.price) (puts_bytes (long_bytes v.end)) (puts_bytes (signed_bytes v.price))

pub step_blanks : (v : Step) → is_blank_step v ≡ true → v ≡ blank_step
step_blanks v h =
    let parts = and_parts _ _ h in
    let e₁ = eqb-true v.end 0 parts.0 in
    let e₂ = zero_is v.price parts.1 in
    λ j. record { end = e₁ j; price = e₂ j }

pub service_lawful : Lawful service_at service_bytes service_held 8
service_lawful = pair_lawful service (λ v. v.quantity) (λ v. v.price) (λ v. refl) (λ x y. refl) (λ x y. refl) service_quantity_lawful price_lawful

pub service_puts : (v : Service) → Puts (service_put v) (service_bytes v)
service_puts v = puts_then (put_at (long_bytes v.quantity)) (put_at (signed_bytes v.price)) (long_bytes v.quantity) (signed_bytes v.price) (puts_bytes (long_bytes v.quantity)) (puts_bytes (signed_bytes v.price))

pub start_up_pair_lawful : Lawful start_up_pair_at start_up_pair_bytes start_up_pair_held 6
start_up_pair_lawful = pair_lawful start_up_pair (λ v. v.down_time) (λ v. v.cost) (λ v. refl) (λ x y. refl) (λ x y. refl) (number_lawful 2) (number_lawful 4)

pub start_up_pair_puts : (v : StartUpPair) → Puts (start_up_pair_put v) (start_up_pair_bytes v)
start_up_pair_puts v = puts_then (put_at (word_bytes v.down_time)) (put_at (long_bytes v.cost)) (word_bytes v.down_time) (long_bytes v.cost) (puts_bytes (word_bytes v.down_time)) (puts_bytes (long_bytes v.cost))

pub start_up_pair_blanks : (v : StartUpPair) → is_blank_start_up_pair v ≡ true → v ≡ blank_start_up_pair
start_up_pair_blanks v h =
    let parts = and_parts _ _ h in
    let e₁ = eqb-true v.down_time 0 parts.0 in
    let e₂ = eqb-true v.cost 0 parts.1 in
    λ j. record { down_time = e₁ j; cost = e₂ j }

pub ramp_pair_lawful : Lawful ramp_pair_at ramp_pair_bytes ramp_pair_held 8
ramp_pair_lawful = pair_lawful ramp_pair (λ v. v.level) (λ v. v.rate) (λ v. refl) (λ x y. refl) (λ x y. refl) quantity_lawful quantity_lawful

pub ramp_pair_puts : (v : RampPair) → Puts (ramp_pair_put v) (ramp_pair_bytes v)
ramp_pair_puts v = puts_then (put_at (long_bytes v.level)) (put_at (long_bytes v.rate)) (long_bytes v.level) (long_bytes v.rate) (puts_bytes (long_bytes v.level)) (puts_bytes (long_bytes v.rate))

pub ramp_pair_blanks : (v : RampPair) → is_blank_ramp_pair v ≡ true → v ≡ blank_ramp_pair
ramp_pair_blanks v h =
    let parts = and_parts _ _ h in
    let e₁ = eqb-true v.level 0 parts.0 in
    let e₂ = eqb-true v.rate 0 parts.1 in
    λ j. record { level = e₁ j; rate = e₂ j }

steps_lawful : Lawful steps_at (counted_bytes step_bytes) steps_held 81
steps_lawful = counted_lawful blank_step step_lawful 10 is_blank_step step_blanks refl

pub curve_lawful : Lawful curve_at curve_bytes curve_held 85
curve_lawful = pair_lawful curve (λ v. v.start) (λ v. v.steps) (λ v. refl) (λ x y. refl) (λ x y. refl) quantity_lawful steps_lawful

pub curve_puts : (v : Curve) → Puts (curve_put v) (curve_bytes v)
curve_puts v = puts_then (put_at (long_bytes v.start)) (counted_put step_put v.steps) (long_bytes v.start) (counted_bytes step_bytes v.steps) (puts_bytes (long_bytes v.start)) (puts_counted step_put step_bytes step_puts v.steps)

pub start_up_lawful : Lawful start_up_at start_up_bytes start_up_held 19
start_up_lawful = made_lawful start_up (λ v. v.pairs) (λ v. refl) (λ x. refl) (counted_lawful blank_start_up_pair start_up_pair_lawful 3 is_blank_start_up_pair start_up_pair_blanks refl)

pub start_up_puts : (v : StartUp) → Puts (start_up_put v) (start_up_bytes v)
start_up_puts v = puts_counted start_up_pair_put start_up_pair_bytes start_up_pair_puts v.pairs

pub ramp_lawful : Lawful ramp_at ramp_bytes ramp_held 33
ramp_lawful = made_lawful ramp (λ v. v.pairs) (λ v. refl) (λ x. refl) (counted_lawful blank_ramp_pair ramp_pair_lawful 4 is_blank_ramp_pair ramp_pair_blanks refl)

pub ramp_puts : (v : Ramp) → Puts (ramp_put v) (ramp_bytes v)
ramp_puts v = puts_counted ramp_pair_put ramp_pair_bytes ramp_pair_puts v.pairs
