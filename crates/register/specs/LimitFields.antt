-- Start-up pairs and ramp rows as fields. Assumes nothing.
use Rattle.std.specs.Prelude.{◌≡◌, ℕ, true, ◌&&◌, List, ◌++◌, Ok, Err, ◌==◌, refl}
use Rattle.std.proofs.Common.{ap, subst, ◌∙◌}
use Rattle.std.proofs.lemmas.Bool.{and_parts, eqb-true}
use Rattle.wire.specs.Bytes.{word_bytes, long_bytes}
use Rattle.wire.specs.Laws.{Lawful, Puts}
use Rattle.wire.specs.Reading.{Read, and_then, pair_at, quantity_at, rate_at}
use Rattle.wire.specs.Writing.{put_at, then_put}
use Rattle.wire.specs.Laid.{puts_bytes, puts_then}
use Rattle.wire.specs.Lawful.{number_lawful, quantity_lawful, pair_lawful}
use Rattle.register.specs.declared.data.RampLimits.{RampLimits}
use Rattle.register.specs.declared.data.StartUpLimit.{StartUpLimit}
use Rattle.register.specs.Cards.{start_up_limit, ramp_limits, blank_limit, blank_limits}
use Rattle.register.specs.Limits.{limit_at, limit_bytes, limit_put, is_blank_limit, limits_at, limits_bytes, limits_put, limits_held, is_blank_limits}
use Rattle.register.specs.Kept.{is_limit}

pub limit_lawful : Lawful limit_at limit_bytes is_limit 6
limit_lawful = pair_lawful start_up_limit (λ p. p.down_time) (λ p. p.highest) (λ p. refl) (λ x y. refl) (λ x y. refl) (number_lawful 2) (number_lawful 4)

pub limit_puts : (p : StartUpLimit) → Puts (limit_put p) (limit_bytes p)
limit_puts p = puts_then (put_at (word_bytes p.down_time)) (put_at (long_bytes p.highest)) (word_bytes p.down_time) (long_bytes p.highest) (puts_bytes (word_bytes p.down_time)) (puts_bytes (long_bytes p.highest))

pub limit_blank : (p : StartUpLimit) → is_blank_limit p ≡ true → p ≡ blank_limit
limit_blank p h = let q = and_parts (p.down_time == 0) (p.highest == 0) h in λ j. start_up_limit (eqb-true p.down_time 0 q.0 j) (eqb-true p.highest 0 q.1 j)

regrouped : {A B C : Type 0} (p : Read A) (k : A → ℕ → Read B) (h : B → ℕ → Read C) → and_then (and_then p k) h ≡ and_then p (λ x n. and_then (k x n) h)
regrouped (Ok x) k h = refl
regrouped (Err f) k h = refl

abbrev rates_of : ℕ → ℕ → ℕ × ℕ
rates_of l h = (l, h)

abbrev with_rates : ℕ → ℕ × ℕ → RampLimits
with_rates v r = ramp_limits v r.0 r.1

-- a row as a level and a pair of rates
limits_pair : (bytes : List ℕ) (at : ℕ) → pair_at with_rates quantity_at (pair_at rates_of rate_at rate_at) bytes at ≡ limits_at bytes at
limits_pair bytes at = ap (and_then (quantity_at bytes at)) (λ j v a. (regrouped (rate_at bytes a) (λ l b. and_then (rate_at bytes b) (λ h n. Ok (rates_of l h, n))) (λ r n. Ok (with_rates v r, n))
    ∙ ap (and_then (rate_at bytes a)) (λ i l b. regrouped (rate_at bytes b) (λ h n. Ok (rates_of l h, n)) (λ r n. Ok (with_rates v r, n)) i)) j)

pub limits_lawful : Lawful limits_at limits_bytes limits_held 12
limits_lawful = subst (λ p. Lawful p limits_bytes limits_held 12) (λ j bytes at. limits_pair bytes at j)
    (pair_lawful with_rates (λ r. r.level) (λ r. rates_of r.lowest r.highest) (λ r. refl) (λ x y. refl) (λ x y. refl) quantity_lawful
    (pair_lawful rates_of (λ r. r.0) (λ r. r.1) (λ r. refl) (λ x y. refl) (λ x y. refl) quantity_lawful quantity_lawful))

pub limits_puts : (r : RampLimits) → Puts (limits_put r) (limits_bytes r)
limits_puts r =
    let rates = puts_then (put_at (long_bytes r.lowest)) (put_at (long_bytes r.highest)) (long_bytes r.lowest) (long_bytes r.highest) (puts_bytes (long_bytes r.lowest)) (puts_bytes (long_bytes r.highest)) in
    puts_then (put_at (long_bytes r.level)) (λ out at. then_put (put_at (long_bytes r.lowest) out at) (put_at (long_bytes r.highest))) (long_bytes r.level) (long_bytes r.lowest ++ long_bytes r.highest) (puts_bytes (long_bytes r.level)) rates

pub limits_blank : (r : RampLimits) → is_blank_limits r ≡ true → r ≡ blank_limits
limits_blank r h =
    let q = and_parts (r.level == 0) (r.lowest == 0 && r.highest == 0) h in
    let s = and_parts (r.lowest == 0) (r.highest == 0) q.1 in
    λ j. ramp_limits (eqb-true r.level 0 q.0 j) (eqb-true r.lowest 0 s.0 j) (eqb-true r.highest 0 s.1 j)
