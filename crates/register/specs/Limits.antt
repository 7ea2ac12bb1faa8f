-- Start-up pairs and ramp rows as fields: how each is read and written. Assumes nothing.
use Rattle.std.specs.Prelude.{ℕ, Bool, ◌&&◌, List, ◌++◌, Ok, ◌==◌}
use Rattle.wire.specs.Bytes.{word_bytes, long_bytes}
use Rattle.wire.specs.Reading.{Read, and_then, pair_at, is_quantity, quantity_at, rate_at, cost_at, down_time_at}
use Rattle.wire.specs.Writing.{Written, put_at, then_put, pair_put}
use Rattle.register.specs.declared.data.RampLimits.{RampLimits}
use Rattle.register.specs.declared.data.StartUpLimit.{StartUpLimit}
use Rattle.register.specs.Cards.{start_up_limit, ramp_limits}

-- a start-up pair: down time and highest cost
abbrev pub limit_at : List ℕ → ℕ → Read StartUpLimit
limit_at = pair_at start_up_limit down_time_at cost_at

abbrev pub limit_bytes : StartUpLimit → List ℕ
limit_bytes p = word_bytes p.down_time ++ long_bytes p.highest

abbrev pub limit_put : StartUpLimit → List ℕ → ℕ → Written
limit_put = pair_put (λ p. p.down_time) (λ p. p.highest) (λ v. put_at (word_bytes v)) (λ v. put_at (long_bytes v))

abbrev pub is_blank_limit : StartUpLimit → Bool
is_blank_limit p = p.down_time == 0 && p.highest == 0

-- a ramp row: level, lowest and highest rate
abbrev pub limits_at : List ℕ → ℕ → Read RampLimits
limits_at bytes at = and_then (quantity_at bytes at) (λ v a. and_then (rate_at bytes a) (λ l b. and_then (rate_at bytes b) (λ h next. Ok (ramp_limits v l h, next))))

abbrev pub limits_bytes : RampLimits → List ℕ
limits_bytes r = long_bytes r.level ++ (long_bytes r.lowest ++ long_bytes r.highest)

abbrev pub limits_put : RampLimits → List ℕ → ℕ → Written
limits_put r out at = then_put (put_at (long_bytes r.level) out at) (λ out a. then_put (put_at (long_bytes r.lowest) out a) (put_at (long_bytes r.highest)))

abbrev pub limits_held : RampLimits → Bool
limits_held r = is_quantity r.level && (is_quantity r.lowest && is_quantity r.highest)

abbrev pub is_blank_limits : RampLimits → Bool
is_blank_limits r = r.level == 0 && (r.lowest == 0 && r.highest == 0)
