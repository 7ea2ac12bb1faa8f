-- What mending makes of a bid that passes the checks, step by step. Assumes nothing.
use Rattle.std.specs.Prelude.{◌≡◌, ℕ, ◌+◌, Bool, true, false, cond, ◌&&◌, ◌||◌, List, [], ◌∷◌, ◌++◌, map, length, ℤ, pos, is_some, Some, None, Ok, Err, Option, Result, int_le, nat_le, nat_lt}
use Rattle.std.specs.Int.{int_min}
use Rattle.faults.specs.declared.Fault.{Fault}
use Rattle.faults.specs.declared.Fault.TheVariants.{Rule}
use Rattle.faults.specs.declared.RuleFault.TheVariants.{ReserveAboveTop, EleventhStep}
use Rattle.wire.specs.declared.counted.Counted.{Counted}
use Rattle.wire.specs.Reading.{is_count}
use Rattle.wire.specs.Rows.{packed, counted_held, optional_held}
use Rattle.bid.specs.declared.components.Components.{Components}
use Rattle.bid.specs.declared.components.Curve.{Curve}
use Rattle.bid.specs.declared.components.Service.{Service}
use Rattle.bid.specs.declared.components.Services.{Services}
use Rattle.bid.specs.declared.components.Step.{Step}
use Rattle.bid.specs.Fields.{step, curve, service, blank_step, is_blank_step}
use Rattle.register.specs.declared.data.Card.{Card}
use Rattle.register.specs.declared.data.Day.{Day}
use Rattle.checks.specs.Terms.{top, base, ceiling, extension_price, free, need, steps_of, curve_end}

-- a curve from a start with these steps
abbrev pub curve_of : ℕ → List Step → Curve
curve_of start ss = curve start (packed blank_step 10 ss)

-- first: each step price above the ceiling becomes the ceiling
abbrev pub capped_step : ℤ → Step → Step
capped_step limit s = step s.end (int_min s.price limit)

abbrev pub capped : ℤ → Option Curve → Option Curve
capped limit None = None
capped limit (Some v) = Some (curve_of v.start (map (capped_step limit) (steps_of v)))

-- second: without self-schedule and curve the reserves are erased
abbrev pub reserve : Bool → Option Service → Option Service
reserve energy s = cond energy s None

abbrev pub has_energy : Components → Bool
has_energy b = is_some b.self_schedule || is_some b.curve

-- third: a regulation bid's quantity becomes what is free, and it is erased where nothing is; with an award and something free, a bid at price 0 is made
abbrev pub regulated : ℕ → ℕ → Option Service → Option Service
regulated spare award None = cond (nat_le 1 award && nat_le 1 spare) (Some (service spare (pos 0))) None
regulated spare award (Some s) = cond (nat_le 1 spare) (Some (service spare s.price)) None

abbrev pub above_limit : Card → Option ℕ → Bool
above_limit c None = false
above_limit c (Some q) = nat_lt c.regulation_limit q

-- Regulation Up is erased and not made when the self-schedule is above the regulation limit
abbrev pub regulation_up : Card → Components → Option Service
regulation_up c b = cond (above_limit c b.self_schedule) None (regulated (free b.hour c.up) c.up.award b.services.regulation_up)

abbrev pub regulation_down : Card → Components → Option Service
regulation_down c b = regulated (free b.hour c.down) c.down.award b.services.regulation_down

abbrev pub mended_services : Card → Components → Services
mended_services c b = record {
  regulation_up = regulation_up c b;
  regulation_down = regulation_down c b;
  spinning = reserve (has_energy b) b.services.spinning;
  non_spinning = reserve (has_energy b) b.services.non_spinning;
}

-- fourth: a curve that ends below its target is extended to there
abbrev pub price_of : ℤ → List Step → ℤ
price_of p [] = p
price_of p (s ∷ ss) = price_of s.price ss

-- the last step ends at the target
abbrev pub lengthened : ℕ → List Step → List Step
lengthened target [] = []
lengthened target (s ∷ []) = step target s.price ∷ []
lengthened target (s ∷ t ∷ ss) = s ∷ lengthened target (t ∷ ss)

-- a last step whose price is at least the extension price is lengthened, else one is added; there is no eleventh
abbrev pub extended_steps : ℕ → ℤ → List Step → Result (List Step) Fault
extended_steps target price ss =
    cond (int_le price (price_of price ss)) (Ok (lengthened target ss)) (cond (nat_lt (length ss) 10) (Ok (ss ++ step target price ∷ [])) (Err (Rule EleventhStep 0)))

-- steps as a curve keeps them
abbrev pub steps_made : Result (List Step) Fault → Result (Counted Step 10) Fault
steps_made (Ok ss) = Ok (packed blank_step 10 ss)
steps_made (Err f) = Err f

abbrev pub curve_made : ℕ → Result (Counted Step 10) Fault → Result (Option Curve) Fault
curve_made start (Ok ss) = Ok (Some (curve start ss))
curve_made start (Err f) = Err f

-- without a curve one step from the base is made
abbrev pub extended : ℕ → ℕ → ℤ → Option Curve → Result (Option Curve) Fault
extended from target price None = Ok (Some (curve_of from (step target price ∷ [])))
extended from target price (Some v) = curve_made v.start (steps_made (extended_steps target price (steps_of v)))

-- a curve as bids keep them: at least one step, and zeros behind its steps
abbrev pub Tidy : Option Curve → Type 0
Tidy None = Unit {0}
Tidy (Some v) = (is_count 10 v.steps.count ≡ true) × (v.steps ≡ packed blank_step 10 (steps_of v))

-- the same as a test
abbrev pub is_tidy : Option Curve → Bool
is_tidy = optional_held (λ v. counted_held (λ s. true) is_blank_step v.steps)

-- the reserves have to fit between base and top; then the curve reaches them
abbrev pub reached : ℕ → ℕ → ℕ → ℤ → Option Curve → Result (Option Curve) Fault
reached from most needed price v =
    cond (nat_le 1 needed && nat_lt most (from + needed)) (Err (Rule ReserveAboveTop 0)) (cond (nat_lt (curve_end from v) (from + needed)) (extended from (from + needed) price v) (Ok v))

-- a bid with another curve and other services
abbrev pub remade : Components → Services → Option Curve → Components
remade b s v = record {
  resource = b.resource;
  hour = b.hour;
  self_schedule = b.self_schedule;
  curve = v;
  services = s;
  start_up = b.start_up;
  ramp = b.ramp;
}

abbrev pub row_made : Components → Services → Result (Option Curve) Fault → Result Components Fault
row_made b s (Ok v) = Ok (remade b s v)
row_made b s (Err f) = Err f

unfoldable pub mended : Day → Card → Components → Result Components Fault
mended d c b = row_made b (mended_services c b) (reached (base c b) (top c) (need (mended_services c b)) (extension_price d c) (capped (ceiling d c) b.curve))
