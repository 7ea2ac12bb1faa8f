-- What mending makes, said of the filing and the row alone, with card and day. Assumes nothing.
use Rattle.std.specs.Prelude.{◌≡◌, ℕ, suc, ◌+◌, ◌<◌, ◌≤◌, true, false, ◌||◌, ◌⊎◌, [], ◌∷◌, length, ℤ, pos, ◌≤ℤ◌, is_some, Some, None, Option}
use Rattle.std.specs.Int.{int_min}
use Rattle.bid.specs.declared.components.Components.{Components}
use Rattle.bid.specs.declared.components.Curve.{Curve}
use Rattle.bid.specs.declared.components.Service.{Service}
use Rattle.register.specs.declared.data.Card.{Card}
use Rattle.register.specs.declared.data.Day.{Day}
use Rattle.register.specs.declared.data.Regulation.{Regulation}
use Rattle.rule_laws.specs.Exactly.{step_at, remaining}
use Rattle.checks.specs.Terms.{base, ceiling, extension_price, free, end_of, steps_of, top}

-- a reserve is as filed where a self-schedule or a curve was filed, else absent
abbrev pub ReserveMade : Components → Option Service → Option Service → Type 0
ReserveMade b filed row = (is_some b.self_schedule || is_some b.curve ≡ true → row ≡ filed) × (is_some b.self_schedule || is_some b.curve ≡ false → row ≡ None)

-- the price of a regulation bid: the filed one, or 0 where none was filed
abbrev pub price_filed : Option Service → ℤ
price_filed None = pos 0
price_filed (Some s) = s.price

-- something is free, and a bid was filed or something is awarded
abbrev pub Offered : ℕ → Regulation → Option Service → Type 0
Offered spare r filed = (1 ≤ spare) × ((is_some filed ≡ true) ⊎ (1 ≤ r.award))

-- a regulation bid is there exactly when it is allowed and offered; its quantity is what is free
pub record RegulationMade (allowed : Type 0) (spare : ℕ) (r : Regulation) (filed row : Option Service) : Type 0 where
  pub there : is_some row ≡ true → allowed × Offered spare r filed
  pub made : allowed → Offered spare r filed → is_some row ≡ true
  pub says : (s : Service) → row ≡ Some s → (s.quantity ≡ spare) × (s.price ≡ price_filed filed)

-- no self-schedule above the regulation limit was filed
abbrev pub NotAboveLimit : Card → Components → Type 0
NotAboveLimit c b = (q : ℕ) → b.self_schedule ≡ Some q → q ≤ c.regulation_limit

-- the last filed price, brought under the ceiling, is at least the extension price
abbrev pub LastPriceAtLeast : Day → Card → Curve → Type 0
LastPriceAtLeast d c v = (k : ℕ) → length (steps_of v) ≡ suc k → extension_price d c ≤ℤ int_min (step_at v k).price (ceiling d c)

-- a curve that ends at or above base plus need has the same steps and ends, prices brought under the ceiling
pub record CurveStays (d : Day) (c : Card) (v w : Curve) : Type 0 where
  pub start : w.start ≡ v.start
  pub count : length (steps_of w) ≡ length (steps_of v)
  pub ends : (k : ℕ) → k < length (steps_of v) → (step_at w k).end ≡ (step_at v k).end
  pub prices : (k : ℕ) → k < length (steps_of v) → (step_at w k).price ≡ int_min (step_at v k).price (ceiling d c)

-- only the last step's end moves, to the target
pub record CurveLengthened (d : Day) (c : Card) (target : ℕ) (v w : Curve) : Type 0 where
  pub start : w.start ≡ v.start
  pub count : length (steps_of w) ≡ length (steps_of v)
  pub ends : (k : ℕ) → suc k < length (steps_of v) → (step_at w k).end ≡ (step_at v k).end
  pub last : (k : ℕ) → suc k ≡ length (steps_of v) → (step_at w k).end ≡ target
  pub prices : (k : ℕ) → k < length (steps_of v) → (step_at w k).price ≡ int_min (step_at v k).price (ceiling d c)

-- exactly one step at the extension price follows the filed ones, to the target
pub record CurveGrown (d : Day) (c : Card) (target : ℕ) (v w : Curve) : Type 0 where
  pub start : w.start ≡ v.start
  pub count : length (steps_of w) ≡ length (steps_of v) + 1
  pub ends : (k : ℕ) → k < length (steps_of v) → (step_at w k).end ≡ (step_at v k).end
  pub prices : (k : ℕ) → k < length (steps_of v) → (step_at w k).price ≡ int_min (step_at v k).price (ceiling d c)
  pub added : step_at w (length (steps_of v)) ≡ record { end = target; price = extension_price d c }

-- a single step from the base to the target at the extension price
pub record CurveMade (d : Day) (c : Card) (from target : ℕ) (w : Curve) : Type 0 where
  pub start : w.start ≡ from
  pub steps : steps_of w ≡ record { end = target; price = extension_price d c } ∷ []

-- what becomes of the curve, case by case
pub record CurvesMade (d : Day) (c : Card) (b row : Components) : Type 0 where
  pub none : b.curve ≡ None → base c b + remaining b ≤ base c b → row.curve ≡ None
  pub made : b.curve ≡ None → base c b < base c b + remaining b → (w : Curve) × (row.curve ≡ Some w) × CurveMade d c (base c b) (base c b + remaining b) w
  pub stays : (v : Curve) → b.curve ≡ Some v → base c b + remaining b ≤ end_of v.start (steps_of v) → (w : Curve) × (row.curve ≡ Some w) × CurveStays d c v w
  pub lengthened : (v : Curve) → b.curve ≡ Some v → end_of v.start (steps_of v) < base c b + remaining b → LastPriceAtLeast d c v
      → (w : Curve) × (row.curve ≡ Some w) × CurveLengthened d c (base c b + remaining b) v w
  pub grown : (v : Curve) → b.curve ≡ Some v → end_of v.start (steps_of v) < base c b + remaining b → (LastPriceAtLeast d c v → ⊥)
      → (w : Curve) × (row.curve ≡ Some w) × CurveGrown d c (base c b + remaining b) v w

pub record Makes (d : Day) (c : Card) (b row : Components) : Type 0 where
  pub resource : row.resource ≡ b.resource
  pub hour : row.hour ≡ b.hour
  pub self_schedule : row.self_schedule ≡ b.self_schedule
  -- start-up and ramp are as filed
  pub start_up : row.start_up ≡ b.start_up
  pub ramp : row.ramp ≡ b.ramp
  pub spinning : ReserveMade b b.services.spinning row.services.spinning
  pub non_spinning : ReserveMade b b.services.non_spinning row.services.non_spinning
  pub regulation_up : RegulationMade (NotAboveLimit c b) (free b.hour c.up) c.up b.services.regulation_up row.services.regulation_up
  pub regulation_down : RegulationMade (Unit {0}) (free b.hour c.down) c.down b.services.regulation_down row.services.regulation_down
  pub curves : CurvesMade d c b row
  -- the reserves that remain fit under the top
  pub within : 1 ≤ remaining b → base c b + remaining b ≤ top c
