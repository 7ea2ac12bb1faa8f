-- What every day and every card keeps. Assumes nothing.
use Rattle.std.specs.Prelude.{ℕ, Bool, true, ◌&&◌, List, [], ◌∷◌, pos, ◌==◌, int_le, nat_le, nat_lt}
use Rattle.wire.specs.Reading.{is_quantity, is_price}
use Rattle.wire.specs.Rows.{entries, all_held}
use Rattle.register.specs.declared.data.Card.{Card}
use Rattle.register.specs.declared.data.Day.{Day}
use Rattle.register.specs.declared.data.RampLimits.{RampLimits}
use Rattle.register.specs.declared.data.Regulation.{Regulation}
use Rattle.register.specs.declared.data.StartUpLimit.{StartUpLimit}

-- a day has 23, 24 or 25 hours
abbrev pub is_day_length : ℕ → Bool
is_day_length h = nat_le 23 h && nat_le h 25

abbrev pub day_prices : Day → Bool
day_prices d = is_price d.floor && is_price d.soft_cap && is_price d.hard_cap && is_price d.service_cap

-- floor ≤ 0 ≤ soft cap ≤ hard cap, and a service cap of at least 0
abbrev pub caps_in_order : Day → Bool
caps_in_order d = int_le d.floor (pos 0) && int_le (pos 0) d.soft_cap && int_le d.soft_cap d.hard_cap && int_le (pos 0) d.service_cap

abbrev pub day_kept : Day → Bool
day_kept d = day_prices d && is_day_length d.hours && caps_in_order d

-- the numbers of a list rise strictly, from above one that stands before it
abbrev pub rises_from : {A : Type 0} → (A → ℕ) → ℕ → List A → Bool
rises_from key before [] = true
rises_from key before (x ∷ xs) = nat_lt before (key x) && rises_from key (key x) xs

abbrev pub rises : {A : Type 0} → (A → ℕ) → List A → Bool
rises key [] = true
rises key (x ∷ xs) = rises_from key (key x) xs

-- the first of a list, if it has one, has this number
abbrev pub first_is : {A : Type 0} → (A → ℕ) → ℕ → List A → Bool
first_is key n [] = true
first_is key n (x ∷ xs) = key x == n

abbrev pub is_owner : ℕ → Bool
is_owner n = nat_le 1 n && nat_le n 255

-- PMin ≤ PMax, both quantities
abbrev pub limits_in_order : Card → Bool
limits_in_order c = nat_le c.pmin c.pmax && is_quantity c.pmax

-- award ≤ certified ≤ PMax
abbrev pub regulation_kept : ℕ → Regulation → Bool
regulation_kept pmax r = nat_le r.award r.certified && nat_le r.certified pmax

abbrev pub reserves_kept : Card → Bool
reserves_kept c = nat_le c.spinning c.pmax && nat_le c.non_spinning c.pmax

abbrev pub limit_kept : Card → Bool
limit_kept c = nat_le c.regulation_limit c.pmax

-- a down time of 16 bits and a cost of 32
abbrev pub is_limit : StartUpLimit → Bool
is_limit p = nat_lt p.down_time 65536 && nat_lt p.highest 4294967296

-- a pair that fits and may stand first, or behind another
abbrev pub may_be_first : StartUpLimit → Bool
may_be_first p = is_limit p && p.down_time == 0

abbrev pub may_follow : StartUpLimit → StartUpLimit → Bool
may_follow b p = is_limit p && nat_lt b.down_time p.down_time && nat_lt b.highest p.highest

-- the first down time is 0; down times and highest costs rise strictly
abbrev pub start_up_kept : List StartUpLimit → Bool
start_up_kept ps = all_held is_limit ps && first_is (λ p. p.down_time) 0 ps && rises (λ p. p.down_time) ps && rises (λ p. p.highest) ps

-- levels up to PMax, and lowest ≤ highest, both rates
abbrev pub is_row : ℕ → RampLimits → Bool
is_row pmax r = nat_le r.level pmax && nat_le r.lowest r.highest && is_quantity r.highest

-- the first level is PMin; levels rise strictly to at most PMax
abbrev pub ramp_kept : ℕ → ℕ → List RampLimits → Bool
ramp_kept pmin pmax rs = all_held (is_row pmax) rs && first_is (λ r. r.level) pmin rs && rises (λ r. r.level) rs

abbrev pub counts_kept : Card → Bool
counts_kept c = nat_le c.start_up.count 3 && nat_le c.ramp.count 4

-- everything but the pairs and rows
abbrev pub numbers_kept : Card → Bool
numbers_kept c = is_owner c.owner && limits_in_order c && regulation_kept c.pmax c.up && regulation_kept c.pmax c.down && reserves_kept c && limit_kept c && is_price c.level

abbrev pub card_kept : Card → Bool
card_kept c = numbers_kept c && counts_kept c && start_up_kept (entries c.start_up) && ramp_kept c.pmin c.pmax (entries c.ramp)
