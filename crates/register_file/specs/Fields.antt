-- The fields of a register file: how each is read. Assumes nothing.
use Rattle.std.specs.Prelude.{ℕ, cond, List, [], ℤ, pos, Ok, Option}
use Rattle.faults.specs.declared.RecordFault.TheVariants.{OutOfRange}
use Rattle.wire.specs.declared.counted.Counted.{Counted}
use Rattle.wire.specs.Maps.{stands}
use Rattle.wire.specs.Reading.{Read, and_then, pair_at, ranged_at, byte_at, word_at, long_at, map_at, quantity_at, price_at}
use Rattle.wire.specs.Rows.{packed, counted_at, optional_at}
use Rattle.register.specs.declared.data.Day.{Day}
use Rattle.register.specs.declared.data.RampLimits.{RampLimits}
use Rattle.register.specs.declared.data.Regulation.{Regulation}
use Rattle.register.specs.declared.data.StartUpLimit.{StartUpLimit}
use Rattle.register_file.specs.declared.standing.Head.{Head}
use Rattle.register_file.specs.declared.standing.Services.{Services}
use Rattle.register_file.specs.declared.standing.Standing.{Standing}
use Rattle.register.specs.Cards.{regulation, blank_limit, blank_limits}
use Rattle.register.specs.Kept.{is_owner}
use Rattle.register.specs.Limits.{limit_at, limits_at}

-- the last bit of a card's map that has a meaning
abbrev pub last_bit : ℕ
last_bit = 7

abbrev pub day_of : ℕ → ℤ → ℤ → ℤ → ℤ → Day
day_of h f s c v = record { hours = h; floor = f; soft_cap = s; hard_cap = c; service_cap = v }

abbrev pub day_at : List ℕ → ℕ → Read Day
day_at bytes at =
    and_then (byte_at bytes at) (λ hours a. and_then (price_at bytes a) (λ floor b. and_then (price_at bytes b) (λ soft c. and_then (price_at bytes c) (λ hard d. and_then (price_at bytes d) (λ service next. Ok (day_of hours floor soft hard service, next))))))

-- 1 to 255
abbrev pub owner_at : List ℕ → ℕ → Read ℕ
owner_at = ranged_at OutOfRange 1 is_owner

abbrev pub head_of : ℕ → ℕ → ℕ → ℕ → ℕ → Head
head_of r o m p q = record { resource = r; owner = o; map = m; pmin = p; pmax = q }

-- what every card has: number, owner, map, PMin, PMax
abbrev pub head_at : List ℕ → ℕ → Read Head
head_at bytes at =
    and_then (word_at bytes at) (λ number a. and_then (owner_at bytes a) (λ owner b. and_then (map_at last_bit bytes b) (λ map c. and_then (quantity_at bytes c) (λ pmin d. and_then (quantity_at bytes d) (λ pmax next. Ok (head_of number owner map pmin pmax, next))))))

-- a number of 32 bits where its bit stands
abbrev pub bits_at : ℕ → ℕ → List ℕ → ℕ → Read (Option ℕ)
bits_at map bit = optional_at (stands bit map) long_at

-- a quantity where its bit stands, else what its absence means
abbrev pub quantity_or : ℕ → ℕ → ℕ → List ℕ → ℕ → Read ℕ
quantity_or map bit absent bytes at = cond (stands bit map) (quantity_at bytes at) (Ok (absent, at))

-- certified and award
abbrev pub regulation_at : ℕ → ℕ → List ℕ → ℕ → Read Regulation
regulation_at map bit = pair_at regulation (quantity_or map bit 0) (quantity_or map bit 0)

abbrev pub level_at : ℕ → List ℕ → ℕ → Read ℤ
level_at map bytes at = cond (stands 5 map) (price_at bytes at) (Ok (pos 0, at))

abbrev pub services_of : Regulation → Regulation → ℕ → ℕ → ℕ → ℤ → Services
services_of u d s n r l = record { up = u; down = d; spinning = s; non_spinning = n; regulation_limit = r; level = l }

-- the fields of bits 0 to 5
abbrev pub services_at : Head → List ℕ → ℕ → Read Services
services_at h bytes at =
    and_then (regulation_at h.map 0 bytes at) (λ up a. and_then (regulation_at h.map 1 bytes a) (λ down b. and_then (quantity_or h.map 2 0 bytes b) (λ spinning c. and_then (quantity_or h.map 3 0 bytes c) (λ non d.
    and_then (quantity_or h.map 4 h.pmax bytes d) (λ limit e. and_then (level_at h.map bytes e) (λ level next. Ok (services_of up down spinning non limit level, next)))))))

-- counted rows where their bit stands, else none
abbrev pub rows_or_none : {A : Type 0} → A → (List ℕ → ℕ → Read A) → (n : ℕ) → ℕ → ℕ → List ℕ → ℕ → Read (Counted A n)
rows_or_none blank parsed n map bit bytes at = cond (stands bit map) (counted_at blank parsed n bytes at) (Ok (packed blank n [], at))

-- pairs where bit 6 stands, rows where bit 7 does
abbrev pub start_up_at : ℕ → List ℕ → ℕ → Read (Counted StartUpLimit 3)
start_up_at map = rows_or_none blank_limit limit_at 3 map 6

abbrev pub ramp_at : ℕ → List ℕ → ℕ → Read (Counted RampLimits 4)
ramp_at map = rows_or_none blank_limits limits_at 4 map 7

-- a card as it stands, with its map
abbrev pub standing_of : Head → Services → Counted StartUpLimit 3 → Counted RampLimits 4 → Standing
standing_of h s p r = record {
  map = h.map;
  numbered = record {
    resource = h.resource;
    card = record {
      owner = h.owner;
      pmin = h.pmin;
      pmax = h.pmax;
      up = s.up;
      down = s.down;
      spinning = s.spinning;
      non_spinning = s.non_spinning;
      regulation_limit = s.regulation_limit;
      level = s.level;
      start_up = p;
      ramp = r;
    };
  };
}

abbrev pub standing_at : List ℕ → ℕ → Read Standing
standing_at bytes at =
    and_then (head_at bytes at) (λ h a. and_then (services_at h bytes a) (λ s b. and_then (start_up_at h.map bytes b) (λ p c. and_then (ramp_at h.map bytes c) (λ r next. Ok (standing_of h s p r, next)))))
