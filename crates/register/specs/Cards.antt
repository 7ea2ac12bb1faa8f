-- Cards as lists of entries, and cards with nothing past their counts. Assumes nothing.
use Rattle.std.specs.Prelude.{ℕ, List, [], ℤ, pos}
use Rattle.wire.specs.declared.counted.Counted.{Counted}
use Rattle.wire.specs.Rows.{entries, packed}
use Rattle.register.specs.declared.data.Card.{Card}
use Rattle.register.specs.declared.data.RampLimits.{RampLimits}
use Rattle.register.specs.declared.data.Regulation.{Regulation}
use Rattle.register.specs.declared.data.StartUpLimit.{StartUpLimit}

abbrev pub regulation : ℕ → ℕ → Regulation
regulation c a = record { certified = c; award = a }

abbrev pub start_up_limit : ℕ → ℕ → StartUpLimit
start_up_limit d h = record { down_time = d; highest = h }

abbrev pub ramp_limits : ℕ → ℕ → ℕ → RampLimits
ramp_limits v l h = record { level = v; lowest = l; highest = h }

abbrev pub blank_limit : StartUpLimit
blank_limit = start_up_limit 0 0

abbrev pub blank_limits : RampLimits
blank_limits = ramp_limits 0 0 0

-- a card's start-up pairs and ramp rows, packed: zeros stand behind them
abbrev pub packed_start_up : List StartUpLimit → Counted StartUpLimit 3
packed_start_up = packed blank_limit 3

abbrev pub packed_ramp : List RampLimits → Counted RampLimits 4
packed_ramp = packed blank_limits 4

-- a card with other start-up pairs and ramp rows
abbrev pub with_rows : Card → Counted StartUpLimit 3 → Counted RampLimits 4 → Card
with_rows c s r = record {
  owner = c.owner;
  pmin = c.pmin;
  pmax = c.pmax;
  up = c.up;
  down = c.down;
  spinning = c.spinning;
  non_spinning = c.non_spinning;
  regulation_limit = c.regulation_limit;
  level = c.level;
  start_up = s;
  ramp = r;
}

-- the card that says the same and has zeros past its counts
abbrev pub tidied : Card → Card
tidied c = with_rows c (packed_start_up (entries c.start_up)) (packed_ramp (entries c.ramp))

-- all zeros, no pairs and no rows
abbrev pub blank_card : Card
blank_card = record {
  owner = 0;
  pmin = 0;
  pmax = 0;
  up = regulation 0 0;
  down = regulation 0 0;
  spinning = 0;
  non_spinning = 0;
  regulation_limit = 0;
  level = pos 0;
  start_up = packed_start_up [];
  ramp = packed_ramp [];
}

-- a card with another owner, PMin and PMax
abbrev pub with_unit : Card → ℕ → ℕ → ℕ → Card
with_unit c o low high = record {
  owner = o;
  pmin = low;
  pmax = high;
  up = c.up;
  down = c.down;
  spinning = c.spinning;
  non_spinning = c.non_spinning;
  regulation_limit = c.regulation_limit;
  level = c.level;
  start_up = c.start_up;
  ramp = c.ramp;
}

-- a card with other certified quantities and awards
abbrev pub with_services : Card → Regulation → Regulation → ℕ → ℕ → Card
with_services c u w s n = record {
  owner = c.owner;
  pmin = c.pmin;
  pmax = c.pmax;
  up = u;
  down = w;
  spinning = s;
  non_spinning = n;
  regulation_limit = c.regulation_limit;
  level = c.level;
  start_up = c.start_up;
  ramp = c.ramp;
}

-- a card with another regulation limit and level
abbrev pub with_limit : Card → ℕ → ℤ → Card
with_limit c l z = record {
  owner = c.owner;
  pmin = c.pmin;
  pmax = c.pmax;
  up = c.up;
  down = c.down;
  spinning = c.spinning;
  non_spinning = c.non_spinning;
  regulation_limit = l;
  level = z;
  start_up = c.start_up;
  ramp = c.ramp;
}
