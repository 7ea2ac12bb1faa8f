-- The bytes that a register file is written in, field by field. Assumes nothing.
use Rattle.std.specs.Prelude.{◌≡◌, ℕ, ◌<◌, false, cond, List, [], ◌++◌, length, pos, nat_lt}
use Rattle.std.specs.List.{flat_map}
use Rattle.wire.specs.Bytes.{byte_bytes, word_bytes, long_bytes, signed_bytes}
use Rattle.wire.specs.Maps.{stands}
use Rattle.wire.specs.Rows.{counted_bytes}
use Rattle.register.specs.declared.data.Card.{Card}
use Rattle.register.specs.declared.data.Day.{Day}
use Rattle.register.specs.declared.data.RampLimits.{RampLimits}
use Rattle.register.specs.declared.data.Regulation.{Regulation}
use Rattle.register.specs.declared.data.StartUpLimit.{StartUpLimit}
use Rattle.register_file.specs.declared.standing.Standing.{Standing}
use Rattle.register.specs.Cards.{regulation, tidied}

abbrev pub pair_bytes : StartUpLimit → List ℕ
pair_bytes p = word_bytes p.down_time ++ long_bytes p.highest

abbrev pub row_bytes : RampLimits → List ℕ
row_bytes r = long_bytes r.level ++ (long_bytes r.lowest ++ long_bytes r.highest)

abbrev pub regulation_bytes : Regulation → List ℕ
regulation_bytes r = long_bytes r.certified ++ long_bytes r.award

-- bytes that are written where a bit stands in the map
abbrev pub under : ℕ → ℕ → List ℕ → List ℕ
under bit map bs = cond (stands bit map) bs []

-- number, owner, map, PMin, PMax; then the fields whose bit stands, lowest bit first
abbrev pub card_bytes : ℕ → ℕ → Card → List ℕ
card_bytes number map c =
    word_bytes number ++ (byte_bytes c.owner ++ (word_bytes map ++ (long_bytes c.pmin ++ (long_bytes c.pmax
    ++ (under 0 map (regulation_bytes c.up) ++ (under 1 map (regulation_bytes c.down)
    ++ (under 2 map (long_bytes c.spinning) ++ (under 3 map (long_bytes c.non_spinning) ++ (under 4 map (long_bytes c.regulation_limit) ++ (under 5 map (signed_bytes c.level)
    ++ (under 6 map (counted_bytes pair_bytes c.start_up) ++ under 7 map (counted_bytes row_bytes c.ramp))))))))))))

abbrev pub standing_bytes : Standing → List ℕ
standing_bytes x = card_bytes x.numbered.resource x.map x.numbered.card

-- hours, floor, soft cap, hard cap, service cap
abbrev pub day_bytes : Day → List ℕ
day_bytes d = byte_bytes d.hours ++ (signed_bytes d.floor ++ (signed_bytes d.soft_cap ++ (signed_bytes d.hard_cap ++ signed_bytes d.service_cap)))

-- the day, the number of cards, and the cards
abbrev pub file_bytes : Day → List Standing → List ℕ
file_bytes d xs = day_bytes d ++ (word_bytes (length xs) ++ flat_map standing_bytes xs)

-- a map that a card may be written with: bits 0 to 5 may be left out where everything under them has its default, bits 6 and 7 stand exactly where there are pairs and rows
pub record MapFits (map : ℕ) (c : Card) : Type 0 where
  pub known : map < 256
  pub up : stands 0 map ≡ false → c.up ≡ regulation 0 0
  pub down : stands 1 map ≡ false → c.down ≡ regulation 0 0
  pub spinning : stands 2 map ≡ false → c.spinning ≡ 0
  pub non_spinning : stands 3 map ≡ false → c.non_spinning ≡ 0
  pub limit : stands 4 map ≡ false → c.regulation_limit ≡ c.pmax
  pub level : stands 5 map ≡ false → c.level ≡ pos 0
  pub pairs : stands 6 map ≡ nat_lt 0 c.start_up.count
  pub rows : stands 7 map ≡ nat_lt 0 c.ramp.count

-- a card as it may be written: with a map that fits, and zeros past its counts
pub record Writable (x : Standing) : Type 0 where
  pub map : MapFits x.map x.numbered.card
  pub tidy : x.numbered.card ≡ tidied x.numbered.card
