-- What days and cards keep, part by part, and what follows for the terms of the rules. Assumes nothing.
use Rattle.std.proofs.Common.{◌≡◌, ◌≤◌, true, ◌&&◌, leb, ℤ, pos, ap, ◌∙◌, inl, inr}
use lib.Signed.{le_z, lt_z}
use Rattle.std.proofs.lemmas.Bool.{and_parts, leb-true, cases_Bool, cond-true, cond-false}
use Rattle.std.specs.Int.{int_max, int_min}
use Rattle.wire.specs.Reading.{is_price}
use Rattle.register.specs.declared.data.Card.{Card}
use Rattle.register.specs.declared.data.Day.{Day}
use Rattle.register.specs.Kept.{day_kept, day_prices, caps_in_order, is_day_length, card_kept}
use Rattle.register.specs.KeptParts.{kept_parts}
use Rattle.checks.specs.Terms.{ceiling, extension_price}

pub record DayParts (d : Day) : Type 0 where
  pub floor : is_price d.floor ≡ true
  pub soft : is_price d.soft_cap ≡ true
  pub hard : is_price d.hard_cap ≡ true
  pub service : is_price d.service_cap ≡ true
  pub below : le_z d.floor (pos 0) ≡ true
  pub above : le_z (pos 0) d.soft_cap ≡ true
  pub order : le_z d.soft_cap d.hard_cap ≡ true
  pub services : le_z (pos 0) d.service_cap ≡ true

pub day_parts : (d : Day) → day_kept d ≡ true → DayParts d
day_parts d h =
    let h₁ = and_parts (day_prices d && is_day_length d.hours) (caps_in_order d) h in
    let h₂ = and_parts (day_prices d) (is_day_length d.hours) h₁.0 in
    let p₁ = and_parts (is_price d.floor && is_price d.soft_cap && is_price d.hard_cap) (is_price d.service_cap) h₂.0 in
    let p₂ = and_parts (is_price d.floor && is_price d.soft_cap) (is_price d.hard_cap) p₁.0 in
    let p₃ = and_parts (is_price d.floor) (is_price d.soft_cap) p₂.0 in
    let c₁ = and_parts (le_z d.floor (pos 0) && le_z (pos 0) d.soft_cap && le_z d.soft_cap d.hard_cap) (le_z (pos 0) d.service_cap) h₁.1 in
    let c₂ = and_parts (le_z d.floor (pos 0) && le_z (pos 0) d.soft_cap) (le_z d.soft_cap d.hard_cap) c₁.0 in
    let c₃ = and_parts (le_z d.floor (pos 0)) (le_z (pos 0) d.soft_cap) c₂.0 in
    record { floor = p₃.0; soft = p₃.1; hard = p₂.1; service = p₁.1; below = c₃.0; above = c₃.1; order = c₂.1; services = c₁.1 }

pub record CardParts (c : Card) : Type 0 where
  pub least : c.pmin ≤ c.pmax
  pub most : c.pmax ≤ 10000000
  pub up : c.up.certified ≤ c.pmax
  pub down : c.down.certified ≤ c.pmax
  pub level : is_price c.level ≡ true

pub card_parts : (c : Card) → card_kept c ≡ true → CardParts c
card_parts c h =
    let p = kept_parts c h in
    record {
      least = leb-true c.pmin c.pmax p.least;
      most = leb-true c.pmax 10000000 p.most;
      up = leb-true c.up.certified c.pmax (and_parts (leb c.up.award c.up.certified) (leb c.up.certified c.pmax) p.up).1;
      down = leb-true c.down.certified c.pmax (and_parts (leb c.down.award c.down.certified) (leb c.down.certified c.pmax) p.down).1;
      level = p.level;
    }

-- the smaller and the larger of two prices are prices
pub min_price : (x y : ℤ) → is_price x ≡ true → is_price y ≡ true → is_price (int_min x y) ≡ true
min_price x y h k = elim (cases_Bool (lt_z y x)) [ inl e ↦ ap is_price (cond-true (lt_z y x) y x e) ∙ k | inr e ↦ ap is_price (cond-false (lt_z y x) y x e) ∙ h ]

pub max_price : (x y : ℤ) → is_price x ≡ true → is_price y ≡ true → is_price (int_max x y) ≡ true
max_price x y h k = elim (cases_Bool (lt_z y x)) [ inl e ↦ ap is_price (cond-true (lt_z y x) x y e) ∙ h | inr e ↦ ap is_price (cond-false (lt_z y x) x y e) ∙ k ]

pub ceiling_price : (d : Day) (c : Card) → DayParts d → CardParts c → is_price (ceiling d c) ≡ true
ceiling_price d c D C = max_price d.soft_cap (int_min c.level d.hard_cap) D.soft (min_price c.level d.hard_cap C.level D.hard)

pub extension_price_lem : (d : Day) (c : Card) → DayParts d → CardParts c → is_price (extension_price d c) ≡ true
extension_price_lem d c D C = max_price d.floor (int_min c.level (ceiling d c)) D.floor (min_price c.level (ceiling d c) C.level (ceiling_price d c D C))
