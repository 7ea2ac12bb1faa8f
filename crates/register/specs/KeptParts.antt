-- What a card keeps, part by part, and put together again. Assumes nothing.
use Rattle.std.proofs.Common.{◌≡◌, true, ◌&&◌, leb}
use Rattle.std.proofs.lemmas.Bool.{and_parts, and_from}
use Rattle.wire.specs.Reading.{is_quantity, is_price}
use Rattle.wire.specs.Rows.{entries}
use Rattle.register.specs.declared.data.Card.{Card}
use Rattle.register.specs.Kept.{is_owner, limits_in_order, regulation_kept, reserves_kept, limit_kept, numbers_kept, counts_kept, start_up_kept, ramp_kept, card_kept}

pub record KeptParts (c : Card) : Type 0 where
  pub owner : is_owner c.owner ≡ true
  pub least : leb c.pmin c.pmax ≡ true
  pub most : is_quantity c.pmax ≡ true
  pub up : regulation_kept c.pmax c.up ≡ true
  pub down : regulation_kept c.pmax c.down ≡ true
  pub spinning : leb c.spinning c.pmax ≡ true
  pub non_spinning : leb c.non_spinning c.pmax ≡ true
  pub limit : limit_kept c ≡ true
  pub level : is_price c.level ≡ true
  pub few_pairs : leb c.start_up.count 3 ≡ true
  pub few_rows : leb c.ramp.count 4 ≡ true
  pub pairs : start_up_kept (entries c.start_up) ≡ true
  pub rows : ramp_kept c.pmin c.pmax (entries c.ramp) ≡ true

pub kept_parts : (c : Card) → card_kept c ≡ true → KeptParts c
kept_parts c h =
    let a = and_parts (numbers_kept c && counts_kept c && start_up_kept (entries c.start_up)) (ramp_kept c.pmin c.pmax (entries c.ramp)) h in
    let b = and_parts (numbers_kept c && counts_kept c) (start_up_kept (entries c.start_up)) a.0 in
    let d = and_parts (numbers_kept c) (counts_kept c) b.0 in
    let counts = and_parts (leb c.start_up.count 3) (leb c.ramp.count 4) d.1 in
    let e = and_parts (is_owner c.owner && limits_in_order c && regulation_kept c.pmax c.up && regulation_kept c.pmax c.down && reserves_kept c && limit_kept c) (is_price c.level) d.0 in
    let f = and_parts (is_owner c.owner && limits_in_order c && regulation_kept c.pmax c.up && regulation_kept c.pmax c.down && reserves_kept c) (limit_kept c) e.0 in
    let g = and_parts (is_owner c.owner && limits_in_order c && regulation_kept c.pmax c.up && regulation_kept c.pmax c.down) (reserves_kept c) f.0 in
    let reserves = and_parts (leb c.spinning c.pmax) (leb c.non_spinning c.pmax) g.1 in
    let i = and_parts (is_owner c.owner && limits_in_order c && regulation_kept c.pmax c.up) (regulation_kept c.pmax c.down) g.0 in
    let j = and_parts (is_owner c.owner && limits_in_order c) (regulation_kept c.pmax c.up) i.0 in
    let k = and_parts (is_owner c.owner) (limits_in_order c) j.0 in
    let limits = and_parts (leb c.pmin c.pmax) (is_quantity c.pmax) k.1 in
    record {
      owner = k.0;
      least = limits.0;
      most = limits.1;
      up = j.1;
      down = i.1;
      spinning = reserves.0;
      non_spinning = reserves.1;
      limit = f.1;
      level = e.1;
      few_pairs = counts.0;
      few_rows = counts.1;
      pairs = b.1;
      rows = a.1;
    }

pub parts_kept : (c : Card) → KeptParts c → card_kept c ≡ true
parts_kept c p =
    let limits : limits_in_order c ≡ true = and_from _ _ p.least p.most in
    let reserves : reserves_kept c ≡ true = and_from _ _ p.spinning p.non_spinning in
    let counts : counts_kept c ≡ true = and_from _ _ p.few_pairs p.few_rows in
    let numbers : numbers_kept c ≡ true = and_from _ _ (and_from _ _ (and_from _ _ (and_from _ _ (and_from _ _ (and_from _ _ p.owner limits) p.up) p.down) reserves) p.limit) p.level in
    and_from _ _ (and_from _ _ (and_from _ _ numbers counts) p.pairs) p.rows
