-- Cards with zeros past their counts say the same. Assumes nothing.
use Rattle.std.proofs.Common.{◌≡◌, ℕ, ◌-◌, true, leb, List, length, take, replicate, sym, refl, ap, ◌∙◌, arith}
use Rattle.std.proofs.lemmas.List.{take_at, length-take}
use Rattle.std.proofs.lemmas.Bool.{leb-true, le-leb}
use Rattle.wire.specs.Rows.{entries, packed}
use Rattle.register.specs.declared.data.Card.{Card}
use Rattle.register.specs.Cards.{blank_limit, blank_limits, packed_start_up, packed_ramp, with_rows, tidied}
use Rattle.register.specs.Kept.{start_up_kept, ramp_kept, card_kept}
use Rattle.register.specs.KeptParts.{kept_parts, parts_kept}

-- the entries of what was packed are the list
pub entries-packed : {A : Type 0} (blank : A) (n : ℕ) (xs : List A) → entries (packed blank n xs) ≡ xs
entries-packed blank n xs = take_at xs (replicate (n - length xs) blank) (length xs) refl

pub tidied-tidied : (c : Card) → tidied c ≡ tidied (tidied c)
tidied-tidied c = λ j. with_rows c (packed_start_up (sym (entries-packed blank_limit 3 (entries c.start_up)) j)) (packed_ramp (sym (entries-packed blank_limits 4 (entries c.ramp)) j))

fewer : {A : Type 0} (k n : ℕ) (xs : List A) → leb k n ≡ true → leb (length (take k xs)) n ≡ true
fewer k n xs h = le-leb (length (take k xs)) n (omega (arith, length-take k xs, leb-true k n h))

pub tidied_kept : (c : Card) → card_kept c ≡ true → card_kept (tidied c) ≡ true
tidied_kept c h =
    let p = kept_parts c h in
    parts_kept (tidied c) (record {
      owner = p.owner;
      least = p.least;
      most = p.most;
      up = p.up;
      down = p.down;
      spinning = p.spinning;
      non_spinning = p.non_spinning;
      limit = p.limit;
      level = p.level;
      few_pairs = fewer c.start_up.count 3 c.start_up.rows p.few_pairs;
      few_rows = fewer c.ramp.count 4 c.ramp.rows p.few_rows;
      pairs = ap start_up_kept (entries-packed blank_limit 3 (entries c.start_up)) ∙ p.pairs;
      rows = ap (ramp_kept c.pmin c.pmax) (entries-packed blank_limits 4 (entries c.ramp)) ∙ p.rows;
    })
