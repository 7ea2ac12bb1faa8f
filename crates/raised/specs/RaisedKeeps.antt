-- A register with raised levels means what a register may mean. Assumes nothing.
use Rattle.std.proofs.Common.{◌≡◌, ℕ, true, ◌&&◌, eqb, leb, List, [], ◌∷◌, length, ℤ, Some, None, Option, sym, refl, ap, ◌∙◌, subst, inl, inr}
use lib.Signed.{lt_z}
use Rattle.std.proofs.lemmas.Bool.{cases_Bool, cond-true, cond-false, and_parts}
use Rattle.wire.specs.declared.counted.Counted.{Counted}
use Rattle.wire.specs.Reading.{is_price}
use Rattle.wire.specs.Rows.{entries, all_held}
use Rattle.register.specs.declared.data.Card.{Card}
use Rattle.raised.specs.declared.level.RaisedLevel.{RaisedLevel}
use Rattle.register.specs.Kept.{card_kept}
use Rattle.register.specs.KeptParts.{kept_parts, parts_kept}
use Rattle.register.specs.Meaning.{Meaning, Held, Keeps}
use Rattle.register.specs.RowKeeps.{some_same, none_some}
use Rattle.raised.specs.Levels.{has_price, levels_kept, level_of, higher, with_level, raised_card, raised_meaning}

-- the levels of a table are prices
pub priced : (c : Counted RaisedLevel 32) → levels_kept c ≡ true → all_held has_price (entries c) ≡ true
priced c kept = (and_parts (leb c.count 32 && eqb (length c.rows) 32) (all_held has_price (entries c)) kept).1

level_price : (xs : List RaisedLevel) → all_held has_price xs ≡ true → (n : ℕ) (l : ℤ) → level_of xs n ≡ Some l → is_price l ≡ true
level_price [] h n l e = absurd (none_some l e)
level_price (x ∷ xs) h n l e =
    let p = and_parts (has_price x) (all_held has_price xs) h in
    elim (cases_Bool (eqb x.resource n)) [
      | inl s ↦ subst (λ z. is_price z ≡ true) (some_same (sym (cond-true (eqb x.resource n) _ _ s) ∙ e)) p.0
      | inr s ↦ level_price xs p.1 n l (sym (cond-false (eqb x.resource n) _ _ s) ∙ e)
    ]

-- what a card keeps besides its level
pub level_kept : (c : Card) → card_kept c ≡ true → is_price c.level ≡ true
level_kept c h = (kept_parts c h).level

with_level_kept : (c : Card) (l : ℤ) → card_kept c ≡ true → is_price l ≡ true → card_kept (with_level c l) ≡ true
with_level_kept c l h price =
    let p = kept_parts c h in
    parts_kept (with_level c l) (record {
      owner = p.owner;
      least = p.least;
      most = p.most;
      up = p.up;
      down = p.down;
      spinning = p.spinning;
      non_spinning = p.non_spinning;
      limit = p.limit;
      level = price;
      few_pairs = p.few_pairs;
      few_rows = p.few_rows;
      pairs = p.pairs;
      rows = p.rows;
    })

higher_price : (a b : ℤ) → is_price a ≡ true → is_price b ≡ true → is_price (higher a b) ≡ true
higher_price a b p q = elim (cases_Bool (lt_z a b)) [
  | inl h ↦ ap is_price (cond-true (lt_z a b) b a h) ∙ q
  | inr h ↦ ap is_price (cond-false (lt_z a b) b a h) ∙ p
]

raised_held : (n : ℕ) (lv : Option ℤ) (o : Option Card) → ((l : ℤ) → lv ≡ Some l → is_price l ≡ true) → ((c : Card) → o ≡ Some c → Held n c) → (c : Card) → raised_card lv o ≡ Some c → Held n c
raised_held n None o price held c e = held c e
raised_held n (Some l) None price held c e = absurd (none_some c e)
raised_held n (Some l) (Some b) price held c e =
    let h = held b refl in
    let z : ℤ = higher b.level l in
    subst (Held n) (some_same e) (record {
      number = h.number;
      card = with_level_kept b z h.card (higher_price b.level l (level_kept b h.card) (price l refl));
      tidy = ap (λ x. with_level x z) h.tidy;
    })

-- levels that are prices leave a register's meaning kept
pub raised_keeps : (m : Meaning) (xs : List RaisedLevel) → Keeps m → all_held has_price xs ≡ true → Keeps (raised_meaning m xs)
raised_keeps m xs k h = record { day = k.day; cards = λ n c e. raised_held n (level_of xs n) (m.cards n) (level_price xs h n) (k.cards n) c e }
