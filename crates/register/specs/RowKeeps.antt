-- A row of cards that is kept means what a register may mean. Assumes nothing.
use Rattle.std.proofs.Common.{◌≡◌, ℕ, true, ◌&&◌, eqb, ltb, List, [], ◌∷◌, Some, None, Option, sym, ◌∙◌, subst, inl, inr, arith}
use Rattle.std.proofs.lemmas.Bool.{cases_Bool, cond-true, cond-false, and_parts, ltb-true, eqb-true}
use Rattle.wire.specs.Rows.{all_held}
use Rattle.register.specs.declared.data.Card.{Card}
use Rattle.register.specs.declared.data.Day.{Day}
use Rattle.register.specs.declared.data.NumberedCard.{NumberedCard}
use Rattle.register.specs.Cards.{tidied}
use Rattle.register.specs.CardRow.{number_of, numbered_kept, row_kept, card_in, row_meaning}
use Rattle.register.specs.Kept.{day_kept, card_kept, rises}
use Rattle.register.specs.Meaning.{Held, Keeps}
use Rattle.register.specs.Tidied.{tidied-tidied, tidied_kept}

pub some_same : {X : Type 0} {x y : X} → ◌≡◌ {A = Option X} (Some x) (Some y) → x ≡ y
some_same e = cc

pub none_some : {X : Type 0} (x : X) → ◌≡◌ {A = Option X} None (Some x) → ⊥
none_some x e = let z : ◌≡◌ {A = ℕ} 0 1 = cc in omega arith

held_in : (xs : List NumberedCard) → all_held numbered_kept xs ≡ true → (n : ℕ) (c : Card) → card_in xs n ≡ Some c → Held n c
held_in [] h n c e = absurd (none_some c e)
held_in (x ∷ xs) h n c e =
    let q = and_parts (numbered_kept x) (all_held numbered_kept xs) h in
    elim (cases_Bool (eqb x.resource n)) [
      | inl same ↦ (
          let is : tidied x.card ≡ c = some_same (sym (cond-true (eqb x.resource n) _ _ same) ∙ e) in
          let k = and_parts (ltb x.resource 65536) (card_kept x.card) q.0 in
          subst (Held n) is (record {
            number = omega (arith, ltb-true x.resource 65536 k.0, eqb-true x.resource n same);
            card = tidied_kept x.card k.1;
            tidy = tidied-tidied x.card;
          }))
      | inr other ↦ held_in xs q.1 n c (sym (cond-false (eqb x.resource n) _ _ other) ∙ e)
    ]

module _ (d : Day) (xs : List NumberedCard) (kept : row_kept d xs ≡ true) where
  parts₁ : (day_kept d && all_held numbered_kept xs ≡ true) × (rises number_of xs ≡ true)
  parts₁ = and_parts (day_kept d && all_held numbered_kept xs) (rises number_of xs) kept

  parts₂ : (day_kept d ≡ true) × (all_held numbered_kept xs ≡ true)
  parts₂ = and_parts (day_kept d) (all_held numbered_kept xs) parts₁.0

  pub row_rises : rises number_of xs ≡ true
  row_rises = parts₁.1

  -- a row that is kept means what a register may mean
  pub row_keeps : Keeps (row_meaning d xs)
  row_keeps = record { day = parts₂.0; cards = held_in xs parts₂.1 }
