-- Rows of numbered cards: checked one at a time, kept, and looked up by place. Assumes nothing.
use Rattle.std.proofs.Common.{◌≡◌, ℕ, zero, suc, ◌+◌, ◌<◌, ◌≤◌, true, false, eqb, ltb, ltb-true, ltb-false, leb, List, [], ◌∷◌, length, get_or, Some, None, Ok, Err, sym, refl, ap, ◌∙◌, inl, inr, arith}
use Rattle.std.proofs.lemmas.Bool.{cases_Bool, cond-true, cond-false, and_parts, and_from, lt-ltb, leb-true, eq-eqb, ne_eqb, cases_eq, cases_lt}
use Rattle.std.specs.List.Sorted.{IsPartitionedBy, IsPartitionPoint}
use Rattle.std.proofs.lemmas.List.Sorted.{IsPartitionedBy-ltb}
use Rattle.wire.specs.Rows.{all_held}
use Rattle.wire.specs.Steps.{ok_not_err}
use Rattle.register.specs.declared.data.Day.{Day}
use Rattle.register.specs.declared.data.NumberedCard.{NumberedCard}
use Rattle.register.specs.Cards.{tidied, with_rows, blank_card}
use Rattle.register.specs.CardRow.{number_of, numbered_kept, may_stand, row_kept, cards_checked, breach_at, card_in}
use Rattle.register.specs.Kept.{day_kept, rises_from, rises}
use Rattle.register.proofs.Rising.{in_order}

-- what no row holds: only the place where a list ends reads so
abbrev pub no_card : NumberedCard
no_card = record { resource = 0; card = with_rows blank_card (record { count = 0; rows = [] }) (record { count = 0; rows = [] }) }

pub checked_more : (p least : ℕ) (x : NumberedCard) (xs : List NumberedCard) → may_stand least x ≡ true → cards_checked p least (x ∷ xs) ≡ cards_checked (p + 1) (x.resource + 1) xs
checked_more p least x xs h = cond-true (may_stand least x) _ _ h

pub checked_fails : (p least : ℕ) (x : NumberedCard) (xs : List NumberedCard) → may_stand least x ≡ false → cards_checked p least (x ∷ xs) ≡ Err (breach_at p)
checked_fails p least x xs h = cond-false (may_stand least x) _ _ h

-- a card that was passed may stand there, and the rest was passed
pub passed : (p least : ℕ) (x : NumberedCard) (xs : List NumberedCard) → cards_checked p least (x ∷ xs) ≡ Ok tt → (may_stand least x ≡ true) × (cards_checked (p + 1) (x.resource + 1) xs ≡ Ok tt)
passed p least x xs h = elim (cases_Bool (may_stand least x)) [
  | inl m ↦ (m, sym (checked_more p least x xs m) ∙ h)
  | inr m ↦ absurd (ok_not_err tt (breach_at p) (sym h ∙ checked_fails p least x xs m))
]

pub checked_rises : (p b : ℕ) (xs : List NumberedCard) → cards_checked p (b + 1) xs ≡ Ok tt → (all_held numbered_kept xs ≡ true) × (rises_from number_of b xs ≡ true)
checked_rises p b [] h = (refl, refl)
checked_rises p b (x ∷ xs) h =
    let m = passed p (b + 1) x xs h in
    let q = and_parts (leb (b + 1) x.resource) (numbered_kept x) m.0 in
    let ih = checked_rises (p + 1) x.resource xs m.1 in
    (and_from _ _ q.1 ih.0, and_from _ _ (lt-ltb b x.resource (omega (arith, leb-true (b + 1) x.resource q.0))) ih.1)

pub checked_kept : (p : ℕ) (xs : List NumberedCard) → cards_checked p 0 xs ≡ Ok tt → (all_held numbered_kept xs ≡ true) × (rises number_of xs ≡ true)
checked_kept p [] h = (refl, refl)
checked_kept p (x ∷ xs) h =
    let m = passed p 0 x xs h in
    let q = and_parts (leb 0 x.resource) (numbered_kept x) m.0 in
    let ih = checked_rises (p + 1) x.resource xs m.1 in
    (and_from _ _ q.1 ih.0, ih.1)

-- what was checked is kept
pub row_kept_lem : (d : Day) (xs : List NumberedCard) → day_kept d ≡ true → cards_checked 1 0 xs ≡ Ok tt → row_kept d xs ≡ true
row_kept_lem d xs h k = let q = checked_kept 1 xs k in and_from _ _ (and_from _ _ h q.0) q.1

-- no place has the number
pub none_in : (e : NumberedCard) (xs : List NumberedCard) (n : ℕ) → ((j : ℕ) → j < length xs → number_of (get_or xs j e) ≡ n → ⊥) → card_in xs n ≡ None
none_in e [] n h = refl
none_in e (x ∷ xs) n h =
    cond-false (eqb x.resource n) _ _ (ne_eqb x.resource n (h 0 (omega arith))) ∙ none_in e xs n (λ j l. h (suc j) (omega arith))

-- one place has the number, and none before it
pub found_in : (e : NumberedCard) (xs : List NumberedCard) (n k : ℕ) → k < length xs → number_of (get_or xs k e) ≡ n → ((j : ℕ) → j < k → number_of (get_or xs j e) ≡ n → ⊥) → card_in xs n ≡ Some (tidied (get_or xs k e).card)
found_in e [] n k l is h = absurd (omega arith)
found_in e (x ∷ xs) n zero l is h = cond-true (eqb x.resource n) _ _ (eq-eqb x.resource n is)
found_in e (x ∷ xs) n (suc k) l is h =
    cond-false (eqb x.resource n) _ _ (ne_eqb x.resource n (h 0 (omega arith))) ∙ found_in e xs n k (omega arith) is (λ j m. h (suc j) (omega arith))

-- a search for a number ends behind those that are lower
abbrev pub Lower : List NumberedCard → ℕ → ℕ → Type 0
Lower xs n place = IsPartitionPoint (λ x. ltb (number_of x) n ≡ true) (λ x. ltb (number_of x) n ≡ false) xs place

pub lower_numbers : (xs : List NumberedCard) → rises number_of xs ≡ true → (n : ℕ) → IsPartitionedBy (λ x. ltb (number_of x) n) xs
lower_numbers xs up n = IsPartitionedBy-ltb number_of xs n (λ i j d le within. elim (cases_lt i j) [
  | inl lt ↦ omega (arith, in_order number_of d xs up i j lt within)
  | inr not ↦ (let same : i ≡ j = omega arith in omega (arith, ap (λ k. number_of (get_or xs k d)) same))
])

-- what stands there has the number, or another one, or nothing stands there
module _ (xs : List NumberedCard) (up : rises number_of xs ≡ true) (n place : ℕ) (at : Lower xs n place) where
  below : (j : ℕ) → j < place → number_of (get_or xs j no_card) ≡ n → ⊥
  below j lt is = omega (arith, ltb-true (number_of (get_or xs j no_card)) n (at.0 j no_card (omega arith) lt))

  pub is_found : (x : NumberedCard) → place < length xs → x ≡ get_or xs place no_card → number_of x ≡ n → card_in xs n ≡ Some (tidied x.card)
  is_found x inside here is = found_in no_card xs n place inside (sym (ap number_of here) ∙ is) below ∙ ap (λ y. Some (tidied y.card)) (sym here)

  pub not_found : (x : NumberedCard) → place < length xs → x ≡ get_or xs place no_card → (number_of x ≡ n → ⊥) → card_in xs n ≡ None
  not_found x inside here other = none_in no_card xs n (λ j l is. elim (cases_lt j place) [
    | inl before ↦ below j before is
    | inr from ↦ elim (cases_eq place j) [
      | inl same ↦ other (ap number_of here ∙ ap (λ i. number_of (get_or xs i no_card)) same ∙ is)
      | inr differ ↦ (
          let lt : place < j = omega arith in
          omega (arith, in_order number_of no_card xs up place j lt l, ltb-false (number_of (get_or xs place no_card)) n (at.1 place no_card (omega arith) inside)))
    ]
  ])

  pub past_end : length xs ≤ place → card_in xs n ≡ None
  past_end end = none_in no_card xs n (λ j l is. below j (omega arith) is)
