-- Raised levels as a list: where one stands, and what is held after one is put in. Assumes nothing.
use Rattle.std.proofs.Common.{◌≡◌, ℕ, suc, ◌+◌, ◌<◌, ◌≤◌, Bool, true, false, cond, ◌&&◌, eqb, ltb, leb, ◌⊎◌, List, [], ◌∷◌, ◌++◌, length, get_or, take, set, ℤ, pos, is_some, Some, None, Option, Bor, sym, refl, ap, ◌∙◌, subst, inl, inr, arith}
use lib.Seq.{take-set-lt}
use Rattle.std.proofs.lemmas.List.{length-take-le, get_or-take, take_more_set, length-set}
use Rattle.std.proofs.lemmas.Bool.{cases_Bool, cond-true, cond-false, and_parts, and_from, eqb-true, ltb-true, ltb-false, eq-eqb, ne_eqb, both_ways, leb-true, cases_lt, lt-ltb, le-ltb, or_left, or_right, or_from, le-leb}
use Rattle.std.specs.List.{position_or_len, find}
use Rattle.std.specs.Option.{option_map, IsSomeAnd, MatchOption}
use Rattle.register.specs.RowKeeps.{some_same, none_some}
use Rattle.std.proofs.lemmas.List.Recursion.{is_position_or_len}
use Rattle.wire.specs.Reading.{is_price}
use Rattle.wire.specs.declared.counted.Counted.{Counted}
use Rattle.wire.specs.Rows.{entries, all_held}
use Rattle.raised.specs.declared.level.RaisedLevel.{RaisedLevel}
use Rattle.raised.specs.Levels.{raised_level, has_price, levels_kept, level_of, put_level, has_place}
use Rattle.raised.specs.RaisedKeeps.{priced}
use Rattle.raised.specs.Tables.{place_in, place_of}

-- what no place holds
abbrev pub no_level : RaisedLevel
no_level = raised_level 0 (pos 0)

module _ (c : Counted RaisedLevel 32) (kept : levels_kept c ≡ true) where
  parts₁ : (leb c.count 32 && eqb (length c.rows) 32 ≡ true) × (all_held has_price (entries c) ≡ true)
  parts₁ = and_parts (leb c.count 32 && eqb (length c.rows) 32) (all_held has_price (entries c)) kept

  parts₂ : (leb c.count 32 ≡ true) × (eqb (length c.rows) 32 ≡ true)
  parts₂ = and_parts (leb c.count 32) (eqb (length c.rows) 32) parts₁.0

  pub few : c.count ≤ 32
  few = leb-true c.count 32 parts₂.0

  pub rows_long : length c.rows ≡ 32
  rows_long = eqb-true (length c.rows) 32 parts₂.1

  pub levels_long : length (entries c) ≡ c.count
  levels_long = length-take-le c.count c.rows (omega (arith, few, rows_long))

-- the place is where a search by the number ends
pub place_is : (n : ℕ) (xs : List RaisedLevel) → cond (ltb (position_or_len (λ x. eqb x.resource n) xs) (length xs)) (Some (position_or_len (λ x. eqb x.resource n) xs)) None ≡ place_of n xs
place_is n xs = ap (λ k. cond (ltb k (length xs)) (Some k) None) (sym (is_position_or_len (place_in n) (λ x. eqb x.resource n) refl (λ x ys. ap (cond (eqb x.resource n) 0) (omega arith)) xs))

pub place_within : (n : ℕ) (xs : List RaisedLevel) → place_in n xs ≤ length xs
place_within n [] = omega arith
place_within n (x ∷ xs) = elim (cases_Bool (eqb x.resource n)) [
  | inl h ↦ subst (λ k. k ≤ suc (length xs)) (sym (cond-true (eqb x.resource n) _ _ h)) (omega arith)
  | inr h ↦ subst (λ k. k ≤ suc (length xs)) (sym (cond-false (eqb x.resource n) _ _ h)) (omega (arith, place_within n xs))
]

-- the place of a resource's level is a place of the list, or there is none
pub place_some : (n : ℕ) (xs : List RaisedLevel) (at : ℕ) → Some at ≡ place_of n xs → (at ≡ place_in n xs) × (place_in n xs < length xs)
place_some n xs at e = elim (cases_Bool (ltb (place_in n xs) (length xs))) [
  | inl h ↦ (some_same (e ∙ cond-true (ltb (place_in n xs) (length xs)) _ _ h), ltb-true (place_in n xs) (length xs) h)
  | inr h ↦ absurd (none_some at (sym (e ∙ cond-false (ltb (place_in n xs) (length xs)) _ _ h)))
]

pub place_none : (n : ℕ) (xs : List RaisedLevel) → None ≡ place_of n xs → place_in n xs ≡ length xs
place_none n xs e = elim (cases_Bool (ltb (place_in n xs) (length xs))) [
  | inl h ↦ absurd (none_some (place_in n xs) (e ∙ cond-true (ltb (place_in n xs) (length xs)) _ _ h))
  | inr h ↦ omega (arith, place_within n xs, ltb-false (place_in n xs) (length xs) h)
]

place_has : (n : ℕ) (xs : List RaisedLevel) (d : RaisedLevel) → place_in n xs < length xs → (get_or xs (place_in n xs) d).resource ≡ n
place_has n [] d l = absurd (omega arith)
place_has n (x ∷ xs) d l = elim (cases_Bool (eqb x.resource n)) [
  | inl h ↦ ap (λ k. (get_or (x ∷ xs) k d).resource) (cond-true (eqb x.resource n) _ _ h) ∙ eqb-true x.resource n h
  | inr h ↦ (
      let e : place_in n (x ∷ xs) ≡ suc (place_in n xs) = cond-false (eqb x.resource n) _ _ h in
      let m : place_in n xs < length xs = omega arith in
      ap (λ k. (get_or (x ∷ xs) k d).resource) e ∙ place_has n xs d m)
]

-- what a search by the number finds
level_found : (n : ℕ) (xs : List RaisedLevel) → option_map (λ x. x.level) (find (λ x. eqb x.resource n) xs) ≡ level_of xs n
level_found n [] = refl
level_found n (x ∷ xs) = elim (cases_Bool (eqb x.resource n)) [
  | inl h ↦ ap (option_map (λ y. y.level)) (cond-true (eqb x.resource n) _ _ h) ∙ sym (cond-true (eqb x.resource n) _ _ h)
  | inr h ↦ ap (option_map (λ y. y.level)) (cond-false (eqb x.resource n) _ _ h) ∙ level_found n xs ∙ sym (cond-false (eqb x.resource n) _ _ h)
]

pub found_level : (n : ℕ) (xs : List RaisedLevel) (o : Option (Bor RaisedLevel)) (r : Option ℤ) {P : Bor RaisedLevel → ℤ → Type 0} → option_map (λ x. x.now) o ≡ find (λ x. eqb x.resource n) xs
    → MatchOption o (r ≡ None) (λ x. IsSomeAnd r (P x)) → ((x : Bor RaisedLevel) (l : ℤ) → P x l → l ≡ x.now.level) → r ≡ level_of xs n
found_level n xs None r e m k = m ∙ ap (option_map (λ y. y.level)) e ∙ level_found n xs
found_level n xs (Some x) None e m k = absurd m
found_level n xs (Some x) (Some l) e m k = ap Some (k x l m) ∙ ap (option_map (λ y. y.level)) e ∙ level_found n xs

-- the level at its place is the one that is held
pub level_at_lem : (n : ℕ) (xs : List RaisedLevel) (d : RaisedLevel) → place_in n xs < length xs → level_of xs n ≡ Some (get_or xs (place_in n xs) d).level
level_at_lem n [] d l = absurd (omega arith)
level_at_lem n (x ∷ xs) d l = elim (cases_Bool (eqb x.resource n)) [
  | inl h ↦ cond-true (eqb x.resource n) _ _ h ∙ ap (λ k. Some (get_or (x ∷ xs) k d).level) (sym (cond-true (eqb x.resource n) _ _ h))
  | inr h ↦ (
      let e : place_in n (x ∷ xs) ≡ suc (place_in n xs) = cond-false (eqb x.resource n) _ _ h in
      let m : place_in n xs < length xs = omega arith in
      cond-false (eqb x.resource n) _ _ h ∙ level_at_lem n xs d m ∙ ap (λ k. Some (get_or (x ∷ xs) k d).level) (sym e))
]

pub level_none : (n : ℕ) (xs : List RaisedLevel) → place_in n xs ≡ length xs → level_of xs n ≡ None
level_none n [] e = refl
level_none n (x ∷ xs) e = elim (cases_Bool (eqb x.resource n)) [
  | inl h ↦ absurd (omega (arith, cond-true (eqb x.resource n) 0 (suc (place_in n xs)) h))
  | inr h ↦ (
      let m : place_in n xs ≡ length xs = omega (arith, cond-false (eqb x.resource n) 0 (suc (place_in n xs)) h) in
      cond-false (eqb x.resource n) _ _ h ∙ level_none n xs m)
]

pub put_inside : (n : ℕ) (l : ℤ) (xs : List RaisedLevel) → place_in n xs < length xs → put_level n l xs ≡ set xs (place_in n xs) (raised_level n l)
put_inside n l [] m = absurd (omega arith)
put_inside n l (x ∷ xs) m = elim (cases_Bool (eqb x.resource n)) [
  | inl h ↦ cond-true (eqb x.resource n) _ _ h ∙ ap (λ k. set (x ∷ xs) k (raised_level n l)) (sym (cond-true (eqb x.resource n) _ _ h))
  | inr h ↦ (
      let e : place_in n (x ∷ xs) ≡ suc (place_in n xs) = cond-false (eqb x.resource n) _ _ h in
      let k : place_in n xs < length xs = omega arith in
      cond-false (eqb x.resource n) _ _ h ∙ ap (λ t. x ∷ t) (put_inside n l xs k) ∙ ap (λ k. set (x ∷ xs) k (raised_level n l)) (sym e))
]

pub put_behind : (n : ℕ) (l : ℤ) (xs : List RaisedLevel) → place_in n xs ≡ length xs → put_level n l xs ≡ xs ++ raised_level n l ∷ []
put_behind n l [] m = refl
put_behind n l (x ∷ xs) m = elim (cases_Bool (eqb x.resource n)) [
  | inl h ↦ absurd (omega (arith, cond-true (eqb x.resource n) 0 (suc (place_in n xs)) h))
  | inr h ↦ (
      let k : place_in n xs ≡ length xs = omega (arith, cond-false (eqb x.resource n) 0 (suc (place_in n xs)) h) in
      cond-false (eqb x.resource n) _ _ h ∙ ap (λ t. x ∷ t) (put_behind n l xs k))
]

-- every level that is held after one was put in passes a test that those before and the new one pass
pub put_passes : (test : RaisedLevel → Bool) (n : ℕ) (l : ℤ) (xs : List RaisedLevel) → test (raised_level n l) ≡ true → all_held test xs ≡ true → all_held test (put_level n l xs) ≡ true
put_passes test n l [] t h = and_from _ _ t refl
put_passes test n l (x ∷ xs) t h =
    let p = and_parts (test x) (all_held test xs) h in
    elim (cases_Bool (eqb x.resource n)) [
      | inl e ↦ ap (all_held test) (cond-true (eqb x.resource n) _ _ e) ∙ and_from _ _ t p.1
      | inr e ↦ ap (all_held test) (cond-false (eqb x.resource n) _ _ e) ∙ and_from _ _ p.0 (put_passes test n l xs t p.1)
    ]

-- the level of a resource after one was put in
pub level_put : (k : ℕ) (l : ℤ) (xs : List RaisedLevel) (n : ℕ) → level_of (put_level k l xs) n ≡ cond (eqb k n) (Some l) (level_of xs n)
level_put k l [] n = refl
level_put k l (x ∷ xs) n = elim (cases_Bool (eqb x.resource k)) [
  | inl e ↦ (
      let same : x.resource ≡ k = eqb-true x.resource k e in
      ap (λ t. level_of t n) (cond-true (eqb x.resource k) _ _ e) ∙ elim (cases_Bool (eqb k n)) [
        | inl f ↦ cond-true (eqb k n) _ _ f ∙ sym (cond-true (eqb k n) _ _ f)
        | inr f ↦ cond-false (eqb k n) _ _ f ∙ sym (cond-false (eqb x.resource n) _ _ (ap (λ i. eqb i n) same ∙ f)) ∙ sym (cond-false (eqb k n) _ _ f)
      ])
  | inr e ↦ (
      ap (λ t. level_of t n) (cond-false (eqb x.resource k) _ _ e) ∙ elim (cases_Bool (eqb x.resource n)) [
        | inl f ↦ (
            let apart : eqb k n ≡ false = ne_eqb k n (λ same. both_ways (eqb x.resource k) e (eq-eqb x.resource k (eqb-true x.resource n f ∙ sym same))) in
            cond-true (eqb x.resource n) _ _ f ∙ sym (cond-true (eqb x.resource n) _ _ f) ∙ sym (cond-false (eqb k n) _ _ apart))
        | inr f ↦ cond-false (eqb x.resource n) _ _ f ∙ level_put k l xs n ∙ ap (λ o. cond (eqb k n) (Some l) o) (sym (cond-false (eqb x.resource n) _ _ f))
      ])
]

-- a place is left exactly where the 32nd is not the first that is
pub has_place_lem : (xs : List RaisedLevel) (n : ℕ) → place_in n xs < 32 → has_place xs n ≡ true
has_place_lem xs n lt = elim (cases_lt (place_in n xs) (length xs)) [
  | inl inside ↦ or_left (is_some (level_of xs n)) (ltb (length xs) 32) (ap is_some (level_at_lem n xs no_level inside))
  | inr past ↦ or_right (is_some (level_of xs n)) (ltb (length xs) 32) (lt-ltb (length xs) 32 (omega arith))
]

pub no_place : (xs : List RaisedLevel) (n : ℕ) → length xs ≤ 32 → place_in n xs ≡ 32 → has_place xs n ≡ false
no_place xs n most is =
    let end : place_in n xs ≡ length xs = omega (arith, place_within n xs) in
    or_from (is_some (level_of xs n)) (ltb (length xs) 32) (ap is_some (level_none n xs end)) (le-ltb (length xs) 32 (omega arith))

module _ (rows : List RaisedLevel) (count n : ℕ) (l : ℤ) (within : count ≤ length rows) where
  size : length (take count rows) ≡ count
  size = length-take-le count rows within

  -- written behind the levels that count, or in the place of one of them
  pub table_more : (at : ℕ) → at ≡ place_in n (take count rows) → at ≡ count → at < length rows → take (count + 1) (set rows at (raised_level n l)) ≡ put_level n l (take count rows)
  table_more at is end inside =
      let e : place_in n (take count rows) ≡ length (take count rows) = sym is ∙ end ∙ sym size in
      ap (λ k. take (k + 1) (set rows at (raised_level n l))) (sym end) ∙ take_more_set rows at (raised_level n l) inside
      ∙ ap (λ k. take k rows ++ raised_level n l ∷ []) end ∙ sym (put_behind n l (take count rows) e)

  pub table_same : (at : ℕ) → at ≡ place_in n (take count rows) → at < count → take count (set rows at (raised_level n l)) ≡ put_level n l (take count rows)
  table_same at is lt =
      let e : place_in n (take count rows) < length (take count rows) = omega (arith, is, size) in
      take-set-lt count rows at (raised_level n l) lt ∙ ap (λ k. set (take count rows) k (raised_level n l)) is ∙ sym (put_inside n l (take count rows) e)

-- a table with another level in one's place, or with one more behind the others
abbrev pub replaced : Counted RaisedLevel 32 → ℕ → ℤ → Counted RaisedLevel 32
replaced t at l = record { count = t.count; rows = set t.rows at (raised_level (get_or t.rows at no_level).resource l) }

abbrev pub added : Counted RaisedLevel 32 → ℕ → ℤ → Counted RaisedLevel 32
added t n l = record { count = t.count + 1; rows = set t.rows t.count (raised_level n l) }

-- how a level is put into a table
abbrev pub Put : Counted RaisedLevel 32 → ℕ → ℤ → Counted RaisedLevel 32 → Type 0
Put t n l u = ((at : ℕ) × (Some at ≡ place_of n (entries t)) × (u ≡ replaced t at l)) ⊎ ((None ≡ place_of n (entries t)) × (t.count ≡ 32 → ⊥) × (u ≡ added t n l))

module _ (t : Counted RaisedLevel 32) (kept : levels_kept t ≡ true) (n : ℕ) where
  within : t.count ≤ length t.rows
  within = omega (arith, few t kept, rows_long t kept)

  pub table_full : None ≡ place_of n (entries t) → t.count ≡ 32 → has_place (entries t) n ≡ false
  table_full none full = no_place (entries t) n (omega (arith, levels_long t kept)) (omega (arith, place_none n (entries t) none, levels_long t kept))

  module _ (l m : ℤ) (same : m ≡ l) (u : Counted RaisedLevel 32) (put : Put t n m u) where
    pub table_has_place : has_place (entries t) n ≡ true
    table_has_place = has_place_lem (entries t) n (elim put [
      | inl w ↦ omega (arith, (place_some n (entries t) w.0 w.1).1, levels_long t kept, few t kept)
      | inr w ↦ (let end : t.count ≡ 32 → ⊥ = w.1 in omega (arith, place_none n (entries t) w.0, levels_long t kept, few t kept))
    ])

    -- the levels of the new table are the old ones with the level put in
    pub table_levels : entries u ≡ put_level n l (entries t)
    table_levels = elim put [
      | inl w ↦ (
          let p = place_some n (entries t) w.0 w.1 in
          let lt : w.0 < t.count = omega (arith, p.0, p.1, levels_long t kept) in
          let has : (get_or t.rows w.0 no_level).resource ≡ n =
          ap (λ x. x.resource) (sym (get_or-take t.count t.rows w.0 no_level lt)) ∙ ap (λ k. (get_or (entries t) k no_level).resource) p.0 ∙ place_has n (entries t) no_level p.1 in
          ap entries w.2 ∙ (λ j. take t.count (set t.rows w.0 (raised_level (has j) (same j)))) ∙ table_same t.rows t.count n l within w.0 p.0 lt)
      | inr w ↦ (
          let is : t.count ≡ place_in n (entries t) = omega (arith, place_none n (entries t) w.0, levels_long t kept) in
          let end : t.count ≡ 32 → ⊥ = w.1 in
          ap entries w.2 ∙ ap (λ z. entries (added t n z)) same ∙ table_more t.rows t.count n l within t.count is refl (omega (arith, few t kept, rows_long t kept)))
    ]

    pub table_kept : is_price l ≡ true → levels_kept u ≡ true
    table_kept price =
        let counts : u.count ≤ 32 = elim put [
          | inl w ↦ omega (arith, ap (λ v. v.count) w.2, few t kept)
          | inr w ↦ (let end : t.count ≡ 32 → ⊥ = w.1 in omega (arith, ap (λ v. v.count) w.2, few t kept))
        ] in
        let long : length u.rows ≡ 32 = elim put [
          | inl w ↦ ap (λ v. length v.rows) w.2 ∙ length-set t.rows w.0 _ ∙ rows_long t kept
          | inr w ↦ ap (λ v. length v.rows) w.2 ∙ length-set t.rows t.count _ ∙ rows_long t kept
        ] in
        and_from _ _ (and_from _ _ (le-leb u.count 32 counts) (eq-eqb (length u.rows) 32 long))
        (ap (all_held has_price) table_levels ∙ put_passes has_price n l (entries t) price (priced t kept))
