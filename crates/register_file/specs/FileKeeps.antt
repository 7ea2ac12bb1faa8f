-- What stands in a file that is accepted keeps what registers keep. Assumes nothing.
use Rattle.std.proofs.Common.{◌≡◌, ℕ, zero, suc, ◌+◌, true, false, cond, leb, List, [], ◌∷◌, length, is_ok, Ok, Err, Result, sym, refl, ap, ◌∙◌, subst, inl, inr}
use Rattle.std.proofs.lemmas.Bool.{cases_Bool, cond-true, cond-false, both_ways}
use Rattle.faults.specs.declared.Fault.{Fault}
use Rattle.wire.specs.Reading.{Read, and_then, word_at}
use Rattle.wire.specs.Steps.{ok_not_err, ok_same, then_read}
use Rattle.register.specs.declared.data.Day.{Day}
use Rattle.register_file.specs.declared.standing.Standing.{Standing}
use Rattle.register.specs.CardRow.{may_stand, breach_at, cards_checked, row_kept}
use Rattle.register.specs.Kept.{day_kept}
use Rattle.register.specs.Meaning.{Keeps}
use Rattle.register.specs.RowKeeps.{row_keeps}
use Rattle.register.proofs.CardRows.{row_kept_lem}
use Rattle.register_file.specs.Fields.{day_at, standing_at}
use Rattle.register_file.specs.File.{Contents, before, cards_at, ending_at, file_at, cards_of, contents_meaning, file_meaning}

-- a card, and then so many more
unfoldable pub card_then : ℕ → ℕ → ℕ → List ℕ → Standing → ℕ → Read (List Standing)
card_then k place least bytes x next = cond (may_stand least x.numbered) (and_then (cards_at k (place + 1) (x.numbered.resource + 1) bytes next) (before x)) (Err (breach_at place))

-- what follows the day, and what follows the number of cards
unfoldable pub after_count : List ℕ → Day → ℕ → ℕ → Result Contents Fault
after_count bytes d count at = and_then (cards_at count 1 0 bytes at) (ending_at bytes d)

unfoldable pub after_day : List ℕ → Day → ℕ → Result Contents Fault
after_day bytes d at = cond (day_kept d) (and_then (word_at bytes at) (after_count bytes d)) (Err (breach_at 0))

-- a card that was read, and what was read behind it
pub card_read : (k place least : ℕ) (bytes : List ℕ) (at : ℕ) (ys : List Standing) (end : ℕ) → cards_at (suc k) place least bytes at ≡ Ok (ys, end)
    → (x : Standing) × (next : ℕ) × (xs : List Standing) × (standing_at bytes at ≡ Ok (x, next)) × (may_stand least x.numbered ≡ true) × (cards_at k (place + 1) (x.numbered.resource + 1) bytes next ≡ Ok (xs, end)) × (ys ≡ x ∷ xs)
unfolding card_then
card_read k place least bytes at ys end e =
    let r = then_read (standing_at bytes at) (card_then k place least bytes) (ys, end) e in
    let x : Standing = r.0 in
    elim (cases_Bool (may_stand least x.numbered)) [
      | inl h ↦ (
          let s = then_read (cards_at k (place + 1) (x.numbered.resource + 1) bytes r.1) (before x) (ys, end) (sym (cond-true (may_stand least x.numbered) _ _ h) ∙ r.3) in
          let same = ok_same s.3 in
          (x, r.1, s.0, r.2, h, s.2 ∙ ap (λ n. Ok (s.0, n)) (ap (λ w. w.1) same), sym (ap (λ w. w.0) same)))
      | inr h ↦ absurd (ok_not_err _ _ (sym r.3 ∙ cond-false (may_stand least x.numbered) _ _ h))
    ]

-- the cards that were read are those that a row of cards may have
pub cards_checked_lem : (k place least : ℕ) (bytes : List ℕ) (at : ℕ) (ys : List Standing) (end : ℕ) → cards_at k place least bytes at ≡ Ok (ys, end) → (cards_checked place least (cards_of ys) ≡ Ok tt) × (length ys ≡ k)
cards_checked_lem zero place least bytes at ys end e = let is : [] ≡ ys = ap (λ w. w.0) (ok_same e) in (ap (λ l. cards_checked place least (cards_of l)) (sym is), ap length (sym is))
cards_checked_lem (suc k) place least bytes at ys end e =
    let r = card_read k place least bytes at ys end e in
    let ih = cards_checked_lem k (place + 1) (r.0.numbered.resource + 1) bytes r.1 r.2 end r.5 in
    (ap (λ l. cards_checked place least (cards_of l)) r.6 ∙ cond-true (may_stand least r.0.numbered) _ _ r.4 ∙ ih.0, ap length r.6 ∙ ap suc ih.1)

-- the cards of a file that is accepted make a row that is kept
contents_kept : (bytes : List ℕ) (c : Contents) → file_at bytes ≡ Ok c → row_kept c.day (cards_of c.standing) ≡ true
unfolding after_day after_count
contents_kept bytes c e =
    let r = then_read (day_at bytes 0) (after_day bytes) c e in
    let d : Day = r.0 in
    elim (cases_Bool (day_kept d)) [
      | inr h ↦ absurd (ok_not_err _ _ (sym r.3 ∙ cond-false (day_kept d) _ _ h))
      | inl h ↦ (
          let s = then_read (word_at bytes r.1) (after_count bytes d) c (sym (cond-true (day_kept d) _ _ h) ∙ r.3) in
          let t = then_read (cards_at s.0 1 0 bytes s.1) (ending_at bytes d) c s.3 in
          elim (cases_Bool (leb (length bytes) t.1)) [
            | inr g ↦ absurd (ok_not_err _ _ (sym t.3 ∙ cond-false (leb (length bytes) t.1) _ _ g))
            | inl g ↦ (
                let is = ok_same (sym (cond-true (leb (length bytes) t.1) _ _ g) ∙ t.3) in
                subst (λ x. row_kept x.day (cards_of x.standing) ≡ true) is (row_kept_lem d (cards_of t.0) h (cards_checked_lem s.0 1 0 bytes s.1 t.0 t.1 t.2).0))
          ])
    ]

pub contents_in : (r : Result Contents Fault) → is_ok r ≡ true → (c : Contents) × (r ≡ Ok c)
contents_in (Ok c) h = (c, refl)
contents_in (Err f) h = absurd (both_ways false refl h)

pub file_keeps : (bytes : List ℕ) → is_ok (file_at bytes) ≡ true → Keeps (file_meaning bytes)
file_keeps bytes h =
    let c = contents_in (file_at bytes) h in
    subst (λ r. Keeps (contents_meaning r)) (sym c.1) (row_keeps c.0.day (cards_of c.0.standing) (contents_kept bytes c.0 c.1))
