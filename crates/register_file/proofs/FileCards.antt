-- The cards of a file, one at a time. Assumes nothing.
use Rattle.std.proofs.Common.{◌≡◌, ℕ, suc, ◌+◌, ◌-◌, ◌<◌, true, false, List, Ok, Err, refl, ap, ◌∙◌, arith}
use Rattle.std.proofs.lemmas.Bool.{cond-true, cond-false}
use Rattle.faults.specs.declared.Fault.{Fault}
use Rattle.wire.specs.Reading.{Read, and_then, word_at}
use Rattle.wire.specs.Steps.{then_is, ok_not_err, err_same}
use Rattle.register.specs.declared.data.Day.{Day}
use Rattle.register_file.specs.declared.standing.Standing.{Standing}
use Rattle.register.specs.CardRow.{may_stand, breach_at}
use Rattle.register_file.specs.Fields.{day_at, standing_at}
use Rattle.register_file.specs.File.{before, cards_at, ending_at, file_at, answer_only, end_of}
use Rattle.register.specs.Kept.{day_kept}
use Rattle.register_file.specs.FileKeeps.{card_then, after_count, after_day}

end_before_lem : (r : Read (List Standing)) (x : Standing) → end_of (and_then r (before x)) ≡ end_of r
end_before_lem (Ok y) x = refl
end_before_lem (Err f) x = refl

module _ (count i : ℕ) (lt : i < count) (place least : ℕ) (bytes : List ℕ) (at : ℕ) where
  opened : cards_at (count - i) place least bytes at ≡ and_then (standing_at bytes at) (card_then (count - (i + 1)) place least bytes)
  unfolding card_then
  opened = let e : count - i ≡ suc (count - (i + 1)) = omega arith in ap (λ k. cards_at k place least bytes at) e

  module _ (x : Standing) (after : ℕ) (read : standing_at bytes at ≡ Ok (x, after)) where
    pub cards_more : may_stand least x.numbered ≡ true → end_of (cards_at (count - i) place least bytes at) ≡ end_of (cards_at (count - (i + 1)) (place + 1) (x.numbered.resource + 1) bytes after)
    unfolding card_then
    cards_more h = ap end_of (opened ∙ then_is (card_then (count - (i + 1)) place least bytes) read ∙ cond-true (may_stand least x.numbered) _ _ h) ∙ end_before_lem (cards_at (count - (i + 1)) (place + 1) (x.numbered.resource + 1) bytes after) x

    pub cards_breach : may_stand least x.numbered ≡ false → end_of (cards_at (count - i) place least bytes at) ≡ Err (breach_at place)
    unfolding card_then
    cards_breach h = ap end_of (opened ∙ then_is (card_then (count - (i + 1)) place least bytes) read ∙ cond-false (may_stand least x.numbered) _ _ h)

  pub cards_fail : (f : Fault) → standing_at bytes at ≡ Err f → end_of (cards_at (count - i) place least bytes at) ≡ Err f
  cards_fail f e = ap end_of (opened ∙ ap (λ r. and_then r (card_then (count - (i + 1)) place least bytes)) e)

pub ending_fails : (bytes : List ℕ) (d : Day) (r : Read (List Standing)) (f : Fault) → end_of r ≡ Err f → answer_only (and_then r (ending_at bytes d)) ≡ Err f
ending_fails bytes d (Ok x) f e = absurd (ok_not_err _ _ e)
ending_fails bytes d (Err g) f e = ap Err (err_same e)

pub file_opens : (bytes : List ℕ) → file_at bytes ≡ and_then (day_at bytes 0) (after_day bytes)
unfolding after_day after_count
file_opens bytes = refl

pub file_counted : (bytes : List ℕ) (d : Day) (a count b : ℕ) → day_at bytes 0 ≡ Ok (d, a) → day_kept d ≡ true → word_at bytes a ≡ Ok (count, b) → file_at bytes ≡ and_then (cards_at count 1 0 bytes b) (ending_at bytes d)
unfolding after_day after_count
file_counted bytes d a count b e k w = then_is (after_day bytes) e ∙ cond-true (day_kept d) _ _ k ∙ then_is (after_count bytes d) w
