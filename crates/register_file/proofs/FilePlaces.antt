-- Where the faults of a file lie. Assumes nothing.
use Rattle.std.proofs.Common.{◌≡◌, ℕ, zero, suc, ◌+◌, ◌-◌, ◌*◌, ◌<◌, ◌≤◌, leb, List, length, Ok, Err, sym, ap, ◌∙◌, subst, inl, inr, suc-mul, arith}
use Rattle.std.proofs.lemmas.Bool.{cases_Bool, cond-true, cond-false, ltb-true}
use Rattle.faults.specs.declared.Fault.{Fault}
use Rattle.faults.specs.declared.Fault.TheVariants.{Record, Register, Rule, Window}
use Rattle.wire.specs.Bytes.{Bytes}
use Rattle.wire.specs.Laws.{FaultWithin}
use Rattle.wire.specs.Reading.{word_at}
use Rattle.wire.specs.Lawful.{number_lawful}
use Rattle.wire.specs.Steps.{ok_not_err, ok_same, err_same, then_failed}
use Rattle.register.specs.declared.data.Day.{Day}
use Rattle.register_file.specs.declared.standing.Standing.{Standing}
use Rattle.register.specs.CardRow.{may_stand}
use Rattle.register_file.specs.Fields.{day_at, standing_at}
use Rattle.register_file.specs.File.{before, cards_at, ending_at, file_at}
use Rattle.register_file.specs.FileKeeps.{card_then, after_count, after_day, card_read}
use Rattle.register_file.specs.FileLaws.{FaultPlaced}
use Rattle.register.specs.Kept.{day_kept}
use Rattle.register_file.proofs.FileFields.{parts_undoes, day_undoes}

-- a byte's place of at most n, or a card's of at most m
abbrev Within : ℕ → ℕ → Fault → Type 0
Within n m (Record f p) = p ≤ n
Within n m (Register f p) = p ≤ m
Within n m (Rule f p) = ⊥
Within n m (Window f p) = ⊥

of_field : (n m : ℕ) (f : Fault) → FaultWithin n f → Within n m f
of_field n m (Record f p) h = h.1
of_field n m (Register f p) h = absurd h
of_field n m (Rule f p) h = absurd h
of_field n m (Window f p) h = absurd h

further : (f : Fault) (n n' m m' : ℕ) → n ≤ n' → m ≤ m' → Within n m f → Within n' m' f
further (Record f p) n n' m m' h k w = omega arith
further (Register f p) n n' m m' h k w = omega arith
further (Rule f p) n n' m m' h k w = w
further (Window f p) n n' m m' h k w = w

cards_placed : (bytes : List ℕ) → Bytes bytes → (k place least at : ℕ) (f : Fault) → cards_at k place least bytes at ≡ Err f → Within (at + k * 113) (place + k - 1) f
unfolding card_then
cards_placed bytes all zero place least at f e = absurd (ok_not_err _ _ e)
cards_placed bytes all (suc k) place least at f e = elim (then_failed (standing_at bytes at) (card_then k place least bytes) f e) [
  | inl h ↦ further f (at + 113) (at + suc k * 113) (place + suc k - 1) (place + suc k - 1) (omega (arith, suc-mul k 113)) (omega arith) (of_field (at + 113) (place + suc k - 1) f (parts_undoes.placed bytes at f all h))
  | inr r ↦ (
      let x : Standing = r.0 in
      let known = parts_undoes.exact bytes at x r.1 all r.2 in
      let near = parts_undoes.short x known.0 in
      elim (cases_Bool (may_stand least x.numbered)) [
        | inr h ↦ subst (Within (at + suc k * 113) (place + suc k - 1)) (err_same (sym (cond-false (may_stand least x.numbered) _ _ h) ∙ r.3)) (omega arith)
        | inl h ↦ elim (then_failed (cards_at k (place + 1) (x.numbered.resource + 1) bytes r.1) (before x) f (sym (cond-true (may_stand least x.numbered) _ _ h) ∙ r.3)) [
          | inl g ↦ further f (r.1 + k * 113) (at + suc k * 113) (place + 1 + k - 1) (place + suc k - 1) (omega (arith, suc-mul k 113, known.1)) (omega arith) (cards_placed bytes all k (place + 1) (x.numbered.resource + 1) r.1 f g)
          | inr s ↦ absurd (ok_not_err _ _ s.3)
        ]
      ])
]

-- cards that were read end within their number times the longest card
cards_end : (bytes : List ℕ) → Bytes bytes → (k place least at : ℕ) (ys : List Standing) (end : ℕ) → cards_at k place least bytes at ≡ Ok (ys, end) → end ≤ at + k * 113
cards_end bytes all zero place least at ys end e = omega (arith, ap (λ w. w.1) (ok_same e))
cards_end bytes all (suc k) place least at ys end e =
    let r = card_read k place least bytes at ys end e in
    let known = parts_undoes.exact bytes at r.0 r.1 all r.3 in
    let near = parts_undoes.short r.0 known.0 in
    omega (arith, suc-mul k 113, known.1, cards_end bytes all k (place + 1) (r.0.numbered.resource + 1) r.1 r.2 end r.5)

to_file : (f : Fault) → Within 7405474 65535 f → FaultPlaced f
to_file (Record f p) h = h
to_file (Register f p) h = h
to_file (Rule f p) h = h
to_file (Window f p) h = h

pub file_placed : (bytes : List ℕ) → Bytes bytes → (f : Fault) → file_at bytes ≡ Err f → FaultPlaced f
unfolding after_day after_count
file_placed bytes all f e = to_file f (elim (then_failed (day_at bytes 0) (after_day bytes) f e) [
  | inl h ↦ further f (0 + 17) 7405474 0 65535 (omega arith) (omega arith) (of_field (0 + 17) 0 f (day_undoes.placed bytes 0 f all h))
  | inr r ↦ (
      let d : Day = r.0 in
      let at-17 : r.1 ≡ 17 = (day_undoes.exact bytes 0 d r.1 all r.2).1 in
      elim (cases_Bool (day_kept d)) [
        | inr h ↦ subst (Within 7405474 65535) (err_same (sym (cond-false (day_kept d) _ _ h) ∙ r.3)) (omega arith)
        | inl h ↦ elim (then_failed (word_at bytes r.1) (after_count bytes d) f (sym (cond-true (day_kept d) _ _ h) ∙ r.3)) [
          | inl g ↦ further f (r.1 + 2) 7405474 0 65535 (omega arith) (omega arith) (of_field (r.1 + 2) 0 f ((number_lawful 2).placed bytes r.1 f all g))
          | inr s ↦ (
              let w = (number_lawful 2).exact bytes r.1 s.0 s.1 all s.2 in
              let few : s.0 < 65536 = ltb-true s.0 65536 w.0 in
              let start : s.1 ≡ r.1 + 2 = w.1 in
              elim (then_failed (cards_at s.0 1 0 bytes s.1) (ending_at bytes d) f s.3) [
                | inl g ↦ further f (s.1 + s.0 * 113) 7405474 (1 + s.0 - 1) 65535 (omega arith) (omega arith) (cards_placed bytes all s.0 1 0 s.1 f g)
                | inr t ↦ (
                    let near = cards_end bytes all s.0 1 0 s.1 t.0 t.1 t.2 in
                    elim (cases_Bool (leb (length bytes) t.1)) [
                      | inl g ↦ absurd (ok_not_err _ _ (sym (cond-true (leb (length bytes) t.1) _ _ g) ∙ t.3))
                      | inr g ↦ subst (Within 7405474 65535) (err_same (sym (cond-false (leb (length bytes) t.1) _ _ g) ∙ t.3)) (omega arith)
                    ])
              ])
        ]
      ])
])
