-- What is granted is what mending makes. Assumes nothing.
use Rattle.std.proofs.Common.{◌≡◌, ℕ, true, Some, None, Ok, Err, Option, Result, sym, refl, ap, ◌∙◌}
use Rattle.faults.specs.declared.Fault.{Fault}
use Rattle.wire.specs.Steps.{ok_not_err, ok_same}
use Rattle.bid.specs.declared.components.Components.{Components}
use Rattle.bid.specs.Kept.{keeps}
use Rattle.register.specs.declared.data.Card.{Card}
use Rattle.register.specs.Meaning.{Meaning}
use Rattle.rule_laws.specs.Granted.{GrantedRow}
use Rattle.rule_laws.specs.Judging.{ruled_by, ruled, marked}
use Rattle.mending.specs.Marks.{marks}
use Rattle.mending.specs.Mending.{mended}
use Rattle.rule_laws.proofs.HonestMarks.{honest}
use Rattle.rule_laws.proofs.MadeSo.{makes, no_other_lem}
use Rattle.rule_laws.proofs.SettledBytes.{after_ok}
use Rattle.rule_laws.proofs.Unmarked.{unmarked}

marked_ok : (b row : Components) (k : ℕ) (r : Result Components Fault) → Ok (row, k) ≡ marked b r → (r ≡ Ok row) × (k ≡ marks b row)
marked_ok b row k (Ok x) e =
    let same = ok_same e in
    let rows : row ≡ x = ap (λ p. p.0) same in
    (ap Ok (sym rows), ap (λ p. p.1) same ∙ ap (marks b) (sym rows))
marked_ok b row k (Err f) e = absurd (ok_not_err _ _ e)

ruled_mends : (coordinator : ℕ) (m : Meaning) (b row : Components) → ruled coordinator m b ≡ Ok row → (c : Card) → m.cards b.resource ≡ Some c → mended m.day c b ≡ Ok row
unfolding ruled
ruled_mends coordinator m b row e c is = (after_ok _ _ row (sym (ap (ruled_by coordinator m b) is) ∙ e)).1

-- a resource that is ruled on is held
ruled_held : (coordinator : ℕ) (m : Meaning) (b row : Components) → (o : Option Card) → ruled_by coordinator m b o ≡ Ok row → (c : Card) × (o ≡ Some c)
ruled_held coordinator m b row None e = absurd (ok_not_err _ _ (sym e))
ruled_held coordinator m b row (Some c) e = (c, refl)

held_card : (coordinator : ℕ) (m : Meaning) (b row : Components) → ruled coordinator m b ≡ Ok row → (c : Card) × (m.cards b.resource ≡ Some c)
unfolding ruled
held_card coordinator m b row e = ruled_held coordinator m b row (m.cards b.resource) e

pub granted_row : (coordinator : ℕ) (m : Meaning) (b row : Components) (k : ℕ) → keeps b ≡ true → keeps row ≡ true → Ok (row, k) ≡ marked b (ruled coordinator m b) → GrantedRow m b row k
granted_row coordinator m b row k bk rk e =
    let is-ruled = marked_ok b row k (ruled coordinator m b) e in
    let held = held_card coordinator m b row is-ruled.0 in
    record {
      makes = λ c is. makes m.day c b row bk (ruled_mends coordinator m b row is-ruled.0 c is);
      only = λ c is other ok fits. no_other_lem m.day c b other row ok rk fits (makes m.day c b row bk (ruled_mends coordinator m b row is-ruled.0 c is));
      honest = honest b row;
      unmarked = λ none. unmarked m.day held.0 b row bk rk (makes m.day held.0 b row bk (ruled_mends coordinator m b row is-ruled.0 held.0 held.1)) (sym is-ruled.1 ∙ none);
    }
