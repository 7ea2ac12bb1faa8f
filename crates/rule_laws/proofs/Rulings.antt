-- Judging against what a register means, from what its calls answer. Assumes nothing.
use Rattle.std.proofs.Common.{◌≡◌, ℕ, true, false, eqb, List, is_some, Some, None, Ok, Err, Option, Result, sym, refl, ap, ◌∙◌, subst}
use Rattle.std.proofs.lemmas.Bool.{both_ways, cond-true, cond-false, eq-eqb, ne_eqb}
use Rattle.faults.specs.declared.Fault.{Fault}
use Rattle.faults.specs.declared.Fault.TheVariants.{Register, Window}
use Rattle.faults.specs.declared.WindowFault.TheVariants.{NoCoordinator}
use Rattle.bid.specs.Record.{record_read}
use Rattle.faults.specs.declared.RegisterFault.TheVariants.{ResourceNotHeld}
use Rattle.bid.specs.declared.components.Components.{Components}
use Rattle.bid.specs.Kept.{keeps}
use Rattle.register.specs.declared.data.Card.{Card}
use Rattle.register.specs.declared.data.Day.{Day}
use Rattle.register.specs.Kept.{day_kept}
use Rattle.register.specs.Meaning.{Meaning, Keeps, card_or}
use Rattle.checks.specs.Checks.{first_broken, checks}
use Rattle.rule_laws.specs.Judging.{after_checks, ruled_by, ruled, marked, denied, read_judged, judged}
use Rattle.mending.specs.Mending.{mended}
use Rattle.checks.specs.Passing.{checks_passed}
use Rattle.checks.proofs.Broken.{checks_passed_lem}
use Rattle.rule_laws.proofs.RowKept.{row_kept_lem}

-- a card that was looked up is the one that is held
pub found : (before card : Card) (o : Option Card) → is_some o ≡ true → card ≡ card_or before o → o ≡ Some card
found before card None h e = absurd (both_ways false refl h)
found before card (Some c) h e = ap Some (sym e)

pub ruled_none : (coordinator : ℕ) (m : Meaning) (b : Components) → is_some (m.cards b.resource) ≡ false → Err (Register ResourceNotHeld 0) ≡ marked b (ruled coordinator m b)
unfolding ruled
ruled_none coordinator m b h = ap (λ o. marked b (ruled_by coordinator m b o)) (none (m.cards b.resource) h)
  where
    none : (o : Option Card) → is_some o ≡ false → None ≡ o
    none None h = refl
    none (Some c) h = absurd (both_ways true h refl)

-- with the card that is held, the checks and then the mending answer
pub ruled_card : (coordinator : ℕ) (m : Meaning) (b : Components) (d : Day) (c : Card) → m.cards b.resource ≡ Some c → d ≡ m.day
    → after_checks (checks_passed coordinator d c b) (mended d c b) ≡ ruled coordinator m b
unfolding ruled
ruled_card coordinator m b d c e day =
    ap (λ p. after_checks p (mended d c b)) (sym (checks_passed_lem coordinator d c b)) ∙ ap (λ x. after_checks (first_broken (checks coordinator x c b)) (mended x c b)) day ∙ sym (ap (ruled_by coordinator m b) e)

pub judged_kept : (m : Meaning) (b : Components) (d : Day) (c : Card) (row : Components) → Keeps m → m.cards b.resource ≡ Some c → d ≡ m.day → keeps b ≡ true → mended d c b ≡ Ok row → keeps row ≡ true
judged_kept m b d c row K e day bk is = row_kept_lem d c b row (subst (λ x. day_kept x ≡ true) (sym day) K.day) (K.cards b.resource c e).card bk is

-- a coordinator other than 0 has the record read
pub read_judged_lem : (coordinator : ℕ) (m : Meaning) (bytes out : List ℕ) (r : Result Components Fault) → (coordinator ≡ 0 → ⊥) → r ≡ record_read bytes → read_judged coordinator m r out ≡ judged coordinator m bytes out
unfolding judged
read_judged_lem coordinator m bytes out r some e = ap (λ x. read_judged coordinator m x out) e ∙ sym (cond-false (eqb coordinator 0) _ _ (ne_eqb coordinator 0 some))

pub judged_none : (coordinator : ℕ) (m : Meaning) (bytes out : List ℕ) → coordinator ≡ 0 → (denied (Window NoCoordinator 0), out) ≡ judged coordinator m bytes out
unfolding judged
judged_none coordinator m bytes out none = sym (cond-true (eqb coordinator 0) _ _ (eq-eqb coordinator 0 none))
