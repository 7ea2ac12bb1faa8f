-- A row without marks is the filing. Assumes nothing.
use Rattle.std.proofs.Common.{◌≡◌, ℕ, true, false, eqb, List, [], ◌∷◌, Some, None, Option, sym, refl, ap, ◌∙◌}
use Rattle.std.proofs.lemmas.Bool.{and_parts, eqb-true, both_ways}
use Rattle.wire.specs.Maps.{stands}
use Rattle.wire.specs.Rows.{optional_held}
use Rattle.bid.specs.declared.components.Components.{Components}
use Rattle.bid.specs.declared.components.Curve.{Curve}
use Rattle.bid.specs.declared.components.Step.{Step}
use Rattle.bid.specs.Fields.{curve_held}
use Rattle.bid.specs.Kept.{keeps}
use Rattle.bid.proofs.RecordLaws.{parts}
use Rattle.register.specs.declared.data.Card.{Card}
use Rattle.register.specs.declared.data.Day.{Day}
use Rattle.rule_laws.specs.Made.{Makes}
use Rattle.mending.specs.Marks.{same_price, same_prices, same_ends, same_quantities, curve_prices, marks}
use Rattle.checks.specs.Terms.{steps_of}
use Rattle.rule_laws.proofs.HonestMarks.{honest, kept_prices, kept_quantities, price_is}
use Rattle.rule_laws.proofs.MadeCurves.{same_curve, same_step}

steps_same : (ss ts : List Step) → same_prices ss ts ≡ true → same_ends ss ts ≡ true → ss ≡ ts
steps_same [] [] p e = refl
steps_same [] (t ∷ ts) p e = absurd (both_ways false refl e)
steps_same (s ∷ ss) [] p e = absurd (both_ways false refl e)
steps_same (s ∷ ss) (t ∷ ts) p e =
    let p' = and_parts (same_price s.price t.price) (same_prices ss ts) p in
    let e' = and_parts (eqb s.end t.end) (same_ends ss ts) e in
    let first = same_step s t (eqb-true s.end t.end e'.0) (price_is s.price t.price p'.0) in
    let rest = steps_same ss ts p'.1 e'.1 in
    λ j. first j ∷ rest j

curves_same : (v w : Option Curve) → optional_held curve_held v ≡ true → optional_held curve_held w ≡ true → curve_prices v w ≡ true → same_quantities v w ≡ true → v ≡ w
curves_same None None h k p q = refl
curves_same None (Some w) h k p q = absurd (both_ways false refl q)
curves_same (Some v) None h k p q = absurd (both_ways false refl q)
curves_same (Some v) (Some w) h k p q =
    let a = and_parts (eqb v.start w.start) (same_ends (steps_of v) (steps_of w)) q in
    ap Some (same_curve v w h k (eqb-true v.start w.start a.0) (steps_same (steps_of v) (steps_of w) p a.1))

pub unmarked : (d : Day) (c : Card) (b row : Components) → keeps b ≡ true → keeps row ≡ true → Makes d c b row → marks b row ≡ 0 → row ≡ b
unmarked d c b row bk rk m e =
    let h = honest b row in
    let clear : (bit : ℕ) → stands bit 0 ≡ false → stands bit (marks b row) ≡ false = λ bit z. ap (stands bit) e ∙ z in
    let curves : b.curve ≡ row.curve = curves_same b.curve row.curve (parts b bk).curve (parts row rk).curve (kept_prices b.curve row.curve (h.prices.clear (clear 0 refl))) (kept_quantities b.curve row.curve (h.quantities.clear (clear 1 refl))) in
    let ups = sym (h.regulation_up.clear (clear 4 refl)) in
    let downs = sym (h.regulation_down.clear (clear 5 refl)) in
    let spins = sym (h.spinning.clear (clear 2 refl)) in
    let nons = sym (h.non_spinning.clear (clear 3 refl)) in
    let back = sym curves in
    λ j. record {
      resource = m.resource j;
      hour = m.hour j;
      self_schedule = m.self_schedule j;
      curve = back j;
      services = record { regulation_up = ups j; regulation_down = downs j; spinning = spins j; non_spinning = nons j };
      start_up = m.start_up j;
      ramp = m.ramp j;
    }
