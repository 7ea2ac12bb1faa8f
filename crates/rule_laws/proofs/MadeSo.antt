-- Mending makes the row that is said of the filing, and no other row fits. Assumes nothing.
use Rattle.std.proofs.Common.{◌≡◌, ℕ, ◌+◌, ◌≤◌, true, false, Ok, Option, sym, refl, ◌∙◌, subst, inl, inr, arith}
use Rattle.std.proofs.lemmas.Bool.{both_ways}
use Rattle.bid.specs.declared.components.Components.{Components}
use Rattle.bid.specs.declared.components.Curve.{Curve}
use Rattle.bid.specs.Kept.{keeps}
use Rattle.bid.proofs.RecordLaws.{parts}
use Rattle.register.specs.declared.data.Card.{Card}
use Rattle.register.specs.declared.data.Day.{Day}
use Rattle.rule_laws.specs.Exactly.{remaining}
use Rattle.rule_laws.specs.Made.{Makes, NotAboveLimit}
use Rattle.mending.specs.Mending.{capped, above_limit, mended_services, remade, mended}
use Rattle.checks.specs.Terms.{top, base, ceiling, extension_price, free, need}
use Rattle.rule_laws.proofs.MadeCurves.{curves_made, one_curve}
use Rattle.rule_laws.proofs.MadeServices.{remaining_is, reserve_made, one_reserve, regulation_made, above_barred, below_allowed, one_regulation}
use Rattle.rule_laws.proofs.RowKept.{Reach, Within, reach, row_parts_lem}

-- what is needed fits under the top
fits : (from most needed left : ℕ) → left ≡ needed → Within from most needed → 1 ≤ left → from + left ≤ most
fits from most needed left same (inl e) some = absurd (omega arith)
fits from most needed left same (inr e) some = omega arith

-- the row that mending makes is the one that is said of the filing
pub makes : (d : Day) (c : Card) (b row : Components) → keeps b ≡ true → mended d c b ≡ Ok row → Makes d c b row
makes d c b row bk e =
    let r = row_parts_lem d c b row e in
    let w : Option Curve = r.0 in
    let whole : Components = remade b (mended_services c b) w in
    let path = reach (base c b) (top c) (need (mended_services c b)) (extension_price d c) (capped (ceiling d c) b.curve) w r.2 in
    let reaches : Reach (base c b) (top c) (remaining b) (extension_price d c) (capped (ceiling d c) b.curve) w =
    subst (λ n. Reach (base c b) (top c) n (extension_price d c) (capped (ceiling d c) b.curve) w) (sym (remaining_is c b)) path.1 in
    subst (Makes d c b) (sym r.1) (record {
      resource = refl;
      hour = refl;
      self_schedule = refl;
      start_up = refl;
      ramp = refl;
      spinning = reserve_made b b.services.spinning;
      non_spinning = reserve_made b b.services.non_spinning;
      regulation_up = regulation_made (NotAboveLimit c b) (above_limit c b.self_schedule) (free b.hour c.up) c.up b.services.regulation_up (above_barred c b.self_schedule) (below_allowed c b.self_schedule);
      regulation_down = regulation_made (Unit {0}) false (free b.hour c.down) c.down b.services.regulation_down (λ h. absurd (both_ways false refl h)) (λ h. tt);
      curves = curves_made d c b whole (parts b bk).curve reaches;
      within = λ some. fits (base c b) (top c) (need (mended_services c b)) (remaining b) (remaining_is c b) path.0 some;
    })

-- no other row fits
pub no_other_lem : (d : Day) (c : Card) (b row row' : Components) → keeps row ≡ true → keeps row' ≡ true → Makes d c b row → Makes d c b row' → row ≡ row'
no_other_lem d c b row row' rk rk' m m' =
    let resources : row.resource ≡ row'.resource = m.resource ∙ sym m'.resource in
    let hours : row.hour ≡ row'.hour = m.hour ∙ sym m'.hour in
    let schedules : row.self_schedule ≡ row'.self_schedule = m.self_schedule ∙ sym m'.self_schedule in
    let starts : row.start_up ≡ row'.start_up = m.start_up ∙ sym m'.start_up in
    let ramps : row.ramp ≡ row'.ramp = m.ramp ∙ sym m'.ramp in
    let curves : row.curve ≡ row'.curve = one_curve d c b row row' (parts row rk).curve (parts row' rk').curve m.curves m'.curves in
    let ups = one_regulation (NotAboveLimit c b) (free b.hour c.up) c.up b.services.regulation_up row.services.regulation_up row'.services.regulation_up m.regulation_up m'.regulation_up in
    let downs = one_regulation (Unit {0}) (free b.hour c.down) c.down b.services.regulation_down row.services.regulation_down row'.services.regulation_down m.regulation_down m'.regulation_down in
    let spins = one_reserve b b.services.spinning row.services.spinning row'.services.spinning m.spinning m'.spinning in
    let non_spins = one_reserve b b.services.non_spinning row.services.non_spinning row'.services.non_spinning m.non_spinning m'.non_spinning in
    let services : row.services ≡ row'.services = λ j. record { regulation_up = ups j; regulation_down = downs j; spinning = spins j; non_spinning = non_spins j } in
    λ j. record { resource = resources j; hour = hours j; self_schedule = schedules j; curve = curves j; services = services j; start_up = starts j; ramp = ramps j }
