-- A mended row passes the checks again, and mending leaves it as it is. Assumes nothing.
use Rattle.std.proofs.Common.{◌≡◌, ℕ, ◌+◌, ◌<◌, ◌≤◌, Bool, true, false, cond, not, ◌&&◌, ◌||◌, eqb, ltb, leb, List, [], ◌∷◌, ◌++◌, map, length, ℤ, pos, is_some, Some, None, Ok, Err, Option, sym, refl, ap, ◌∙◌, subst, inl, inr, arith}
use lib.Signed.{le_z, lt_z}
use Rattle.std.proofs.lemmas.List.{length-map}
use Rattle.std.proofs.lemmas.Int.{ints}
use Rattle.std.proofs.lemmas.Bool.{and_parts, leb-true, lt-leb, le-ltb, eqb-true, eq-eqb, not-false, cond-true, cond-false, cases_Bool, or_parts, or_from, or_left, or_right, or_cases, and_left, and_right}
use Rattle.std.specs.Int.{int_min, int_max}
use Rattle.wire.specs.Rows.{optional_held}
use Rattle.wire.specs.CountedRows.{entries-packed}
use Rattle.wire.specs.Steps.{ok_not_err}
use Rattle.bid.specs.declared.components.Components.{Components}
use Rattle.bid.specs.declared.components.Curve.{Curve}
use Rattle.bid.specs.declared.components.Service.{Service}
use Rattle.bid.specs.declared.components.Step.{Step}
use Rattle.bid.specs.Fields.{step, blank_step, is_blank_step, curve_held, service}
use Rattle.bid.specs.Kept.{keeps}
use Rattle.bid.specs.FieldLaws.{step_blanks}
use Rattle.bid.proofs.RecordLaws.{parts}
use Rattle.register.specs.declared.data.Card.{Card}
use Rattle.register.specs.declared.data.Day.{Day}
use Rattle.register.specs.Kept.{day_kept}
use Rattle.checks.specs.Checks.{Passed, first_broken, filing_checks, self_schedule_checks, curve_checks, step_checks, service_checks}
use Rattle.mending.specs.Mending.{capped, capped_step, curve_of, regulated, above_limit, has_energy, mended_services, lengthened, reached, row_made, remade, mended, price_of}
use Rattle.checks.specs.Passing.{in_turn, services_passed, checks_passed}
use Rattle.checks.specs.Terms.{top, base, ceiling, extension_price, free, need, steps_of, end_of, curve_end}
use Rattle.rule_laws.proofs.Facts.{DayParts, day_parts}
use Rattle.rule_laws.proofs.Rising.{check_passed, Rising, rising, passes, rising_capped, rising_end, rising_lengthened, rising_grown, end-lengthened, end_grown, Under, under-capped, under-lengthened, under_grown, capped-under}
use Rattle.rule_laws.proofs.RowKept.{Reach, enough, made, longer, grown, Within, reach, row_parts_lem, curve_fits}

-- a passed turn is passed by both
pub turn_parts : (p q : Passed) → in_turn p q ≡ Ok tt → (p ≡ Ok tt) × (q ≡ Ok tt)
turn_parts (Ok x) q e = (refl, e)
turn_parts (Err f) q e = absurd (ok_not_err _ _ (sym e))

turn_from : (p q : Passed) → p ≡ Ok tt → q ≡ Ok tt → in_turn p q ≡ Ok tt
turn_from p q e f = ap (λ x. in_turn x q) e ∙ f

value_in : {A : Type 0} → A → Option A → A
value_in d None = d
value_in d (Some x) = x

some_same : {A : Type 0} {x y : A} → ◌≡◌ {A = Option A} (Some x) (Some y) → x ≡ y
unfolding value_in
some_same {x = x} e = ap (value_in x) e

-- the steps of a curve that was packed are those it was packed of
steps_packed : (start : ℕ) (ss : List Step) → steps_of (curve_of start ss) ≡ ss
steps_packed start ss = entries-packed blank_step is_blank_step step_blanks refl 10 ss

-- prices between floor, ceiling and caps
ceiling_above : (d : Day) (c : Card) → DayParts d → lt_z (ceiling d c) d.floor ≡ false
ceiling_above d c D = grind (arith, ints, D.below, D.above)

ceiling_below : (d : Day) (c : Card) → DayParts d → lt_z d.hard_cap (ceiling d c) ≡ false
ceiling_below d c D = grind (arith, ints, D.order)

extension_above : (d : Day) (c : Card) → lt_z (extension_price d c) d.floor ≡ false
extension_above d c = grind (arith, ints)

between : (low level limit : ℤ) → lt_z limit low ≡ false → lt_z limit (int_max low (int_min level limit)) ≡ false
between low level limit h = grind (arith, ints)

extension_below : (d : Day) (c : Card) → DayParts d → lt_z (ceiling d c) (extension_price d c) ≡ false
extension_below d c D = between d.floor c.level (ceiling d c) (ceiling_above d c D)

not_under : (a b : ℤ) → le_z a b ≡ false → lt_z a b ≡ false
not_under a b h = grind (arith, ints)

under-under : (a b c : ℤ) → lt_z b a ≡ false → lt_z c b ≡ false → lt_z c a ≡ false
under-under a b c h k = grind (arith, ints)

extension_capped : (d : Day) (c : Card) → DayParts d → lt_z d.hard_cap (extension_price d c) ≡ false
extension_capped d c D = under-under (extension_price d c) (ceiling d c) d.hard_cap (extension_below d c D) (ceiling_below d c D)

-- a regulation bid by two tests: something is awarded, something is free
regulated_by : Bool → Bool → ℕ → Option Service → Option Service
regulated_by awarded some spare None = cond (awarded && some) (Some (service spare (pos 0))) None
regulated_by awarded some spare (Some s) = cond some (Some (service spare s.price)) None

by_tests : (spare award : ℕ) (s : Option Service) → regulated spare award s ≡ regulated_by (leb 1 award) (leb 1 spare) spare s
unfolding regulated_by
by_tests spare award None = refl
by_tests spare award (Some s) = refl

by_again : (awarded some : Bool) (spare : ℕ) (s : Option Service) → regulated_by awarded some spare (regulated_by awarded some spare s) ≡ regulated_by awarded some spare s
unfolding regulated_by
by_again true true spare None = refl
by_again true false spare None = refl
by_again false true spare None = refl
by_again false false spare None = refl
by_again true true spare (Some s) = refl
by_again true false spare (Some s) = refl
by_again false true spare (Some s) = refl
by_again false false spare (Some s) = refl

-- the services of a row are mended already
regulated_again : (spare award : ℕ) (s : Option Service) → regulated spare award (regulated spare award s) ≡ regulated spare award s
regulated_again spare award s =
    by_tests spare award (regulated spare award s) ∙ ap (regulated_by (leb 1 award) (leb 1 spare) spare) (by_tests spare award s) ∙ by_again (leb 1 award) (leb 1 spare) spare s ∙ sym (by_tests spare award s)

up_again : (above : Bool) (spare award : ℕ) (s : Option Service) → cond above None (regulated spare award (cond above None (regulated spare award s))) ≡ cond above None (regulated spare award s)
up_again true spare award s = refl
up_again false spare award s = regulated_again spare award s

reserve_again : (before after : Bool) (s : Option Service) → (before ≡ true → after ≡ true) → cond after (cond before s None) None ≡ cond before s None
reserve_again true after s h = cond-true after s None (h refl)
reserve_again false true s h = refl
reserve_again false false s h = refl

-- a curve that was filed stays, and a row's curve is one that is tidied and under the ceiling
module _ (d : Day) (c : Card) (b : Components) (D : DayParts d) where
  from : ℕ
  from = base c b

  needed : ℕ
  needed = need (mended_services c b)

  price : ℤ
  price = extension_price d c

  limit : ℤ
  limit = ceiling d c

  -- the ways to a row's curve
  abbrev Path : Option Curve → Type 0
  Path w = Reach from (top c) needed price (capped limit b.curve) w

  some_stays : (v : Option Curve) → is_some v ≡ true → is_some (capped limit v) ≡ true
  some_stays None h = h
  some_stays (Some v) h = refl

  curve_stays : (w : Option Curve) → Path w → is_some b.curve ≡ true → is_some w ≡ true
  curve_stays w p h = elim p [
    | enough e is ↦ ap is_some is ∙ some_stays b.curve h
    | made none below is ↦ ap is_some is
    | longer u some below last is ↦ ap is_some is
    | grown u some below last room is ↦ ap is_some is
  ]

  row : Option Curve → Components
  row w = remade b (mended_services c b) w

  energy_stays : (w : Option Curve) → Path w → has_energy b ≡ true → has_energy (row w) ≡ true
  unfolding row
  energy_stays w p h = elim (or_cases (is_some b.self_schedule) (is_some b.curve) h) [
    | inl e ↦ or_left (is_some b.self_schedule) (is_some w) e
    | inr e ↦ or_right (is_some b.self_schedule) (is_some w) (curve_stays w p e)
  ]

  services_stay : (w : Option Curve) → Path w → mended_services c (row w) ≡ mended_services c b
  unfolding row
  services_stay w p =
      let up = up_again (above_limit c b.self_schedule) (free b.hour c.up) c.up.award b.services.regulation_up in
      let down = regulated_again (free b.hour c.down) c.down.award b.services.regulation_down in
      let spin = reserve_again (has_energy b) (has_energy (row w)) b.services.spinning (energy_stays w p) in
      let non = reserve_again (has_energy b) (has_energy (row w)) b.services.non_spinning (energy_stays w p) in
      λ j. record { regulation_up = up j; regulation_down = down j; spinning = spin j; non_spinning = non j }

  capped-curve : (start : ℕ) (ss : List Step) → Under limit ss → capped limit (Some (curve_of start ss)) ≡ Some (curve_of start ss)
  capped-curve start ss u = ap (λ l. Some (curve_of start (map (capped_step limit) l))) (steps_packed start ss) ∙ ap (λ l. Some (curve_of start l)) (capped-under limit ss u)

  -- what the capped filing says of a curve that stands in it
  capped_is : (v : Option Curve) (u : Curve) → capped limit v ≡ Some u → (f : Curve) × (v ≡ Some f) × (u.start ≡ f.start) × (steps_of u ≡ map (capped_step limit) (steps_of f))
  capped_is None u e = absurd (let z : ◌≡◌ {A = ℕ} 0 1 = cc in omega arith)
  capped_is (Some f) u e =
      let is : curve_of f.start (map (capped_step limit) (steps_of f)) ≡ u = some_same e in
      (f, refl, sym (ap (λ v. v.start) is), sym (ap steps_of is) ∙ steps_packed f.start (map (capped_step limit) (steps_of f)))

  under_filing : (u : Curve) → capped limit b.curve ≡ Some u → Under limit (steps_of u)
  under_filing u e = let k = capped_is b.curve u e in subst (Under limit) (sym k.3) (under-capped limit (steps_of k.0))

  capped_again : (v : Option Curve) → capped limit (capped limit v) ≡ capped limit v
  capped_again None = refl
  capped_again (Some f) = capped-curve f.start (map (capped_step limit) (steps_of f)) (under-capped limit (steps_of f))

  capped_stays : (w : Option Curve) → Path w → capped limit w ≡ w
  unfolding limit price
  capped_stays w p = elim p [
    | enough e is ↦ ap (capped limit) is ∙ capped_again b.curve ∙ sym is
    | made none below is ↦ ap (capped limit) is ∙ capped-curve from (step (from + needed) price ∷ []) (extension_below d c D, tt) ∙ sym is
    | longer u some below last is ↦ ap (capped limit) is ∙ capped-curve u.start (lengthened (from + needed) (steps_of u)) (under-lengthened limit (from + needed) (steps_of u) (under_filing u some)) ∙ sym is
    | grown u some below last room is ↦ ap (capped limit) is ∙ capped-curve u.start (steps_of u ++ step (from + needed) price ∷ []) (under_grown limit (steps_of u) (step (from + needed) price) (under_filing u some) (extension_below d c D)) ∙ sym is
  ]

  -- the row's curve reaches the target
  module _ (held : optional_held curve_held b.curve ≡ true) where
    steps_some : (v : Option Curve) → optional_held curve_held v ≡ true → (u : Curve) → capped limit v ≡ Some u → 0 < length (steps_of u)
    steps_some v h u e =
        let k = capped_is v u e in
        let f = curve_fits k.0 (sym (ap (optional_held curve_held) k.1) ∙ h) in
        let one = leb-true 1 (length (steps_of k.0)) (and_parts (leb 1 (length (steps_of k.0))) (leb (length (steps_of k.0)) 10) f.1.0).0 in
        omega (arith, ap length k.3, length-map (steps_of k.0) (capped_step limit))

    end-reached : (w : Option Curve) → Path w → from + needed ≤ curve_end from w
    end-reached w p = elim p [
      | enough e is ↦ subst (λ v. from + needed ≤ curve_end from v) (sym is) e
      | made none below is ↦ (let e = ap (curve_end from) is ∙ ap (end_of from) (steps_packed from (step (from + needed) price ∷ [])) in omega arith)
      | longer u some below last is ↦ (
          let e = ap (curve_end from) is ∙ ap (end_of u.start) (steps_packed u.start (lengthened (from + needed) (steps_of u))) ∙ end-lengthened (from + needed) u.start (steps_of u) (steps_some b.curve held u some) in
          omega arith)
      | grown u some below last room is ↦ (
          let e = ap (curve_end from) is ∙ ap (end_of u.start) (steps_packed u.start (steps_of u ++ step (from + needed) price ∷ [])) ∙ end_grown u.start (steps_of u) (step (from + needed) price) in
          omega arith)
    ]

    fits_again : Within from (top c) needed → (leb 1 needed && ltb (top c) (from + needed)) ≡ false
    fits_again within = elim within [
      | inl e ↦ and_left (leb 1 needed) (ltb (top c) (from + needed)) (lt-leb 1 needed (omega arith))
      | inr e ↦ and_right (leb 1 needed) (ltb (top c) (from + needed)) (le-ltb (top c) (from + needed) e)
    ]

    reached_again : (w : Option Curve) → Within from (top c) needed → Path w → reached from (top c) needed price w ≡ Ok w
    reached_again w within p =
        cond-false (leb 1 needed && ltb (top c) (from + needed)) _ _ (fits_again within) ∙ cond-false (ltb (curve_end from w) (from + needed)) _ _ (le-ltb (curve_end from w) (from + needed) (end-reached w p))

    mended_again : (w : Option Curve) → Within from (top c) needed → Path w → mended d c (row w) ≡ Ok (row w)
    unfolding mended row from needed price limit
    mended_again w within p =
        ap (λ s. row_made (row w) s (reached (base c b) (top c) (need s) (extension_price d c) (capped (ceiling d c) w))) (services_stay w p)
        ∙ ap (λ v. row_made (row w) (mended_services c b) (reached (base c b) (top c) (need (mended_services c b)) (extension_price d c) v)) (capped_stays w p)
        ∙ ap (row_made (row w) (mended_services c b)) (reached_again w within p)

-- a service that passes
service_passes : (d : Day) (place certified : ℕ) (s : Service) → s.quantity ≤ certified → lt_z s.price (pos 0) ≡ false → lt_z d.service_cap s.price ≡ false
    → first_broken (service_checks d place certified (Some s)) ≡ Ok tt
service_passes d place certified s q low high = cond-false _ _ _ (or_from _ _ (or_from _ _ (le-ltb certified s.quantity q) low) high)

free_price : (d : Day) → DayParts d → lt_z d.service_cap (pos 0) ≡ false
free_price d D = grind (arith, ints, D.services)

regulated_passes : (d : Day) → DayParts d → (place certified spare award : ℕ) → spare ≤ certified → (s : Option Service) → first_broken (service_checks d place certified s) ≡ Ok tt → first_broken (service_checks d place certified (regulated spare award s)) ≡ Ok tt
regulated_passes d D place certified spare award fits None e = elim (cases_Bool (leb 1 award && leb 1 spare)) [
  | inl h ↦ ap (λ o. first_broken (service_checks d place certified o)) (cond-true (leb 1 award && leb 1 spare) _ _ h) ∙ service_passes d place certified (service spare (pos 0)) fits refl (free_price d D)
  | inr h ↦ ap (λ o. first_broken (service_checks d place certified o)) (cond-false (leb 1 award && leb 1 spare) _ _ h)
]
regulated_passes d D place certified spare award fits (Some s) e =
    let c₁ = check_passed _ _ _ e in
    let o₁ = or_parts (ltb certified s.quantity || lt_z s.price (pos 0)) (lt_z d.service_cap s.price) c₁.0 in
    let o₂ = or_parts (ltb certified s.quantity) (lt_z s.price (pos 0)) o₁.0 in
    elim (cases_Bool (leb 1 spare)) [
      | inl h ↦ ap (λ o. first_broken (service_checks d place certified o)) (cond-true (leb 1 spare) _ _ h) ∙ service_passes d place certified (service spare s.price) fits o₂.1 o₁.1
      | inr h ↦ ap (λ o. first_broken (service_checks d place certified o)) (cond-false (leb 1 spare) _ _ h)
    ]

either_passes : (d : Day) (place certified : ℕ) (t : Bool) (x y : Option Service) → first_broken (service_checks d place certified x) ≡ Ok tt → first_broken (service_checks d place certified y) ≡ Ok tt → first_broken (service_checks d place certified (cond t x y)) ≡ Ok tt
either_passes d place certified true x y h k = h
either_passes d place certified false x y h k = k

services_pass : (d : Day) (c : Card) (b : Components) → DayParts d → services_passed d c b.services ≡ Ok tt → services_passed d c (mended_services c b) ≡ Ok tt
services_pass d c b D e =
    let t₁ = turn_parts _ _ e in
    let t₂ = turn_parts _ _ t₁.1 in
    let t₃ = turn_parts _ _ t₂.1 in
    let up = either_passes d 1 c.up.certified (above_limit c b.self_schedule) None _ refl (regulated_passes d D 1 c.up.certified (free b.hour c.up) c.up.award (omega arith) b.services.regulation_up t₁.0) in
    let down = regulated_passes d D 2 c.down.certified (free b.hour c.down) c.down.award (omega arith) b.services.regulation_down t₂.0 in
    let spin = either_passes d 3 c.spinning (has_energy b) b.services.spinning None t₃.0 refl in
    let non = either_passes d 4 c.non_spinning (has_energy b) b.services.non_spinning None t₃.1 refl in
    turn_from _ _ up (turn_from _ _ down (turn_from _ _ spin non))

-- a price that is above the last step's is not below it, whatever the price before the first
above_last : (low p : ℤ) (ss : List Step) → lt_z p low ≡ false → le_z p (price_of p ss) ≡ false → lt_z p (price_of low ss) ≡ false
above_last low p [] h last = h
above_last low p (s ∷ ss) h last = not_under p (price_of s.price ss) last

-- a curve of steps that rise from the base passes
curve_passes : (from most : ℕ) (d : Day) (start : ℕ) (ss : List Step) → start ≡ from → Rising most d (step start d.floor) ss → first_broken (curve_checks from most d (Some (curve_of start ss))) ≡ Ok tt
curve_passes from most d start ss same r =
    cond-false (not (eqb start from)) _ _ (ap not (eq-eqb start from same))
    ∙ ap (λ l. first_broken (step_checks most d 1 (step start d.floor) l)) (steps_packed start ss) ∙ passes most d 1 (step start d.floor) ss r

curve_passed : (from most : ℕ) (d : Day) (f : Curve) → first_broken (curve_checks from most d (Some f)) ≡ Ok tt → (f.start ≡ from) × Rising most d (step f.start d.floor) (steps_of f)
curve_passed from most d f e =
    let c₁ = check_passed _ _ _ e in
    (eqb-true f.start from (not-false (eqb f.start from) c₁.0), rising most d 1 (step f.start d.floor) (steps_of f) c₁.1)

module _ (d : Day) (c : Card) (b : Components) (D : DayParts d) (passed : first_broken (curve_checks (base c b) (top c) d b.curve) ≡ Ok tt) where
  floor_stays : (start : ℕ) → capped_step (ceiling d c) (step start d.floor) ≡ step start d.floor
  floor_stays start = ap (step start) (cond-false (lt_z (ceiling d c) d.floor) _ _ (ceiling_above d c D))

  -- the capped filing rises from the base
  filing_rises : (u : Curve) → capped (ceiling d c) b.curve ≡ Some u → (u.start ≡ base c b) × Rising (top c) d (step u.start d.floor) (steps_of u)
  unfolding limit
  filing_rises u e =
      let k = capped_is d c b D b.curve u e in
      let f : Curve = k.0 in
      let p = curve_passed (base c b) (top c) d f (sym (ap (λ v. first_broken (curve_checks (base c b) (top c) d v)) k.1) ∙ passed) in
      let r : Rising (top c) d (capped_step (ceiling d c) (step f.start d.floor)) (map (capped_step (ceiling d c)) (steps_of f)) = rising_capped (top c) d (ceiling d c) (ceiling_above d c D) (step f.start d.floor) (steps_of f) p.1 in
      let r₁ : Rising (top c) d (step f.start d.floor) (map (capped_step (ceiling d c)) (steps_of f)) = subst (λ s. Rising (top c) d s (map (capped_step (ceiling d c)) (steps_of f))) (floor_stays f.start) r in
      let r₂ : Rising (top c) d (step u.start d.floor) (map (capped_step (ceiling d c)) (steps_of f)) = subst (λ n. Rising (top c) d (step n d.floor) (map (capped_step (ceiling d c)) (steps_of f))) (sym k.2) r₁ in
      (k.2 ∙ p.0, subst (Rising (top c) d (step u.start d.floor)) (sym k.3) r₂)

  -- where something has to be added, the target lies within the top
  target_within : (needed : ℕ) (u : Curve) → Within (base c b) (top c) needed → capped (ceiling d c) b.curve ≡ Some u → end_of u.start (steps_of u) < base c b + needed → base c b + needed ≤ top c
  target_within needed u within some below =
      let r = filing_rises u some in
      let least = rising_end (top c) d (step u.start d.floor) (steps_of u) r.1 in
      elim within [ inl e ↦ absurd (omega (arith, r.0)) | inr e ↦ e ]

  row_curve_passes : (needed : ℕ) (w : Option Curve) → Within (base c b) (top c) needed → Reach (base c b) (top c) needed (extension_price d c) (capped (ceiling d c) b.curve) w → first_broken (curve_checks (base c b) (top c) d w) ≡ Ok tt
  row_curve_passes needed w within p = elim p [
    | enough e is ↦ ap (λ v. first_broken (curve_checks (base c b) (top c) d v)) is ∙ capped_passes b.curve refl
    | made none below is ↦ (
        let room : base c b + needed ≤ top c = elim within [ inl e ↦ absurd (omega arith) | inr e ↦ e ] in
        ap (λ v. first_broken (curve_checks (base c b) (top c) d v)) is
        ∙ curve_passes (base c b) (top c) d (base c b) (step (base c b + needed) (extension_price d c) ∷ []) refl (record { above = below; within = room; rises = extension_above d c; floor = extension_above d c; cap = extension_capped d c D }, tt))
    | longer u some below last is ↦ (
        let r = filing_rises u some in
        ap (λ v. first_broken (curve_checks (base c b) (top c) d v)) is
        ∙ curve_passes (base c b) (top c) d u.start (lengthened (base c b + needed) (steps_of u)) r.0 (rising_lengthened (top c) d (base c b + needed) (target_within needed u within some below) (step u.start d.floor) (steps_of u) r.1 below))
    | grown u some below last room is ↦ (
        let r = filing_rises u some in
        let x : Step = step (base c b + needed) (extension_price d c) in
        ap (λ v. first_broken (curve_checks (base c b) (top c) d v)) is
        ∙ curve_passes (base c b) (top c) d u.start (steps_of u ++ x ∷ []) r.0 (rising_grown (top c) d x (target_within needed u within some below) (extension_above d c) (extension_capped d c D) (step u.start d.floor) (steps_of u) r.1 below (above_last d.floor (extension_price d c) (steps_of u) (extension_above d c) last)))
  ]
    where
      capped_passes : (v : Option Curve) → b.curve ≡ v → first_broken (curve_checks (base c b) (top c) d (capped (ceiling d c) v)) ≡ Ok tt
      capped_passes None e = refl
      capped_passes (Some f) e =
          let u : Curve = curve_of f.start (map (capped_step (ceiling d c)) (steps_of f)) in
          let r = filing_rises u (ap (capped (ceiling d c)) e) in
          curve_passes (base c b) (top c) d f.start (map (capped_step (ceiling d c)) (steps_of f)) r.0 (subst (Rising (top c) d (step f.start d.floor)) (steps_packed f.start (map (capped_step (ceiling d c)) (steps_of f))) r.1)

-- the row of a bid that passes passes too, and is its own row
pub row_settled : (coordinator : ℕ) (d : Day) (c : Card) (b r : Components) → day_kept d ≡ true → keeps b ≡ true → checks_passed coordinator d c b ≡ Ok tt → mended d c b ≡ Ok r
    → (checks_passed coordinator d c r ≡ Ok tt) × (mended d c r ≡ Ok r)
unfolding row from needed price limit
row_settled coordinator d c b r dk bk passed e =
    let D = day_parts d dk in
    let k = row_parts_lem d c b r e in
    let w : Option Curve = k.0 in
    let p = reach (base c b) (top c) (need (mended_services c b)) (extension_price d c) (capped (ceiling d c) b.curve) w k.2 in
    let t₁ = turn_parts (first_broken (filing_checks coordinator d c b)) _ passed in
    let t₂ = turn_parts (first_broken (self_schedule_checks c b.self_schedule)) _ t₁.1 in
    let t₃ = turn_parts (first_broken (curve_checks (base c b) (top c) d b.curve)) _ t₂.1 in
    let t₄ = turn_parts (services_passed d c b.services) _ t₃.1 in
    let curve = row_curve_passes d c b D t₃.0 (need (mended_services c b)) w p.0 p.1 in
    let again : checks_passed coordinator d c (remade b (mended_services c b) w) ≡ Ok tt =
    turn_from _ _ t₁.0 (turn_from _ _ t₂.0 (turn_from _ _ curve (turn_from _ _ (services_pass d c b D t₄.0) t₄.1))) in (
      ap (checks_passed coordinator d c) k.1 ∙ again,
      ap (mended d c) k.1 ∙ mended_again d c b D (parts b bk).curve w p.0 p.1 ∙ ap Ok (sym k.1),
    )
