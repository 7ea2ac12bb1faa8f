-- A mended row keeps what bids keep. Assumes nothing.
use Rattle.std.proofs.Common.{◌≡◌, ℕ, suc, ◌+◌, ◌<◌, ◌≤◌, Bool, true, false, cond, ◌&&◌, ltb, leb, ◌⊎◌, List, [], ◌∷◌, ◌++◌, map, length, ℤ, pos, Some, None, Ok, Err, Option, Result, unwrap_or, sym, refl, ap, ◌∙◌, inl, inr, arith}
use lib.Signed.{le_z}
use Rattle.std.proofs.lemmas.List.{length-map, length-append}
use Rattle.std.proofs.lemmas.Bool.{and_parts, and_from, le-leb, leb-true, leb-false, ltb-true, ltb-false, cond-true, cond-false, cases_Bool, and_cases}
use Rattle.std.specs.Int.{int_min}
use Rattle.register.specs.Kept.{day_kept, card_kept}
use Rattle.wire.specs.Reading.{is_quantity, is_price, is_count}
use Rattle.wire.specs.Rows.{packed, all_held, optional_held}
use Rattle.wire.specs.CountedRows.{packed_held, entries_held, entries_long, counts}
use Rattle.wire.specs.Steps.{ok_not_err, ok_same}
use Rattle.bid.specs.declared.components.Components.{Components}
use Rattle.bid.specs.declared.components.Curve.{Curve}
use Rattle.bid.specs.declared.components.Service.{Service}
use Rattle.bid.specs.declared.components.Services.{Services}
use Rattle.bid.specs.declared.components.Step.{Step}
use Rattle.bid.specs.Fields.{step, blank_step, is_blank_step, step_held, steps_held, curve_held, service_held, is_service_quantity, service}
use Rattle.bid.specs.Kept.{keeps, services_held}
use Rattle.bid.specs.FieldLaws.{step_blanks}
use Rattle.bid.proofs.RecordLaws.{parts, kept, services_held_lem}
use Rattle.faults.specs.declared.Fault.{Fault}
use Rattle.register.specs.declared.data.Card.{Card}
use Rattle.register.specs.declared.data.Day.{Day}
use Rattle.mending.specs.Mending.{capped, capped_step, curve_of, regulated, regulation_up, regulation_down, above_limit, has_energy, mended_services, lengthened, extended_steps, steps_made, curve_made, extended, reached, row_made, remade, mended, price_of}
use Rattle.checks.specs.Terms.{top, base, ceiling, extension_price, free, need, steps_of, end_of, curve_end}
use Rattle.rule_laws.proofs.Facts.{day_parts, CardParts, card_parts, min_price, ceiling_price, extension_price_lem}

-- a service of a quantity within limits
service_kept : (q : ℕ) (p : ℤ) → 1 ≤ q → q ≤ 10000000 → is_price p ≡ true → service_held (service q p) ≡ true
service_kept q p some most price = and_from (is_service_quantity q) (is_price p) (and_from (leb 1 q) (leb q 10000000) (le-leb 1 q some) (le-leb q 10000000 most)) price

regulated_kept : (spare award : ℕ) (s : Option Service) → spare ≤ 10000000 → optional_held service_held s ≡ true → optional_held service_held (regulated spare award s) ≡ true
regulated_kept spare award None most h = elim (cases_Bool (leb 1 award && leb 1 spare)) [
  | inl e ↦ ap (optional_held service_held) (cond-true (leb 1 award && leb 1 spare) _ _ e) ∙ service_kept spare (pos 0) (leb-true 1 spare (and_parts (leb 1 award) (leb 1 spare) e).1) most refl
  | inr e ↦ ap (optional_held service_held) (cond-false (leb 1 award && leb 1 spare) _ _ e)
]
regulated_kept spare award (Some s) most h = elim (cases_Bool (leb 1 spare)) [
  | inl e ↦ ap (optional_held service_held) (cond-true (leb 1 spare) _ _ e) ∙ service_kept spare s.price (leb-true 1 spare e) most (and_parts (is_service_quantity s.quantity) (is_price s.price) h).1
  | inr e ↦ ap (optional_held service_held) (cond-false (leb 1 spare) _ _ e)
]

either_kept : {A : Type 0} (test : Option A → Bool) (b : Bool) (x y : Option A) → test x ≡ true → test y ≡ true → test (cond b x y) ≡ true
either_kept test true x y h k = h
either_kept test false x y h k = k

pub services_kept : (c : Card) (b : Components) → CardParts c → services_held b.services ≡ true → services_held (mended_services c b) ≡ true
services_kept c b C h =
    let s = services_held_lem b.services h in
    let held : Option Service → Bool = optional_held service_held in
    let up : held (regulation_up c b) ≡ true = either_kept held (above_limit c b.self_schedule) None _ refl (regulated_kept (free b.hour c.up) c.up.award b.services.regulation_up (omega (arith, C.up, C.most)) s.0) in
    let down : held (regulation_down c b) ≡ true = regulated_kept (free b.hour c.down) c.down.award b.services.regulation_down (omega (arith, C.down, C.most)) s.1 in
    and_from _ _ (and_from _ _ (and_from _ _ up down) (either_kept held (has_energy b) b.services.spinning None s.2 refl)) (either_kept held (has_energy b) b.services.non_spinning None s.3 refl)

-- steps that are held, capped
capped_held : (limit : ℤ) → is_price limit ≡ true → (ss : List Step) → all_held step_held ss ≡ true → all_held step_held (map (capped_step limit) ss) ≡ true
capped_held limit p [] h = refl
capped_held limit p (s ∷ ss) h =
    let a = and_parts (step_held s) (all_held step_held ss) h in
    let q = and_parts (is_quantity s.end) (is_price s.price) a.0 in
    and_from _ _ (and_from (is_quantity s.end) (is_price (int_min s.price limit)) q.0 (min_price s.price limit q.1 p)) (capped_held limit p ss a.1)

lengthened_held : (target : ℕ) → is_quantity target ≡ true → (ss : List Step) → all_held step_held ss ≡ true → all_held step_held (lengthened target ss) ≡ true
lengthened_held target t [] h = refl
lengthened_held target t (s ∷ []) h =
    let a = and_parts (step_held s) true h in
    and_from _ _ (and_from (is_quantity target) (is_price s.price) t (and_parts (is_quantity s.end) (is_price s.price) a.0).1) refl
lengthened_held target t (s ∷ u ∷ ss) h =
    let a = and_parts (step_held s) (all_held step_held (u ∷ ss)) h in
    and_from _ _ a.0 (lengthened_held target t (u ∷ ss) a.1)

pub lengthened_long : (target : ℕ) (ss : List Step) → length (lengthened target ss) ≡ length ss
lengthened_long target [] = refl
lengthened_long target (s ∷ []) = refl
lengthened_long target (s ∷ u ∷ ss) = ap suc (lengthened_long target (u ∷ ss))

more_held : (ss : List Step) (x : Step) → all_held step_held ss ≡ true → step_held x ≡ true → all_held step_held (ss ++ x ∷ []) ≡ true
more_held [] x h k = and_from _ _ k refl
more_held (s ∷ ss) x h k = let a = and_parts (step_held s) (all_held step_held ss) h in and_from _ _ a.0 (more_held ss x a.1 k)

-- a curve of held steps, of which there are one to ten
abbrev pub CurveFits : List Step → Type 0
CurveFits ss = (is_count 10 (length ss) ≡ true) × (all_held step_held ss ≡ true)

pub curve_kept : (start : ℕ) (ss : List Step) → is_quantity start ≡ true → CurveFits ss → curve_held (curve_of start ss) ≡ true
curve_kept start ss q f = and_from (is_quantity start) (steps_held (packed blank_step 10 ss)) q (packed_held blank_step is_blank_step step_blanks refl step_held 10 ss f.0 f.1)

pub curve_fits : (v : Curve) → curve_held v ≡ true → (is_quantity v.start ≡ true) × CurveFits (steps_of v)
curve_fits v h =
    let a = and_parts (is_quantity v.start) (steps_held v.steps) h in
    (a.0, (ap (is_count 10) (entries_long blank_step is_blank_step step_blanks refl step_held v.steps a.1) ∙ counts blank_step is_blank_step step_blanks refl step_held v.steps a.1, entries_held blank_step is_blank_step step_blanks refl step_held v.steps a.1))

pub capped_kept : (limit : ℤ) → is_price limit ≡ true → (v : Option Curve) → optional_held curve_held v ≡ true → optional_held curve_held (capped limit v) ≡ true
capped_kept limit p None h = refl
capped_kept limit p (Some v) h =
    let f = curve_fits v h in
    curve_kept v.start (map (capped_step limit) (steps_of v)) f.0 (ap (is_count 10) (length-map (steps_of v) (capped_step limit)) ∙ f.1.0, capped_held limit p (steps_of v) f.1.1)

-- the ways in which a curve comes to reach its target
pub data Reach (from most needed : ℕ) (price : ℤ) (v w : Option Curve) : Type 0 where
  enough : from + needed ≤ curve_end from v → w ≡ v → Reach from most needed price v w
  made : v ≡ None → from < from + needed → w ≡ Some (curve_of from (step (from + needed) price ∷ [])) → Reach from most needed price v w
  longer : (u : Curve) → v ≡ Some u → end_of u.start (steps_of u) < from + needed → le_z price (price_of price (steps_of u)) ≡ true
      → w ≡ Some (curve_of u.start (lengthened (from + needed) (steps_of u))) → Reach from most needed price v w
  grown : (u : Curve) → v ≡ Some u → end_of u.start (steps_of u) < from + needed → le_z price (price_of price (steps_of u)) ≡ false → length (steps_of u) < 10
      → w ≡ Some (curve_of u.start (steps_of u ++ step (from + needed) price ∷ [])) → Reach from most needed price v w

-- a target lies within the top, unless nothing is needed
abbrev pub Within : ℕ → ℕ → ℕ → Type 0
Within from most needed = (needed ≡ 0) ⊎ (from + needed ≤ most)

within : (from most needed : ℕ) → (leb 1 needed && ltb most (from + needed)) ≡ false → Within from most needed
within from most needed h = elim (and_cases (leb 1 needed) (ltb most (from + needed)) h) [
  | inl e ↦ inl (omega (arith, leb-false 1 needed e))
  | inr e ↦ inr (ltb-false most (from + needed) e)
]

extended_reach : (from most needed : ℕ) (price : ℤ) (v w : Option Curve) → curve_end from v < from + needed → extended from (from + needed) price v ≡ Ok w → Reach from most needed price v w
extended_reach from most needed price None w below e = made refl below (sym (ok_same e))
extended_reach from most needed price (Some u) w below e =
    let ss : List Step = steps_of u in
    let target : ℕ = from + needed in
    elim (cases_Bool (le_z price (price_of price ss))) [
      | inl h ↦ longer u refl below h (sym (ok_same (sym (ap (λ r. curve_made u.start (steps_made r)) (cond-true (le_z price (price_of price ss)) _ _ h)) ∙ e)))
      | inr h ↦ (
          let step₁ : extended_steps target price ss ≡ _ = cond-false (le_z price (price_of price ss)) _ _ h in
          elim (cases_Bool (ltb (length ss) 10)) [
            | inl k ↦ grown u refl below h (ltb-true (length ss) 10 k) (sym (ok_same (sym (ap (λ r. curve_made u.start (steps_made r)) (step₁ ∙ cond-true (ltb (length ss) 10) _ _ k)) ∙ e)))
            | inr k ↦ absurd (ok_not_err _ _ (sym e ∙ ap (λ r. curve_made u.start (steps_made r)) (step₁ ∙ cond-false (ltb (length ss) 10) _ _ k)))
          ])
    ]

pub reach : (from most needed : ℕ) (price : ℤ) (v w : Option Curve) → reached from most needed price v ≡ Ok w → Within from most needed × Reach from most needed price v w
reach from most needed price v w e = elim (cases_Bool (leb 1 needed && ltb most (from + needed))) [
  | inl h ↦ absurd (ok_not_err _ _ (sym e ∙ cond-true (leb 1 needed && ltb most (from + needed)) _ _ h))
  | inr h ↦ (
      let e₁ = sym (cond-false (leb 1 needed && ltb most (from + needed)) _ _ h) ∙ e in (
        within from most needed h,
        elim (cases_Bool (ltb (curve_end from v) (from + needed))) [
          | inl k ↦ extended_reach from most needed price v w (ltb-true (curve_end from v) (from + needed) k) (sym (cond-true (ltb (curve_end from v) (from + needed)) _ _ k) ∙ e₁)
          | inr k ↦ enough (ltb-false (curve_end from v) (from + needed) k) (sym (ok_same (sym (cond-false (ltb (curve_end from v) (from + needed)) _ _ k) ∙ e₁)))
        ],
      ))
]

reach_kept : (from most needed : ℕ) (price : ℤ) (v w : Option Curve) → from ≤ 10000000 → most ≤ 10000000 → is_price price ≡ true → optional_held curve_held v ≡ true
    → Within from most needed → Reach from most needed price v w → optional_held curve_held w ≡ true
reach_kept from most needed price v w f m p h within r =
    let target : is_quantity (from + needed) ≡ true = le-leb (from + needed) 10000000 (elim within [ inl e ↦ omega arith | inr e ↦ omega arith ]) in
    let start : is_quantity from ≡ true = le-leb from 10000000 f in
    elim r [
      | enough e is ↦ ap (optional_held curve_held) is ∙ h
      | made none below is ↦ ap (optional_held curve_held) is ∙ curve_kept from (step (from + needed) price ∷ []) start (refl, and_from _ _ (and_from _ _ target p) refl)
      | longer u some below last is ↦ (
          let c = curve_fits u (sym (ap (optional_held curve_held) some) ∙ h) in
          ap (optional_held curve_held) is ∙ curve_kept u.start (lengthened (from + needed) (steps_of u)) c.0 (ap (is_count 10) (lengthened_long (from + needed) (steps_of u)) ∙ c.1.0, lengthened_held (from + needed) target (steps_of u) c.1.1))
      | grown u some below last room is ↦ (
          let c = curve_fits u (sym (ap (optional_held curve_held) some) ∙ h) in
          let x : Step = step (from + needed) price in
          let long : length (steps_of u ++ x ∷ []) ≡ length (steps_of u) + 1 = length-append (steps_of u) (x ∷ []) in
          ap (optional_held curve_held) is ∙ curve_kept u.start (steps_of u ++ x ∷ []) c.0
          (and_from (leb 1 (length (steps_of u ++ x ∷ []))) (leb (length (steps_of u ++ x ∷ [])) 10) (le-leb 1 (length (steps_of u ++ x ∷ [])) (omega arith)) (le-leb (length (steps_of u ++ x ∷ [])) 10 (omega arith)), more_held (steps_of u) x c.1.1 (and_from _ _ target p)))
    ]

row_of : (b : Components) (s : Services) (row : Components) (r : Result (Option Curve) Fault) → row_made b s r ≡ Ok row → (w : Option Curve) × (row ≡ remade b s w) × (r ≡ Ok w)
row_of b s row (Ok w) e = (w, sym (ok_same e), refl)
row_of b s row (Err f) e = absurd (ok_not_err _ _ (sym e))

-- a row is made of the filing, the mended services and a curve that reaches its target
pub row_parts_lem : (d : Day) (c : Card) (b row : Components) → mended d c b ≡ Ok row
    → (w : Option Curve) × (row ≡ remade b (mended_services c b) w) × (reached (base c b) (top c) (need (mended_services c b)) (extension_price d c) (capped (ceiling d c) b.curve) ≡ Ok w)
unfolding mended
row_parts_lem d c b row e = row_of b (mended_services c b) row (reached (base c b) (top c) (need (mended_services c b)) (extension_price d c) (capped (ceiling d c) b.curve)) e

base_small : (c : Card) (q : Option ℕ) → CardParts c → optional_held is_quantity q ≡ true → unwrap_or q c.pmin ≤ 10000000
base_small c None C h = omega (arith, C.least, C.most)
base_small c (Some q) C h = leb-true q 10000000 h

pub row_kept_lem : (d : Day) (c : Card) (b row : Components) → day_kept d ≡ true → card_kept c ≡ true → keeps b ≡ true → mended d c b ≡ Ok row → keeps row ≡ true
row_kept_lem d c b row dk ck bk e =
    let D = day_parts d dk in
    let C = card_parts c ck in
    let B = parts b bk in
    let r = row_parts_lem d c b row e in
    let w : Option Curve = r.0 in
    let limit = ceiling_price d c D C in
    let path = reach (base c b) (top c) (need (mended_services c b)) (extension_price d c) (capped (ceiling d c) b.curve) w r.2 in
    let curve = reach_kept (base c b) (top c) (need (mended_services c b)) (extension_price d c) (capped (ceiling d c) b.curve) w (base_small c b.self_schedule C B.self_schedule) C.most (extension_price_lem d c D C) (capped_kept (ceiling d c) limit b.curve B.curve) path.0 path.1 in
    ap keeps r.1 ∙ kept (remade b (mended_services c b) w) (record { resource = B.resource; hour = B.hour; self_schedule = B.self_schedule; curve = curve; services = services_kept c b C B.services; start_up = B.start_up; ramp = B.ramp })
