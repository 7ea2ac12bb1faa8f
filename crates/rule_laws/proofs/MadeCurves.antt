-- The curve that mending makes is the one said of the filing, and no other is. Assumes nothing.
use Rattle.std.proofs.Common.{◌≡◌, ℕ, suc, ◌+◌, ◌-◌, ◌<◌, ◌≤◌, min, Bool, true, false, leb, ◌≢◌, ◌⊎◌, List, [], ◌∷◌, ◌++◌, map, length, get_or, set, ℤ, ◌≤ℤ◌, Some, None, Option, sym, refl, ap, ◌∙◌, subst, inl, inr, arith}
use lib.Signed.{le_z}
use Rattle.std.proofs.lemmas.List.{length-map, length-append, get_or-map, get_or_append_left, get_or_push, get_or-set_same, get_or-set_other, ext_get_or}
use Rattle.std.proofs.lemmas.Int.{ints}
use Rattle.std.proofs.lemmas.Bool.{and_parts, both_ways, cases_Bool, cases_lt, leb-true}
use Rattle.std.specs.Int.{int_min}
use Rattle.wire.specs.Rows.{packed, optional_held}
use Rattle.wire.specs.CountedRows.{entries-packed}
use Rattle.bid.specs.declared.components.Components.{Components}
use Rattle.bid.specs.declared.components.Curve.{Curve}
use Rattle.bid.specs.declared.components.Step.{Step}
use Rattle.bid.specs.Fields.{step, blank_step, is_blank_step, curve_held}
use Rattle.bid.specs.FieldLaws.{step_blanks}
use Rattle.register.specs.declared.data.Card.{Card}
use Rattle.register.specs.declared.data.Day.{Day}
use Rattle.rule_laws.specs.Exactly.{step_at, remaining}
use Rattle.rule_laws.specs.Made.{LastPriceAtLeast, CurveStays, CurveLengthened, CurveGrown, CurveMade, CurvesMade}
use Rattle.mending.specs.Mending.{curve_of, capped_step, capped, price_of, lengthened}
use Rattle.checks.specs.Terms.{top, base, ceiling, extension_price, steps_of, end_of}
use Rattle.rule_laws.proofs.MadeServices.{some_same, some_not_none}
use Rattle.rule_laws.proofs.RowKept.{Reach, enough, made, longer, grown, lengthened_long, curve_fits}
use Rattle.mending.proofs.Steps.{price_last, lengthened_last}
use Rattle.mending.proofs.Tidied.{tidy_curve}

le_test : (a b : ℤ) → a ≤ℤ b → le_z a b ≡ true
le_test a b h = grind (arith, ints)

test_le : (a b : ℤ) → le_z a b ≡ true → a ≤ℤ b
test_le a b h = grind (arith, ints)

-- capped steps, place by place
capped_at : (limit : ℤ) (ss : List Step) (k : ℕ) → k < length ss → get_or (map (capped_step limit) ss) k blank_step ≡ capped_step limit (get_or ss k blank_step)
capped_at limit ss k h = get_or-map (capped_step limit) ss k blank_step blank_step h

capped-end : (limit : ℤ) (start : ℕ) (ss : List Step) → end_of start (map (capped_step limit) ss) ≡ end_of start ss
capped-end limit start [] = refl
capped-end limit start (s ∷ ss) = capped-end limit s.end ss

-- lengthened steps, place by place
lengthened-before : (target : ℕ) (ss : List Step) (k : ℕ) → suc k < length ss → get_or (lengthened target ss) k blank_step ≡ get_or ss k blank_step
lengthened-before target ss k h =
    let other : k ≢ length ss - 1 = omega arith in
    ap (λ l. get_or l k blank_step) (lengthened_last target ss (omega arith)) ∙ get_or-set_other ss (length ss - 1) k _ blank_step other

lengthened_at : (target : ℕ) (ss : List Step) (k : ℕ) → suc k ≡ length ss → get_or (lengthened target ss) k blank_step ≡ step target (get_or ss k blank_step).price
lengthened_at target ss k h =
    let e : k ≡ length ss - 1 = omega arith in
    let x : Step = step target (get_or ss (length ss - 1) blank_step).price in
    ap (λ l. get_or l k blank_step) (lengthened_last target ss (omega arith)) ∙ ap (λ i. get_or (set ss (length ss - 1) x) i blank_step) e
    ∙ get_or-set_same ss (length ss - 1) x blank_step (omega arith) ∙ ap (λ i. step target (get_or ss i blank_step).price) (sym e)

unpacked : (start : ℕ) (ss : List Step) → steps_of (curve_of start ss) ≡ ss
unpacked start ss = entries-packed blank_step is_blank_step step_blanks refl 10 ss

-- the ways to reach a target without a curve
none_reached : (from most needed : ℕ) (price : ℤ) (w : Option Curve) → Reach from most needed price None w → from + needed ≤ from → w ≡ None
none_reached from most needed price w r h = elim r [
  | enough e is ↦ is
  | made none below is ↦ absurd (omega arith)
  | longer u some below last is ↦ absurd (some_not_none u (sym some))
  | grown u some below last room is ↦ absurd (some_not_none u (sym some))
]

made_reached : (from most needed : ℕ) (price : ℤ) (w : Option Curve) → Reach from most needed price None w → from < from + needed → w ≡ Some (curve_of from (step (from + needed) price ∷ []))
made_reached from most needed price w r h = elim r [
  | enough e is ↦ absurd (omega arith)
  | made none below is ↦ is
  | longer u some below last is ↦ absurd (some_not_none u (sym some))
  | grown u some below last room is ↦ absurd (some_not_none u (sym some))
]

-- the ways to reach it with one
module _ (from most needed : ℕ) (price : ℤ) (start : ℕ) (ss : List Step) (w : Option Curve) (r : Reach from most needed price (Some (curve_of start ss)) w) where
  -- the curve that one of the ways speaks of is this one
  module _ (u : Curve) (some : ◌≡◌ {A = Option Curve} (Some (curve_of start ss)) (Some u)) where
    starts : u.start ≡ start
    starts = ap (λ x. x.start) (some_same (sym some))

    steps : steps_of u ≡ ss
    steps = ap steps_of (some_same (sym some)) ∙ unpacked start ss

    ends_below : end_of u.start (steps_of u) < from + needed → end_of start ss < from + needed
    ends_below = subst (λ k. k < from + needed) (ap (λ k. end_of k (steps_of u)) starts ∙ ap (end_of start) steps)

    with_steps : (f : List Step → List Step) → w ≡ Some (curve_of u.start (f (steps_of u))) → w ≡ Some (curve_of start (f ss))
    with_steps f is = is ∙ ap (λ k. Some (curve_of k (f (steps_of u)))) starts ∙ ap (λ l. Some (curve_of start (f l))) steps

    last_price : (t : Bool) → le_z price (price_of price (steps_of u)) ≡ t → le_z price (price_of price ss) ≡ t
    last_price t h = ap (λ l. le_z price (price_of price l)) (sym steps) ∙ h

  by_ways : {P : Type 0} → (from + needed ≤ end_of start ss → w ≡ Some (curve_of start ss) → P)
      → (end_of start ss < from + needed → le_z price (price_of price ss) ≡ true → w ≡ Some (curve_of start (lengthened (from + needed) ss)) → P)
      → (end_of start ss < from + needed → le_z price (price_of price ss) ≡ false → w ≡ Some (curve_of start (ss ++ step (from + needed) price ∷ [])) → P) → P
  by_ways same long more = elim r [
    | enough e is ↦ same (subst (λ l. from + needed ≤ end_of start l) (unpacked start ss) e) is
    | made none below is ↦ absurd (some_not_none (curve_of start ss) none)
    | longer u some below last is ↦ long (ends_below u some below) (last_price u some true last) (with_steps u some (lengthened (from + needed)) is)
    | grown u some below last room is ↦ more (ends_below u some below) (last_price u some false last) (with_steps u some (λ l. l ++ step (from + needed) price ∷ []) is)
  ]

  stays_reached : from + needed ≤ end_of start ss → w ≡ Some (curve_of start ss)
  stays_reached h = by_ways (λ e is. is) (λ below t is. absurd (omega arith)) (λ below t is. absurd (omega arith))

  longer_reached : end_of start ss < from + needed → le_z price (price_of price ss) ≡ true → w ≡ Some (curve_of start (lengthened (from + needed) ss))
  longer_reached h k = by_ways (λ e is. absurd (omega arith)) (λ below t is. is) (λ below t is. absurd (both_ways (le_z price (price_of price ss)) t k))

  grown_reached : end_of start ss < from + needed → le_z price (price_of price ss) ≡ false → w ≡ Some (curve_of start (ss ++ step (from + needed) price ∷ []))
  grown_reached h k = by_ways (λ e is. absurd (omega arith)) (λ below t is. absurd (both_ways (le_z price (price_of price ss)) k t)) (λ below t is. is)

-- what is said of a curve, from its list of steps
module _ (d : Day) (c : Card) (v : Curve) where
  filed : List Step
  filed = map (capped_step (ceiling d c)) (steps_of v)

  filed_long : length filed ≡ length (steps_of v)
  unfolding filed
  filed_long = length-map (steps_of v) (capped_step (ceiling d c))

  filed_at : (k : ℕ) → k < length (steps_of v) → get_or filed k blank_step ≡ step (step_at v k).end (int_min (step_at v k).price (ceiling d c))
  unfolding filed
  filed_at k h = capped_at (ceiling d c) (steps_of v) k h

  filed_end : end_of v.start filed ≡ end_of v.start (steps_of v)
  unfolding filed
  filed_end = capped-end (ceiling d c) v.start (steps_of v)

  stays_so : (w : Curve) → w.start ≡ v.start → steps_of w ≡ filed → CurveStays d c v w
  stays_so w starts steps = record {
    start = starts;
    count = ap length steps ∙ filed_long;
    ends = λ k h. ap (λ l. (get_or l k blank_step).end) steps ∙ ap (λ s. s.end) (filed_at k h);
    prices = λ k h. ap (λ l. (get_or l k blank_step).price) steps ∙ ap (λ s. s.price) (filed_at k h);
  }

  lengthened_so : (target : ℕ) (w : Curve) → w.start ≡ v.start → steps_of w ≡ lengthened target filed → CurveLengthened d c target v w
  lengthened_so target w starts steps =
      let before : (k : ℕ) → suc k < length (steps_of v) → step_at w k ≡ step (step_at v k).end (int_min (step_at v k).price (ceiling d c)) =
      λ k h. ap (λ l. get_or l k blank_step) steps ∙ lengthened-before target filed k (omega (arith, filed_long)) ∙ filed_at k (omega arith) in
      let here : (k : ℕ) → suc k ≡ length (steps_of v) → step_at w k ≡ step target (int_min (step_at v k).price (ceiling d c)) =
      λ k h. ap (λ l. get_or l k blank_step) steps ∙ lengthened_at target filed k (h ∙ sym filed_long) ∙ ap (λ s. step target s.price) (filed_at k (omega arith)) in
      record {
        start = starts;
        count = ap length steps ∙ lengthened_long target filed ∙ filed_long;
        ends = λ k h. ap (λ s. s.end) (before k h);
        last = λ k h. ap (λ s. s.end) (here k h);
        prices = λ k h. elim (cases_lt (suc k) (length (steps_of v))) [ inl l ↦ ap (λ s. s.price) (before k l) | inr l ↦ ap (λ s. s.price) (here k (omega arith)) ];
      }

  grown_so : (target : ℕ) (w : Curve) → w.start ≡ v.start → steps_of w ≡ filed ++ step target (extension_price d c) ∷ [] → CurveGrown d c target v w
  grown_so target w starts steps =
      let x : Step = step target (extension_price d c) in
      let before : (k : ℕ) → k < length (steps_of v) → step_at w k ≡ step (step_at v k).end (int_min (step_at v k).price (ceiling d c)) =
      λ k h. ap (λ l. get_or l k blank_step) steps ∙ get_or_append_left filed (x ∷ []) blank_step k (omega (arith, filed_long)) ∙ filed_at k h in
      record {
        start = starts;
        count = ap length steps ∙ length-append filed (x ∷ []) ∙ ap (λ k. k + 1) filed_long;
        ends = λ k h. ap (λ s. s.end) (before k h);
        prices = λ k h. ap (λ s. s.price) (before k h);
        added = ap (λ l. get_or l (length (steps_of v)) blank_step) steps ∙ get_or_push filed x blank_step (length (steps_of v)) filed_long;
      }

  -- the last filed price, as mending tests it
  last_filed : (p : ℤ) (k : ℕ) → length (steps_of v) ≡ suc k → price_of p filed ≡ int_min (step_at v k).price (ceiling d c)
  last_filed p k e =
      let i : length filed - 1 ≡ k = omega (arith, filed_long) in
      price_last p filed (omega (arith, filed_long)) ∙ ap (λ j. (get_or filed j blank_step).price) i ∙ ap (λ s. s.price) (filed_at k (omega arith))

  at_least : LastPriceAtLeast d c v → 0 < length (steps_of v) → le_z (extension_price d c) (price_of (extension_price d c) filed) ≡ true
  at_least h some =
      let k : ℕ = length (steps_of v) - 1 in
      let e : length (steps_of v) ≡ suc k = omega arith in
      ap (le_z (extension_price d c)) (last_filed (extension_price d c) k e) ∙ le_test (extension_price d c) (int_min (step_at v k).price (ceiling d c)) (h k e)

  least_at : le_z (extension_price d c) (price_of (extension_price d c) filed) ≡ true → LastPriceAtLeast d c v
  least_at h k e = test_le (extension_price d c) (int_min (step_at v k).price (ceiling d c)) (sym (ap (le_z (extension_price d c)) (last_filed (extension_price d c) k e)) ∙ h)

some_steps : (v : Curve) → curve_held v ≡ true → 0 < length (steps_of v)
some_steps v h = leb-true 1 (length (steps_of v)) (and_parts (leb 1 (length (steps_of v))) (leb (length (steps_of v)) (min 10 255)) (curve_fits v h).1.0).0

-- a curve that reaches its target is the one said of the filing
pub curves_made : (d : Day) (c : Card) (b row : Components) → optional_held curve_held b.curve ≡ true
    → Reach (base c b) (top c) (remaining b) (extension_price d c) (capped (ceiling d c) b.curve) row.curve → CurvesMade d c b row
unfolding filed
curves_made d c b row held r =
    let from : ℕ = base c b in
    let needed : ℕ = remaining b in
    let price : ℤ = extension_price d c in
    let at : (o : Option Curve) → b.curve ≡ o → Reach from (top c) needed price (capped (ceiling d c) o) row.curve = λ o e. subst (λ x. Reach from (top c) needed price (capped (ceiling d c) x) row.curve) e r in
    let below : (v : Curve) → end_of v.start (steps_of v) < from + needed → end_of v.start (filed d c v) < from + needed = λ v h. omega (arith, filed_end d c v) in
    record {
      none = λ e h. none_reached from (top c) needed price row.curve (at None e) h;
      made = λ e h.
          (curve_of from (step (from + needed) price ∷ []), made_reached from (top c) needed price row.curve (at None e) h, record { start = refl; steps = unpacked from (step (from + needed) price ∷ []) });
      stays = λ v e h. (
        curve_of v.start (filed d c v),
        stays_reached from (top c) needed price v.start (filed d c v) row.curve (at (Some v) e) (omega (arith, filed_end d c v)),
        stays_so d c v (curve_of v.start (filed d c v)) refl (unpacked v.start (filed d c v)),
      );
      lengthened = λ v e h last.
          (let ss : List Step = lengthened (from + needed) (filed d c v) in
          let some : 0 < length (steps_of v) = some_steps v (sym (ap (optional_held curve_held) e) ∙ held) in (
            curve_of v.start ss,
            longer_reached from (top c) needed price v.start (filed d c v) row.curve (at (Some v) e) (below v h) (at_least d c v last some),
            lengthened_so d c v (from + needed) (curve_of v.start ss) refl (unpacked v.start ss),
          ));
      grown = λ v e h last.
          (let ss : List Step = filed d c v ++ step (from + needed) price ∷ [] in
          let less : le_z price (price_of price (filed d c v)) ≡ false = elim (cases_Bool (le_z price (price_of price (filed d c v)))) [ inl t ↦ absurd (last (least_at d c v t)) | inr t ↦ t ] in (
            curve_of v.start ss,
            grown_reached from (top c) needed price v.start (filed d c v) row.curve (at (Some v) e) (below v h) less,
            grown_so d c v (from + needed) (curve_of v.start ss) refl (unpacked v.start ss),
          ));
    }

-- kept curves with one start and the same steps are the same
pub same_curve : (w w' : Curve) → curve_held w ≡ true → curve_held w' ≡ true → w.start ≡ w'.start → steps_of w ≡ steps_of w' → w ≡ w'
same_curve w w' h h' starts steps =
    let all : w.steps ≡ w'.steps = (tidy_curve (Some w) h).1 ∙ ap (packed blank_step 10) steps ∙ sym (tidy_curve (Some w') h').1 in
    λ j. record { start = starts j; steps = all j }

pub same_step : (s t : Step) → s.end ≡ t.end → s.price ≡ t.price → s ≡ t
same_step s t e p = λ j. record { end = e j; price = p j }

module _ (d : Day) (c : Card) (v w w' : Curve) (held : curve_held w ≡ true) (held' : curve_held w' ≡ true) where
  one_stays : CurveStays d c v w → CurveStays d c v w' → w ≡ w'
  one_stays s t = same_curve w w' held held' (s.start ∙ sym t.start) (ext_get_or blank_step (steps_of w) (steps_of w') (s.count ∙ sym t.count)
      (λ k h. let l : k < length (steps_of v) = omega (arith, s.count) in same_step _ _ (s.ends k l ∙ sym (t.ends k l)) (s.prices k l ∙ sym (t.prices k l))))

  one_lengthened : (target : ℕ) → CurveLengthened d c target v w → CurveLengthened d c target v w' → w ≡ w'
  one_lengthened target s t = same_curve w w' held held' (s.start ∙ sym t.start) (ext_get_or blank_step (steps_of w) (steps_of w') (s.count ∙ sym t.count)
      (λ k h.
      let l : k < length (steps_of v) = omega (arith, s.count) in
      let e : (step_at w k).end ≡ (step_at w' k).end = elim (cases_lt (suc k) (length (steps_of v))) [
        | inl m ↦ s.ends k m ∙ sym (t.ends k m)
        | inr m ↦ (let is : suc k ≡ length (steps_of v) = omega arith in s.last k is ∙ sym (t.last k is))
      ] in
      same_step _ _ e (s.prices k l ∙ sym (t.prices k l))))

  one_grown : (target : ℕ) → CurveGrown d c target v w → CurveGrown d c target v w' → w ≡ w'
  one_grown target s t = same_curve w w' held held' (s.start ∙ sym t.start) (ext_get_or blank_step (steps_of w) (steps_of w') (s.count ∙ sym t.count)
      (λ k h. elim (cases_lt k (length (steps_of v))) [
        | inl l ↦ same_step _ _ (s.ends k l ∙ sym (t.ends k l)) (s.prices k l ∙ sym (t.prices k l))
        | inr m ↦ (
            let is : k ≡ length (steps_of v) = omega (arith, s.count) in
            ap (step_at w) is ∙ s.added ∙ sym t.added ∙ ap (step_at w') (sym is))
      ]))

-- the last price is at least the extension price, or not
cases_last : (d : Day) (c : Card) (v : Curve) → LastPriceAtLeast d c v ⊎ (LastPriceAtLeast d c v → ⊥)
cases_last d c v = elim (cases_Bool (le_z (extension_price d c) (price_of (extension_price d c) (filed d c v)))) [
  | inl t ↦ inl (least_at d c v t)
  | inr t ↦ elim (cases_lt 0 (length (steps_of v))) [
    | inl some ↦ inr (λ h. both_ways (le_z (extension_price d c) (price_of (extension_price d c) (filed d c v))) t (at_least d c v h some))
    | inr none ↦ inl (λ k e. absurd (omega arith))
  ]
]

-- two curves that the row has
join : (row row' : Components) → optional_held curve_held row.curve ≡ true → optional_held curve_held row'.curve ≡ true → (P : Curve → Type 0)
    → ((w w' : Curve) → curve_held w ≡ true → curve_held w' ≡ true → P w → P w' → w ≡ w')
    → ((w : Curve) × (row.curve ≡ Some w) × P w) → ((w : Curve) × (row'.curve ≡ Some w) × P w) → row.curve ≡ row'.curve
join row row' h h' P one x y =
    x.1 ∙ ap Some (one x.0 y.0 (sym (ap (optional_held curve_held) x.1) ∙ h) (sym (ap (optional_held curve_held) y.1) ∙ h') x.2 y.2) ∙ sym y.1

one_curve_of : (d : Day) (c : Card) (b row row' : Components) (filing : Option Curve) → b.curve ≡ filing → optional_held curve_held row.curve ≡ true → optional_held curve_held row'.curve ≡ true
    → CurvesMade d c b row → CurvesMade d c b row' → row.curve ≡ row'.curve
one_curve_of d c b row row' None e h h' m m' = elim (cases_lt (base c b) (base c b + remaining b)) [
  | inl l ↦ join row row' h h' (CurveMade d c (base c b) (base c b + remaining b)) (λ w w' k k' p q. same_curve w w' k k' (p.start ∙ sym q.start) (p.steps ∙ sym q.steps)) (m.made e l) (m'.made e l)
  | inr l ↦ m.none e l ∙ sym (m'.none e l)
]
one_curve_of d c b row row' (Some v) e h h' m m' =
    let target : ℕ = base c b + remaining b in
    elim (cases_lt (end_of v.start (steps_of v)) target) [
      | inl l ↦ elim (cases_last d c v) [
        | inl p ↦ join row row' h h' (CurveLengthened d c target v) (λ w w' k k'. one_lengthened d c v w w' k k' target) (m.lengthened v e l p) (m'.lengthened v e l p)
        | inr p ↦ join row row' h h' (CurveGrown d c target v) (λ w w' k k'. one_grown d c v w w' k k' target) (m.grown v e l p) (m'.grown v e l p)
      ]
      | inr l ↦ join row row' h h' (CurveStays d c v) (λ w w' k k'. one_stays d c v w w' k k') (m.stays v e l) (m'.stays v e l)
    ]

pub one_curve : (d : Day) (c : Card) (b row row' : Components) → optional_held curve_held row.curve ≡ true → optional_held curve_held row'.curve ≡ true
    → CurvesMade d c b row → CurvesMade d c b row' → row.curve ≡ row'.curve
one_curve d c b row row' = one_curve_of d c b row row' b.curve refl
