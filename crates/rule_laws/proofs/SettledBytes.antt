-- A granted row, judged again, comes out in the same bytes with no marks. Assumes nothing.
use Rattle.std.proofs.Common.{◌≡◌, ℕ, ◌≤◌, true, false, cond, eqb, leb, List, [], ◌∷◌, ◌++◌, length, take, drop, ℤ, pos, negsuc, Some, None, Ok, Err, Option, Result, sym, refl, ap, ◌∙◌, subst, inl, inr, arith}
use Rattle.std.proofs.lemmas.List.{take_at}
use Rattle.std.proofs.lemmas.Bool.{and_from, eq-eqb, cases_Bool, cond-true, cond-false, le-leb, ltb-true}
use Rattle.faults.specs.Answers.{answer_of}
use Rattle.faults.specs.declared.Fault.{Fault}
use Rattle.faults.specs.declared.Fault.TheVariants.{Record, Register, Rule, Window}
use Rattle.wire.specs.Bytes.{Bytes}
use Rattle.wire.specs.Writing.{too_short}
use Rattle.wire.specs.Steps.{ok_not_err}
use Rattle.bid.specs.declared.components.Components.{Components}
use Rattle.bid.specs.declared.components.Curve.{Curve}
use Rattle.bid.specs.declared.components.Service.{Service}
use Rattle.bid.specs.declared.components.Step.{Step}
use Rattle.bid.specs.Kept.{keeps}
use Rattle.bid.specs.Record.{record_read, record_bytes, record_written}
use Rattle.bid.proofs.RecordLaws.{record_whole, reads_records, parts}
use Rattle.faults.specs.declared.WindowFault.TheVariants.{NoCoordinator}
use Rattle.register.specs.declared.data.Card.{Card}
use Rattle.register.specs.Meaning.{Meaning, Keeps}
use Rattle.checks.specs.Checks.{Passed, first_broken, checks}
use Rattle.rule_laws.specs.Judging.{after_checks, ruled_by, ruled, marked, denied, wrote, row_written, read_judged, judged, Verdict}
use Rattle.mending.specs.Marks.{same_price, same_service, same_prices, same_ends, same_quantities, curve_prices, mark, marks}
use Rattle.mending.specs.Mending.{mended}
use Rattle.rule_laws.specs.Settled.{Settled, SameMeaning, OnlyMeaning}
use Rattle.checks.specs.Terms.{steps_of}
use Rattle.checks.proofs.Broken.{checks_passed_lem}
use Rattle.rule_laws.proofs.RowKept.{row_kept_lem, row_parts_lem}
use Rattle.rule_laws.proofs.SettledRow.{row_settled}

-- a bid differs nowhere from itself
pub price_same : (z : ℤ) → same_price z z ≡ true
price_same (pos n) = eq-eqb n n refl
price_same (negsuc n) = eq-eqb n n refl

pub service_same : (s : Option Service) → same_service s s ≡ true
service_same None = refl
service_same (Some s) = and_from _ _ (eq-eqb s.quantity s.quantity refl) (price_same s.price)

prices_same : (ss : List Step) → same_prices ss ss ≡ true
prices_same [] = refl
prices_same (s ∷ ss) = and_from _ _ (price_same s.price) (prices_same ss)

ends_same : (ss : List Step) → same_ends ss ss ≡ true
ends_same [] = refl
ends_same (s ∷ ss) = and_from _ _ (eq-eqb s.end s.end refl) (ends_same ss)

curve_prices_same : (v : Option Curve) → curve_prices v v ≡ true
curve_prices_same None = refl
curve_prices_same (Some v) = prices_same (steps_of v)

quantities_same : (v : Option Curve) → same_quantities v v ≡ true
quantities_same None = refl
quantities_same (Some v) = and_from _ _ (eq-eqb v.start v.start refl) (ends_same (steps_of v))

pub marks_same : (b : Components) → marks b b ≡ 0
unfolding marks
marks_same b =
    let m₁ = ap (mark 1) (curve_prices_same b.curve) in
    let m₂ = ap (mark 2) (quantities_same b.curve) in
    let m₃ = ap (mark 4) (service_same b.services.spinning) in
    let m₄ = ap (mark 8) (service_same b.services.non_spinning) in
    let m₅ = ap (mark 16) (service_same b.services.regulation_up) in
    let m₆ = ap (mark 32) (service_same b.services.regulation_down) in
    omega arith

pub after_ok : (p : Passed) (r : Result Components Fault) (row : Components) → after_checks p r ≡ Ok row → (p ≡ Ok tt) × (r ≡ Ok row)
after_ok (Ok x) r row e = (refl, e)
after_ok (Err f) r row e = absurd (ok_not_err _ _ (sym e))

-- the rules make the row of a row itself
settled_by : (coordinator : ℕ) (m : Meaning) (b row : Components) → Keeps m → keeps b ≡ true → (o : Option Card) → m.cards b.resource ≡ o → ruled_by coordinator m b o ≡ Ok row
    → (keeps row ≡ true) × (ruled_by coordinator m row o ≡ Ok row) × (row.resource ≡ b.resource)
settled_by coordinator m b row K bk None is e = absurd (ok_not_err _ _ (sym e))
settled_by coordinator m b row K bk (Some c) is e =
    let a = after_ok _ _ row e in
    let s = row_settled coordinator m.day c b row K.day bk (sym (checks_passed_lem coordinator m.day c b) ∙ a.0) a.1 in
    let k = row_parts_lem m.day c b row a.1 in (
      row_kept_lem m.day c b row K.day (K.cards b.resource c is).card bk a.1,
      ap (λ p. after_checks p (mended m.day c row)) (checks_passed_lem coordinator m.day c row ∙ s.0) ∙ s.1,
      ap (λ r. r.resource) k.1,
    )

pub ruled_settled : (coordinator : ℕ) (m : Meaning) (b row : Components) → Keeps m → keeps b ≡ true → ruled coordinator m b ≡ Ok row → (keeps row ≡ true) × (ruled coordinator m row ≡ Ok row)
unfolding ruled
ruled_settled coordinator m b row K bk e =
    let s = settled_by coordinator m b row K bk (m.cards b.resource) refl e in
    (s.0, ap (λ n. ruled_by coordinator m row (m.cards n)) s.2 ∙ s.1)

-- what is denied is not granted
layer_some : (f : Fault) → (answer_of f).layer ≡ 0 → ⊥
layer_some (Record f p) e = omega arith
layer_some (Register f p) e = omega arith
layer_some (Rule f p) e = omega arith
layer_some (Window f p) e = omega arith

not_granted : (f : Fault) (k n : ℕ) (after out : List ℕ) → ◌≡◌ {A = Verdict × List ℕ} (denied f, out) ((0, 0, 0, k, n), after) → ⊥
not_granted f k n after out e = layer_some f (ap (λ v. v.0.1) e)

written_is : (row : Components) (out : List ℕ) → length (record_bytes row) ≤ length out → record_written row out ≡ (Ok (length (record_bytes row)), record_bytes row ++ drop (length (record_bytes row)) out)
unfolding record_written
written_is row out room = cond-true (leb (length (record_bytes row)) (length out)) _ _ (le-leb (length (record_bytes row)) (length out) room)

-- a granted row was written whole
written_whole : (stood k n : ℕ) (row : Components) (out after : List ℕ) → wrote stood (record_written row out).0 (record_written row out).1 ≡ ((0, 0, 0, k, n), after)
    → (n ≡ length (record_bytes row)) × (take n after ≡ record_bytes row)
unfolding record_written
written_whole stood k n row out after e = elim (cases_Bool (leb (length (record_bytes row)) (length out))) [
  | inl h ↦ (
      let w : record_written row out ≡ (Ok (length (record_bytes row)), record_bytes row ++ drop (length (record_bytes row)) out) = cond-true (leb (length (record_bytes row)) (length out)) _ _ h in
      let g = sym (ap (λ x. wrote stood x.0 x.1) w) ∙ e in
      let long : n ≡ length (record_bytes row) = sym (ap (λ v. v.0.4) g) in
      (long, ap (take n) (sym (ap (λ v. v.1) g)) ∙ take_at (record_bytes row) (drop (length (record_bytes row)) out) n (sym long)))
  | inr h ↦ (
      let w : record_written row out ≡ (Err too_short, out) = cond-false (leb (length (record_bytes row)) (length out)) _ _ h in
      absurd (not_granted too_short k n after out (sym (ap (λ x. wrote stood x.0 x.1) w) ∙ e)))
]

-- a settled row is judged into its own bytes
row_again : (coordinator : ℕ) (m : Meaning) (row : Components) → eqb coordinator 0 ≡ false → keeps row ≡ true → ruled coordinator m row ≡ Ok row → (again : List ℕ) → length (record_bytes row) ≤ length again
    → judged coordinator m (record_bytes row) again ≡ ((0, 0, 0, 0, length (record_bytes row)), record_bytes row ++ drop (length (record_bytes row)) again)
unfolding judged
row_again coordinator m row some kept is again room =
    cond-false (eqb coordinator 0) _ _ some ∙ ap (λ r. read_judged coordinator m r again) (record_whole row kept) ∙ ap (λ r. row_written (marked row r) again) is
    ∙ ap (λ k. row_written (Ok (row, k)) again) (marks_same row) ∙ ap (λ w. wrote 0 w.0 w.1) (written_is row again room)

module _ (coordinator : ℕ) (m : Meaning) (K : Keeps m) (some : eqb coordinator 0 ≡ false) (k n : ℕ) (after : List ℕ) (again : List ℕ) (room : n ≤ length again) where
  settled_ruled : (b : Components) → keeps b ≡ true → (out : List ℕ) (r : Result Components Fault) → ruled coordinator m b ≡ r → row_written (marked b r) out ≡ ((0, 0, 0, k, n), after)
      → judged coordinator m (take n after) again ≡ ((0, 0, 0, 0, n), take n after ++ drop n again)
  settled_ruled b bk out (Err f) is e = absurd (not_granted f k n after out e)
  settled_ruled b bk out (Ok row) is e =
      let w = written_whole (marks b row) k n row out after e in
      let s = ruled_settled coordinator m b row K bk is in
      let fits : length (record_bytes row) ≤ length again = subst (λ x. x ≤ length again) w.0 room in
      ap (λ l. judged coordinator m l again) w.1 ∙ row_again coordinator m row some s.0 s.1 again fits
      ∙ (λ j. ((0, 0, 0, 0, sym w.0 j), sym w.1 j ++ drop (sym w.0 j) again))

  settled_read : (bytes out : List ℕ) → Bytes bytes → (r : Result Components Fault) → record_read bytes ≡ r → read_judged coordinator m r out ≡ ((0, 0, 0, k, n), after)
      → judged coordinator m (take n after) again ≡ ((0, 0, 0, 0, n), take n after ++ drop n again)
  settled_read bytes out all (Err f) is e = absurd (not_granted f k n after out e)
  settled_read bytes out all (Ok b) is e = settled_ruled b ((reads_records bytes all b).0 is).0 out (ruled coordinator m b) refl e

pub settled : (coordinator : ℕ) (m : Meaning) (bytes out : List ℕ) → Keeps m → Bytes bytes → Settled coordinator m bytes out
unfolding judged
settled coordinator m bytes out K all k n after e again room = elim (cases_Bool (eqb coordinator 0)) [
  | inl h ↦ absurd (not_granted (Window NoCoordinator 0) k n after out (sym (cond-true (eqb coordinator 0) _ _ h) ∙ e))
  | inr h ↦ settled_read coordinator m K h k n after again room bytes out all (record_read bytes) refl (sym (cond-false (eqb coordinator 0) _ _ h) ∙ e)
]

-- only the meaning counts
same_ruled : (coordinator : ℕ) (m n : Meaning) → SameMeaning m n → (b : Components) → keeps b ≡ true → ruled coordinator m b ≡ ruled coordinator n b
unfolding ruled
same_ruled coordinator m n same b bk =
    ap (ruled_by coordinator m b) (same.cards b.resource (ltb-true b.resource 65536 (parts b bk).resource)) ∙ by_day (n.cards b.resource)
  where
    by_day : (o : Option Card) → ruled_by coordinator m b o ≡ ruled_by coordinator n b o
    by_day None = refl
    by_day (Some c) = ap (λ d. after_checks (first_broken (checks coordinator d c b)) (mended d c b)) same.day

same_read : (coordinator : ℕ) (m n : Meaning) → SameMeaning m n → (bytes out : List ℕ) → Bytes bytes → (r : Result Components Fault) → record_read bytes ≡ r → read_judged coordinator m r out ≡ read_judged coordinator n r out
same_read coordinator m n same bytes out all (Err f) is = refl
same_read coordinator m n same bytes out all (Ok b) is = ap (λ r. row_written (marked b r) out) (same_ruled coordinator m n same b ((reads_records bytes all b).0 is).0)

pub only_meaning : (coordinator : ℕ) (m : Meaning) (bytes out : List ℕ) → Bytes bytes → OnlyMeaning coordinator m bytes out
unfolding judged
only_meaning coordinator m bytes out all n same = ap (cond (eqb coordinator 0) (denied (Window NoCoordinator 0), out)) (same_read coordinator m n same bytes out all (record_read bytes) refl)
