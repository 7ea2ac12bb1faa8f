-- Pairs beside those of the card, one pair after another. Assumes nothing.
use Rattle.std.proofs.Common.{◌≡◌, ℕ, ◌+◌, zero-add, ◌<◌, ◌≤◌, min, Bool, true, false, List, [], ◌∷◌, length, get_or, drop, not, Iter, Bor, Some, None, Ok, Err, Option, sym, refl, ap, ◌∙◌, arith}
use Rattle.std.proofs.lemmas.Bool.{cond-true, cond-false, eq-eqb}
use Rattle.std.proofs.lemmas.List.{drop_all, drop_more}
use Rattle.std.proofs.lemmas.List.FromFn.{length-enumerate_from, get_or-enumerate_from}
use Rattle.std.proofs.lemmas.Slice.Zip.{length-zip, get_or-zip}
use Rattle.std.proofs.iter.Yields.{fronts}
use Rattle.std.proofs.lemmas.Iterator.{YieldsList, YieldsList-from_slice, YieldsList-from_zip, zips}
use Rattle.std.proofs.lemmas.Iterator.Consumers.{YieldsList-from_enumerate, YieldsList-turn, YieldsList-end}
use Rattle.std.specs.Iterator.{Yields}
use Rattle.std.specs.Iterator.Adapters.{enumerate_source, enumerate_count, enumerate_steps, zip_first, zip_second}
use Rattle.std.specs.List.{enumerate_from, zip}
use Rattle.std.specs.Slice.Iter.{iter_rest}
use Rattle.std.specs.declared.iter.Enumerate.{Enumerate}
use Rattle.std.specs.declared.iter.Zip.{Zip}
use Rattle.std.specs.Bool.{◌==◌}
use Rattle.faults.specs.declared.Fault.TheVariants.{Rule}
use Rattle.faults.specs.declared.RuleFault.{RuleFault}
use Rattle.faults.specs.declared.RuleFault.TheVariants.{StartUp as StartUpFault, Ramp as RampFault}
use Rattle.wire.specs.Rows.{entries}
use Rattle.bid.specs.declared.components.Ramp.{Ramp}
use Rattle.bid.specs.declared.components.StartUp.{StartUp}
use Rattle.bid.specs.declared.components.RampPair.{RampPair}
use Rattle.bid.specs.declared.components.StartUpPair.{StartUpPair}
use Rattle.register.specs.declared.data.RampLimits.{RampLimits}
use Rattle.register.specs.declared.data.StartUpLimit.{StartUpLimit}
use Rattle.checks.specs.Beside.{turn_checks, beside_checks, least_after, start_up_broken, ramp_broken}
use Rattle.checks.specs.Checks.{first_broken, rule, pair_checks, row_checks, start_up_checks, ramp_checks}

-- the nth turn of a walk over two lists takes the nth of each
pub record Turn {P L : Type 0} (ps : List P) (ls : List L) (n i : ℕ) (p : P) (l : L) : Type 0 where
  pub place : i ≡ n
  pub within : n < length ps
  pub beside : n < length ls
  pub left : p ≡ get_or ps n p
  pub right : l ≡ get_or ls n l

pub turn_taken : {P L : Type 0} (ps : List P) (ls : List L) (n i : ℕ) (p : P) (l : L)
    → (n < length (enumerate_from 0 (zip ps ls))) × ((i, (p, l)) ≡ get_or (enumerate_from 0 (zip ps ls)) n (i, (p, l))) → Turn ps ls n i p l
turn_taken ps ls n i p l h =
    let long = length-enumerate_from 0 (zip ps ls) ∙ length-zip ps ls in
    let within : n < length ps = omega (arith, long, h.0) in
    let beside : n < length ls = omega (arith, long, h.0) in
    let zipped : n < length (zip ps ls) = omega (arith, length-zip ps ls) in
    let one = h.1 ∙ get_or-enumerate_from 0 (zip ps ls) n (i, (p, l)) zipped in
    let two = ap (λ x. x.1) one ∙ get_or-zip ps ls n (p, l) within beside in
    record { place = ap (λ x. x.0) one ∙ zero-add n; within = within; beside = beside; left = ap (λ x. x.0) two; right = ap (λ x. x.1) two }

-- a turn of a `for` over two slices beside each other, counted; and its end
module _ {P L : Type 0} (ps : List P) (ls : List L) (s : Enumerate (Zip (Iter P) (Iter L))) (first : iter_rest (zip_first (enumerate_source s)) ≡ ps) (second : iter_rest (zip_second (enumerate_source s)) ≡ ls) (from : enumerate_count s ≡ 0)
    (xs : List (ℕ × (Bor P × Bor L))) (t : Enumerate (Zip (Iter P) (Iter L))) (yielded : Yields (enumerate_steps (zips fronts fronts)) s xs t) (r : Option (ℕ × (Bor P × Bor L))) (u : Enumerate (Zip (Iter P) (Iter L))) where
  road : YieldsList {B = ℕ × (P × L)} (enumerate_steps (zips fronts fronts)) (λ x. (x.0, (x.1.0.now, x.1.1.now))) s (enumerate_from 0 (zip ps ls))
  road = YieldsList-from_enumerate (YieldsList-from_zip (YieldsList-from_slice ps first) (YieldsList-from_slice ls second)) from

  pub turn_of : (i : ℕ) (p : Bor P) (l : Bor L) → r ≡ Some (i, (p, l)) → enumerate_steps (zips fronts fronts) t r u → Turn ps ls (length xs) i p.now l.now
  turn_of i p l e h = turn_taken ps ls (length xs) i p.now l.now (YieldsList-turn road xs t yielded r u (i, (p, l)) e h)

  pub turns_of : r ≡ None → enumerate_steps (zips fronts fronts) t r u → length xs ≡ min (length ps) (length ls)
  turns_of e h = (YieldsList-end road xs t yielded r u e h).1 ∙ length-enumerate_from 0 (zip ps ls) ∙ length-zip ps ls

module _ {P L : Type 0} (f : RuleFault) (broken : Option P → P → L → Bool) (ps : List P) (ls : List L) where
  turn_opens : (n : ℕ) (before : Option P) (i : ℕ) (p : P) (l : L) → Turn ps ls n i p l
      → turn_checks f broken (n + 1) before (drop n ps) (drop n ls) ≡ rule f (n + 1) (broken before p l) ∷ turn_checks f broken (n + 1 + 1) (Some p) (drop (n + 1) ps) (drop (n + 1) ls)
  turn_opens n before i p l t =
      ap (λ xs. turn_checks f broken (n + 1) before xs (drop n ls)) (drop_more ps n p t.within ∙ ap (λ x. x ∷ drop (n + 1) ps) (sym t.left))
      ∙ ap (turn_checks f broken (n + 1) before (p ∷ drop (n + 1) ps)) (drop_more ls n l t.beside ∙ ap (λ x. x ∷ drop (n + 1) ls) (sym t.right))

  -- the turns that are left answer what all of them do
  abbrev pub Left : ℕ → Option P → Type 0
  Left n before = first_broken (turn_checks f broken (n + 1) before (drop n ps) (drop n ls)) ≡ first_broken (turn_checks f broken 1 None ps ls)

  pub turn_let_in : (n : ℕ) (before : Option P) (i : ℕ) (p : P) (l : L) → Turn ps ls n i p l → broken before p l ≡ false → Left n before → Left (n + 1) (Some p)
  turn_let_in n before i p l t e left = sym (ap first_broken (turn_opens n before i p l t) ∙ cond-false (broken before p l) _ _ e) ∙ left

  -- with as many pairs as the card has the turns answer
  as_many : length ps ≡ length ls → first_broken (turn_checks f broken 1 None ps ls) ≡ first_broken (beside_checks f broken ls ps)
  as_many e = sym (cond-false (not (length ps == length ls)) _ _ (ap not (eq-eqb (length ps) (length ls) e)))

  pub turn_refused : (n : ℕ) (before : Option P) (i : ℕ) (p : P) (l : L) → Turn ps ls n i p l → broken before p l ≡ true → Left n before → length ps ≡ length ls
      → Err (Rule f (i + 1)) ≡ first_broken (beside_checks f broken ls ps)
  turn_refused n before i p l t e left alike =
      ap (λ k. Err (Rule f (k + 1))) t.place ∙ sym (ap first_broken (turn_opens n before i p l t) ∙ cond-true (broken before p l) _ _ e) ∙ left ∙ as_many alike

  pub turns_done : (n : ℕ) (before : Option P) → length ps ≤ n → Left n before → length ps ≡ length ls → Ok tt ≡ first_broken (beside_checks f broken ls ps)
  turns_done n before h left alike = sym (ap (λ xs. first_broken (turn_checks f broken (n + 1) before xs (drop n ls))) (drop_all n ps h)) ∙ left ∙ as_many alike

-- the checks of start-up and of ramp pairs are these
start_up_turns : (place : ℕ) (before : Option StartUpPair) (ps : List StartUpPair) (ls : List StartUpLimit) → turn_checks StartUpFault start_up_broken place before ps ls ≡ pair_checks place (least_after before) ps ls
start_up_turns place before [] ls = refl
start_up_turns place before (p ∷ ps) [] = refl
start_up_turns place before (p ∷ ps) (l ∷ ls) = ap (λ cs. rule StartUpFault place (start_up_broken before p l) ∷ cs) (start_up_turns (place + 1) (Some p) ps ls)

ramp_turns : (place : ℕ) (before : Option RampPair) (ps : List RampPair) (ls : List RampLimits) → turn_checks RampFault ramp_broken place before ps ls ≡ row_checks place ps ls
ramp_turns place before [] ls = refl
ramp_turns place before (p ∷ ps) [] = refl
ramp_turns place before (p ∷ ps) (l ∷ ls) = ap (λ cs. rule RampFault place (ramp_broken before p l) ∷ cs) (ramp_turns (place + 1) (Some p) ps ls)

pub start_up_beside : (ls : List StartUpLimit) (u : StartUp) → beside_checks StartUpFault start_up_broken ls (entries u.pairs) ≡ start_up_checks ls (Some u)
start_up_beside ls u = ap (λ cs. rule StartUpFault 0 (not (length (entries u.pairs) == length ls)) ∷ cs) (start_up_turns 1 None (entries u.pairs) ls)

pub ramp_beside : (ls : List RampLimits) (r : Ramp) → beside_checks RampFault ramp_broken ls (entries r.pairs) ≡ ramp_checks ls (Some r)
ramp_beside ls r = ap (λ cs. rule RampFault 0 (not (length (entries r.pairs) == length ls)) ∷ cs) (ramp_turns 1 None (entries r.pairs) ls)
