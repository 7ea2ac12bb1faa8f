-- Steps that pass their checks: ends and prices rise within their limits. Assumes nothing.
use Rattle.std.proofs.Common.{◌≡◌, ℕ, ◌+◌, ◌<◌, ◌≤◌, Bool, true, false, cond, ◌||◌, ltb, leb, List, [], ◌∷◌, ◌++◌, map, length, ℤ, Ok, Err, sym, refl, ap, ◌∙◌, arith}
use lib.Signed.{lt_z}
use Rattle.std.proofs.lemmas.Int.{ints}
use Rattle.std.proofs.lemmas.Bool.{leb-false, ltb-false, lt-leb, le-ltb, or_parts, or_from, cond-false}
use Rattle.std.specs.Int.{int_min}
use Rattle.faults.specs.declared.Fault.{Fault}
use Rattle.wire.specs.Steps.{ok_not_err}
use Rattle.bid.specs.declared.components.Step.{Step}
use Rattle.bid.specs.Fields.{step}
use Rattle.register.specs.declared.data.Day.{Day}
use Rattle.checks.specs.Checks.{Passed, first_broken, step_checks}
use Rattle.mending.specs.Mending.{capped_step, lengthened, price_of}
use Rattle.checks.specs.Terms.{end_of}

-- a check that is passed is not broken, and the others are passed too
pub check_passed : (f : Fault) (broken : Bool) (rest : Passed) → cond broken (Err f) rest ≡ Ok tt → (broken ≡ false) × (rest ≡ Ok tt)
check_passed f true rest e = absurd (ok_not_err _ _ (sym e))
check_passed f false rest e = (refl, e)

-- a step that keeps its limits after the one before
pub record Follows (most : ℕ) (d : Day) (before s : Step) : Type 0 where
  pub above : before.end < s.end
  pub within : s.end ≤ most
  pub rises : lt_z s.price before.price ≡ false
  pub floor : lt_z s.price d.floor ≡ false
  pub cap : lt_z d.hard_cap s.price ≡ false

abbrev pub Rising : ℕ → Day → Step → List Step → Type 0
Rising most d before [] = Unit {0}
Rising most d before (s ∷ ss) = Follows most d before s × Rising most d s ss

pub rising : (most : ℕ) (d : Day) (place : ℕ) (before : Step) (ss : List Step) → first_broken (step_checks most d place before ss) ≡ Ok tt → Rising most d before ss
rising most d place before [] e = tt
rising most d place before (s ∷ ss) e =
    let c₁ = check_passed _ _ _ e in
    let c₂ = check_passed _ _ _ c₁.1 in
    let o₁ = or_parts (leb s.end before.end) (ltb most s.end) c₁.0 in
    let o₂ = or_parts (lt_z s.price before.price || lt_z s.price d.floor) (lt_z d.hard_cap s.price) c₂.0 in
    let o₃ = or_parts (lt_z s.price before.price) (lt_z s.price d.floor) o₂.0 in
    (record { above = leb-false s.end before.end o₁.0; within = ltb-false most s.end o₁.1; rises = o₃.0; floor = o₃.1; cap = o₂.1 }, rising most d (place + 1) s ss c₂.1)

pub passes : (most : ℕ) (d : Day) (place : ℕ) (before : Step) (ss : List Step) → Rising most d before ss → first_broken (step_checks most d place before ss) ≡ Ok tt
passes most d place before [] r = refl
passes most d place before (s ∷ ss) r =
    let f = r.0 in
    cond-false _ _ _ (or_from _ _ (lt-leb s.end before.end f.above) (le-ltb most s.end f.within))
    ∙ cond-false _ _ _ (or_from _ _ (or_from _ _ f.rises f.floor) f.cap) ∙ passes most d (place + 1) s ss r.1

-- the smaller of a price and a limit
min_rises : (x y limit : ℤ) → lt_z y x ≡ false → lt_z (int_min y limit) (int_min x limit) ≡ false
min_rises x y limit h = grind (arith, ints)

min_above : (x low limit : ℤ) → lt_z x low ≡ false → lt_z limit low ≡ false → lt_z (int_min x limit) low ≡ false
min_above x low limit h k = grind (arith, ints)

min_below : (x high limit : ℤ) → lt_z high x ≡ false → lt_z high (int_min x limit) ≡ false
min_below x high limit h = grind (arith, ints)

-- steps that rise still rise when they are capped
pub rising_capped : (most : ℕ) (d : Day) (limit : ℤ) → lt_z limit d.floor ≡ false → (before : Step) (ss : List Step) → Rising most d before ss → Rising most d (capped_step limit before) (map (capped_step limit) ss)
rising_capped most d limit low before [] r = tt
rising_capped most d limit low before (s ∷ ss) r =
    let f = r.0 in (
      record { above = f.above; within = f.within; rises = min_rises before.price s.price limit f.rises; floor = min_above s.price d.floor limit f.floor low; cap = min_below s.price d.hard_cap limit f.cap },
      rising_capped most d limit low s ss r.1,
    )

-- they end above where they began
pub rising_end : (most : ℕ) (d : Day) (before : Step) (ss : List Step) → Rising most d before ss → before.end ≤ end_of before.end ss
rising_end most d before [] r = omega arith
rising_end most d before (s ∷ ss) r = let ih = rising_end most d s ss r.1 in omega (arith, r.0.above)

pub rising_lengthened : (most : ℕ) (d : Day) (target : ℕ) → target ≤ most → (before : Step) (ss : List Step) → Rising most d before ss → end_of before.end ss < target → Rising most d before (lengthened target ss)
rising_lengthened most d target top before [] r below = tt
rising_lengthened most d target top before (s ∷ []) r below =
    let f = r.0 in
    (record { above = omega (arith, f.above); within = top; rises = f.rises; floor = f.floor; cap = f.cap }, tt)
rising_lengthened most d target top before (s ∷ t ∷ ss) r below = (r.0, rising_lengthened most d target top s (t ∷ ss) r.1 below)

pub rising_grown : (most : ℕ) (d : Day) (x : Step) → x.end ≤ most → lt_z x.price d.floor ≡ false → lt_z d.hard_cap x.price ≡ false
    → (before : Step) (ss : List Step) → Rising most d before ss → end_of before.end ss < x.end → lt_z x.price (price_of before.price ss) ≡ false → Rising most d before (ss ++ x ∷ [])
rising_grown most d x top low high before [] r below last = (record { above = below; within = top; rises = last; floor = low; cap = high }, tt)
rising_grown most d x top low high before (s ∷ ss) r below last = (r.0, rising_grown most d x top low high s ss r.1 below last)

-- where steps end after the last one was lengthened or one was added
pub end-lengthened : (target start : ℕ) (ss : List Step) → 0 < length ss → end_of start (lengthened target ss) ≡ target
end-lengthened target start [] h = absurd (omega arith)
end-lengthened target start (s ∷ []) h = refl
end-lengthened target start (s ∷ t ∷ ss) h = end-lengthened target s.end (t ∷ ss) (omega arith)

pub end_grown : (start : ℕ) (ss : List Step) (x : Step) → end_of start (ss ++ x ∷ []) ≡ x.end
end_grown start [] x = refl
end_grown start (s ∷ ss) x = end_grown s.end ss x

-- a price that is under the limit is not capped
min_under : (x limit : ℤ) → lt_z limit x ≡ false → int_min x limit ≡ x
min_under x limit h = cond-false (lt_z limit x) limit x h

min_is_under : (x limit : ℤ) → lt_z limit (int_min x limit) ≡ false
min_is_under x limit = grind (arith, ints)

-- each step's price is under a limit
abbrev pub Under : ℤ → List Step → Type 0
Under limit [] = Unit {0}
Under limit (s ∷ ss) = (lt_z limit s.price ≡ false) × Under limit ss

pub under-capped : (limit : ℤ) (ss : List Step) → Under limit (map (capped_step limit) ss)
under-capped limit [] = tt
under-capped limit (s ∷ ss) = (min_is_under s.price limit, under-capped limit ss)

pub under-lengthened : (limit : ℤ) (target : ℕ) (ss : List Step) → Under limit ss → Under limit (lengthened target ss)
under-lengthened limit target [] u = tt
under-lengthened limit target (s ∷ []) u = (u.0, tt)
under-lengthened limit target (s ∷ t ∷ ss) u = (u.0, under-lengthened limit target (t ∷ ss) u.1)

pub under_grown : (limit : ℤ) (ss : List Step) (x : Step) → Under limit ss → lt_z limit x.price ≡ false → Under limit (ss ++ x ∷ [])
under_grown limit [] x u h = (h, tt)
under_grown limit (s ∷ ss) x u h = (u.0, under_grown limit ss x u.1 h)

pub capped-under : (limit : ℤ) (ss : List Step) → Under limit ss → map (capped_step limit) ss ≡ ss
capped-under limit [] u = refl
capped-under limit (s ∷ ss) u =
    let p = min_under s.price limit u.0 in
    ap (λ z. step s.end z ∷ map (capped_step limit) ss) p ∙ ap (λ l. s ∷ l) (capped-under limit ss u.1)
