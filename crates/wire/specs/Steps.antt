-- One field read, and then the next: what is known where the whole is. Assumes nothing.
use Rattle.std.specs.Prelude.{◌≡◌, ℕ, ◌+◌, ◌⊎◌, List, ◌++◌, length, drop, Ok, Err, Result, refl}
use Rattle.std.proofs.Common.{sym, ap, ◌∙◌, inl, inr, arith}
use Rattle.std.proofs.lemmas.List.{drop-drop, drop_at}
use Rattle.faults.specs.declared.Fault.{Fault}
use Rattle.wire.specs.Reading.{Read, and_then}

pub ok_not_err : {X Y : Type 0} (x : X) (y : Y) → ◌≡◌ {A = Result X Y} (Ok x) (Err y) → ⊥
ok_not_err x y e = let z : ◌≡◌ {A = ℕ} 0 1 = cc in omega arith

value_in : {X Y : Type 0} → X → Result X Y → X
value_in d (Ok x) = x
value_in d (Err y) = d

pub ok_same : {X Y : Type 0} {x y : X} → ◌≡◌ {A = Result X Y} (Ok x) (Ok y) → x ≡ y
unfolding value_in
ok_same {x = x} e = ap (value_in x) e

fault_in : {X Y : Type 0} → Y → Result X Y → Y
fault_in d (Ok x) = d
fault_in d (Err y) = y

pub err_same : {X Y : Type 0} {x y : Y} → ◌≡◌ {A = Result X Y} (Err x) (Err y) → x ≡ y
unfolding fault_in
err_same {x = x} e = ap (fault_in x) e

-- the whole was read: so was the first part, and the rest from there
pub then_read : {A B : Type 0} (p : Read A) (k : A → ℕ → Result B Fault) (r : B) → and_then p k ≡ Ok r → (x : A) × (next : ℕ) × (p ≡ Ok (x, next)) × (k x next ≡ Ok r)
then_read (Ok x) k r h = (x.0, x.1, refl, h)
then_read (Err e) k r h = absurd (ok_not_err r e (sym h))

-- the whole failed: in the first part, or in the rest
pub then_failed : {A B : Type 0} (p : Read A) (k : A → ℕ → Result B Fault) (f : Fault) → and_then p k ≡ Err f
    → (p ≡ Err f) ⊎ ((x : A) × (next : ℕ) × (p ≡ Ok (x, next)) × (k x next ≡ Err f))
then_failed (Ok x) k f h = inr (x.0, x.1, refl, h)
then_failed (Err e) k f h = inl (ap Err (err_same h))

-- the first part gives its value
pub then_is : {A B : Type 0} {p : Read A} {x : A} {next : ℕ} (k : A → ℕ → Result B Fault) → p ≡ Ok (x, next) → and_then p k ≡ k x next
then_is k e = ap (λ r. and_then r k) e

-- what stands behind some bytes
pub drop_on : (bytes front rest : List ℕ) (at : ℕ) → drop at bytes ≡ front ++ rest → drop (at + length front) bytes ≡ rest
drop_on bytes front rest at e = sym (drop-drop (length front) at bytes) ∙ ap (drop (length front)) e ∙ drop_at front rest (length front) refl
