-- Formats put together field by field, where later fields may be read by what earlier ones said: reading and writing undo each other. Assumes nothing.
use Rattle.std.proofs.Common.{◌≡◌, ℕ, ◌+◌, ◌≤◌, Bool, true, false, cond, List, [], ◌++◌, length, drop, Ok, Err, MatchBool, sym, ap, ◌∙◌, subst, inl, inr, append_assoc, add-zero, add_assoc, arith}
use Rattle.std.proofs.lemmas.List.{length-append}
use Rattle.faults.specs.declared.Fault.{Fault}
use Rattle.wire.specs.Bytes.{Bytes}
use Rattle.wire.specs.Laws.{Lawful, FaultWithin}
use Rattle.wire.specs.Reading.{Read, and_then}
use Rattle.wire.specs.Lawful.{fault_wider}
use Rattle.wire.specs.Steps.{ok_not_err, ok_same, then_read, then_failed, then_is, drop_on}

-- as a lawful field, but that what it holds is a statement
pub record Undoes {C : Type 0} (parsed : List ℕ → ℕ → Read C) (bytes_of : C → List ℕ) (Holds : C → Type 0) (longest : ℕ) : Type 0 where
  pub restores : (v : C) (bytes rest : List ℕ) (at : ℕ) → Holds v → drop at bytes ≡ bytes_of v ++ rest → parsed bytes at ≡ Ok (v, at + length (bytes_of v))
  pub exact : (bytes : List ℕ) (at : ℕ) (v : C) (next : ℕ) → Bytes bytes → parsed bytes at ≡ Ok (v, next) → Holds v × (next ≡ at + length (bytes_of v)) × (drop at bytes ≡ bytes_of v ++ drop next bytes)
  pub placed : (bytes : List ℕ) (at : ℕ) (f : Fault) → Bytes bytes → parsed bytes at ≡ Err f → FaultWithin (at + longest) f
  pub short : (v : C) → Holds v → length (bytes_of v) ≤ longest

pub of_lawful : {C : Type 0} {p : List ℕ → ℕ → Read C} {f : C → List ℕ} {a : C → Bool} {n : ℕ} → Lawful p f a n → Undoes p f (λ v. a v ≡ true) n
of_lawful P = record {
  restores = P.restores;
  exact = λ bytes at v next all e. let x = P.exact bytes at v next all e in (x.0, x.1, x.2);
  placed = P.placed;
  short = P.short;
}

-- nothing more stands
pub done : {C : Type 0} (v : C) → Undoes (λ bytes at. Ok (v, at)) (λ c. []) (λ c. c ≡ v) 0
done v = record {
  restores = λ c bytes rest at is e. λ j. Ok (sym is j, sym (add-zero at) j);
  exact = λ bytes at c next all e.
      let same = ok_same e in
      let after : at ≡ next = ap (λ w. w.1) same in
      (sym (ap (λ w. w.0) same), sym after ∙ sym (add-zero at), ap (λ k. drop k bytes) after);
  placed = λ bytes at f all e. absurd (ok_not_err _ _ e);
  short = λ c is. omega arith;
}

pub wider : {C : Type 0} {p : List ℕ → ℕ → Read C} {f : C → List ℕ} {H : C → Type 0} {m : ℕ} (n : ℕ) → m ≤ n → Undoes p f H m → Undoes p f H n
wider {m = m} n le P = record {
  restores = P.restores;
  exact = P.exact;
  placed = λ bytes at f all e. fault_wider f (at + m) (at + n) (omega arith) (P.placed bytes at f all e);
  short = λ v h. omega (arith, P.short v h);
}

-- the same, said in other words
pub holds_as : {C : Type 0} {p : List ℕ → ℕ → Read C} {f : C → List ℕ} {H : C → Type 0} {n : ℕ} (K : C → Type 0) → ((c : C) → H c → K c) → ((c : C) → K c → H c) → Undoes p f H n → Undoes p f K n
holds_as K to from P = record {
  restores = λ v bytes rest at k e. P.restores v bytes rest at (from v k) e;
  exact = λ bytes at v next all e. let x = P.exact bytes at v next all e in (to v x.0, x.1, x.2);
  placed = P.placed;
  short = λ v k. P.short v (from v k);
}

pub bytes_as : {C : Type 0} {p : List ℕ → ℕ → Read C} {f : C → List ℕ} {H : C → Type 0} {n : ℕ} (g : C → List ℕ) → ((c : C) → f c ≡ g c) → Undoes p f H n → Undoes p g H n
bytes_as {p = p} {H = H} {n = n} g e P = subst (λ h. Undoes p h H n) (λ j c. e c j) P

-- what holds of a field that stands, and of one that is left out
abbrev pub StandsOr : {C : Type 0} → Bool → (C → Type 0) → C → C → Type 0
StandsOr present H absent v = MatchBool present (H v) (v ≡ absent)

-- a field that stands where its bit does
pub optional : {C : Type 0} {p : List ℕ → ℕ → Read C} {f : C → List ℕ} {H : C → Type 0} {n : ℕ} (present : Bool) (absent : C) → Undoes p f H n
    → Undoes (λ bytes at. cond present (p bytes at) (Ok (absent, at))) (λ v. cond present (f v) []) (StandsOr present H absent) n
optional true absent P = P
optional {n = n} false absent P = wider n (omega arith) (done absent)

module _ {A C : Type 0} (first : C → A) {p : List ℕ → ℕ → Read A} {f : A → List ℕ} {H : A → Type 0} {m : ℕ} (P : Undoes p f H m)
    {q : A → List ℕ → ℕ → Read C} {g : A → C → List ℕ} {K : A → C → Type 0} {n : ℕ} (Q : (x : A) → Undoes (q x) (g x) (K x) n) (knows : (x : A) (c : C) → K x c → first c ≡ x) where
  then_rest : List ℕ → A → ℕ → Read C
  then_rest bytes x next = q x bytes next

  -- one field, and then the rest, which knows of it
  pub followed : Undoes (λ bytes at. and_then (p bytes at) (λ x next. q x bytes next)) (λ c. f (first c) ++ g (first c) c) (λ c. H (first c) × K (first c) c) (m + n)
  unfolding then_rest
  followed = record {
    restores = λ c bytes rest at h e.
        let a : A = first c in
        let e₁ : drop at bytes ≡ f a ++ (g a c ++ rest) = e ∙ append_assoc (f a) (g a c) rest in
        let e₂ : drop (at + length (f a)) bytes ≡ g a c ++ rest = drop_on bytes (f a) (g a c ++ rest) at e₁ in
        then_is (then_rest bytes) (P.restores a bytes (g a c ++ rest) at h.0 e₁)
        ∙ (Q a).restores c bytes rest (at + length (f a)) h.1 e₂
        ∙ ap (λ k. Ok (c, k)) (add_assoc at (length (f a)) (length (g a c)) ∙ ap (λ k. at + k) (sym (length-append (f a) (g a c))));
    exact = λ bytes at c next all e.
        let r = then_read (p bytes at) (then_rest bytes) (c, next) e in
        let x = P.exact bytes at r.0 r.1 all r.2 in
        let y = (Q r.0).exact bytes r.1 c next all r.3 in
        let is : r.0 ≡ first c = sym (knows r.0 c y.0) in (
          (subst H is x.0, subst (λ a. K a c) is y.0),
          y.1 ∙ ap (λ k. k + length (g r.0 c)) x.1 ∙ add_assoc at (length (f r.0)) (length (g r.0 c)) ∙ ap (λ k. at + k) (sym (length-append (f r.0) (g r.0 c))) ∙ ap (λ a. at + length (f a ++ g a c)) is,
          x.2 ∙ ap (λ l. f r.0 ++ l) y.2 ∙ sym (append_assoc (f r.0) (g r.0 c) (drop next bytes)) ∙ ap (λ a. (f a ++ g a c) ++ drop next bytes) is,
        );
    placed = λ bytes at fault all e. elim (then_failed (p bytes at) (then_rest bytes) fault e) [
      | inl h ↦ fault_wider fault (at + m) (at + (m + n)) (omega arith) (P.placed bytes at fault all h)
      | inr r ↦ (
          let x = P.exact bytes at r.0 r.1 all r.2 in
          let near = P.short r.0 x.0 in
          fault_wider fault (r.1 + n) (at + (m + n)) (omega (arith, x.1, near)) ((Q r.0).placed bytes r.1 fault all r.3))
    ];
    short = λ c h. omega (arith, length-append (f (first c)) (g (first c) c), P.short (first c) h.0, (Q (first c)).short c h.1);
  }
