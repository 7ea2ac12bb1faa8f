-- Fields whose reading and writing undo each other, and how such fields are put together. Assumes nothing.
use Rattle.std.specs.Prelude.{◌≡◌, ℕ, ◌+◌, ◌-◌, ◌^◌, ◌<◌, ◌≤◌, min, Bool, true, false, ◌&&◌, ◌⊎◌, List, ◌++◌, length, take, drop, ℤ, pos, negsuc, is_some, Some, None, Ok, Err, Option, Result, FitsSigned, nat_le, nat_lt, refl}
use Rattle.std.proofs.Math.Path.{sym, ap}
use Rattle.std.proofs.Common.{subst, ◌∙◌, add-zero, arith}
use mathlib.Core.List.{append_assoc}
use Rattle.std.proofs.Math.Logic.{inl, inr}
use Rattle.std.proofs.Math.Nat.{add_assoc, pow-le-pow_right}
use Rattle.std.specs.Int.{w32}
use Rattle.std.proofs.ByRecursion.{All-take, All-drop}
use Rattle.std.proofs.lemmas.List.{drop-drop, take_at, length-append, length-drop, length-take-le, take-append-drop}
use Rattle.std.proofs.lemmas.Int.{to_z-of_z, of_z-to_z, ints}
use Rattle.std.proofs.lemmas.Bool.{lt-leb, ltb-true, lt-ltb, leb-true, cond-true, cond-false, cases_lt, cases_Bool, and_parts, and_from}
use Rattle.faults.specs.declared.Fault.{Fault}
use Rattle.faults.specs.declared.Fault.TheVariants.{Record, Register, Rule, Window}
use Rattle.faults.specs.declared.RecordFault.{RecordFault}
use Rattle.faults.specs.declared.RecordFault.TheVariants.{CutShort, UnknownBit, BadCount, OutOfRange}
use Rattle.wire.specs.Bytes.{Bytes, big_endian, bytes_of, long_bytes, signed_of, bits_of, signed_bytes}
use Rattle.wire.specs.Laws.{Lawful, FaultWithin, is_field_fault}
use Rattle.wire.specs.Rows.{optional_at, optional_bytes, optional_held, OptionalUndone}
use Rattle.wire.specs.Reading.{Read, and_then, number_at, ranged, ranged_at, is_price, price_at, is_quantity, quantity_at, is_count, count_at, is_map, map_at, long_at, made_at, pair_at, fault_at}
use Rattle.wire.specs.Numbers.{number_stands, number_bytes_of, bytes_of_number, length-bytes_of, big_endian_lt}
use Rattle.wire.specs.Steps.{ok_not_err, ok_same, err_same, then_read, then_failed, then_is, drop_on}

-- a fault told at a place of at most n
pub fault_within : (f : RecordFault) (at n : ℕ) → is_field_fault f ≡ true → at ≤ n → FaultWithin n (fault_at f at)
fault_within f at n field within = (field, omega arith)

pub fault_wider : (f : Fault) (m n : ℕ) → m ≤ n → FaultWithin m f → FaultWithin n f
fault_wider (Record f p) m n h w = (w.0, omega arith)
fault_wider (Register f p) m n h w = w
fault_wider (Rule f p) m n h w = w
fault_wider (Window f p) m n h w = w

-- n bytes stand at a place, or they are cut short there
number_cases : (n : ℕ) (bytes : List ℕ) (at : ℕ)
    → ((n ≤ length bytes - at) × (number_at n bytes at ≡ Ok (big_endian (take n (drop at bytes)), at + n))) ⊎ ((length bytes < at + n) × (number_at n bytes at ≡ Err (fault_at CutShort (length bytes))))
number_cases n bytes at = elim (cases_lt (length bytes - at) n) [
  | inl h ↦ inr (omega arith, cond-false (nat_le n (length bytes - at)) _ _ (lt-leb n (length bytes - at) h))
  | inr h ↦ inl (h, sym (number_stands n bytes at _ h refl))
]

-- a number of n bytes
pub number_lawful : (n : ℕ) → Lawful (number_at n) (bytes_of n) (λ v. nat_lt v (256 ^ n)) n
number_lawful n = record {
  restores = λ v bytes rest at held e.
      let long : length bytes - at ≡ n + length rest = sym (length-drop at bytes) ∙ ap length e ∙ length-append (bytes_of n v) rest ∙ ap (λ k. k + length rest) (length-bytes_of n v) in
      let room : n ≤ length bytes - at = omega arith in
      let value : v ≡ big_endian (take n (drop at bytes)) = sym (ap (λ l. big_endian (take n l)) e ∙ ap big_endian (take_at (bytes_of n v) rest n (length-bytes_of n v)) ∙ number_bytes_of n v (ltb-true v (256 ^ n) held)) in
      sym (number_stands n bytes at v room value) ∙ ap (λ k. Ok (v, at + k)) (sym (length-bytes_of n v));
  exact = λ bytes at v next all e. elim (number_cases n bytes at) [
    | inl h ↦ (
        let same = ok_same (sym h.1 ∙ e) in
        let front : List ℕ = take n (drop at bytes) in
        let long : length front ≡ n = length-take-le n (drop at bytes) (subst (λ k. n ≤ k) (sym (length-drop at bytes)) h.0) in
        let bs : Bytes front = All-take (λ b. b < 256) n (drop at bytes) (All-drop (λ b. b < 256) at bytes all) in
        let value : big_endian front ≡ v = ap (λ p. p.0) same in
        let written : bytes_of n v ≡ front = sym (ap (bytes_of n) value) ∙ ap (λ k. bytes_of k (big_endian front)) (sym long) ∙ bytes_of_number front bs in
        let small : v < 256 ^ n = subst (λ k. k < 256 ^ n) value (subst (λ k. big_endian front < 256 ^ k) long (big_endian_lt front bs)) in
        let after : at + n ≡ next = ap (λ p. p.1) same in (
          lt-ltb v (256 ^ n) small,
          sym after ∙ ap (λ k. at + k) (sym (length-bytes_of n v)),
          sym (take-append-drop n (drop at bytes)) ∙ ap (λ l. l ++ drop n (drop at bytes)) (sym written) ∙ ap (λ l. bytes_of n v ++ l) (drop-drop n at bytes ∙ ap (λ k. drop k bytes) after),
        ))
    | inr h ↦ absurd (ok_not_err _ _ (sym e ∙ h.1))
  ];
  placed = λ bytes at f all e. elim (number_cases n bytes at) [
    | inl h ↦ absurd (ok_not_err _ _ (sym h.1 ∙ e))
    | inr h ↦ subst (FaultWithin (at + n)) (err_same (sym h.1 ∙ e)) (fault_within CutShort (length bytes) (at + n) refl (omega arith))
  ];
  short = λ v held. subst (λ k. k ≤ n) (sym (length-bytes_of n v)) (omega arith);
}

-- a number of n bytes that has to pass a test
pub ranged_lawful : (fault : RecordFault) → is_field_fault fault ≡ true → (n : ℕ) → 0 < n → (test : ℕ → Bool) → ((v : ℕ) → test v ≡ true → v < 256 ^ n) → Lawful (ranged_at fault n test) (bytes_of n) test n
ranged_lawful fault field n some test small = record {
  restores = λ v bytes rest at held e.
      then_is (ranged fault test at) ((number_lawful n).restores v bytes rest at (lt-ltb v (256 ^ n) (small v held)) e) ∙ cond-true (test v) _ _ held;
  exact = λ bytes at v next all e.
      let r = then_read (number_at n bytes at) (ranged fault test at) (v, next) e in
      elim (cases_Bool (test r.0)) [
        | inl h ↦ (
            let same = ok_same (sym (cond-true (test r.0) _ _ h) ∙ r.3) in
            let x = (number_lawful n).exact bytes at v next all (r.2 ∙ ap Ok same) in
            (subst (λ k. test k ≡ true) (ap (λ p. p.0) same) h, x.1, x.2))
        | inr h ↦ absurd (ok_not_err _ _ (sym r.3 ∙ cond-false (test r.0) _ _ h))
      ];
  placed = λ bytes at f all e. elim (then_failed (number_at n bytes at) (ranged fault test at) f e) [
    | inl h ↦ (number_lawful n).placed bytes at f all h
    | inr r ↦ elim (cases_Bool (test r.0)) [
      | inl h ↦ absurd (ok_not_err _ _ (sym (cond-true (test r.0) _ _ h) ∙ r.3))
      | inr h ↦ subst (FaultWithin (at + n)) (err_same (sym (cond-false (test r.0) _ _ h) ∙ r.3)) (fault_within fault at (at + n) field (omega arith))
    ]
  ];
  short = λ v held. (number_lawful n).short v (lt-ltb v (256 ^ n) (small v held));
}

price_fits : (z : ℤ) → is_price z ≡ true → FitsSigned w32 z
price_fits z h = grind (arith, ints)

price_bits : (z : ℤ) → is_price z ≡ true → bits_of z < 256 ^ 4
price_bits (pos n) h = grind (arith, ints)
price_bits (negsuc n) h = omega arith

price_then : ℕ → ℕ → ℕ → Read ℤ
price_then at v next = ranged OutOfRange is_price at (signed_of v) next

-- a price, signed
pub price_lawful : Lawful price_at signed_bytes is_price 4
unfolding price_then
price_lawful = record {
  restores = λ v bytes rest at held e.
      then_is (price_then at) ((number_lawful 4).restores (bits_of v) bytes rest at (lt-ltb (bits_of v) (256 ^ 4) (price_bits v held)) e)
      ∙ ap (λ z. ranged OutOfRange is_price at z (at + length (signed_bytes v))) (to_z-of_z w32 v (price_fits v held)) ∙ cond-true (is_price v) _ _ held;
  exact = λ bytes at v next all e.
      let r = then_read (long_at bytes at) (price_then at) (v, next) e in
      let n = (number_lawful 4).exact bytes at r.0 r.1 all r.2 in
      elim (cases_Bool (is_price (signed_of r.0))) [
        | inl h ↦ (
            let same = ok_same (sym (cond-true (is_price (signed_of r.0)) _ _ h) ∙ r.3) in
            let bits : bits_of v ≡ r.0 = sym (ap (λ p. bits_of p.0) same) ∙ of_z-to_z w32 r.0 (ltb-true r.0 (256 ^ 4) n.0) in
            let written : signed_bytes v ≡ long_bytes r.0 = ap long_bytes bits in
            let after : r.1 ≡ next = ap (λ p. p.1) same in (
              subst (λ z. is_price z ≡ true) (ap (λ p. p.0) same) h,
              sym after ∙ n.1 ∙ ap (λ l. at + length l) (sym written),
              n.2 ∙ ap (λ l. l ++ drop r.1 bytes) (sym written) ∙ ap (λ k. signed_bytes v ++ drop k bytes) after,
            ))
        | inr h ↦ absurd (ok_not_err _ _ (sym r.3 ∙ cond-false (is_price (signed_of r.0)) _ _ h))
      ];
  placed = λ bytes at f all e. elim (then_failed (long_at bytes at) (price_then at) f e) [
    | inl h ↦ (number_lawful 4).placed bytes at f all h
    | inr r ↦ elim (cases_Bool (is_price (signed_of r.0))) [
      | inl h ↦ absurd (ok_not_err _ _ (sym (cond-true (is_price (signed_of r.0)) _ _ h) ∙ r.3))
      | inr h ↦ subst (FaultWithin (at + 4)) (err_same (sym (cond-false (is_price (signed_of r.0)) _ _ h) ∙ r.3)) (fault_within OutOfRange at (at + 4) refl (omega arith))
    ]
  ];
  short = λ v held. (number_lawful 4).short (bits_of v) (lt-ltb (bits_of v) (256 ^ 4) (price_bits v held));
}

pub quantity_lawful : Lawful quantity_at (bytes_of 4) is_quantity 4
quantity_lawful = ranged_lawful OutOfRange refl 4 (omega arith) is_quantity (λ v h. omega (arith, leb-true v 10000000 h))

-- a count byte
pub count_lawful : (most : ℕ) → Lawful (count_at most) (bytes_of 1) (is_count most) 1
count_lawful most = ranged_lawful BadCount refl 1 (omega arith) (is_count most) (λ v h. omega (arith, leb-true v (min most 255) (and_parts (nat_le 1 v) (nat_le v (min most 255)) h).1))

-- a bit map
pub map_lawful : (last : ℕ) → last < 16 → Lawful (map_at last) (bytes_of 2) (is_map last) 2
map_lawful last few = ranged_lawful UnknownBit refl 2 (omega arith) (is_map last)
    (λ v h. let top : 2 ^ (last + 1) ≤ 65536 = pow-le-pow_right {n = 2} (omega arith) {i = last + 1} {j = 16} (omega arith) in omega (arith, ltb-true v (2 ^ (last + 1)) h))

-- a field that makes a value
pub made_lawful : {A C : Type 0} (make : A → C) (inner : C → A) → ((v : C) → make (inner v) ≡ v) → ((x : A) → inner (make x) ≡ x)
    → {p : List ℕ → ℕ → Read A} {f : A → List ℕ} {a : A → Bool} {n : ℕ} → Lawful p f a n → Lawful (made_at make p) (λ v. f (inner v)) (λ v. a (inner v)) n
made_lawful make inner remade inner-is {p} {f} {a} {n} P = record {
  restores = λ v bytes rest at held e. then_is (λ x next. Ok (make x, next)) (P.restores (inner v) bytes rest at held e) ∙ ap (λ w. Ok (w, at + length (f (inner v)))) (remade v);
  exact = λ bytes at v next all e.
      let r = then_read (p bytes at) (λ x after. Ok (make x, after)) (v, next) e in
      let x = P.exact bytes at r.0 r.1 all r.2 in
      let same = ok_same r.3 in
      let is : inner v ≡ r.0 = sym (ap (λ w. inner w.0) same) ∙ inner-is r.0 in
      let after : r.1 ≡ next = ap (λ w. w.1) same in
      (ap a is ∙ x.0, sym after ∙ x.1 ∙ ap (λ k. at + length (f k)) (sym is), x.2 ∙ ap (λ k. f k ++ drop r.1 bytes) (sym is) ∙ ap (λ k. f (inner v) ++ drop k bytes) after);
  placed = λ bytes at fault all e. elim (then_failed (p bytes at) (λ x next. Ok (make x, next)) fault e) [
    | inl h ↦ P.placed bytes at fault all h
    | inr r ↦ absurd (ok_not_err _ _ r.3)
  ];
  short = λ v held. P.short (inner v) held;
}

-- two fields that make one value
module _ {A B C : Type 0} (make : A → B → C) (first : C → A) (second : C → B)
    (remade : (v : C) → make (first v) (second v) ≡ v) (first-is : (x : A) (y : B) → first (make x y) ≡ x) (second_is : (x : A) (y : B) → second (make x y) ≡ y)
    {p : List ℕ → ℕ → Read A} {f : A → List ℕ} {a : A → Bool} {m : ℕ} (P : Lawful p f a m)
    {q : List ℕ → ℕ → Read B} {g : B → List ℕ} {b : B → Bool} {n : ℕ} (Q : Lawful q g b n) where
  second_then : List ℕ → A → ℕ → Read C
  second_then bytes x next = and_then (q bytes next) (λ y after. Ok (make x y, after))

  pub pair_lawful : Lawful (pair_at make p q) (λ v. f (first v) ++ g (second v)) (λ v. a (first v) && b (second v)) (m + n)
  unfolding second_then
  pair_lawful = record {
    restores = λ v bytes rest at held e.
        let h = and_parts (a (first v)) (b (second v)) held in
        let e₁ : drop at bytes ≡ f (first v) ++ (g (second v) ++ rest) = e ∙ append_assoc (f (first v)) (g (second v)) rest in
        let e₂ : drop (at + length (f (first v))) bytes ≡ g (second v) ++ rest = drop_on bytes (f (first v)) (g (second v) ++ rest) at e₁ in
        then_is (second_then bytes) (P.restores (first v) bytes (g (second v) ++ rest) at h.0 e₁)
        ∙ then_is (λ y after. Ok (make (first v) y, after)) (Q.restores (second v) bytes rest (at + length (f (first v))) h.1 e₂)
        ∙ ap (λ w. Ok (w, at + length (f (first v)) + length (g (second v)))) (remade v)
        ∙ ap (λ k. Ok (v, k)) (add_assoc at (length (f (first v))) (length (g (second v))) ∙ ap (λ k. at + k) (sym (length-append (f (first v)) (g (second v)))));
    exact = λ bytes at v next all e.
        let r = then_read (p bytes at) (second_then bytes) (v, next) e in
        let s = then_read (q bytes r.1) (λ y after. Ok (make r.0 y, after)) (v, next) r.3 in
        let x = P.exact bytes at r.0 r.1 all r.2 in
        let y = Q.exact bytes r.1 s.0 s.1 all s.2 in
        let same = ok_same s.3 in
        let is : make r.0 s.0 ≡ v = ap (λ w. w.0) same in
        let is₁ : first v ≡ r.0 = sym (ap first is) ∙ first-is r.0 s.0 in
        let is₂ : second v ≡ s.0 = sym (ap second is) ∙ second_is r.0 s.0 in
        let after : s.1 ≡ next = ap (λ w. w.1) same in (
          and_from (a (first v)) (b (second v)) (ap a is₁ ∙ x.0) (ap b is₂ ∙ y.0),
          sym after ∙ y.1 ∙ ap (λ k. k + length (g s.0)) x.1 ∙ add_assoc at (length (f r.0)) (length (g s.0))
              ∙ ap (λ k. at + k) (sym (length-append (f r.0) (g s.0))) ∙ ap (λ k. at + length (f k ++ g s.0)) (sym is₁) ∙ ap (λ k. at + length (f (first v) ++ g k)) (sym is₂),
          x.2 ∙ ap (λ l. f r.0 ++ l) y.2 ∙ sym (append_assoc (f r.0) (g s.0) (drop s.1 bytes))
              ∙ ap (λ k. (f k ++ g s.0) ++ drop s.1 bytes) (sym is₁) ∙ ap (λ k. (f (first v) ++ g k) ++ drop s.1 bytes) (sym is₂) ∙ ap (λ k. (f (first v) ++ g (second v)) ++ drop k bytes) after,
        );
    placed = λ bytes at fault all e. elim (then_failed (p bytes at) (second_then bytes) fault e) [
      | inl h ↦ fault_wider fault (at + m) (at + (m + n)) (omega arith) (P.placed bytes at fault all h)
      | inr r ↦ elim (then_failed (q bytes r.1) (λ y after. Ok (make r.0 y, after)) fault r.3) [
        | inl h ↦ (
            let x = P.exact bytes at r.0 r.1 all r.2 in
            let near = P.short r.0 x.0 in
            fault_wider fault (r.1 + n) (at + (m + n)) (omega (arith, x.1, near)) (Q.placed bytes r.1 fault all h))
        | inr s ↦ absurd (ok_not_err _ _ s.3)
      ]
    ];
    short = λ v held.
        let h = and_parts (a (first v)) (b (second v)) held in
        omega (arith, length-append (f (first v)) (g (second v)), P.short (first v) h.0, Q.short (second v) h.1);
  }

-- a field that stands where its bit does
module _ {A : Type 0} {p : List ℕ → ℕ → Read A} {f : A → List ℕ} {a : A → Bool} {n : ℕ} (P : Lawful p f a n) where
  pub optional_restores : (present : Bool) (v : Option A) (bytes rest : List ℕ) (at : ℕ) → is_some v ≡ present → optional_held a v ≡ true → drop at bytes ≡ optional_bytes f v ++ rest
      → optional_at present p bytes at ≡ Ok (v, at + length (optional_bytes f v))
  optional_restores present None bytes rest at is held e = cond-false present _ _ (sym is) ∙ ap (λ k. Ok (None, k)) (omega arith)
  optional_restores present (Some v) bytes rest at is held e = cond-true present _ _ (sym is) ∙ then_is (λ x next. Ok (Some x, next)) (P.restores v bytes rest at held e)

  pub optional_exact : (present : Bool) (bytes : List ℕ) (at : ℕ) (v : Option A) (next : ℕ) → Bytes bytes → optional_at present p bytes at ≡ Ok (v, next)
      → (is_some v ≡ present) × (optional_held a v ≡ true) × (next ≡ at + length (optional_bytes f v)) × (drop at bytes ≡ optional_bytes f v ++ drop next bytes)
  optional_exact true bytes at v next all e =
      let r = then_read (p bytes at) (λ x after. Ok (Some x, after)) (v, next) e in
      let x = P.exact bytes at r.0 r.1 all r.2 in
      let same = ok_same r.3 in
      let is : v ≡ Some r.0 = sym (ap (λ w. w.0) same) in
      let after : next ≡ r.1 = sym (ap (λ w. w.1) same) in (
        ap is_some is,
        ap (optional_held a) is ∙ x.0,
        after ∙ x.1 ∙ ap (λ o. at + length (optional_bytes f o)) (sym is),
        x.2 ∙ ap (λ o. optional_bytes f o ++ drop r.1 bytes) (sym is) ∙ ap (λ k. optional_bytes f v ++ drop k bytes) (sym after),
      )
  optional_exact false bytes at v next all e =
      let same = ok_same e in
      let is : v ≡ None = sym (ap (λ w. w.0) same) in
      let after : next ≡ at = sym (ap (λ w. w.1) same) in (
        ap is_some is,
        ap (optional_held a) is,
        after ∙ sym (add-zero at) ∙ ap (λ o. at + length (optional_bytes f o)) (sym is),
        ap (λ k. drop k bytes) (sym after) ∙ ap (λ o. optional_bytes f o ++ drop next bytes) (sym is),
      )

  pub optional_placed : (present : Bool) (bytes : List ℕ) (at : ℕ) (fault : Fault) → Bytes bytes → optional_at present p bytes at ≡ Err fault → FaultWithin (at + n) fault
  optional_placed true bytes at fault all e = elim (then_failed (p bytes at) (λ x next. Ok (Some x, next)) fault e) [
    | inl h ↦ P.placed bytes at fault all h
    | inr r ↦ absurd (ok_not_err _ _ r.3)
  ]
  optional_placed false bytes at fault all e = absurd (ok_not_err _ _ e)

  pub optional_short : (v : Option A) → optional_held a v ≡ true → length (optional_bytes f v) ≤ n
  optional_short None held = omega arith
  optional_short (Some v) held = P.short v held

  pub optional_undone : (present : Bool) → OptionalUndone present p f a
  optional_undone present = record { restores = optional_restores present; exact = optional_exact present }

  pub optional_near : (present : Bool) (bytes : List ℕ) (at : ℕ) (v : Option A) (next : ℕ) → Bytes bytes → optional_at present p bytes at ≡ Ok (v, next) → next ≤ at + n
  optional_near present bytes at v next all e =
      let x = optional_exact present bytes at v next all e in
      let s = optional_short v x.1 in
      omega (arith, x.2)

  pub near : (bytes : List ℕ) (at : ℕ) (v : A) (next : ℕ) → Bytes bytes → p bytes at ≡ Ok (v, next) → next ≤ at + n
  near bytes at v next all e =
      let x = P.exact bytes at v next all e in
      let s = P.short v x.0 in
      omega (arith, x.1)

-- a fault of the whole is one of the first part or of the rest
pub placed_then : {A B : Type 0} (n : ℕ) (p : Read A) (k : A → ℕ → Result B Fault) (f : Fault)
    → (p ≡ Err f → FaultWithin n f) → ((x : A) (next : ℕ) → p ≡ Ok (x, next) → k x next ≡ Err f → FaultWithin n f) → and_then p k ≡ Err f → FaultWithin n f
placed_then n p k f first rest e = elim (then_failed p k f e) [ inl h ↦ first h | inr r ↦ rest r.0 r.1 r.2 r.3 ]
