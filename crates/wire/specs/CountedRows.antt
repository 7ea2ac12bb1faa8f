-- Counted rows of a field: reading and writing undo each other. Assumes nothing.
use Rattle.std.proofs.Common.{◌≡◌, ℕ, zero, suc, ◌+◌, ◌-◌, ◌*◌, ◌≤◌, min, Bool, true, ◌&&◌, eqb, leb, List, [], ◌∷◌, ◌++◌, length, drop, replicate, Ok, Err, sym, refl, ap, ◌∙◌, subst, inl, inr, append_assoc, add-zero, add_assoc, mul-le-mul_right, suc-mul, arith}
use Rattle.std.proofs.lemmas.List.{append-nil, take_at, drop_at, length-append, length-take-le, length-drop, length-replicate, take-append-drop}
use Rattle.std.proofs.lemmas.Bool.{leb-true, eqb-true, eq-eqb, and_parts, and_from}
use Rattle.std.specs.List.{flat_map}
use Rattle.faults.specs.declared.Fault.{Fault}
use Rattle.wire.specs.declared.counted.Counted.{Counted}
use Rattle.wire.specs.Bytes.{Bytes, bytes_of}
use Rattle.wire.specs.Laws.{Lawful, FaultWithin}
use Rattle.wire.specs.Reading.{Read, is_count, count_at}
use Rattle.wire.specs.Rows.{entries, packed, packed_at, counted_at, counted_bytes, all_held, counted_held}
use Rattle.wire.specs.Lawful.{count_lawful, fault_wider}
use Rattle.wire.specs.Steps.{ok_not_err, ok_same, then_read, then_failed, then_is, drop_on}

count_most : (n v : ℕ) → is_count n v ≡ true → v ≤ n
count_most n v h = omega (arith, leb-true v (min n 255) (and_parts (leb 1 v) (leb v (min n 255)) h).1)

all_replicate : {A : Type 0} (test : A → Bool) (x : A) → test x ≡ true → (n : ℕ) → all_held test (replicate n x) ≡ true
all_replicate test x h zero = refl
all_replicate test x h (suc n) = and_from (test x) (all_held test (replicate n x)) h (all_replicate test x h n)

module _ {A : Type 0} (blank : A) (is_blank : A → Bool) (blanks : (v : A) → is_blank v ≡ true → v ≡ blank) (blanked : is_blank blank ≡ true) where
  all_blank : (xs : List A) → all_held is_blank xs ≡ true → xs ≡ replicate (length xs) blank
  all_blank [] h = refl
  all_blank (x ∷ xs) h =
      let parts = and_parts (is_blank x) (all_held is_blank xs) h in
      ap (λ y. y ∷ xs) (blanks x parts.0) ∙ ap (λ l. blank ∷ l) (all_blank xs parts.1)

  module _ (a : A → Bool) {n : ℕ} (c : Counted A n) (held : counted_held a is_blank c ≡ true) where
    parts₁ : (is_count n c.count && eqb (length c.rows) n && all_held a (entries c) ≡ true) × (all_held is_blank (drop c.count c.rows) ≡ true)
    parts₁ = and_parts (is_count n c.count && eqb (length c.rows) n && all_held a (entries c)) (all_held is_blank (drop c.count c.rows)) held

    parts₂ : (is_count n c.count && eqb (length c.rows) n ≡ true) × (all_held a (entries c) ≡ true)
    parts₂ = and_parts (is_count n c.count && eqb (length c.rows) n) (all_held a (entries c)) parts₁.0

    parts₃ : (is_count n c.count ≡ true) × (eqb (length c.rows) n ≡ true)
    parts₃ = and_parts (is_count n c.count) (eqb (length c.rows) n) parts₂.0

    pub counts : is_count n c.count ≡ true
    counts = parts₃.0

    pub at_most : c.count ≤ n
    at_most = count_most n c.count counts

    pub rows_long : length c.rows ≡ n
    rows_long = eqb-true (length c.rows) n parts₃.1

    pub entries_held : all_held a (entries c) ≡ true
    entries_held = parts₂.1

    pub entries_long : length (entries c) ≡ c.count
    entries_long = length-take-le c.count c.rows (subst (λ k. c.count ≤ k) (sym rows_long) at_most)

    -- the entries, packed again, are the whole
    pub packed-entries : packed blank n (entries c) ≡ c
    packed-entries =
        let behind : drop c.count c.rows ≡ replicate (n - length (entries c)) blank = all_blank (drop c.count c.rows) parts₁.1 ∙ ap (λ k. replicate k blank) (length-drop c.count c.rows ∙ ap (λ k. k - c.count) rows_long ∙ ap (λ k. n - k) (sym entries_long)) in
        let all : entries c ++ replicate (n - length (entries c)) blank ≡ c.rows = ap (λ l. entries c ++ l) (sym behind) ∙ take-append-drop c.count c.rows in
        λ j. record { count = entries_long j; rows = all j }

  -- the entries of what was packed are the list
  pub entries-packed : (n : ℕ) (xs : List A) → entries (packed blank n xs) ≡ xs
  entries-packed n xs = take_at xs (replicate (n - length xs) blank) (length xs) refl

  pub packed_held : (a : A → Bool) (n : ℕ) (xs : List A) → is_count n (length xs) ≡ true → all_held a xs ≡ true → counted_held a is_blank (packed blank n xs) ≡ true
  packed_held a n xs counts held =
      let few : length xs ≤ n = count_most n (length xs) counts in
      let long : length (xs ++ replicate (n - length xs) blank) ≡ n = length-append xs (replicate (n - length xs) blank) ∙ ap (λ k. length xs + k) (length-replicate (n - length xs) blank) ∙ omega arith in
      and_from _ _ (and_from _ _ (and_from _ _ counts (eq-eqb _ _ long)) (ap (all_held a) (entries-packed n xs) ∙ held))
      (ap (all_held is_blank) (drop_at xs (replicate (n - length xs) blank) (length xs) refl) ∙ all_replicate is_blank blank blanked (n - length xs))

module _ {A : Type 0} (blank : A) {p : List ℕ → ℕ → Read A} {f : A → List ℕ} {a : A → Bool} {m : ℕ} (P : Lawful p f a m) (n : ℕ) where
  row_then : ℕ → List A → List ℕ → A → ℕ → Read (Counted A n)
  row_then k acc bytes x next = packed_at blank p n k (acc ++ x ∷ []) bytes next

  rows_restore : (xs acc : List A) (bytes rest : List ℕ) (at : ℕ) → all_held a xs ≡ true → drop at bytes ≡ flat_map f xs ++ rest
      → packed_at blank p n (length xs) acc bytes at ≡ Ok (packed blank n (acc ++ xs), at + length (flat_map f xs))
  unfolding row_then
  rows_restore [] acc bytes rest at held e = sym (λ j. Ok (packed blank n (append-nil acc j), add-zero at j))
  rows_restore (x ∷ xs) acc bytes rest at held e =
      let h = and_parts (a x) (all_held a xs) held in
      let e₁ : drop at bytes ≡ f x ++ (flat_map f xs ++ rest) = e ∙ append_assoc (f x) (flat_map f xs) rest in
      let e₂ : drop (at + length (f x)) bytes ≡ flat_map f xs ++ rest = drop_on bytes (f x) (flat_map f xs ++ rest) at e₁ in
      then_is (row_then (length xs) acc bytes) (P.restores x bytes (flat_map f xs ++ rest) at h.0 e₁)
      ∙ rows_restore xs (acc ++ x ∷ []) bytes rest (at + length (f x)) h.1 e₂
      ∙ ap (λ l. Ok (packed blank n l, at + length (f x) + length (flat_map f xs))) (append_assoc acc (x ∷ []) xs)
      ∙ ap (λ k. Ok (packed blank n (acc ++ x ∷ xs), k)) (add_assoc at (length (f x)) (length (flat_map f xs)) ∙ ap (λ k. at + k) (sym (length-append (f x) (flat_map f xs))))

  rows_exact : (k : ℕ) (acc : List A) (bytes : List ℕ) (at : ℕ) (c : Counted A n) (next : ℕ) → Bytes bytes → packed_at blank p n k acc bytes at ≡ Ok (c, next)
      → (xs : List A) × (length xs ≡ k) × (all_held a xs ≡ true) × (c ≡ packed blank n (acc ++ xs)) × (next ≡ at + length (flat_map f xs)) × (drop at bytes ≡ flat_map f xs ++ drop next bytes)
  unfolding row_then
  rows_exact zero acc bytes at c next all e =
      let same = ok_same e in
      let after : next ≡ at = sym (ap (λ w. w.1) same) in
      ([], refl, refl, sym (ap (λ w. w.0) same) ∙ ap (packed blank n) (sym (append-nil acc)), after ∙ sym (add-zero at), ap (λ k. drop k bytes) (sym after))
  rows_exact (suc k) acc bytes at c next all e =
      let r = then_read (p bytes at) (row_then k acc bytes) (c, next) e in
      let x = P.exact bytes at r.0 r.1 all r.2 in
      let ih = rows_exact k (acc ++ r.0 ∷ []) bytes r.1 c next all r.3 in (
        r.0 ∷ ih.0,
        ap suc ih.1,
        and_from (a r.0) (all_held a ih.0) x.0 ih.2,
        ih.3 ∙ ap (packed blank n) (append_assoc acc (r.0 ∷ []) ih.0),
        ih.4 ∙ ap (λ k. k + length (flat_map f ih.0)) x.1 ∙ add_assoc at (length (f r.0)) (length (flat_map f ih.0)) ∙ ap (λ k. at + k) (sym (length-append (f r.0) (flat_map f ih.0))),
        x.2 ∙ ap (λ l. f r.0 ++ l) ih.5 ∙ sym (append_assoc (f r.0) (flat_map f ih.0) (drop next bytes)),
      )

  rows_placed : (k : ℕ) (acc : List A) (bytes : List ℕ) (at : ℕ) (fault : Fault) → Bytes bytes → packed_at blank p n k acc bytes at ≡ Err fault → FaultWithin (at + k * m) fault
  unfolding row_then
  rows_placed zero acc bytes at fault all e = absurd (ok_not_err _ _ e)
  rows_placed (suc k) acc bytes at fault all e = elim (then_failed (p bytes at) (row_then k acc bytes) fault e) [
    | inl h ↦ fault_wider fault (at + m) (at + suc k * m) (omega (arith, suc-mul k m)) (P.placed bytes at fault all h)
    | inr r ↦ (
        let x = P.exact bytes at r.0 r.1 all r.2 in
        let near = P.short r.0 x.0 in
        fault_wider fault (r.1 + k * m) (at + suc k * m) (omega (arith, suc-mul k m, x.1, near)) (rows_placed k (acc ++ r.0 ∷ []) bytes r.1 fault all r.3))
  ]

  rows_short : (xs : List A) → all_held a xs ≡ true → length (flat_map f xs) ≤ length xs * m
  rows_short [] held = omega arith
  rows_short (x ∷ xs) held =
      let h = and_parts (a x) (all_held a xs) held in
      let ih = rows_short xs h.1 in
      let first = P.short x h.0 in
      omega (arith, length-append (f x) (flat_map f xs), suc-mul (length xs) m)

  count_then : List ℕ → ℕ → ℕ → Read (Counted A n)
  count_then bytes count next = packed_at blank p n count [] bytes next

  pub counted_lawful : (is_blank : A → Bool) → ((v : A) → is_blank v ≡ true → v ≡ blank) → is_blank blank ≡ true
      → Lawful (counted_at blank p n) (counted_bytes f) (counted_held a is_blank) (1 + n * m)
  unfolding count_then
  counted_lawful is_blank blanks blanked = record {
    restores = λ c bytes rest at held e.
        let xs : List A = entries c in
        let long = entries_long blank is_blank blanks blanked a c held in
        let e₁ : drop at bytes ≡ bytes_of 1 c.count ++ (flat_map f xs ++ rest) = e ∙ append_assoc (bytes_of 1 c.count) (flat_map f xs) rest in
        let e₂ : drop (at + 1) bytes ≡ flat_map f xs ++ rest = drop_on bytes (bytes_of 1 c.count) (flat_map f xs ++ rest) at e₁ in
        then_is (count_then bytes) ((count_lawful n).restores c.count bytes (flat_map f xs ++ rest) at (counts blank is_blank blanks blanked a c held) e₁)
        ∙ ap (λ k. packed_at blank p n k [] bytes (at + 1)) (sym long)
        ∙ rows_restore xs [] bytes rest (at + 1) (entries_held blank is_blank blanks blanked a c held) e₂
        ∙ ap (λ w. Ok (w, at + 1 + length (flat_map f xs))) (packed-entries blank is_blank blanks blanked a c held)
        ∙ ap (λ k. Ok (c, k)) (add_assoc at 1 (length (flat_map f xs)) ∙ ap (λ k. at + k) (omega arith));
    exact = λ bytes at c next all e.
        let r = then_read (count_at n bytes at) (count_then bytes) (c, next) e in
        let x = (count_lawful n).exact bytes at r.0 r.1 all r.2 in
        let s = rows_exact r.0 [] bytes r.1 c next all r.3 in
        let is : c ≡ packed blank n s.0 = s.3 in
        let here : is_count n (length s.0) ≡ true = ap (is_count n) s.1 ∙ x.0 in
        let listed : entries c ≡ s.0 = ap entries is ∙ entries-packed blank is_blank blanks blanked n s.0 in
        let counted : c.count ≡ r.0 = ap (λ d. d.count) is ∙ s.1 in
        let written : counted_bytes f c ≡ bytes_of 1 r.0 ++ flat_map f s.0 = ap (λ k. bytes_of 1 k ++ flat_map f (entries c)) counted ∙ ap (λ l. bytes_of 1 r.0 ++ flat_map f l) listed in (
          ap (counted_held a is_blank) is ∙ packed_held blank is_blank blanks blanked a n s.0 here s.2,
          s.4 ∙ ap (λ k. k + length (flat_map f s.0)) x.1 ∙ add_assoc at 1 (length (flat_map f s.0)) ∙ ap (λ k. at + k) (omega arith) ∙ ap (λ l. at + length l) (sym written),
          x.2 ∙ ap (λ l. bytes_of 1 r.0 ++ l) s.5 ∙ sym (append_assoc (bytes_of 1 r.0) (flat_map f s.0) (drop next bytes)) ∙ ap (λ l. l ++ drop next bytes) (sym written),
        );
    placed = λ bytes at fault all e. elim (then_failed (count_at n bytes at) (count_then bytes) fault e) [
      | inl h ↦ fault_wider fault (at + 1) (at + (1 + n * m)) (omega arith) ((count_lawful n).placed bytes at fault all h)
      | inr r ↦ (
          let x = (count_lawful n).exact bytes at r.0 r.1 all r.2 in
          let few : r.0 ≤ n = count_most n r.0 x.0 in
          let fewer : r.0 * m ≤ n * m = mul-le-mul_right m few in
          fault_wider fault (r.1 + r.0 * m) (at + (1 + n * m)) (omega (arith, x.1)) (rows_placed r.0 [] bytes r.1 fault all r.3))
    ];
    short = λ c held.
        let xs : List A = entries c in
        let long = entries_long blank is_blank blanks blanked a c held in
        let few : length xs ≤ n = subst (λ k. k ≤ n) (sym long) (at_most blank is_blank blanks blanked a c held) in
        let fewer : length xs * m ≤ n * m = mul-le-mul_right m few in
        let rows = rows_short xs (entries_held blank is_blank blanks blanked a c held) in
        omega (arith, length-append (bytes_of 1 c.count) (flat_map f xs));
  }

length_joined : {A : Type 0} (f : A → List ℕ) (m : ℕ) → ((x : A) → length (f x) ≡ m) → (xs : List A) → length (flat_map f xs) ≡ length xs * m
length_joined f m each [] = omega arith
length_joined f m each (x ∷ xs) = omega (arith, length-append (f x) (flat_map f xs), each x, length_joined f m each xs, suc-mul (length xs) m)

-- counted rows of one length take a byte and so many times that length
pub length_counted : {A : Type 0} {n : ℕ} (f : A → List ℕ) (m : ℕ) → ((x : A) → length (f x) ≡ m) → (c : Counted A n) → length (counted_bytes f c) ≡ 1 + length (entries c) * m
length_counted f m each c = let rows = length_joined f m each (entries c) in omega arith
