-- A file is what writing its day and cards puts. Assumes nothing.
use Rattle.std.proofs.Common.{◌≡◌, ℕ, zero, suc, ◌+◌, ◌-◌, ◌<◌, ◌≤◌, min, Bool, true, false, ◌&&◌, ltb, leb, List, [], ◌∷◌, ◌++◌, length, take, drop, pos, is_ok, Ok, sym, refl, ap, ◌∙◌, subst, append_assoc, add-zero, add_assoc, arith}
use Rattle.std.proofs.lemmas.List.{append-nil, drop_all, length-append, length-drop}
use Rattle.std.proofs.lemmas.Bool.{cond-true, and_parts, and_from, leb-true, le-leb, ltb-true, lt-ltb, ltb-false, both_ways}
use Rattle.std.specs.List.{flat_map, AllByRecursion}
use Rattle.wire.specs.declared.counted.Counted.{Counted}
use Rattle.wire.specs.Bytes.{Bytes, word_bytes}
use Rattle.wire.specs.Maps.{stands}
use Rattle.wire.specs.Reading.{is_quantity, is_price, is_count}
use Rattle.wire.specs.Rows.{entries, packed, all_held, counted_held}
use Rattle.wire.specs.CountedRows.{counts, packed_held}
use Rattle.wire.specs.Lawful.{number_lawful}
use Rattle.wire.specs.Steps.{ok_same, then_is, drop_on}
use Rattle.register.specs.declared.data.Card.{Card}
use Rattle.register.specs.declared.data.Day.{Day}
use Rattle.register.specs.declared.data.NumberedCard.{NumberedCard}
use Rattle.register.specs.declared.data.RampLimits.{RampLimits}
use Rattle.register.specs.declared.data.Regulation.{Regulation}
use Rattle.register.specs.declared.data.StartUpLimit.{StartUpLimit}
use Rattle.register_file.specs.declared.standing.Standing.{Standing}
use Rattle.register.specs.Cards.{regulation, blank_limit, blank_limits}
use Rattle.register.specs.CardRow.{number_of, numbered_kept, may_stand, cards_checked}
use Rattle.register.specs.Limits.{limits_held, is_blank_limit, is_blank_limits}
use Rattle.register_file.specs.File.{contents, before, cards_at, ending_at, file_at, cards_of}
use Rattle.register_file.specs.FileKeeps.{card_then, card_read, cards_checked_lem, contents_in}
use Rattle.register_file.specs.FileLaws.{WrittenAs, FileWritten}
use Rattle.register.specs.Kept.{day_prices, is_day_length, caps_in_order, day_kept, rises_from, rises, first_is, regulation_kept, is_limit, start_up_kept, is_row, ramp_kept, card_kept}
use Rattle.register.specs.KeptParts.{kept_parts}
use Rattle.register_file.specs.Writing.{day_bytes, standing_bytes, Writable}
use Rattle.register.proofs.CardRows.{row_kept_lem, checked_more, passed}
use Rattle.register_file.proofs.FileCards.{file_counted}
use Rattle.register_file.proofs.FileFields.{DayHolds, RegulationOr, StandingHolds, standing_undoes, day_undoes}
use Rattle.register_file.proofs.FileMeaning.{holds_tidy, accepted, means}
use Rattle.register.specs.LimitFields.{limit_blank, limits_blank}
use Rattle.register_file.proofs.Undoes.{StandsOr}

absent_is : {C : Type 0} (H : C → Type 0) (absent v : C) (b : Bool) → StandsOr b H absent v → b ≡ false → v ≡ absent
absent_is H absent v true h e = absurd (both_ways true e refl)
absent_is H absent v false h e = h

or_holds : {C : Type 0} (H : C → Type 0) (absent v : C) (b : Bool) → (b ≡ true → H v) → (b ≡ false → v ≡ absent) → StandsOr b H absent v
or_holds H absent v true p q = p refl
or_holds H absent v false p q = q refl

-- pairs or rows stand exactly where there are some
rows_bit : {A : Type 0} (blank : A) (is_blank : A → Bool) (blanks : (v : A) → is_blank v ≡ true → v ≡ blank) (blanked : is_blank blank ≡ true) (held : A → Bool) {n : ℕ} (b : Bool) (c : Counted A n)
    → StandsOr b (λ d. counted_held held is_blank d ≡ true) (packed blank n []) c → b ≡ ltb 0 c.count
rows_bit blank is_blank blanks blanked held {n} true c h = sym (lt-ltb 0 c.count (omega (arith, leb-true 1 c.count (and_parts (leb 1 c.count) (leb c.count (min n 255)) (counts blank is_blank blanks blanked held c h)).0)))
rows_bit blank is_blank blanks blanked held false c h = sym (ap (λ d. ltb 0 d.count) h)

-- what was read may be written
pub holds_writable : (x : Standing) → StandingHolds x → Writable x
holds_writable x h =
    let c : Card = x.numbered.card in
    let s = h.1.0 in
    record {
      map = record {
        known = ltb-true x.map 256 h.0.1.1.0;
        up = λ e. s.0.1.1 ∙ (λ j. regulation (absent_is (λ v. is_quantity v ≡ true) 0 c.up.certified (stands 0 x.map) s.0.0 e j) (absent_is (λ v. is_quantity v ≡ true) 0 c.up.award (stands 0 x.map) s.0.1.0 e j));
        down = λ e. s.1.0.1.1 ∙ (λ j. regulation (absent_is (λ v. is_quantity v ≡ true) 0 c.down.certified (stands 1 x.map) s.1.0.0 e j) (absent_is (λ v. is_quantity v ≡ true) 0 c.down.award (stands 1 x.map) s.1.0.1.0 e j));
        spinning = λ e. absent_is (λ v. is_quantity v ≡ true) 0 c.spinning (stands 2 x.map) s.1.1.0 e;
        non_spinning = λ e. absent_is (λ v. is_quantity v ≡ true) 0 c.non_spinning (stands 3 x.map) s.1.1.1.0 e;
        limit = λ e. absent_is (λ v. is_quantity v ≡ true) c.pmax c.regulation_limit (stands 4 x.map) s.1.1.1.1.0 e;
        level = λ e. absent_is (λ v. is_price v ≡ true) _ c.level (stands 5 x.map) s.1.1.1.1.1.0 e;
        pairs = rows_bit blank_limit is_blank_limit limit_blank refl is_limit (stands 6 x.map) c.start_up h.1.1.0;
        rows = rows_bit blank_limits is_blank_limits limits_blank refl limits_held (stands 7 x.map) c.ramp h.1.1.1.0;
      };
      tidy = holds_tidy x h;
    }

all_held_lem : {A : Type 0} (p q : A → Bool) → ((x : A) → p x ≡ true → q x ≡ true) → (xs : List A) → all_held p xs ≡ true → all_held q xs ≡ true
all_held_lem p q w [] h = refl
all_held_lem p q w (x ∷ xs) h = let r = and_parts (p x) (all_held p xs) h in and_from _ _ (w x r.0) (all_held_lem p q w xs r.1)

-- rows that are packed and pass a test are rows that reading may give
rows_hold : {A : Type 0} (blank : A) (is_blank : A → Bool) (blanks : (v : A) → is_blank v ≡ true → v ≡ blank) (blanked : is_blank blank ≡ true) (held : A → Bool) {n : ℕ} (small : n < 256) (b : Bool) (c : Counted A n)
    → c ≡ packed blank n (entries c) → leb c.count n ≡ true → b ≡ ltb 0 c.count → all_held held (entries c) ≡ true → StandsOr b (λ d. counted_held held is_blank d ≡ true) (packed blank n []) c
rows_hold blank is_blank blanks blanked held {n} small b c tidy few bit h =
    let size : length (entries c) ≡ c.count = sym (ap (λ d. d.count) tidy) in
    or_holds (λ d. counted_held held is_blank d ≡ true) (packed blank n []) c b
    (λ e.
    let some : 0 < c.count = ltb-true 0 c.count (sym bit ∙ e) in
    let most : c.count ≤ n = leb-true c.count n few in
    let right : is_count n (length (entries c)) ≡ true = and_from _ _ (le-leb 1 (length (entries c)) (omega arith)) (le-leb (length (entries c)) (min n 255) (omega arith)) in
    ap (counted_held held is_blank) tidy ∙ packed_held blank is_blank blanks blanked held n (entries c) right h)
    (λ e.
    let none : c.count ≡ 0 = omega (arith, ltb-false 0 c.count (sym bit ∙ e)) in
    tidy ∙ ap (λ k. packed blank n (take k c.rows)) none)

pairs_held : (ps : List StartUpLimit) → start_up_kept ps ≡ true → all_held is_limit ps ≡ true
pairs_held ps h =
    let p = and_parts (all_held is_limit ps && first_is (λ p. p.down_time) 0 ps && rises (λ p. p.down_time) ps) (rises (λ p. p.highest) ps) h in
    let q = and_parts (all_held is_limit ps && first_is (λ p. p.down_time) 0 ps) (rises (λ p. p.down_time) ps) p.0 in
    (and_parts (all_held is_limit ps) (first_is (λ p. p.down_time) 0 ps) q.0).0

rows_held : (pmin pmax : ℕ) (rs : List RampLimits) → ramp_kept pmin pmax rs ≡ true → all_held (is_row pmax) rs ≡ true
rows_held pmin pmax rs h =
    let p = and_parts (all_held (is_row pmax) rs && first_is (λ r. r.level) pmin rs) (rises (λ r. r.level) rs) h in
    (and_parts (all_held (is_row pmax) rs) (first_is (λ r. r.level) pmin rs) p.0).0

quantity_below : (v top : ℕ) → leb v top ≡ true → is_quantity top ≡ true → is_quantity v ≡ true
quantity_below v top h q = le-leb v 10000000 (omega (arith, leb-true v top h, leb-true top 10000000 q))

regulation_holds : (pmax : ℕ) (r : Regulation) (b : Bool) → is_quantity pmax ≡ true → regulation_kept pmax r ≡ true → (b ≡ false → r ≡ regulation 0 0) → RegulationOr b r
regulation_holds pmax r b q k d =
    let p = and_parts (leb r.award r.certified) (leb r.certified pmax) k in
    let cert = quantity_below r.certified pmax p.1 q in (
      or_holds (λ v. is_quantity v ≡ true) 0 r.certified b (λ e. cert) (λ e. ap (λ z. z.certified) (d e)),
      (or_holds (λ v. is_quantity v ≡ true) 0 r.award b (λ e. quantity_below r.award r.certified p.0 cert) (λ e. ap (λ z. z.award) (d e)), refl),
    )

-- what is kept and may be written is what reading may give
pub writable_holds : (x : Standing) → numbered_kept x.numbered ≡ true → Writable x → StandingHolds x
writable_holds x k w =
    let c : Card = x.numbered.card in
    let m : ℕ = x.map in
    let f = w.map in
    let a = and_parts (ltb x.numbered.resource 65536) (card_kept c) k in
    let p = kept_parts c a.1 in
    let row-held : (z : RampLimits) → is_row c.pmax z ≡ true → limits_held z ≡ true =
    λ z h.
    let g = and_parts (leb z.level c.pmax && leb z.lowest z.highest) (is_quantity z.highest) h in
    let i = and_parts (leb z.level c.pmax) (leb z.lowest z.highest) g.0 in
    and_from _ _ (quantity_below z.level c.pmax i.0 p.most) (and_from _ _ (quantity_below z.lowest z.highest i.1 g.1) g.1) in (
      (a.0, (p.owner, (lt-ltb m 256 f.known, (quantity_below c.pmin c.pmax p.least p.most, (p.most, refl))))),
      (
        (
          regulation_holds c.pmax c.up (stands 0 m) p.most p.up f.up,
          (
            regulation_holds c.pmax c.down (stands 1 m) p.most p.down f.down,
            (
              or_holds (λ i. is_quantity i ≡ true) 0 c.spinning (stands 2 m) (λ h. quantity_below c.spinning c.pmax p.spinning p.most) f.spinning,
              (
                or_holds (λ i. is_quantity i ≡ true) 0 c.non_spinning (stands 3 m) (λ h. quantity_below c.non_spinning c.pmax p.non_spinning p.most) f.non_spinning,
                (
                  or_holds (λ i. is_quantity i ≡ true) c.pmax c.regulation_limit (stands 4 m) (λ h. quantity_below c.regulation_limit c.pmax p.limit p.most) f.limit,
                  (or_holds (λ i. is_price i ≡ true) (pos 0) c.level (stands 5 m) (λ h. p.level) f.level, refl),
                ),
              ),
            ),
          ),
        ),
        (
          rows_hold blank_limit is_blank_limit limit_blank refl is_limit (omega arith) (stands 6 m) c.start_up (ap (λ z. z.start_up) w.tidy) p.few_pairs f.pairs (pairs_held (entries c.start_up) p.pairs),
          (
            rows_hold blank_limits is_blank_limits limits_blank refl limits_held (omega arith) (stands 7 m) c.ramp (ap (λ z. z.ramp) w.tidy) p.few_rows f.rows (all_held_lem (is_row c.pmax) limits_held row-held (entries c.ramp) (rows_held c.pmin c.pmax (entries c.ramp) p.rows)),
            refl,
          ),
        ),
      ),
    )

-- the cards of a file, and what writing them puts
cards_exact : (bytes : List ℕ) → Bytes bytes → (k place least at : ℕ) (ys : List Standing) (end : ℕ) → cards_at k place least bytes at ≡ Ok (ys, end) → (drop at bytes ≡ flat_map standing_bytes ys ++ drop end bytes) × AllByRecursion Writable ys
cards_exact bytes all zero place least at ys end e =
    let same = ok_same e in
    let is : [] ≡ ys = ap (λ w. w.0) same in
    (ap (λ k. drop k bytes) (ap (λ w. w.1) same) ∙ ap (λ l. flat_map standing_bytes l ++ drop end bytes) is, subst (AllByRecursion Writable) is tt)
cards_exact bytes all (suc k) place least at ys end e =
    let r = card_read k place least bytes at ys end e in
    let x : Standing = r.0 in
    let known = standing_undoes.exact bytes at x r.1 all r.3 in
    let ih = cards_exact bytes all k (place + 1) (x.numbered.resource + 1) r.1 r.2 end r.5 in (
      known.2 ∙ ap (λ l. standing_bytes x ++ l) ih.0 ∙ sym (append_assoc (standing_bytes x) (flat_map standing_bytes r.2) (drop end bytes)) ∙ ap (λ l. flat_map standing_bytes l ++ drop end bytes) (sym r.6),
      subst (AllByRecursion Writable) (sym r.6) (holds_writable x known.0, ih.1),
    )

cards_restore : (bytes rest : List ℕ) (xs : List Standing) (place least at : ℕ) → all_held numbered_kept (cards_of xs) ≡ true → AllByRecursion Writable xs → cards_checked place least (cards_of xs) ≡ Ok tt → drop at bytes ≡ flat_map standing_bytes xs ++ rest
    → cards_at (length xs) place least bytes at ≡ Ok (xs, at + length (flat_map standing_bytes xs))
unfolding card_then
cards_restore bytes rest [] place least at kept w checked e = ap (λ k. Ok ([], k)) (sym (add-zero at))
cards_restore bytes rest (x ∷ xs) place least at kept w checked e =
    let k = and_parts (numbered_kept x.numbered) (all_held numbered_kept (cards_of xs)) kept in
    let h = writable_holds x k.0 w.0 in
    let e₁ : drop at bytes ≡ standing_bytes x ++ (flat_map standing_bytes xs ++ rest) = e ∙ append_assoc (standing_bytes x) (flat_map standing_bytes xs) rest in
    let e₂ : drop (at + length (standing_bytes x)) bytes ≡ flat_map standing_bytes xs ++ rest = drop_on bytes (standing_bytes x) (flat_map standing_bytes xs ++ rest) at e₁ in
    let m = passed place least x.numbered (cards_of xs) checked in
    let next : ℕ = at + length (standing_bytes x) in
    then_is (card_then (length xs) place least bytes) (standing_undoes.restores x bytes (flat_map standing_bytes xs ++ rest) at h e₁) ∙ cond-true (may_stand least x.numbered) _ _ m.0
    ∙ then_is (before x) (cards_restore bytes rest xs (place + 1) (x.numbered.resource + 1) next k.1 w.1 m.1 e₂)
    ∙ ap (λ n. Ok (x ∷ xs, n)) (add_assoc at (length (standing_bytes x)) (length (flat_map standing_bytes xs)) ∙ ap (λ n. at + n) (sym (length-append (standing_bytes x) (flat_map standing_bytes xs))))

-- cards that are kept and rise are checked
rising_checked : (p b : ℕ) (xs : List NumberedCard) → all_held numbered_kept xs ≡ true → rises_from number_of b xs ≡ true → cards_checked p (b + 1) xs ≡ Ok tt
rising_checked p b [] h u = refl
rising_checked p b (x ∷ xs) h u =
    let k = and_parts (numbered_kept x) (all_held numbered_kept xs) h in
    let r = and_parts (ltb b x.resource) (rises_from number_of x.resource xs) u in
    checked_more p (b + 1) x xs (and_from _ _ (le-leb (b + 1) x.resource (omega (arith, ltb-true b x.resource r.0))) k.0) ∙ rising_checked (p + 1) x.resource xs k.1 r.1

kept_checked : (p : ℕ) (xs : List NumberedCard) → all_held numbered_kept xs ≡ true → rises number_of xs ≡ true → cards_checked p 0 xs ≡ Ok tt
kept_checked p [] h u = refl
kept_checked p (x ∷ xs) h u =
    let k = and_parts (numbered_kept x) (all_held numbered_kept xs) h in
    checked_more p 0 x xs (and_from _ _ (le-leb 0 x.resource (omega arith)) k.0) ∙ rising_checked (p + 1) x.resource xs k.1 u

day_holds : (d : Day) → day_kept d ≡ true → DayHolds d
day_holds d h =
    let p = and_parts (day_prices d && is_day_length d.hours) (caps_in_order d) h in
    let q = and_parts (day_prices d) (is_day_length d.hours) p.0 in
    let r = and_parts (is_price d.floor && is_price d.soft_cap && is_price d.hard_cap) (is_price d.service_cap) q.0 in
    let s = and_parts (is_price d.floor && is_price d.soft_cap) (is_price d.hard_cap) r.0 in
    let t = and_parts (is_price d.floor) (is_price d.soft_cap) s.0 in
    let hours : ltb d.hours 256 ≡ true = lt-ltb d.hours 256 (omega (arith, leb-true d.hours 25 (and_parts (leb 23 d.hours) (leb d.hours 25) q.1).1)) in
    (hours, (t.0, (t.1, (s.1, (r.1, refl)))))

module _ (bytes : List ℕ) (all : Bytes bytes) where
  to_written : is_ok (file_at bytes) ≡ true → (d : Day) × (xs : List Standing) × WrittenAs bytes d xs
  to_written h =
      let c = contents_in (file_at bytes) h in
      let d : Day = c.0.day in
      let xs : List Standing = c.0.standing in
      let a = accepted bytes all c.0 c.1 in
      let first = (day_undoes.exact bytes 0 d 17 all a.day).2 in
      let second = (number_lawful 2).exact bytes 17 a.count 19 all a.counted in
      let third = cards_exact bytes all a.count 1 0 19 xs a.end a.cards in
      let checked = cards_checked_lem a.count 1 0 bytes 19 xs a.end a.cards in
      let last : drop a.end bytes ≡ [] = drop_all a.end bytes a.whole in (
        d,
        xs,
        record {
          puts = first ∙ ap (λ l. day_bytes d ++ l) (second.2 ∙ ap (λ l. word_bytes a.count ++ l) (third.0 ∙ ap (λ l. flat_map standing_bytes xs ++ l) last ∙ append-nil (flat_map standing_bytes xs)) ∙ ap (λ k. word_bytes k ++ flat_map standing_bytes xs) (sym checked.1));
          kept = row_kept_lem d (cards_of xs) a.kept checked.0;
          few = omega (arith, checked.1, ltb-true a.count 65536 second.0);
          writable = third.1;
        },
      )

  from_written : (d : Day) (xs : List Standing) → WrittenAs bytes d xs → file_at bytes ≡ Ok (contents d xs)
  from_written d xs w =
      let p = and_parts (day_kept d && all_held numbered_kept (cards_of xs)) (rises number_of (cards_of xs)) w.kept in
      let q = and_parts (day_kept d) (all_held numbered_kept (cards_of xs)) p.0 in
      let cards : List ℕ = flat_map standing_bytes xs in
      let e₀ : drop 0 bytes ≡ day_bytes d ++ (word_bytes (length xs) ++ cards) = w.puts in
      let e₁ : drop 17 bytes ≡ word_bytes (length xs) ++ cards = drop_on bytes (day_bytes d) (word_bytes (length xs) ++ cards) 0 e₀ in
      let e₂ : drop 19 bytes ≡ cards = drop_on bytes (word_bytes (length xs)) cards 17 e₁ in
      let day = day_undoes.restores d bytes (word_bytes (length xs) ++ cards) 0 (day_holds d q.0) e₀ in
      let count = (number_lawful 2).restores (length xs) bytes cards 17 (lt-ltb (length xs) 65536 (omega (arith, w.few))) e₁ in
      let read = cards_restore bytes [] xs 1 0 19 q.1 w.writable (kept_checked 1 (cards_of xs) q.1 p.1) (e₂ ∙ sym (append-nil cards)) in
      let size : length bytes - 19 ≡ length cards = sym (length-drop 19 bytes) ∙ ap length e₂ in
      let end : length bytes ≤ 19 + length cards = omega arith in
      file_counted bytes d 17 (length xs) 19 day q.0 count ∙ then_is (ending_at bytes d) read ∙ cond-true (leb (length bytes) (19 + length cards)) _ _ (le-leb (length bytes) (19 + length cards) end)

  pub file_written : FileWritten bytes
  file_written = record {
    accepted = to_written;
    written = λ d xs w. let is = from_written d xs w in (ap is_ok is, means bytes (contents d xs) is);
  }
