-- A card's length is what its map and its counts say. Assumes nothing.
use Rattle.std.proofs.Common.{◌≡◌, ℕ, ◌+◌, ◌-◌, ◌*◌, ◌<◌, ◌≤◌, Bool, true, false, cond, ltb, List, [], ◌∷◌, ◌++◌, length, get_or, drop, is_ok, Ok, Err, sym, refl, ap, ◌∙◌, append_assoc, suc-mul, arith, w8, Fits}
use Rattle.std.proofs.ByRecursion.{All-from_get_or}
use Rattle.std.proofs.lemmas.List.{length-append, length-drop}
use Rattle.std.proofs.lemmas.Bool.{lt-ltb, ltb-true, both_ways}
use Rattle.std.specs.List.{flat_map}
use Rattle.wire.specs.declared.counted.Counted.{Counted}
use Rattle.wire.specs.Bytes.{Bytes, byte_bytes, word_bytes, long_bytes, signed_bytes}
use Rattle.wire.specs.Maps.{stands}
use Rattle.wire.specs.Reading.{Read, byte_at, word_at}
use Rattle.wire.specs.Rows.{entries, counted_bytes, counted_held}
use Rattle.wire.specs.CountedRows.{entries_long, at_most}
use Rattle.wire.specs.Lawful.{number_lawful}
use Rattle.wire.specs.Steps.{drop_on}
use Rattle.register_file.specs.declared.standing.Head.{Head}
use Rattle.register_file.specs.declared.standing.Services.{Services}
use Rattle.register_file.specs.declared.standing.Standing.{Standing}
use Rattle.register.specs.Cards.{blank_limit, blank_limits, packed_start_up, packed_ramp}
use Rattle.register_file.specs.Fields.{standing_at}
use Rattle.register.specs.Limits.{limit_bytes, limits_bytes, limits_held, is_blank_limit, is_blank_limits}
use Rattle.register_file.specs.File.{end_of}
use Rattle.register.specs.Kept.{is_limit}
use Rattle.register_file.specs.Skipping.{or_zero, fixed_length, rows_length, pairs_place, rows_place, after_card}
use Rattle.register_file.specs.Writing.{regulation_bytes}
use Rattle.register_file.proofs.FileFields.{head_bytes, services_bytes, head_in, services_in, StandingHolds, parts_bytes, parts_undoes}
use Rattle.register.specs.LimitFields.{limit_blank, limits_blank}
use Rattle.register_file.proofs.Undoes.{StandsOr}

-- what is lent as bytes are bytes
pub lent_bytes : (bytes : List ℕ) → ((i : ℕ) → Fits w8 (get_or bytes i 0)) → Bytes bytes
lent_bytes bytes typed = All-from_get_or (λ b. b < 256) bytes 0 (λ i l. (typed i).fits)

length-under : (b : Bool) (xs : List ℕ) (n : ℕ) → length xs ≡ n → length (cond b xs []) ≡ cond b n 0
length-under true xs n e = e
length-under false xs n e = refl

length_services : (h : Head) (s : Services) → 13 + length (services_bytes h s) ≡ fixed_length h.map
length_services h s =
    let m = h.map in
    let U0 : List ℕ = cond (stands 0 m) (regulation_bytes s.up) [] in
    let U1 : List ℕ = cond (stands 1 m) (regulation_bytes s.down) [] in
    let U2 : List ℕ = cond (stands 2 m) (long_bytes s.spinning) [] in
    let U3 : List ℕ = cond (stands 3 m) (long_bytes s.non_spinning) [] in
    let U4 : List ℕ = cond (stands 4 m) (long_bytes s.regulation_limit) [] in
    let U5 : List ℕ = cond (stands 5 m) (signed_bytes s.level) [] in
    omega (
      arith,
      length-append U0 (U1 ++ (U2 ++ (U3 ++ (U4 ++ U5)))),
      length-append U1 (U2 ++ (U3 ++ (U4 ++ U5))),
      length-append U2 (U3 ++ (U4 ++ U5)),
      length-append U3 (U4 ++ U5),
      length-append U4 U5,
      length-under (stands 0 m) (regulation_bytes s.up) 8 refl,
      length-under (stands 1 m) (regulation_bytes s.down) 8 refl,
      length-under (stands 2 m) (long_bytes s.spinning) 4 refl,
      length-under (stands 3 m) (long_bytes s.non_spinning) 4 refl,
      length-under (stands 4 m) (long_bytes s.regulation_limit) 4 refl,
      length-under (stands 5 m) (signed_bytes s.level) 4 refl,
    )

length_joined : {A : Type 0} (f : A → List ℕ) (m : ℕ) → ((x : A) → length (f x) ≡ m) → (xs : List A) → length (flat_map f xs) ≡ length xs * m
length_joined f m each [] = omega arith
length_joined f m each (x ∷ xs) = length-append (f x) (flat_map f xs) ∙ omega (arith, each x, length_joined f m each xs, suc-mul (length xs) m)

-- rows that stand at a place are as long as their count says
module _ {A : Type 0} (blank : A) (is_blank : A → Bool) (blanks : (v : A) → is_blank v ≡ true → v ≡ blank) (blanked : is_blank blank ≡ true) (held : A → Bool) (f : A → List ℕ) (m : ℕ) (each : (x : A) → length (f x) ≡ m) {n : ℕ} (small : n < 256) where
  rows_stand : (c : Counted A n) → counted_held held is_blank c ≡ true → (bytes rest : List ℕ) (at : ℕ) → drop at bytes ≡ counted_bytes f c ++ rest → 1 + or_zero (byte_at bytes at) * m ≡ length (counted_bytes f c)
  rows_stand c h bytes rest at e =
      let few = at_most blank is_blank blanks blanked held c h in
      let read = (number_lawful 1).restores c.count bytes (flat_map f (entries c) ++ rest) at (lt-ltb c.count 256 (omega arith)) (e ∙ append_assoc (byte_bytes c.count) (flat_map f (entries c)) rest) in
      let long : length (flat_map f (entries c)) ≡ c.count * m = length_joined f m each (entries c) ∙ ap (λ k. k * m) (entries_long blank is_blank blanks blanked held c h) in
      ap (λ r. 1 + or_zero r * m) read ∙ sym (length-append (byte_bytes c.count) (flat_map f (entries c)) ∙ ap (λ k. 1 + k) long)

  pub rows_length_lem : (present : Bool) (absent c : Counted A n) → StandsOr present (λ c. counted_held held is_blank c ≡ true) absent c → (bytes rest : List ℕ) (at : ℕ)
      → drop at bytes ≡ cond present (counted_bytes f c) [] ++ rest → cond present (1 + or_zero (byte_at bytes at) * m) 0 ≡ length (cond present (counted_bytes f c) [])
  rows_length_lem true absent c h bytes rest at e = rows_stand c h bytes rest at e
  rows_length_lem false absent c h bytes rest at e = refl

module _ (bytes : List ℕ) (at : ℕ) (all : Bytes bytes) (x : Standing) (next : ℕ) (read : standing_at bytes at ≡ Ok (x, next)) where
  pairs_of : List ℕ
  pairs_of = cond (stands 6 x.map) (counted_bytes limit_bytes x.numbered.card.start_up) []

  rows_of : List ℕ
  rows_of = cond (stands 7 x.map) (counted_bytes limits_bytes x.numbered.card.ramp) []

  fixed_of : List ℕ
  fixed_of = services_bytes (head_in x) (services_in x)

  rest : List ℕ
  rest = drop next bytes

  known : StandingHolds x × (next ≡ at + length (parts_bytes x)) × (drop at bytes ≡ parts_bytes x ++ drop next bytes)
  known = parts_undoes.exact bytes at x next all read

  whole : drop at bytes ≡ head_bytes (head_in x) ++ (fixed_of ++ (pairs_of ++ (rows_of ++ rest)))
  unfolding pairs_of rows_of fixed_of rest
  whole = known.2 ∙ ap (λ l. head_bytes (head_in x) ++ l) (append_assoc fixed_of (pairs_of ++ rows_of) rest ∙ ap (λ l. fixed_of ++ l) (append_assoc pairs_of rows_of rest))

  pub map_read : or_zero (word_at bytes (at + 3)) ≡ x.map
  map_read =
      let behind : List ℕ = long_bytes x.numbered.card.pmin ++ (long_bytes x.numbered.card.pmax ++ (fixed_of ++ (pairs_of ++ (rows_of ++ rest)))) in
      let here : drop (at + 3) bytes ≡ word_bytes x.map ++ behind = drop_on bytes (word_bytes x.numbered.resource ++ byte_bytes x.numbered.card.owner) (word_bytes x.map ++ behind) at whole in
      let small : ltb x.map 65536 ≡ true = lt-ltb x.map 65536 (omega (arith, ltb-true x.map 256 known.0.0.1.1.0)) in
      ap or_zero ((number_lawful 2).restores x.map bytes behind (at + 3) small here)

  pub number_read : or_zero (word_at bytes at) ≡ x.numbered.resource
  number_read =
      let behind : List ℕ = byte_bytes x.numbered.card.owner ++ (word_bytes x.map ++ (long_bytes x.numbered.card.pmin ++ (long_bytes x.numbered.card.pmax ++ (fixed_of ++ (pairs_of ++ (rows_of ++ rest)))))) in
      ap or_zero ((number_lawful 2).restores x.numbered.resource bytes behind at known.0.0.0 whole)

  front : List ℕ
  front = head_bytes (head_in x) ++ fixed_of

  pairs_place_lem : pairs_place bytes at ≡ at + length front
  unfolding fixed_of front
  pairs_place_lem = ap (λ k. at + fixed_length k) map_read ∙ ap (λ k. at + k) (sym (length_services (head_in x) (services_in x)) ∙ omega arith)

  at_pairs : drop (pairs_place bytes at) bytes ≡ pairs_of ++ (rows_of ++ rest)
  unfolding front
  at_pairs = ap (λ k. drop k bytes) pairs_place_lem ∙ drop_on bytes front (pairs_of ++ (rows_of ++ rest)) at whole

  pairs_long : rows_length (or_zero (word_at bytes (at + 3))) 6 6 bytes (pairs_place bytes at) ≡ length pairs_of
  unfolding pairs_of
  pairs_long = ap (λ k. rows_length k 6 6 bytes (pairs_place bytes at)) map_read
      ∙ rows_length_lem blank_limit is_blank_limit limit_blank refl is_limit limit_bytes 6 (λ p. refl) (omega arith) (stands 6 x.map) (packed_start_up []) x.numbered.card.start_up known.0.1.1.0 bytes (rows_of ++ rest) (pairs_place bytes at) at_pairs

  rows_place_lem : rows_place bytes at ≡ pairs_place bytes at + length pairs_of
  rows_place_lem = ap (λ k. pairs_place bytes at + k) pairs_long

  at_rows : drop (rows_place bytes at) bytes ≡ rows_of ++ rest
  at_rows = ap (λ k. drop k bytes) rows_place_lem ∙ drop_on bytes pairs_of (rows_of ++ rest) (pairs_place bytes at) at_pairs

  rows_long : rows_length (or_zero (word_at bytes (at + 3))) 7 12 bytes (rows_place bytes at) ≡ length rows_of
  unfolding rows_of
  rows_long = ap (λ k. rows_length k 7 12 bytes (rows_place bytes at)) map_read
      ∙ rows_length_lem blank_limits is_blank_limits limits_blank refl limits_held limits_bytes 12 (λ r. refl) (omega arith) (stands 7 x.map) (packed_ramp []) x.numbered.card.ramp known.0.1.1.1.0 bytes rest (rows_place bytes at) at_rows

  -- passing over a card leads to where reading it ends
  pub after_card_lem : after_card bytes at ≡ next
  unfolding pairs_of rows_of fixed_of front
  after_card_lem =
      let size = length-append (head_bytes (head_in x)) (fixed_of ++ (pairs_of ++ rows_of)) in
      let sizes = length-append fixed_of (pairs_of ++ rows_of) in
      let more = length-append pairs_of rows_of in
      let fixed = length-append (head_bytes (head_in x)) fixed_of in
      omega (arith, pairs_place_lem, rows_place_lem, rows_long, known.1)

  pub within : after_card bytes at ≤ length bytes
  within =
      let size : length bytes - at ≡ length (parts_bytes x) + (length bytes - next) = sym (length-drop at bytes) ∙ ap length known.2 ∙ length-append (parts_bytes x) (drop next bytes) ∙ ap (λ k. length (parts_bytes x) + k) (length-drop next bytes) in
      let some : 13 ≤ length (parts_bytes x) = omega (arith, length-append (head_bytes (head_in x)) (services_bytes (head_in x) (services_in x) ++ (cond (stands 6 x.map) (counted_bytes limit_bytes x.numbered.card.start_up) [] ++ cond (stands 7 x.map) (counted_bytes limits_bytes x.numbered.card.ramp) []))) in
      omega (arith, after_card_lem, known.1)

ok_is : {A : Type 0} (r : Read A) → is_ok r ≡ true → (x : A) × (n : ℕ) × (r ≡ Ok (x, n))
ok_is (Ok y) h = (y.0, y.1, refl)
ok_is (Err f) h = absurd (both_ways false refl h)

pub skips : (bytes : List ℕ) (at : ℕ) → Bytes bytes → is_ok (standing_at bytes at) ≡ true → (end_of (standing_at bytes at) ≡ Ok (after_card bytes at)) × (after_card bytes at ≤ length bytes)
skips bytes at all h =
    let r = ok_is (standing_at bytes at) h in
    (ap end_of r.2 ∙ ap Ok (sym (after_card_lem bytes at all r.0 r.1 r.2)), within bytes at all r.0 r.1 r.2)

-- the sums as they are made
module _ (bytes : List ℕ) (at map fixed pairs : ℕ) (m : map ≡ or_zero (word_at bytes (at + 3))) (f : fixed ≡ fixed_length map) (p : pairs ≡ rows_length map 6 6 bytes (at + fixed)) where
  to_pairs : at + fixed ≡ pairs_place bytes at
  to_pairs = ap (λ k. at + k) (f ∙ ap fixed_length m)

  pub to_rows : at + fixed + pairs ≡ rows_place bytes at
  to_rows = λ j. to_pairs j + (p ∙ ap (λ k. rows_length k 6 6 bytes (at + fixed)) m ∙ ap (rows_length (or_zero (word_at bytes (at + 3))) 6 6 bytes) to_pairs) j

  pub to_end : (rows : ℕ) → rows ≡ rows_length map 7 12 bytes (at + fixed + pairs) → at + fixed + pairs + rows ≡ after_card bytes at
  to_end rows r = λ j. to_rows j + (r ∙ ap (λ k. rows_length k 7 12 bytes (at + fixed + pairs)) m ∙ ap (rows_length (or_zero (word_at bytes (at + 3))) 7 12 bytes) to_rows) j
