-- What an accepted file holds, and how a card is found in it. Assumes nothing.
use Rattle.std.proofs.Common.{◌≡◌, ℕ, zero, suc, ◌+◌, ◌-◌, ◌<◌, ◌≤◌, Bool, true, false, cond, eqb, ltb, leb, List, [], length, is_ok, Some, None, Ok, Err, Option, Result, sym, refl, ap, ◌∙◌, subst, inl, inr, arith}
use Rattle.std.proofs.lemmas.Bool.{cases_Bool, cond-true, cond-false, and_parts, leb-true, ltb-true, ltb-false, ne_eqb, both_ways, lt-ltb, le-ltb, eq-eqb}
use Rattle.faults.specs.declared.Fault.{Fault}
use Rattle.wire.specs.declared.counted.Counted.{Counted}
use Rattle.wire.specs.Bytes.{Bytes}
use Rattle.wire.specs.Reading.{Read, word_at}
use Rattle.wire.specs.Rows.{entries, packed, counted_held}
use Rattle.wire.specs.CountedRows.{packed-entries}
use Rattle.wire.specs.Lawful.{number_lawful}
use Rattle.wire.specs.Steps.{ok_not_err, ok_same, err_same, then_read}
use Rattle.register.specs.declared.data.Card.{Card}
use Rattle.register.specs.declared.data.Day.{Day}
use Rattle.register_file.specs.declared.standing.Standing.{Standing}
use Rattle.register.specs.Cards.{blank_limit, blank_limits, with_rows, tidied}
use Rattle.register.specs.CardRow.{numbered_kept, row_checked, card_in, row_meaning}
use Rattle.register_file.specs.Fields.{day_at, standing_at}
use Rattle.register.specs.Limits.{limits_held, is_blank_limit, is_blank_limits}
use Rattle.register_file.specs.File.{Contents, cards_at, ending_at, file_at, cards_of, contents_meaning, file_meaning, answer_only}
use Rattle.register_file.specs.FileLaws.{ReadAsRow}
use Rattle.register.specs.Kept.{day_kept, is_limit}
use Rattle.register.specs.Meaning.{granted}
use Rattle.register.specs.Rows.{made_of}
use Rattle.register_file.specs.Skipping.{or_zero, after_card, find_at}
use Rattle.register_file.specs.FileKeeps.{after_count, after_day, card_read, cards_checked_lem, contents_in}
use Rattle.register_file.proofs.FileFields.{StandingHolds, parts_undoes, day_undoes}
use Rattle.register.specs.LimitFields.{limit_blank, limits_blank}
use Rattle.register.specs.Tidied.{entries-packed}
use Rattle.register_file.proofs.Skipped.{number_read, after_card_lem}
use Rattle.register_file.proofs.Undoes.{StandsOr}

-- no number below the least stands there
pub none_below : (k place least : ℕ) (bytes : List ℕ) (at : ℕ) (ys : List Standing) (end : ℕ) → cards_at k place least bytes at ≡ Ok (ys, end) → (n : ℕ) → n < least → card_in (cards_of ys) n ≡ None
none_below zero place least bytes at ys end e n lt = ap (λ l. card_in (cards_of l) n) (sym (ap (λ w. w.0) (ok_same e)))
none_below (suc k) place least bytes at ys end e n lt =
    let r = card_read k place least bytes at ys end e in
    let x : Standing = r.0 in
    let above : least ≤ x.numbered.resource = leb-true least x.numbered.resource (and_parts (leb least x.numbered.resource) (numbered_kept x.numbered) r.4).0 in
    ap (λ l. card_in (cards_of l) n) r.6 ∙ cond-false (eqb x.numbered.resource n) _ _ (ne_eqb x.numbered.resource n (λ same. omega arith))
    ∙ none_below k (place + 1) (x.numbered.resource + 1) bytes r.1 r.2 end r.5 n (omega arith)

-- a search ends at a card that stands there, or the number is not held
abbrev pub Found : List ℕ → ℕ → List Standing → Option ℕ → Type 0
Found bytes n ys None = card_in (cards_of ys) n ≡ None
Found bytes n ys (Some p) = (x : Standing) × (next : ℕ) × (standing_at bytes p ≡ Ok (x, next)) × (card_in (cards_of ys) n ≡ Some (tidied x.numbered.card))

moved : (bytes : List ℕ) (n : ℕ) (ys xs : List Standing) (o p : Option ℕ) → o ≡ p → card_in (cards_of ys) n ≡ card_in (cards_of xs) n → Found bytes n xs p → Found bytes n ys o
moved bytes n ys xs o None e rest f = subst (Found bytes n ys) (sym e) (rest ∙ f)
moved bytes n ys xs o (Some p) e rest f = subst (Found bytes n ys) (sym e) (f.0, f.1, f.2, rest ∙ f.3)

pub found : (bytes : List ℕ) → Bytes bytes → (n k place least at : ℕ) (ys : List Standing) (end : ℕ) → cards_at k place least bytes at ≡ Ok (ys, end) → Found bytes n ys (find_at n k bytes at)
found bytes all n zero place least at ys end e = ap (λ l. card_in (cards_of l) n) (sym (ap (λ w. w.0) (ok_same e)))
found bytes all n (suc k) place least at ys end e =
    let r = card_read k place least bytes at ys end e in
    let x : Standing = r.0 in
    let res : ℕ = x.numbered.resource in
    let is = number_read bytes at all x r.1 r.3 in
    let step : find_at n (suc k) bytes at ≡ cond (ltb res n) (find_at n k bytes r.1) (cond (eqb res n) (Some at) None) =
    ap (λ v. cond (ltb v n) (find_at n k bytes (after_card bytes at)) (cond (eqb v n) (Some at) None)) is ∙ ap (λ p. cond (ltb res n) (find_at n k bytes p) (cond (eqb res n) (Some at) None)) (after_card_lem bytes at all x r.1 r.3) in
    let first : card_in (cards_of ys) n ≡ cond (eqb res n) (Some (tidied x.numbered.card)) (card_in (cards_of r.2) n) = ap (λ l. card_in (cards_of l) n) r.6 in
    elim (cases_Bool (ltb res n)) [
      | inl lower ↦ (
          let other : eqb res n ≡ false = ne_eqb res n (λ same. omega (arith, ltb-true res n lower)) in
          let rest : card_in (cards_of ys) n ≡ card_in (cards_of r.2) n = first ∙ cond-false (eqb res n) _ _ other in
          moved bytes n ys r.2 (find_at n (suc k) bytes at) (find_at n k bytes r.1) (step ∙ cond-true (ltb res n) _ _ lower) rest (found bytes all n k (place + 1) (res + 1) r.1 r.2 end r.5))
      | inr not ↦ elim (cases_Bool (eqb res n)) [
        | inl same ↦ subst (Found bytes n ys) (sym (step ∙ cond-false (ltb res n) _ _ not ∙ cond-true (eqb res n) _ _ same)) (x, r.1, r.3, first ∙ cond-true (eqb res n) _ _ same)
        | inr differ ↦ subst (Found bytes n ys) (sym (step ∙ cond-false (ltb res n) _ _ not ∙ cond-false (eqb res n) _ _ differ))
            (first ∙ cond-false (eqb res n) _ _ differ ∙ none_below k (place + 1) (res + 1) bytes r.1 r.2 end r.5 n (omega (arith, ltb-false res n not)))
      ]
    ]

-- pairs or rows that were read, or that are left out, have blanks behind them
tidy_rows : {A : Type 0} (blank : A) (is_blank : A → Bool) (blanks : (v : A) → is_blank v ≡ true → v ≡ blank) (blanked : is_blank blank ≡ true) (held : A → Bool) {n : ℕ} (present : Bool) (c : Counted A n)
    → StandsOr present (λ d. counted_held held is_blank d ≡ true) (packed blank n []) c → packed blank n (entries c) ≡ c
tidy_rows blank is_blank blanks blanked held true c h = packed-entries blank is_blank blanks blanked held c h
tidy_rows blank is_blank blanks blanked held {n} false c h = ap (λ d. packed blank n (entries d)) h ∙ ap (packed blank n) (entries-packed blank n []) ∙ sym h

pub holds_tidy : (x : Standing) → StandingHolds x → x.numbered.card ≡ tidied x.numbered.card
holds_tidy x h =
    let c : Card = x.numbered.card in
    sym (λ j. with_rows c (tidy_rows blank_limit is_blank_limit limit_blank refl is_limit _ c.start_up h.1.1.0 j) (tidy_rows blank_limits is_blank_limits limits_blank refl limits_held _ c.ramp h.1.1.1.0 j))

pub read_tidy : (bytes : List ℕ) (at : ℕ) → Bytes bytes → (x : Standing) (next : ℕ) → standing_at bytes at ≡ Ok (x, next) → x.numbered.card ≡ tidied x.numbered.card
read_tidy bytes at all x next e = holds_tidy x (parts_undoes.exact bytes at x next all e).0

-- a file that is accepted: its day, the number of its cards, and the cards
pub record Accepted (bytes : List ℕ) (c : Contents) : Type 0 where
  pub count : ℕ
  pub end : ℕ
  pub day : day_at bytes 0 ≡ Ok (c.day, 17)
  pub kept : day_kept c.day ≡ true
  pub counted : word_at bytes 17 ≡ Ok (count, 19)
  pub cards : cards_at count 1 0 bytes 19 ≡ Ok (c.standing, end)
  pub whole : length bytes ≤ end

pub accepted : (bytes : List ℕ) → Bytes bytes → (c : Contents) → file_at bytes ≡ Ok c → Accepted bytes c
unfolding after_day after_count
accepted bytes all c e =
    let r = then_read (day_at bytes 0) (after_day bytes) c e in
    let d : Day = r.0 in
    let at-17 : r.1 ≡ 17 = (day_undoes.exact bytes 0 d r.1 all r.2).1 in
    elim (cases_Bool (day_kept d)) [
      | inr h ↦ absurd (ok_not_err _ _ (sym r.3 ∙ cond-false (day_kept d) _ _ h))
      | inl h ↦ (
          let s = then_read (word_at bytes r.1) (after_count bytes d) c (sym (cond-true (day_kept d) _ _ h) ∙ r.3) in
          let at-19 : s.1 ≡ 19 = ((number_lawful 2).exact bytes r.1 s.0 s.1 all s.2).1 ∙ ap (λ k. k + 2) at-17 in
          let t = then_read (cards_at s.0 1 0 bytes s.1) (ending_at bytes d) c s.3 in
          elim (cases_Bool (leb (length bytes) t.1)) [
            | inr g ↦ absurd (ok_not_err _ _ (sym t.3 ∙ cond-false (leb (length bytes) t.1) _ _ g))
            | inl g ↦ (
                let is = ok_same (sym (cond-true (leb (length bytes) t.1) _ _ g) ∙ t.3) in
                record {
                  count = s.0;
                  end = t.1;
                  day = r.2 ∙ (λ j. Ok (ap (λ x. x.day) is j, at-17 j));
                  kept = subst (λ x. day_kept x.day ≡ true) is h;
                  counted = ap (word_at bytes) (sym at-17) ∙ s.2 ∙ ap (λ k. Ok (s.0, k)) at-19;
                  cards = ap (cards_at s.0 1 0 bytes) (sym at-19) ∙ t.2 ∙ ap (λ l. Ok (l, t.1)) (ap (λ x. x.standing) is);
                  whole = leb-true (length bytes) t.1 g;
                })
          ])
    ]

-- the cards that are read from a file make a row of cards that is accepted
pub file_row : (bytes : List ℕ) (c : Contents) → Accepted bytes c → row_checked c.day (cards_of c.standing) ≡ Ok tt
file_row bytes c a = cond-true (day_kept c.day) _ _ a.kept ∙ (cards_checked_lem a.count 1 0 bytes 19 c.standing a.end a.cards).0

ok_read : {A : Type 0} (r : Read A) → is_ok r ≡ true → (x : A) × (n : ℕ) × (r ≡ Ok (x, n))
ok_read (Ok y) h = (y.0, y.1, refl)
ok_read (Err f) h = absurd (both_ways false refl h)

-- one step of a search
module _ (bytes : List ℕ) (all : Bytes bytes) (count i : ℕ) (lt : i < count) (at : ℕ) where
  one_less : count - i ≡ suc (count - (i + 1))
  one_less = omega arith

  pub next_stands : (place least : ℕ) → is_ok (cards_at (count - i) place least bytes at) ≡ true
      → (is_ok (standing_at bytes at) ≡ true) × ((more : ℕ) × (is_ok (cards_at (count - (i + 1)) (place + 1) more bytes (after_card bytes at)) ≡ true))
  next_stands place least h =
      let r = ok_read (cards_at (count - i) place least bytes at) h in
      let c = card_read (count - (i + 1)) place least bytes at r.0 r.1 (ap (λ k. cards_at k place least bytes at) (sym one_less) ∙ r.2) in
      let x : Standing = c.0 in
      (ap is_ok c.3, (x.numbered.resource + 1, ap (λ p. is_ok (cards_at (count - (i + 1)) (place + 1) (x.numbered.resource + 1) bytes p)) (after_card_lem bytes at all x c.1 c.3) ∙ ap is_ok c.5))

  module _ (n number : ℕ) (is : number ≡ or_zero (word_at bytes at)) where
    search_opens : find_at n (count - i) bytes at ≡ cond (ltb number n) (find_at n (count - (i + 1)) bytes (after_card bytes at)) (cond (eqb number n) (Some at) None)
    search_opens = ap (λ k. find_at n k bytes at) one_less ∙ ap (λ v. cond (ltb v n) (find_at n (count - (i + 1)) bytes (after_card bytes at)) (cond (eqb v n) (Some at) None)) (sym is)

    pub search_more : number < n → find_at n (count - i) bytes at ≡ find_at n (count - (i + 1)) bytes (after_card bytes at)
    search_more lower = search_opens ∙ cond-true (ltb number n) _ _ (lt-ltb number n lower)

    pub search_here : number ≡ n → find_at n (count - i) bytes at ≡ Some at
    search_here same = search_opens ∙ cond-false (ltb number n) _ _ (le-ltb number n (omega arith)) ∙ cond-true (eqb number n) _ _ (eq-eqb number n same)

    pub search_past : n < number → find_at n (count - i) bytes at ≡ None
    search_past above = search_opens ∙ cond-false (ltb number n) _ _ (le-ltb number n (omega arith)) ∙ cond-false (eqb number n) _ _ (ne_eqb number n (λ same. omega arith))

-- what an accepted file means, by what stands in it
pub means : (bytes : List ℕ) (c : Contents) → file_at bytes ≡ Ok c → file_meaning bytes ≡ row_meaning c.day (cards_of c.standing)
means bytes c e = ap contents_meaning e

module _ (bytes : List ℕ) (all : Bytes bytes) (h : is_ok (file_at bytes) ≡ true) (count : ℕ) (is : count ≡ or_zero (word_at bytes 17)) where
  c₀ : (c : Contents) × (file_at bytes ≡ Ok c)
  c₀ = contents_in (file_at bytes) h

  a₀ : Accepted bytes c₀.0
  a₀ = accepted bytes all c₀.0 c₀.1

  same_count : count ≡ a₀.count
  same_count = is ∙ ap or_zero a₀.counted

  read₀ : cards_at count 1 0 bytes 19 ≡ Ok (c₀.0.standing, a₀.end)
  read₀ = ap (λ k. cards_at k 1 0 bytes 19) same_count ∙ a₀.cards

  pub cards_stand : is_ok (cards_at count 1 0 bytes 19) ≡ true
  cards_stand = ap is_ok read₀

  held₀ : (n : ℕ) → (file_meaning bytes).cards n ≡ card_in (cards_of c₀.0.standing) n
  held₀ n = ap (λ m. m.cards n) (means bytes c₀.0 c₀.1)

  found₀ : (n : ℕ) (o : Option ℕ) → find_at n count bytes 19 ≡ o → Found bytes n c₀.0.standing o
  found₀ n o e = subst (Found bytes n c₀.0.standing) e (found bytes all n count 1 0 19 c₀.0.standing a₀.end read₀)

  pub look_misses : (n : ℕ) → find_at n count bytes 19 ≡ None → (file_meaning bytes).cards n ≡ None
  look_misses n e = held₀ n ∙ found₀ n None e

  pub look_finds : (n p : ℕ) → find_at n count bytes 19 ≡ Some p → (x : Standing) (next : ℕ) → standing_at bytes p ≡ Ok (x, next) → (file_meaning bytes).cards n ≡ Some x.numbered.card
  look_finds n p e x next r =
      let f = found₀ n (Some p) e in
      let same : f.0 ≡ x = ap (λ w. w.0) (ok_same (sym f.2 ∙ r)) in
      held₀ n ∙ f.3 ∙ ap (λ y. Some (tidied y.numbered.card)) same ∙ ap Some (sym (read_tidy bytes p all x next r))

  pub look_stands : (n p : ℕ) → find_at n count bytes 19 ≡ Some p → (f : Fault) → standing_at bytes p ≡ Err f → ⊥
  look_stands n p e g r = let f = found₀ n (Some p) e in ok_not_err _ _ (sym f.2 ∙ r)

pub granted_new : {A B : Type 0} (r : Result A Fault) (new old : B) → Ok tt ≡ answer_only r → granted r new old ≡ new
granted_new (Ok x) new old e = refl
granted_new (Err f) new old e = absurd (ok_not_err _ _ e)

pub granted_old : {A B : Type 0} (r : Result A Fault) (new old : B) (f : Fault) → Err f ≡ answer_only r → granted r new old ≡ old
granted_old (Ok x) new old f e = absurd (ok_not_err _ _ (sym e))
granted_old (Err g) new old f e = refl

-- the cards that are read from a file, and what they mean as a row
pub read_as_row : (bytes : List ℕ) → Bytes bytes → ReadAsRow bytes
read_as_row bytes all c e = (file_row bytes c (accepted bytes all c e), means bytes c e)

-- what is accepted makes what was given; what is refused makes its fault
pub made_new : {A B : Type 0} (r : Result A Fault) (new x : B) → Ok x ≡ made_of (answer_only r) new → (x ≡ new) × (Ok tt ≡ answer_only r)
made_new (Ok a) new x e = (ok_same e, refl)
made_new (Err f) new x e = absurd (ok_not_err _ _ e)

pub made_old : {A B : Type 0} (r : Result A Fault) (new : B) (f : Fault) → Err f ≡ made_of (answer_only r) new → Err f ≡ answer_only r
made_old (Ok a) new f e = absurd (ok_not_err _ _ (sym e))
made_old (Err g) new f e = ap Err (err_same e)

pub accepted_file : {A : Type 0} (r : Result A Fault) → Ok tt ≡ answer_only r → is_ok r ≡ true
accepted_file (Ok a) e = refl
accepted_file (Err f) e = absurd (ok_not_err _ _ e)
