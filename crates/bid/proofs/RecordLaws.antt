-- The bid record: reading and writing undo each other, and a fault lies within 178 bytes. Assumes nothing.
use Rattle.std.proofs.Common.{◌≡◌, ℕ, ◌+◌, ◌^◌, ◌<◌, ◌≤◌, min, Bool, true, false, cond, ltb, List, [], ◌∷◌, ◌++◌, length, take, drop, is_some, Ok, Err, Option, Result, sym, refl, ap, ◌∙◌, subst, inl, inr, append_assoc, zero-add, arith}
use Rattle.std.proofs.lemmas.List.{length-append, append-nil, take_at, take-append-drop, length-take-le, drop_all}
use Rattle.std.proofs.lemmas.Bool.{and_parts, and_from, ltb-true, lt-ltb, le-ltb, cond-true, cond-false, cases_lt, both_ways}
use Rattle.faults.specs.Answers.{answered, answer_of, result_answer}
use Rattle.faults.specs.declared.Fault.{Fault}
use Rattle.faults.specs.declared.Fault.TheVariants.{Record, Register, Rule, Window}
use Rattle.faults.specs.declared.RecordFault.TheVariants.{CutShort, UnknownBit, BadCount, OutOfRange, BytesLeftOver}
use Rattle.wire.specs.Bytes.{Bytes, byte_bytes, word_bytes, long_bytes}
use Rattle.wire.specs.Laws.{FaultWithin}
use Rattle.wire.specs.Maps.{stands, map_of}
use Rattle.wire.specs.Reading.{Read, and_then, byte_at, word_at, map_at, is_map, is_quantity, quantity_at, fault_at}
use Rattle.wire.specs.Rows.{optional_at, optional_bytes, optional_held}
use Rattle.wire.specs.Lawful.{number_lawful, map_lawful, quantity_lawful, optional_restores, optional_exact, optional_placed, optional_short, optional_near, near, placed_then, fault_wider}
use Rattle.wire.proofs.Maps.{stands-map_of, bits_from, map_of_bits, map_of_lt}
use Rattle.wire.specs.Steps.{ok_not_err, ok_same, then_read, then_is, drop_on}
use Rattle.bid.specs.declared.components.Components.{Components}
use Rattle.bid.specs.declared.components.Curve.{Curve}
use Rattle.bid.specs.declared.components.Ramp.{Ramp}
use Rattle.bid.specs.declared.components.Service.{Service}
use Rattle.bid.specs.declared.components.Services.{Services}
use Rattle.bid.specs.declared.components.StartUp.{StartUp}
use Rattle.bid.specs.Fields.{service_bytes, service_held, curve_at, curve_bytes, curve_held, start_up_at, start_up_bytes, start_up_held, ramp_at, ramp_bytes, ramp_held}
use Rattle.bid.specs.Kept.{services_held, keeps, is_resource, is_hour}
use Rattle.bid.specs.Record.{last_bit, service_of, services_at, record_at, record_read, presences, services_bytes, record_bytes, IsRecord, ReadsRecords, TellsBytesLeft}
use Rattle.bid.specs.FieldLaws.{service_lawful, curve_lawful, start_up_lawful, ramp_lawful}

-- what follows each field
abbrev services₄ : Option Service → Option Service → Option Service → Option Service → ℕ → Read Services
services₄ a b c d at = Ok (record { regulation_up = a; regulation_down = b; spinning = c; non_spinning = d }, at)

abbrev services₃ : ℕ → List ℕ → Option Service → Option Service → Option Service → ℕ → Read Services
services₃ map bytes a b c at = and_then (service_of 5 map bytes at) (services₄ a b c)

abbrev services₂ : ℕ → List ℕ → Option Service → Option Service → ℕ → Read Services
services₂ map bytes a b at = and_then (service_of 4 map bytes at) (services₃ map bytes a b)

abbrev services₁ : ℕ → List ℕ → Option Service → ℕ → Read Services
services₁ map bytes a at = and_then (service_of 3 map bytes at) (services₂ map bytes a)

-- the bits of the services are those of the map
abbrev Agrees : ℕ → Services → Type 0
Agrees map s =
    (is_some s.regulation_up ≡ stands 2 map) × (is_some s.regulation_down ≡ stands 3 map) × (is_some s.spinning ≡ stands 4 map) × (is_some s.non_spinning ≡ stands 5 map)

pub services_held_lem : (s : Services) → services_held s ≡ true
    → (optional_held service_held s.regulation_up ≡ true) × (optional_held service_held s.regulation_down ≡ true) × (optional_held service_held s.spinning ≡ true) × (optional_held service_held s.non_spinning ≡ true)
services_held_lem s h =
    let h₃ = and_parts _ (optional_held service_held s.non_spinning) h in
    let h₂ = and_parts _ (optional_held service_held s.spinning) h₃.0 in
    let h₁ = and_parts (optional_held service_held s.regulation_up) (optional_held service_held s.regulation_down) h₂.0 in
    (h₁.0, h₁.1, h₂.1, h₃.1)

services_restore : (map : ℕ) (s : Services) (bytes rest : List ℕ) (at : ℕ) → Agrees map s → services_held s ≡ true → drop at bytes ≡ services_bytes s ++ rest
    → services_at map bytes at ≡ Ok (s, at + length (services_bytes s))
services_restore map s bytes rest at agrees held e =
    let f : Option Service → List ℕ = optional_bytes service_bytes in
    let a = s.regulation_up in
    let b = s.regulation_down in
    let c = s.spinning in
    let d = s.non_spinning in
    let h = services_held_lem s held in
    let e₁ : drop at bytes ≡ f a ++ (f b ++ (f c ++ (f d ++ rest))) = e ∙ simp append_assoc in
    let e₂ = drop_on bytes (f a) (f b ++ (f c ++ (f d ++ rest))) at e₁ in
    let e₃ = drop_on bytes (f b) (f c ++ (f d ++ rest)) (at + length (f a)) e₂ in
    let e₄ = drop_on bytes (f c) (f d ++ rest) (at + length (f a) + length (f b)) e₃ in
    then_is (services₁ map bytes) (optional_restores service_lawful (stands 2 map) a bytes (f b ++ (f c ++ (f d ++ rest))) at agrees.0 h.0 e₁)
    ∙ then_is (services₂ map bytes a) (optional_restores service_lawful (stands 3 map) b bytes (f c ++ (f d ++ rest)) (at + length (f a)) agrees.1 h.1 e₂)
    ∙ then_is (services₃ map bytes a b) (optional_restores service_lawful (stands 4 map) c bytes (f d ++ rest) (at + length (f a) + length (f b)) agrees.2 h.2 e₃)
    ∙ then_is (services₄ a b c) (optional_restores service_lawful (stands 5 map) d bytes rest (at + length (f a) + length (f b) + length (f c)) agrees.3 h.3 e₄)
    ∙ ap (λ k. Ok (s, k)) (simp length-append (omega arith))

services_exact : (map : ℕ) (bytes : List ℕ) (at : ℕ) (s : Services) (next : ℕ) → Bytes bytes → services_at map bytes at ≡ Ok (s, next)
    → Agrees map s × (services_held s ≡ true) × (next ≡ at + length (services_bytes s)) × (drop at bytes ≡ services_bytes s ++ drop next bytes)
services_exact map bytes at s next all e =
    let f : Option Service → List ℕ = optional_bytes service_bytes in
    let r₁ = then_read (service_of 2 map bytes at) (services₁ map bytes) (s, next) e in
    let r₂ = then_read (service_of 3 map bytes r₁.1) (services₂ map bytes r₁.0) (s, next) r₁.3 in
    let r₃ = then_read (service_of 4 map bytes r₂.1) (services₃ map bytes r₁.0 r₂.0) (s, next) r₂.3 in
    let r₄ = then_read (service_of 5 map bytes r₃.1) (services₄ r₁.0 r₂.0 r₃.0) (s, next) r₃.3 in
    let x₁ = optional_exact service_lawful (stands 2 map) bytes at r₁.0 r₁.1 all r₁.2 in
    let x₂ = optional_exact service_lawful (stands 3 map) bytes r₁.1 r₂.0 r₂.1 all r₂.2 in
    let x₃ = optional_exact service_lawful (stands 4 map) bytes r₂.1 r₃.0 r₃.1 all r₃.2 in
    let x₄ = optional_exact service_lawful (stands 5 map) bytes r₃.1 r₄.0 r₄.1 all r₄.2 in
    let same = ok_same r₄.3 in
    let whole : Services = record { regulation_up = r₁.0; regulation_down = r₂.0; spinning = r₃.0; non_spinning = r₄.0 } in
    let P : Services → Type 0 = λ s. Agrees map s × (services_held s ≡ true) × (next ≡ at + length (services_bytes s)) × (drop at bytes ≡ services_bytes s ++ drop next bytes) in
    let after : r₄.1 ≡ next = ap (λ w. w.1) same in
    let long : next ≡ at + length (services_bytes whole) = simp length-append (omega (arith, x₁.2, x₂.2, x₃.2, x₄.2)) in
    let split : drop at bytes ≡ services_bytes whole ++ drop next bytes =
    x₁.3 ∙ ap (λ l. f r₁.0 ++ l) (x₂.3 ∙ ap (λ l. f r₂.0 ++ l) (x₃.3 ∙ ap (λ l. f r₃.0 ++ l) (x₄.3 ∙ ap (λ k. f r₄.0 ++ drop k bytes) after))) ∙ simp append_assoc in
    subst P (ap (λ w. w.0) same) ((x₁.0, x₂.0, x₃.0, x₄.0), and_from _ _ (and_from _ _ (and_from _ _ x₁.1 x₂.1) x₃.1) x₄.1, long, split)

services_placed : (map : ℕ) (bytes : List ℕ) (at : ℕ) (fault : Fault) → Bytes bytes → services_at map bytes at ≡ Err fault → FaultWithin (at + 32) fault
services_placed map bytes at fault all =
    placed_then (at + 32) (service_of 2 map bytes at) (services₁ map bytes) fault (λ h. fault_wider fault (at + 8) (at + 32) (omega arith) (optional_placed service_lawful (stands 2 map) bytes at fault all h)) (λ a at₁ h₁.
    let n₁ = optional_near service_lawful (stands 2 map) bytes at a at₁ all h₁ in
    placed_then (at + 32) (service_of 3 map bytes at₁) (services₂ map bytes a) fault (λ h. fault_wider fault (at₁ + 8) (at + 32) (omega arith) (optional_placed service_lawful (stands 3 map) bytes at₁ fault all h)) (λ b at₂ h₂.
    let n₂ = optional_near service_lawful (stands 3 map) bytes at₁ b at₂ all h₂ in
    placed_then (at + 32) (service_of 4 map bytes at₂) (services₃ map bytes a b) fault (λ h. fault_wider fault (at₂ + 8) (at + 32) (omega arith) (optional_placed service_lawful (stands 4 map) bytes at₂ fault all h)) (λ c at₃ h₃.
    let n₃ = optional_near service_lawful (stands 4 map) bytes at₂ c at₃ all h₃ in
    placed_then (at + 32) (service_of 5 map bytes at₃) (services₄ a b c) fault (λ h. fault_wider fault (at₃ + 8) (at + 32) (omega arith) (optional_placed service_lawful (stands 5 map) bytes at₃ fault all h)) (λ d at₄ h₄ e. absurd (ok_not_err _ _ e)))))

services_short : (s : Services) → services_held s ≡ true → length (services_bytes s) ≤ 32
services_short s held =
    let h = services_held_lem s held in
    let s₁ = optional_short service_lawful s.regulation_up h.0 in
    let s₂ = optional_short service_lawful s.regulation_down h.1 in
    let s₃ = optional_short service_lawful s.spinning h.2 in
    let s₄ = optional_short service_lawful s.non_spinning h.3 in
    simp length-append (omega arith)

-- what follows each field of a record
abbrev record₈ : ℕ → ℕ → Option ℕ → Option Curve → Services → Option StartUp → Option Ramp → ℕ → Read Components
record₈ r h q c s u p at = Ok (record { resource = r; hour = h; self_schedule = q; curve = c; services = s; start_up = u; ramp = p }, at)

abbrev record₇ : List ℕ → ℕ → ℕ → ℕ → Option ℕ → Option Curve → Services → Option StartUp → ℕ → Read Components
record₇ bytes r h map q c s u at = and_then (optional_at (stands 7 map) ramp_at bytes at) (record₈ r h q c s u)

abbrev record₆ : List ℕ → ℕ → ℕ → ℕ → Option ℕ → Option Curve → Services → ℕ → Read Components
record₆ bytes r h map q c s at = and_then (optional_at (stands 6 map) start_up_at bytes at) (record₇ bytes r h map q c s)

abbrev record₅ : List ℕ → ℕ → ℕ → ℕ → Option ℕ → Option Curve → ℕ → Read Components
record₅ bytes r h map q c at = and_then (services_at map bytes at) (record₆ bytes r h map q c)

abbrev record₄ : List ℕ → ℕ → ℕ → ℕ → Option ℕ → ℕ → Read Components
record₄ bytes r h map q at = and_then (optional_at (stands 1 map) curve_at bytes at) (record₅ bytes r h map q)

abbrev record₃ : List ℕ → ℕ → ℕ → ℕ → ℕ → Read Components
record₃ bytes r h map at = and_then (optional_at (stands 0 map) quantity_at bytes at) (record₄ bytes r h map)

abbrev record₂ : List ℕ → ℕ → ℕ → ℕ → Read Components
record₂ bytes r h at = and_then (map_at last_bit bytes at) (record₃ bytes r h)

abbrev record₁ : List ℕ → ℕ → ℕ → Read Components
record₁ bytes r at = and_then (byte_at bytes at) (record₂ bytes r)

known : 7 < 16
known = omega arith

-- what a kept bid keeps, part by part
pub record Parts (c : Components) : Type 0 where
  pub resource : is_resource c.resource ≡ true
  pub hour : is_hour c.hour ≡ true
  pub self_schedule : optional_held is_quantity c.self_schedule ≡ true
  pub curve : optional_held curve_held c.curve ≡ true
  pub services : services_held c.services ≡ true
  pub start_up : optional_held start_up_held c.start_up ≡ true
  pub ramp : optional_held ramp_held c.ramp ≡ true

pub parts : (c : Components) → keeps c ≡ true → Parts c
unfolding keeps
parts c h =
    let h₆ = and_parts _ (optional_held ramp_held c.ramp) h in
    let h₅ = and_parts _ (optional_held start_up_held c.start_up) h₆.0 in
    let h₄ = and_parts _ (services_held c.services) h₅.0 in
    let h₃ = and_parts _ (optional_held curve_held c.curve) h₄.0 in
    let h₂ = and_parts _ (optional_held is_quantity c.self_schedule) h₃.0 in
    let h₁ = and_parts (is_resource c.resource) (is_hour c.hour) h₂.0 in
    record { resource = h₁.0; hour = h₁.1; self_schedule = h₂.1; curve = h₃.1; services = h₄.1; start_up = h₅.1; ramp = h₆.1 }

pub kept : (c : Components) → Parts c → keeps c ≡ true
unfolding keeps
kept c p = and_from _ _ (and_from _ _ (and_from _ _ (and_from _ _ (and_from _ _ (and_from _ _ p.resource p.hour) p.self_schedule) p.curve) p.services) p.start_up) p.ramp

-- the map of a bid's components has no unknown bit
map_small : (bs : List Bool) → length bs ≡ 8 → is_map last_bit (map_of bs) ≡ true
map_small bs h = lt-ltb (map_of bs) 256 (subst (λ k. map_of bs < 2 ^ k) h (map_of_lt bs))

-- eight parts, one after another
pub joined_length : (A B C D E F G H : List ℕ) → length (A ++ (B ++ (C ++ (D ++ (E ++ (F ++ (G ++ H))))))) ≡ length A + (length B + (length C + (length D + (length E + (length F + (length G + length H))))))
joined_length A B C D E F G H = simp length-append

joined_place : (A B C D E F G H : List ℕ) (at a₁ a₂ a₃ a₄ a₅ a₆ a₇ a₈ : ℕ)
    → a₁ ≡ at + length A → a₂ ≡ a₁ + length B → a₃ ≡ a₂ + length C → a₄ ≡ a₃ + length D → a₅ ≡ a₄ + length E → a₆ ≡ a₅ + length F → a₇ ≡ a₆ + length G → a₈ ≡ a₇ + length H
    → a₈ ≡ at + length (A ++ (B ++ (C ++ (D ++ (E ++ (F ++ (G ++ H)))))))
joined_place A B C D E F G H at a₁ a₂ a₃ a₄ a₅ a₆ a₇ a₈ h₁ h₂ h₃ h₄ h₅ h₆ h₇ h₈ = omega (arith, joined_length A B C D E F G H)

joined_rest : (A B C D E F G H rest : List ℕ) → (A ++ (B ++ (C ++ (D ++ (E ++ (F ++ (G ++ H))))))) ++ rest ≡ A ++ (B ++ (C ++ (D ++ (E ++ (F ++ (G ++ (H ++ rest)))))))
joined_rest A B C D E F G H rest = simp append_assoc

pub record_restores : (c : Components) (bytes rest : List ℕ) (at : ℕ) → keeps c ≡ true → drop at bytes ≡ record_bytes c ++ rest → record_at bytes at ≡ Ok (c, at + length (record_bytes c))
unfolding record_bytes
record_restores c bytes rest at held e =
    let p = parts c held in
    let m : ℕ = map_of (presences c) in
    let A : List ℕ = word_bytes c.resource in
    let B : List ℕ = byte_bytes c.hour in
    let M : List ℕ = word_bytes m in
    let D : List ℕ = optional_bytes long_bytes c.self_schedule in
    let E : List ℕ = optional_bytes curve_bytes c.curve in
    let F : List ℕ = services_bytes c.services in
    let G : List ℕ = optional_bytes start_up_bytes c.start_up in
    let H : List ℕ = optional_bytes ramp_bytes c.ramp in
    let bits = stands-map_of (presences c) in
    let e₁ : drop at bytes ≡ A ++ (B ++ (M ++ (D ++ (E ++ (F ++ (G ++ (H ++ rest))))))) = e ∙ joined_rest A B M D E F G H rest in
    let at₁ : ℕ = at + length A in
    let e₂ : drop at₁ bytes ≡ B ++ (M ++ (D ++ (E ++ (F ++ (G ++ (H ++ rest)))))) = drop_on bytes A _ at e₁ in
    let at₂ : ℕ = at₁ + length B in
    let e₃ : drop at₂ bytes ≡ M ++ (D ++ (E ++ (F ++ (G ++ (H ++ rest))))) = drop_on bytes B _ at₁ e₂ in
    let at₃ : ℕ = at₂ + length M in
    let e₄ : drop at₃ bytes ≡ D ++ (E ++ (F ++ (G ++ (H ++ rest)))) = drop_on bytes M _ at₂ e₃ in
    let at₄ : ℕ = at₃ + length D in
    let e₅ : drop at₄ bytes ≡ E ++ (F ++ (G ++ (H ++ rest))) = drop_on bytes D _ at₃ e₄ in
    let at₅ : ℕ = at₄ + length E in
    let e₆ : drop at₅ bytes ≡ F ++ (G ++ (H ++ rest)) = drop_on bytes E _ at₄ e₅ in
    let at₆ : ℕ = at₅ + length F in
    let e₇ : drop at₆ bytes ≡ G ++ (H ++ rest) = drop_on bytes F _ at₅ e₆ in
    let at₇ : ℕ = at₆ + length G in
    let e₈ : drop at₇ bytes ≡ H ++ rest = drop_on bytes G _ at₆ e₇ in
    then_is (record₁ bytes) ((number_lawful 2).restores c.resource bytes _ at p.resource e₁)
    ∙ then_is (record₂ bytes c.resource) ((number_lawful 1).restores c.hour bytes _ at₁ p.hour e₂)
    ∙ then_is (record₃ bytes c.resource c.hour) ((map_lawful 7 known).restores m bytes _ at₂ (map_small (presences c) refl) e₃)
    ∙ then_is (record₄ bytes c.resource c.hour m) (optional_restores quantity_lawful (stands 0 m) c.self_schedule bytes _ at₃ (sym (bits 0)) p.self_schedule e₄)
    ∙ then_is (record₅ bytes c.resource c.hour m c.self_schedule) (optional_restores curve_lawful (stands 1 m) c.curve bytes _ at₄ (sym (bits 1)) p.curve e₅)
    ∙ then_is (record₆ bytes c.resource c.hour m c.self_schedule c.curve) (services_restore m c.services bytes _ at₅ (sym (bits 2), sym (bits 3), sym (bits 4), sym (bits 5)) p.services e₆)
    ∙ then_is (record₇ bytes c.resource c.hour m c.self_schedule c.curve c.services) (optional_restores start_up_lawful (stands 6 m) c.start_up bytes _ at₆ (sym (bits 6)) p.start_up e₇)
    ∙ then_is (record₈ c.resource c.hour c.self_schedule c.curve c.services c.start_up) (optional_restores ramp_lawful (stands 7 m) c.ramp bytes rest at₇ (sym (bits 7)) p.ramp e₈)
    ∙ ap (λ k. Ok (c, k)) (joined_place A B M D E F G H at at₁ at₂ at₃ at₄ at₅ at₆ at₇ (at₇ + length H) refl refl refl refl refl refl refl refl)

pub record_exact : (bytes : List ℕ) (at : ℕ) (c : Components) (next : ℕ) → Bytes bytes → record_at bytes at ≡ Ok (c, next)
    → (keeps c ≡ true) × (next ≡ at + length (record_bytes c)) × (drop at bytes ≡ record_bytes c ++ drop next bytes)
unfolding record_bytes
record_exact bytes at c next all e =
    let r₁ = then_read (word_at bytes at) (record₁ bytes) (c, next) e in
    let r₂ = then_read (byte_at bytes r₁.1) (record₂ bytes r₁.0) (c, next) r₁.3 in
    let r₃ = then_read (map_at last_bit bytes r₂.1) (record₃ bytes r₁.0 r₂.0) (c, next) r₂.3 in
    let m : ℕ = r₃.0 in
    let r₄ = then_read (optional_at (stands 0 m) quantity_at bytes r₃.1) (record₄ bytes r₁.0 r₂.0 m) (c, next) r₃.3 in
    let r₅ = then_read (optional_at (stands 1 m) curve_at bytes r₄.1) (record₅ bytes r₁.0 r₂.0 m r₄.0) (c, next) r₄.3 in
    let r₆ = then_read (services_at m bytes r₅.1) (record₆ bytes r₁.0 r₂.0 m r₄.0 r₅.0) (c, next) r₅.3 in
    let r₇ = then_read (optional_at (stands 6 m) start_up_at bytes r₆.1) (record₇ bytes r₁.0 r₂.0 m r₄.0 r₅.0 r₆.0) (c, next) r₆.3 in
    let r₈ = then_read (optional_at (stands 7 m) ramp_at bytes r₇.1) (record₈ r₁.0 r₂.0 r₄.0 r₅.0 r₆.0 r₇.0) (c, next) r₇.3 in
    let x₁ = (number_lawful 2).exact bytes at r₁.0 r₁.1 all r₁.2 in
    let x₂ = (number_lawful 1).exact bytes r₁.1 r₂.0 r₂.1 all r₂.2 in
    let x₃ = (map_lawful 7 known).exact bytes r₂.1 m r₃.1 all r₃.2 in
    let x₄ = optional_exact quantity_lawful (stands 0 m) bytes r₃.1 r₄.0 r₄.1 all r₄.2 in
    let x₅ = optional_exact curve_lawful (stands 1 m) bytes r₄.1 r₅.0 r₅.1 all r₅.2 in
    let x₆ = services_exact m bytes r₅.1 r₆.0 r₆.1 all r₆.2 in
    let x₇ = optional_exact start_up_lawful (stands 6 m) bytes r₆.1 r₇.0 r₇.1 all r₇.2 in
    let x₈ = optional_exact ramp_lawful (stands 7 m) bytes r₇.1 r₈.0 r₈.1 all r₈.2 in
    let same = ok_same r₈.3 in
    let v : Components = record { resource = r₁.0; hour = r₂.0; self_schedule = r₄.0; curve = r₅.0; services = r₆.0; start_up = r₇.0; ramp = r₈.0 } in
    let after : r₈.1 ≡ next = ap (λ w. w.1) same in
    let bits : presences v ≡ bits_from 0 8 m =
    λ j. x₄.0 j ∷ x₅.0 j ∷ x₆.0.0 j ∷ x₆.0.1 j ∷ x₆.0.2 j ∷ x₆.0.3 j ∷ x₇.0 j ∷ x₈.0 j ∷ [] in
    let map : map_of (presences v) ≡ m = ap map_of bits ∙ map_of_bits 8 m (ltb-true m 256 x₃.0) in
    let A : List ℕ = word_bytes r₁.0 in
    let B : List ℕ = byte_bytes r₂.0 in
    let M : List ℕ = word_bytes m in
    let D : List ℕ = optional_bytes long_bytes r₄.0 in
    let E : List ℕ = optional_bytes curve_bytes r₅.0 in
    let F : List ℕ = services_bytes r₆.0 in
    let G : List ℕ = optional_bytes start_up_bytes r₇.0 in
    let H : List ℕ = optional_bytes ramp_bytes r₈.0 in
    let written : record_bytes v ≡ A ++ (B ++ (M ++ (D ++ (E ++ (F ++ (G ++ H)))))) = ap (λ k. A ++ (B ++ (word_bytes k ++ (D ++ (E ++ (F ++ (G ++ H))))))) map in
    let sizes : next ≡ at + length (A ++ (B ++ (M ++ (D ++ (E ++ (F ++ (G ++ H))))))) = joined_place A B M D E F G H at r₁.1 r₂.1 r₃.1 r₄.1 r₅.1 r₆.1 r₇.1 next x₁.1 x₂.1 x₃.1 x₄.2 x₅.2 x₆.2 x₇.2 (sym after ∙ x₈.2) in
    let split : drop at bytes ≡ (A ++ (B ++ (M ++ (D ++ (E ++ (F ++ (G ++ H))))))) ++ drop next bytes =
    x₁.2 ∙ ap (λ l. A ++ l) (x₂.2 ∙ ap (λ l. B ++ l) (x₃.2 ∙ ap (λ l. M ++ l) (x₄.3 ∙ ap (λ l. D ++ l) (x₅.3 ∙ ap (λ l. E ++ l) (x₆.3 ∙ ap (λ l. F ++ l) (x₇.3 ∙ ap (λ l. G ++ l) (x₈.3 ∙ ap (λ k. H ++ drop k bytes) after))))))) ∙ sym (joined_rest A B M D E F G H (drop next bytes)) in
    let P : Components → Type 0 = λ c. (keeps c ≡ true) × (next ≡ at + length (record_bytes c)) × (drop at bytes ≡ record_bytes c ++ drop next bytes) in
    let held : keeps v ≡ true = kept v (record { resource = x₁.0; hour = x₂.0; self_schedule = x₄.1; curve = x₅.1; services = x₆.1; start_up = x₇.1; ramp = x₈.1 }) in
    subst P (ap (λ w. w.0) same) (held, sizes ∙ ap (λ l. at + length l) (sym written), split ∙ ap (λ l. l ++ drop next bytes) (sym written))

-- a fault of a record lies within its longest length
pub record_placed : (bytes : List ℕ) (at : ℕ) (fault : Fault) → Bytes bytes → record_at bytes at ≡ Err fault → FaultWithin (at + 178) fault
record_placed bytes at fault all =
    let n : ℕ = at + 178 in
    placed_then n (word_at bytes at) (record₁ bytes) fault (λ f. fault_wider fault (at + 2) n (omega arith) ((number_lawful 2).placed bytes at fault all f)) (λ r at₁ h₁.
    let n₁ = near (number_lawful 2) bytes at r at₁ all h₁ in
    placed_then n (byte_at bytes at₁) (record₂ bytes r) fault (λ f. fault_wider fault (at₁ + 1) n (omega arith) ((number_lawful 1).placed bytes at₁ fault all f)) (λ h at₂ h₂.
    let n₂ = near (number_lawful 1) bytes at₁ h at₂ all h₂ in
    placed_then n (map_at last_bit bytes at₂) (record₃ bytes r h) fault (λ f. fault_wider fault (at₂ + 2) n (omega arith) ((map_lawful 7 known).placed bytes at₂ fault all f)) (λ m at₃ h₃.
    let n₃ = near (map_lawful 7 known) bytes at₂ m at₃ all h₃ in
    placed_then n (optional_at (stands 0 m) quantity_at bytes at₃) (record₄ bytes r h m) fault (λ f. fault_wider fault (at₃ + 4) n (omega arith) (optional_placed quantity_lawful (stands 0 m) bytes at₃ fault all f)) (λ q at₄ h₄.
    let n₄ = optional_near quantity_lawful (stands 0 m) bytes at₃ q at₄ all h₄ in
    placed_then n (optional_at (stands 1 m) curve_at bytes at₄) (record₅ bytes r h m q) fault (λ f. fault_wider fault (at₄ + 85) n (omega arith) (optional_placed curve_lawful (stands 1 m) bytes at₄ fault all f)) (λ c at₅ h₅.
    let n₅ = optional_near curve_lawful (stands 1 m) bytes at₄ c at₅ all h₅ in
    placed_then n (services_at m bytes at₅) (record₆ bytes r h m q c) fault (λ f. fault_wider fault (at₅ + 32) n (omega arith) (services_placed m bytes at₅ fault all f)) (λ s at₆ h₆.
    let x₆ = services_exact m bytes at₅ s at₆ all h₆ in
    let n₆ = services_short s x₆.1 in
    placed_then n (optional_at (stands 6 m) start_up_at bytes at₆) (record₇ bytes r h m q c s) fault (λ f. fault_wider fault (at₆ + 19) n (omega (arith, x₆.2)) (optional_placed start_up_lawful (stands 6 m) bytes at₆ fault all f)) (λ u at₇ h₇.
    let n₇ = optional_near start_up_lawful (stands 6 m) bytes at₆ u at₇ all h₇ in
    placed_then n (optional_at (stands 7 m) ramp_at bytes at₇) (record₈ r h q c s u) fault (λ f. fault_wider fault (at₇ + 33) n (omega (arith, x₆.2)) (optional_placed ramp_lawful (stands 7 m) bytes at₇ fault all f)) (λ p at₈ h₈ e. absurd (ok_not_err _ _ e)))))))))

-- a record is at most 178 bytes long
pub record_short : (c : Components) → keeps c ≡ true → length (record_bytes c) ≤ 178
unfolding record_bytes
record_short c held =
    let p = parts c held in
    let s₄ = optional_short quantity_lawful c.self_schedule p.self_schedule in
    let s₅ = optional_short curve_lawful c.curve p.curve in
    let s₆ = services_short c.services p.services in
    let s₇ = optional_short start_up_lawful c.start_up p.start_up in
    let s₈ = optional_short ramp_lawful c.ramp p.ramp in
    omega (arith, joined_length (word_bytes c.resource) (byte_bytes c.hour) (word_bytes (map_of (presences c))) (optional_bytes long_bytes c.self_schedule) (optional_bytes curve_bytes c.curve) (services_bytes c.services) (optional_bytes start_up_bytes c.start_up) (optional_bytes ramp_bytes c.ramp))

-- a field's fault is never that bytes are left over
not_left_over : (n p : ℕ) (f : Fault) → FaultWithin n f → answer_of f ≡ answered 5 1 p → ⊥
not_left_over n p (Record CutShort q) w e = let z : ◌≡◌ {A = ℕ} 1 5 = ap (λ a. a.number) e in omega arith
not_left_over n p (Record UnknownBit q) w e = let z : ◌≡◌ {A = ℕ} 2 5 = ap (λ a. a.number) e in omega arith
not_left_over n p (Record BadCount q) w e = let z : ◌≡◌ {A = ℕ} 3 5 = ap (λ a. a.number) e in omega arith
not_left_over n p (Record OutOfRange q) w e = let z : ◌≡◌ {A = ℕ} 4 5 = ap (λ a. a.number) e in omega arith
not_left_over n p (Record BytesLeftOver q) w e = let z : ◌≡◌ {A = Bool} false true = w.0 in both_ways false refl z
not_left_over n p (Register f q) w e = w
not_left_over n p (Rule f q) w e = w
not_left_over n p (Window f q) w e = w

place_within : (n : ℕ) (f : Fault) → FaultWithin n f → (answer_of f).place ≤ n
place_within n (Record f p) w = w.1
place_within n (Register f p) w = absurd w
place_within n (Rule f p) w = absurd w
place_within n (Window f p) w = absurd w

abbrev pub end : List ℕ → Components → ℕ → Result Components Fault
end bytes c next = cond (ltb next (length bytes)) (Err (fault_at BytesLeftOver next)) (Ok c)

-- the three ways in which reading a record ends
pub data Ends (bytes : List ℕ) : Type 0 where
  failed : (f : Fault) → record_read bytes ≡ Err f → FaultWithin 178 f → Ends bytes
  left_over : (c : Components) → keeps c ≡ true → (next : ℕ) → next ≡ length (record_bytes c) → next ≤ 178 → bytes ≡ record_bytes c ++ drop next bytes → next < length bytes → record_read bytes ≡ Err (fault_at BytesLeftOver next) → Ends bytes
  exactly : (c : Components) → keeps c ≡ true → bytes ≡ record_bytes c → record_read bytes ≡ Ok c → Ends bytes

ends_at : (bytes : List ℕ) → Bytes bytes → (r : Read Components) → record_at bytes 0 ≡ r → Ends bytes
unfolding record_read
ends_at bytes all (Err f) e = failed f (ap (λ r. and_then r (end bytes)) e) (record_placed bytes 0 f all e)
ends_at bytes all (Ok p) e =
    let c : Components = p.0 in
    let next : ℕ = p.1 in
    let x = record_exact bytes 0 c next all e in
    let long : next ≡ length (record_bytes c) = x.1 ∙ zero-add (length (record_bytes c)) in
    let short : next ≤ 178 = omega (arith, record_short c x.0) in
    let read : record_read bytes ≡ end bytes c next = ap (λ r. and_then r (end bytes)) e in
    elim (cases_lt next (length bytes)) [
      | inl h ↦ left_over c x.0 next long short x.2 h (read ∙ cond-true (ltb next (length bytes)) _ _ (lt-ltb next (length bytes) h))
      | inr h ↦ exactly c x.0 (x.2 ∙ ap (λ l. record_bytes c ++ l) (drop_all next bytes h) ∙ append-nil (record_bytes c)) (read ∙ cond-false (ltb next (length bytes)) _ _ (le-ltb next (length bytes) h))
    ]

pub ends : (bytes : List ℕ) → Bytes bytes → Ends bytes
ends bytes all = ends_at bytes all (record_at bytes 0) refl

-- a record with more behind it is read up to its end
record_front : (c : Components) (bytes rest : List ℕ) → keeps c ≡ true → bytes ≡ record_bytes c ++ rest → record_at bytes 0 ≡ Ok (c, length (record_bytes c))
record_front c bytes rest held e = record_restores c bytes rest 0 held e ∙ ap (λ k. Ok (c, k)) (zero-add (length (record_bytes c)))

pub record_whole : (c : Components) → keeps c ≡ true → record_read (record_bytes c) ≡ Ok c
unfolding record_read
record_whole c held =
    let n : ℕ = length (record_bytes c) in
    ap (λ r. and_then r (end (record_bytes c))) (record_front c (record_bytes c) [] held (sym (append-nil (record_bytes c)))) ∙ cond-false (ltb n n) _ _ (le-ltb n n (omega arith))

pub reads_records : (bytes : List ℕ) → Bytes bytes → ReadsRecords bytes
reads_records bytes all c = (
  (λ e. elim (ends bytes all) [
    | failed f is w ↦ absurd (ok_not_err _ _ (sym e ∙ is))
    | left_over d held next long short split more is ↦ absurd (ok_not_err _ _ (sym e ∙ is))
    | exactly d held is read ↦ subst (IsRecord bytes) (ok_same (sym read ∙ e)) (held, is)
  ]),
  (λ r. ap record_read r.1 ∙ record_whole c r.0),
)

pub tells_bytes_left : (bytes : List ℕ) → Bytes bytes → TellsBytesLeft bytes
unfolding record_read
tells_bytes_left bytes all p = (
  (λ e. elim (ends bytes all) [
    | failed f is w ↦ absurd (not_left_over 178 p f w (sym (ap result_answer is) ∙ e))
    | left_over c held next long short split more is ↦ (
        let place : min next 4294967295 ≡ p = ap (λ a. a.place) (sym (ap result_answer is) ∙ e) in
        let here : next ≡ p = omega arith in
        ((c, (held, sym (ap (λ k. take k bytes) here) ∙ ap (take next) split ∙ take_at (record_bytes c) (drop next bytes) next (sym long))), subst (λ k. k < length bytes) here more))
    | exactly c held is read ↦ (let z : ◌≡◌ {A = ℕ} 0 5 = ap (λ a. a.number) (sym (ap result_answer read) ∙ e) in absurd (omega arith))
  ]),
  (λ m.
      let c : Components = m.0.0 in
      let held : keeps c ≡ true = m.0.1.0 in
      let front : take p bytes ≡ record_bytes c = m.0.1.1 in
      let long : length (record_bytes c) ≡ p = sym (ap length front) ∙ length-take-le p bytes (omega (arith, m.1)) in
      let split : bytes ≡ record_bytes c ++ drop p bytes = sym (take-append-drop p bytes) ∙ ap (λ l. l ++ drop p bytes) front in
      let short = record_short c held in
      let place : min (length (record_bytes c)) 4294967295 ≡ p = omega arith in
      ap result_answer (ap (λ r. and_then r (end bytes)) (record_front c bytes (drop p bytes) held split)
      ∙ cond-true (ltb (length (record_bytes c)) (length bytes)) _ _ (lt-ltb (length (record_bytes c)) (length bytes) (subst (λ k. k < length bytes) (sym long) m.1)))
      ∙ ap (answered 5 1) place),
)

pub places_small : (bytes : List ℕ) → Bytes bytes → (result_answer (record_read bytes)).place ≤ 178
places_small bytes all = elim (ends bytes all) [
  | failed f is w ↦ subst (λ r. (result_answer r).place ≤ 178) (sym is) (place_within 178 f w)
  | left_over c held next long short split more is ↦ subst (λ r. (result_answer r).place ≤ 178) (sym is) (omega arith)
  | exactly c held is read ↦ subst (λ r. (result_answer r).place ≤ 178) (sym read) (omega arith)
]
