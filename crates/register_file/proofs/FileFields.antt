-- The parts of a register file: reading and writing undo each other. Assumes nothing.
use Rattle.std.proofs.Common.{◌≡◌, ℕ, Bool, true, false, cond, ltb, leb, List, [], ◌++◌, pos, refl, ap, append_assoc, arith}
use Rattle.std.proofs.lemmas.List.{append-nil}
use Rattle.std.proofs.lemmas.Bool.{and_parts, leb-true}
use Rattle.faults.specs.declared.RecordFault.TheVariants.{OutOfRange}
use Rattle.wire.specs.declared.counted.Counted.{Counted}
use Rattle.wire.specs.Bytes.{byte_bytes, word_bytes, long_bytes, signed_bytes}
use Rattle.wire.specs.Laws.{Lawful}
use Rattle.wire.specs.Maps.{stands}
use Rattle.wire.specs.Reading.{is_quantity, is_price, is_map}
use Rattle.wire.specs.Rows.{counted_bytes, counted_held}
use Rattle.wire.specs.CountedRows.{counted_lawful}
use Rattle.wire.specs.Lawful.{number_lawful, ranged_lawful, quantity_lawful, price_lawful, map_lawful}
use Rattle.register.specs.declared.data.Day.{Day}
use Rattle.register.specs.declared.data.RampLimits.{RampLimits}
use Rattle.register.specs.declared.data.Regulation.{Regulation}
use Rattle.register.specs.declared.data.StartUpLimit.{StartUpLimit}
use Rattle.register_file.specs.declared.standing.Head.{Head}
use Rattle.register_file.specs.declared.standing.Services.{Services}
use Rattle.register_file.specs.declared.standing.Standing.{Standing}
use Rattle.register.specs.Cards.{regulation, blank_limit, blank_limits, packed_start_up, packed_ramp}
use Rattle.register_file.specs.Fields.{day_of, day_at, owner_at, head_of, head_at, quantity_or, regulation_at, level_at, services_of, services_at, start_up_at, ramp_at, standing_of, standing_at}
use Rattle.register.specs.Limits.{limit_bytes, limits_bytes, limits_held, is_blank_limit, is_blank_limits}
use Rattle.register.specs.Kept.{is_owner, is_limit}
use Rattle.register_file.specs.Writing.{regulation_bytes, day_bytes, standing_bytes}
use Rattle.register.specs.LimitFields.{limit_lawful, limit_blank, limits_lawful, limits_blank}
use Rattle.register_file.proofs.Undoes.{Undoes, of_lawful, done, bytes_as, StandsOr, optional, followed}

abbrev pub DayHolds : Day → Type 0
DayHolds d = (ltb d.hours 256 ≡ true) × ((is_price d.floor ≡ true) × ((is_price d.soft_cap ≡ true) × ((is_price d.hard_cap ≡ true) × ((is_price d.service_cap ≡ true) × (d ≡ day_of d.hours d.floor d.soft_cap d.hard_cap d.service_cap)))))

pub day_undoes : Undoes day_at day_bytes DayHolds 17
day_undoes = bytes_as day_bytes (λ d. simp append-nil)
    (followed (λ d. d.hours) (of_lawful (number_lawful 1)) (λ h. followed (λ d. d.floor) (of_lawful price_lawful) (λ f. followed (λ d. d.soft_cap) (of_lawful price_lawful) (λ s. followed (λ d. d.hard_cap) (of_lawful price_lawful) (λ c. followed (λ d. d.service_cap) (of_lawful price_lawful) (λ v. done (day_of h f s c v))
    (λ v d k. ap (λ x. x.service_cap) k)) (λ c d k. ap (λ x. x.hard_cap) k.1)) (λ s d k. ap (λ x. x.soft_cap) k.1.1)) (λ f d k. ap (λ x. x.floor) k.1.1.1)) (λ h d k. ap (λ x. x.hours) k.1.1.1.1))

owner_lawful : Lawful owner_at byte_bytes is_owner 1
owner_lawful = ranged_lawful OutOfRange refl 1 (omega arith) is_owner (λ v h. omega (arith, leb-true v 255 (and_parts (leb 1 v) (leb v 255) h).1))

abbrev pub head_bytes : Head → List ℕ
head_bytes h = word_bytes h.resource ++ (byte_bytes h.owner ++ (word_bytes h.map ++ (long_bytes h.pmin ++ long_bytes h.pmax)))

abbrev pub HeadHolds : Head → Type 0
HeadHolds h = (ltb h.resource 65536 ≡ true) × ((is_owner h.owner ≡ true) × ((is_map 7 h.map ≡ true) × ((is_quantity h.pmin ≡ true) × ((is_quantity h.pmax ≡ true) × (h ≡ head_of h.resource h.owner h.map h.pmin h.pmax)))))

pub head_undoes : Undoes head_at head_bytes HeadHolds 13
head_undoes = bytes_as head_bytes (λ h. simp append-nil)
    (followed (λ h. h.resource) (of_lawful (number_lawful 2)) (λ r. followed (λ h. h.owner) (of_lawful owner_lawful) (λ o. followed (λ h. h.map) (of_lawful (map_lawful 7 (omega arith))) (λ m. followed (λ h. h.pmin) (of_lawful quantity_lawful) (λ p. followed (λ h. h.pmax) (of_lawful quantity_lawful) (λ q. done (head_of r o m p q))
    (λ q h k. ap (λ x. x.pmax) k)) (λ p h k. ap (λ x. x.pmin) k.1)) (λ m h k. ap (λ x. x.map) k.1.1)) (λ o h k. ap (λ x. x.owner) k.1.1.1)) (λ r h k. ap (λ x. x.resource) k.1.1.1.1))

-- a quantity where its bit stands
abbrev pub QuantityOr : Bool → ℕ → ℕ → Type 0
QuantityOr present absent = StandsOr present (λ v. is_quantity v ≡ true) absent

quantity_undoes : (map bit absent : ℕ) → Undoes (quantity_or map bit absent) (λ v. cond (stands bit map) (long_bytes v) []) (QuantityOr (stands bit map) absent) 4
quantity_undoes map bit absent = optional (stands bit map) absent (of_lawful quantity_lawful)

abbrev pub RegulationOr : Bool → Regulation → Type 0
RegulationOr present r = QuantityOr present 0 r.certified × (QuantityOr present 0 r.award × (r ≡ regulation r.certified r.award))

both_under : (b : Bool) (xs ys : List ℕ) → cond b xs [] ++ (cond b ys [] ++ []) ≡ cond b (xs ++ ys) []
both_under true xs ys = ap (λ l. xs ++ l) (append-nil ys)
both_under false xs ys = refl

regulation_undoes : (map bit : ℕ) → Undoes (regulation_at map bit) (λ r. cond (stands bit map) (regulation_bytes r) []) (RegulationOr (stands bit map)) 8
regulation_undoes map bit = bytes_as (λ r. cond (stands bit map) (regulation_bytes r) []) (λ r. both_under (stands bit map) (long_bytes r.certified) (long_bytes r.award))
    (followed (λ r. r.certified) (quantity_undoes map bit 0) (λ x. followed (λ r. r.award) (quantity_undoes map bit 0) (λ y. done (regulation x y)) (λ y r k. ap (λ z. z.award) k)) (λ x r k. ap (λ z. z.certified) k.1))

level_undoes : (map : ℕ) → Undoes (level_at map) (λ v. cond (stands 5 map) (signed_bytes v) []) (StandsOr (stands 5 map) (λ v. is_price v ≡ true) (pos 0)) 4
level_undoes map = optional (stands 5 map) (pos 0) (of_lawful price_lawful)

abbrev pub services_bytes : Head → Services → List ℕ
services_bytes h s =
    cond (stands 0 h.map) (regulation_bytes s.up) [] ++ (cond (stands 1 h.map) (regulation_bytes s.down) [] ++ (cond (stands 2 h.map) (long_bytes s.spinning) [] ++ (cond (stands 3 h.map) (long_bytes s.non_spinning) []
    ++ (cond (stands 4 h.map) (long_bytes s.regulation_limit) [] ++ cond (stands 5 h.map) (signed_bytes s.level) []))))

abbrev pub ServicesHold : Head → Services → Type 0
ServicesHold h s =
    RegulationOr (stands 0 h.map) s.up × (RegulationOr (stands 1 h.map) s.down × (QuantityOr (stands 2 h.map) 0 s.spinning × (QuantityOr (stands 3 h.map) 0 s.non_spinning
    × (QuantityOr (stands 4 h.map) h.pmax s.regulation_limit × (StandsOr (stands 5 h.map) (λ v. is_price v ≡ true) (pos 0) s.level
    × (s ≡ services_of s.up s.down s.spinning s.non_spinning s.regulation_limit s.level))))))

services_undoes : (h : Head) → Undoes (services_at h) (services_bytes h) (ServicesHold h) 32
services_undoes h = bytes_as (services_bytes h) (λ s. simp append-nil)
    (followed (λ s. s.up) (regulation_undoes h.map 0) (λ u. followed (λ s. s.down) (regulation_undoes h.map 1) (λ d. followed (λ s. s.spinning) (quantity_undoes h.map 2 0) (λ p. followed (λ s. s.non_spinning) (quantity_undoes h.map 3 0) (λ n.
    followed (λ s. s.regulation_limit) (quantity_undoes h.map 4 h.pmax) (λ r. followed (λ s. s.level) (level_undoes h.map) (λ l. done (services_of u d p n r l))
    (λ l s k. ap (λ x. x.level) k)) (λ r s k. ap (λ x. x.regulation_limit) k.1)) (λ n s k. ap (λ x. x.non_spinning) k.1.1)) (λ p s k. ap (λ x. x.spinning) k.1.1.1)) (λ d s k. ap (λ x. x.down) k.1.1.1.1)) (λ u s k. ap (λ x. x.up) k.1.1.1.1.1))

abbrev pub StartUpOr : Bool → Counted StartUpLimit 3 → Type 0
StartUpOr present = StandsOr present (λ c. counted_held is_limit is_blank_limit c ≡ true) (packed_start_up [])

abbrev pub RampOr : Bool → Counted RampLimits 4 → Type 0
RampOr present = StandsOr present (λ c. counted_held limits_held is_blank_limits c ≡ true) (packed_ramp [])

start_up_undoes : (map : ℕ) → Undoes (start_up_at map) (λ c. cond (stands 6 map) (counted_bytes limit_bytes c) []) (StartUpOr (stands 6 map)) 19
start_up_undoes map = optional (stands 6 map) (packed_start_up []) (of_lawful (counted_lawful blank_limit limit_lawful 3 is_blank_limit limit_blank refl))

ramp_undoes : (map : ℕ) → Undoes (ramp_at map) (λ c. cond (stands 7 map) (counted_bytes limits_bytes c) []) (RampOr (stands 7 map)) 49
ramp_undoes map = optional (stands 7 map) (packed_ramp []) (of_lawful (counted_lawful blank_limits limits_lawful 4 is_blank_limits limits_blank refl))

abbrev pub head_in : Standing → Head
head_in x = head_of x.numbered.resource x.numbered.card.owner x.map x.numbered.card.pmin x.numbered.card.pmax

abbrev pub services_in : Standing → Services
services_in x = services_of x.numbered.card.up x.numbered.card.down x.numbered.card.spinning x.numbered.card.non_spinning x.numbered.card.regulation_limit x.numbered.card.level

abbrev pub StandingHolds : Standing → Type 0
StandingHolds x = HeadHolds (head_in x) × (ServicesHold (head_in x) (services_in x) × (StartUpOr (stands 6 x.map) x.numbered.card.start_up × (RampOr (stands 7 x.map) x.numbered.card.ramp
    × (x ≡ standing_of (head_in x) (services_in x) x.numbered.card.start_up x.numbered.card.ramp))))

-- head, services, pairs and rows
abbrev pub parts_bytes : Standing → List ℕ
parts_bytes x = head_bytes (head_in x) ++ (services_bytes (head_in x) (services_in x) ++ (cond (stands 6 x.map) (counted_bytes limit_bytes x.numbered.card.start_up) [] ++ cond (stands 7 x.map) (counted_bytes limits_bytes x.numbered.card.ramp) []))

pub parts_undoes : Undoes standing_at parts_bytes StandingHolds 113
parts_undoes = bytes_as parts_bytes (λ x. simp append-nil)
    (followed head_in head_undoes (λ h. followed services_in (services_undoes h) (λ s. followed (λ x. x.numbered.card.start_up) (start_up_undoes h.map) (λ p. followed (λ x. x.numbered.card.ramp) (ramp_undoes h.map) (λ r. done (standing_of h s p r))
    (λ r x k. ap (λ y. y.numbered.card.ramp) k)) (λ p x k. ap (λ y. y.numbered.card.start_up) k.1)) (λ s x k. ap services_in k.1.1)) (λ h x k. ap head_in k.1.1.1))

-- a whole card, field by field
pub standing_undoes : Undoes standing_at standing_bytes StandingHolds 113
standing_undoes = bytes_as standing_bytes (λ x. simp append_assoc) parts_undoes
