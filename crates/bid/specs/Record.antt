-- The bid record: what reading it gives, and the bytes that it is written in. Assumes nothing.
use Rattle.std.specs.Prelude.{◌≡◌, ℕ, ◌<◌, Bool, true, cond, List, [], ◌∷◌, ◌++◌, length, take, drop, is_some, Ok, Err, Option, Result, nat_le, nat_lt}
use Rattle.faults.specs.Answers.{answered, result_answer}
use Rattle.faults.specs.declared.Fault.{Fault}
use Rattle.faults.specs.declared.RecordFault.TheVariants.{BytesLeftOver}
use Rattle.wire.specs.Bytes.{byte_bytes, word_bytes, long_bytes}
use Rattle.wire.specs.Maps.{stands, map_of}
use Rattle.wire.specs.Reading.{Read, and_then, byte_at, word_at, map_at, quantity_at, fault_at}
use Rattle.wire.specs.Rows.{optional_at, optional_bytes, optional_put}
use Rattle.wire.specs.Writing.{Written, put_at, then_put, too_short}
use Rattle.bid.specs.declared.components.Components.{Components}
use Rattle.bid.specs.declared.components.Service.{Service}
use Rattle.bid.specs.declared.components.Services.{Services}
use Rattle.bid.specs.Fields.{service_at, service_bytes, service_put, curve_at, curve_bytes, curve_put, start_up_at, start_up_bytes, start_up_put, ramp_at, ramp_bytes, ramp_put}
use Rattle.bid.specs.Kept.{keeps}

-- the last bit of a record's map that has a meaning
abbrev pub last_bit : ℕ
last_bit = 7

abbrev pub service_of : ℕ → ℕ → List ℕ → ℕ → Read (Option Service)
service_of bit map = optional_at (stands bit map) service_at

-- the four services, under bits 2 to 5
abbrev pub services_at : ℕ → List ℕ → ℕ → Read Services
services_at map bytes at =
    and_then (service_of 2 map bytes at) (λ up at₁.
    and_then (service_of 3 map bytes at₁) (λ down at₂.
    and_then (service_of 4 map bytes at₂) (λ spinning at₃.
    and_then (service_of 5 map bytes at₃) (λ non_spinning at₄.
    Ok (record { regulation_up = up; regulation_down = down; spinning = spinning; non_spinning = non_spinning }, at₄)))))

-- resource, hour and map; then the fields whose bit stands, the lowest bit first
abbrev pub record_at : List ℕ → ℕ → Read Components
record_at bytes at =
    and_then (word_at bytes at) (λ resource at₁.
    and_then (byte_at bytes at₁) (λ hour at₂.
    and_then (map_at last_bit bytes at₂) (λ map at₃.
    and_then (optional_at (stands 0 map) quantity_at bytes at₃) (λ self_schedule at₄.
    and_then (optional_at (stands 1 map) curve_at bytes at₄) (λ curve at₅.
    and_then (services_at map bytes at₅) (λ services at₆.
    and_then (optional_at (stands 6 map) start_up_at bytes at₆) (λ start_up at₇.
    and_then (optional_at (stands 7 map) ramp_at bytes at₇) (λ ramp at₈.
    Ok (record { resource = resource; hour = hour; self_schedule = self_schedule; curve = curve; services = services; start_up = start_up; ramp = ramp }, at₈)))))))))

-- a record and nothing behind it
unfoldable pub record_read : List ℕ → Result Components Fault
record_read bytes = and_then (record_at bytes 0) (λ c next. cond (nat_lt next (length bytes)) (Err (fault_at BytesLeftOver next)) (Ok c))

-- which components a bid has, in the order of the map's bits
abbrev pub presences : Components → List Bool
presences c =
    is_some c.self_schedule ∷ is_some c.curve
    ∷ is_some c.services.regulation_up ∷ is_some c.services.regulation_down ∷ is_some c.services.spinning ∷ is_some c.services.non_spinning
    ∷ is_some c.start_up ∷ is_some c.ramp ∷ []

abbrev pub services_bytes : Services → List ℕ
services_bytes s =
    optional_bytes service_bytes s.regulation_up ++ (optional_bytes service_bytes s.regulation_down
    ++ (optional_bytes service_bytes s.spinning ++ optional_bytes service_bytes s.non_spinning))

unfoldable pub record_bytes : Components → List ℕ
record_bytes c =
    word_bytes c.resource ++ (byte_bytes c.hour ++ (word_bytes (map_of (presences c))
    ++ (optional_bytes long_bytes c.self_schedule ++ (optional_bytes curve_bytes c.curve ++ (services_bytes c.services
    ++ (optional_bytes start_up_bytes c.start_up ++ optional_bytes ramp_bytes c.ramp))))))

abbrev pub services_put : Services → List ℕ → ℕ → Written
services_put s out at =
    then_put (optional_put service_put s.regulation_up out at) (λ out₁ at₁.
    then_put (optional_put service_put s.regulation_down out₁ at₁) (λ out₂ at₂.
    then_put (optional_put service_put s.spinning out₂ at₂) (optional_put service_put s.non_spinning)))

abbrev pub record_put : Components → List ℕ → ℕ → Written
record_put c out at =
    then_put (put_at (word_bytes c.resource) out at) (λ out₁ at₁.
    then_put (put_at (byte_bytes c.hour) out₁ at₁) (λ out₂ at₂.
    then_put (put_at (word_bytes (map_of (presences c))) out₂ at₂) (λ out₃ at₃.
    then_put (optional_put (λ v. put_at (long_bytes v)) c.self_schedule out₃ at₃) (λ out₄ at₄.
    then_put (optional_put curve_put c.curve out₄ at₄) (λ out₅ at₅.
    then_put (services_put c.services out₅ at₅) (λ out₆ at₆.
    then_put (optional_put start_up_put c.start_up out₆ at₆) (optional_put ramp_put c.ramp)))))))

-- at the front of lent memory: the record and then what stood there, or nothing where it does not fit
unfoldable pub record_written : Components → List ℕ → Written
record_written c out =
    cond (nat_le (length (record_bytes c)) (length out)) (Ok (length (record_bytes c)), record_bytes c ++ drop (length (record_bytes c)) out) (Err too_short, out)

-- the bytes are this bid's record
abbrev pub IsRecord : List ℕ → Components → Type 0
IsRecord bytes c = (keeps c ≡ true) × (bytes ≡ record_bytes c)

-- reading gives a bid exactly when the bytes are that bid's record
abbrev pub ReadsRecords : List ℕ → Type 0
ReadsRecords bytes = (c : Components) → (record_read bytes ≡ Ok c → IsRecord bytes c) × (IsRecord bytes c → record_read bytes ≡ Ok c)

abbrev pub MoreFollows : List ℕ → ℕ → Type 0
MoreFollows bytes p = ((c : Components) × IsRecord (take p bytes) c) × (p < length bytes)

-- bytes left over are told at p exactly when the first p bytes are a record and more follow
abbrev pub TellsBytesLeft : List ℕ → Type 0
TellsBytesLeft bytes = (p : ℕ) → (result_answer (record_read bytes) ≡ answered 5 1 p → MoreFollows bytes p) × (MoreFollows bytes p → result_answer (record_read bytes) ≡ answered 5 1 p)
