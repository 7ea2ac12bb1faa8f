-- What reading and writing a bid tell, from the laws of its record. Assumes nothing.
use Rattle.std.proofs.Common.{◌≡◌, ℕ, ◌+◌, ◌<◌, ◌≤◌, true, leb, List, ◌++◌, length, get_or, take, drop, IfOk, Ok, Err, Result, sym, refl, ap, ◌∙◌, subst, zero-add, arith, w8, Fits}
use Rattle.std.proofs.ByRecursion.{All-from_get_or}
use Rattle.std.proofs.lemmas.List.{take_at}
use Rattle.std.proofs.lemmas.Bool.{cond-true, cond-false, le-leb, lt-leb}
use Rattle.faults.specs.Answers.{result_answer}
use Rattle.faults.specs.declared.Fault.{Fault}
use Rattle.wire.specs.Bytes.{Bytes, byte_bytes, word_bytes, long_bytes}
use Rattle.wire.specs.Laws.{Puts}
use Rattle.wire.specs.Maps.{map_of}
use Rattle.wire.specs.Rows.{optional_bytes}
use Rattle.wire.specs.Writing.{put_at, too_short}
use Rattle.wire.specs.Laid.{puts_bytes, puts_then, puts_optional}
use Rattle.bid.specs.declared.bid.Bid.{Bid}
use Rattle.bid.specs.declared.components.Components.{Components}
use Rattle.bid.specs.declared.components.Services.{Services}
use Rattle.bid.specs.Fields.{service_bytes, service_put, curve_bytes, curve_put, start_up_bytes, start_up_put, ramp_bytes, ramp_put}
use Rattle.bid.specs.Kept.{keeps}
use Rattle.bid.specs.Read.{told}
use Rattle.bid.specs.Record.{record_read, record_bytes, record_put, record_written, presences, services_bytes, services_put}
use Rattle.bid.specs.FieldLaws.{service_puts, curve_puts, start_up_puts, ramp_puts}
use Rattle.bid.proofs.RecordLaws.{places_small, record_whole}

-- what a slice of bytes holds
pub lent_bytes : (bytes : List ℕ) → ((i : ℕ) → Fits w8 (get_or bytes i 0)) → Bytes bytes
lent_bytes bytes typed = All-from_get_or (λ b. b < 256) bytes 0 (λ i h. (typed i).fits)

told_answer : (r : Result Bid Fault) → result_answer (told r) ≡ result_answer r
told_answer (Ok b) = refl
told_answer (Err f) = refl

pub told_place : (bytes : List ℕ) (r : Result Bid Fault) → Bytes bytes → told r ≡ record_read bytes → (result_answer r).place ≤ 178
told_place bytes r all e = subst (λ a. a.place ≤ 178) (sym (ap result_answer e) ∙ told_answer r) (places_small bytes all)

services_puts : (s : Services) → Puts (services_put s) (services_bytes s)
services_puts s =
    puts_then _ _ _ _ (puts_optional service_put service_bytes service_puts s.regulation_up)
    (puts_then _ _ _ _ (puts_optional service_put service_bytes service_puts s.regulation_down)
    (puts_then _ _ _ _ (puts_optional service_put service_bytes service_puts s.spinning) (puts_optional service_put service_bytes service_puts s.non_spinning)))

record_puts : (c : Components) → Puts (record_put c) (record_bytes c)
unfolding record_bytes
record_puts c =
    let A : List ℕ = word_bytes c.resource in
    let B : List ℕ = byte_bytes c.hour in
    let M : List ℕ = word_bytes (map_of (presences c)) in
    let rest : List ℕ = optional_bytes long_bytes c.self_schedule ++ (optional_bytes curve_bytes c.curve ++ (services_bytes c.services ++ (optional_bytes start_up_bytes c.start_up ++ optional_bytes ramp_bytes c.ramp))) in
    puts_then _ _ A (B ++ (M ++ rest)) (puts_bytes A)
    (puts_then _ _ B (M ++ rest) (puts_bytes B)
    (puts_then _ _ M rest (puts_bytes M)
    (puts_then _ _ _ _ (puts_optional (λ v. put_at (long_bytes v)) long_bytes (λ v. puts_bytes (long_bytes v)) c.self_schedule)
    (puts_then _ _ _ _ (puts_optional curve_put curve_bytes curve_puts c.curve)
    (puts_then _ _ _ _ (services_puts c.services)
    (puts_then _ _ _ _ (puts_optional start_up_put start_up_bytes start_up_puts c.start_up) (puts_optional ramp_put ramp_bytes ramp_puts c.ramp)))))))

-- a record that fits is laid at the front
pub put_front : (c : Components) (out : List ℕ) → length (record_bytes c) ≤ length out → record_put c out 0 ≡ (Ok (length (record_bytes c)), record_bytes c ++ drop (length (record_bytes c)) out)
put_front c out room =
    let n : ℕ = length (record_bytes c) in
    let from : 0 + n ≤ length out = omega arith in
    record_puts c out 0 from ∙ ap (λ k. (Ok k, record_bytes c ++ drop k out)) (zero-add n)

pub written_fits : (c : Components) (out : List ℕ) → length (record_bytes c) ≤ length out → record_put c out 0 ≡ record_written c out
unfolding record_written
written_fits c out room = put_front c out room ∙ sym (cond-true (leb (length (record_bytes c)) (length out)) _ _ (le-leb (length (record_bytes c)) (length out) room))

pub written_short : (c : Components) (out : List ℕ) → length out < length (record_bytes c) → record_written c out ≡ (Err too_short, out)
unfolding record_written
written_short c out short = cond-false (leb (length (record_bytes c)) (length out)) _ _ (lt-leb (length (record_bytes c)) (length out) short)

-- what was written at the front is read again
pub front_restores : (c : Components) (out : List ℕ) (n : ℕ) → keeps c ≡ true → n ≡ length (record_bytes c) → record_read (take n (record_bytes c ++ drop (length (record_bytes c)) out)) ≡ Ok c
front_restores c out n held e = ap record_read (take_at (record_bytes c) (drop (length (record_bytes c)) out) n (sym e)) ∙ record_whole c held

pub written_within : (c : Components) (out : List ℕ) (r : Result ℕ Fault) (after : List ℕ) → length (record_bytes c) ≤ length out → r ≡ Ok (length (record_bytes c)) → length after ≡ length out → IfOk r (λ n. n ≤ length after)
written_within c out r after room e same = subst (λ x. IfOk x (λ n. n ≤ length after)) (sym e) (omega arith)
