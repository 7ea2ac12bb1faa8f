use Rattle.std.proofs.Common.{◌≡◌, ltb, length, Err, Result, sym, ap, ◌∙◌, arith, rules}
use Rattle.std.proofs.lemmas.Result.{err_from_is_err_and}
use Rattle.std.proofs.lemmas.Bool.{cond-true, cond-false, lt-ltb, le-ltb}
use Rattle.faults.specs.declared.Fault.{Fault}
use Rattle.wire.specs.Reading.{and_then}
use Rattle.bid.specs.declared.bid.Bid.{Bid}
use Rattle.bid.specs.Read.{told}
use Rattle.bid.specs.Record.{record_read}
use Rattle.bid.proofs.RecordLaws.{end, record_exact, reads_records, tells_bytes_left}
use Rattle.bid.proofs.Told.{lent_bytes, told_place}
use Rattle.bid.proofs.bid.Bid.read.Goals as goal

pub returns-in_err-components : goal.returns-in_err-components
unfolding record_read
returns-in_err-components c =
    let bytes = c.args.bytes.now in
    let all = lent_bytes bytes c.type_inv.bytes in
    let p = err_from_is_err_and c.from_residual.result c.from_residual.ensures.1 in
    let e : told c.from_residual.result ≡ record_read bytes = ap told (p.1 ∙ ap Err p.2) ∙ ap (λ r. and_then r (end bytes)) (sym c.in_err-components.ensures.0) in
    record { value = e; exact = reads_records bytes all; left = tells_bytes_left bytes all; placed = told_place bytes c.from_residual.result all e }

pub returns-then-reader-bytes : goal.returns-then-reader-bytes
unfolding record_read
returns-then-reader-bytes c =
    let bytes = c.args.bytes.now in
    let all = lent_bytes bytes c.type_inv.bytes in
    let next = c.read_record.new.reader.at in
    let r : Result Bid Fault = Err c.fault_at.result in
    let e : told r ≡ record_read bytes =
    ap Err c.fault_at.ensures ∙ sym (cond-true (ltb next (length bytes)) _ _ (lt-ltb next (length bytes) (omega arith))) ∙ ap (λ r. and_then r (end bytes)) (sym c.in_ok-components.ensures.0) in
    record { value = e; exact = reads_records bytes all; left = tells_bytes_left bytes all; placed = told_place bytes r all e }

pub invariant_of-result : goal.invariant_of-result
invariant_of-result c = record { kept = (record_exact c.args.bytes.now 0 _ _ (lent_bytes c.args.bytes.now c.type_inv.bytes) c.in_ok-components.ensures.0).0 }

pub returns : goal.returns
unfolding record_read
returns c =
    let bytes = c.args.bytes.now in
    let all = lent_bytes bytes c.type_inv.bytes in
    let next = c.read_record.new.reader.at in
    record {
      value = sym (cond-false (ltb next (length bytes)) _ _ (le-ltb next (length bytes) (omega arith))) ∙ ap (λ r. and_then r (end bytes)) (sym c.in_ok-components.ensures.0);
      exact = reads_records bytes all;
      left = tells_bytes_left bytes all;
      placed = search rules;
    }
