use Rattle.std.proofs.Common.{◌≡◌, ◌≤◌, length, take, replicate, sym, ap, ◌∙◌, arith}
use Rattle.std.proofs.lemmas.List.{take_at}
use Rattle.wire.specs.Steps.{ok_not_err}
use Rattle.bid.specs.Record.{record_bytes, record_read}
use Rattle.bid.proofs.Told.{put_front}
use Rattle.bid.proofs.bid.Bid.make.Goals as goal

pub returns-in_err-put_record : goal.returns-in_err-put_record
returns-in_err-put_record c =
    let v = c.args.components.now in
    let room : length (record_bytes v) ≤ 178 = omega arith in
    let f = put_front v (replicate 178 0) room in
    absurd (ok_not_err _ _ (sym (c.in_err-put_record.ensures.answer ∙ ap (λ w. w.0) f)))

pub returns : goal.returns
returns c =
    let v = c.args.components.now in
    let room : length (record_bytes v) ≤ 178 = omega arith in
    let f = put_front v (replicate 178 0) room in
    let n : length (record_bytes v) ≡ c.record_length-length.result = omega arith in
    c.read.ensures.value ∙ ap (λ l. record_read (take c.record_length-length.result l)) (c.put_record.ensures.memory ∙ ap (λ w. w.1) f) ∙ ap record_read (take_at (record_bytes v) _ _ n)
