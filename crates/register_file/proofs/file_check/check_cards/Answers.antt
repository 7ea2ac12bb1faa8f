use Rattle.std.proofs.Common.{◌+◌, ◌-◌, ◌<◌, Err, sym, ap, ◌∙◌, arith}
use Rattle.std.proofs.lemmas.Result.{err_from_is_err_and}
use Rattle.register_file.specs.File.{cards_at, end_of}
use Rattle.register_file.proofs.FileCards.{cards_more, cards_breach, cards_fail}
use Rattle.register_file.proofs.file_check.check_cards.Goals as goal

pub returns-in_err-numbered : goal.returns-in_err-numbered
returns-in_err-numbered c =
    let p = err_from_is_err_and c.from_residual.result c.from_residual.ensures.1 in
    let lt : c.loop-i.i < c.args.count = omega arith in
    p.1 ∙ ap Err p.2 ∙ sym (cards_fail c.args.count c.loop-i.i lt (c.loop-i.i + 1) c.loop-i.least c.loop-i.reader.bytes.now c.loop-i.reader.at _ c.in_err-numbered.ensures.0) ∙ c.loop-i.invariant.2

pub returns-then-not-may_stand : goal.returns-then-not-may_stand
returns-then-not-may_stand c =
    let lt : c.loop-i.i < c.args.count = omega arith in
    sym (cards_breach c.args.count c.loop-i.i lt (c.loop-i.i + 1) c.loop-i.least c.loop-i.reader.bytes.now c.loop-i.reader.at c.in_ok-numbered.field-0 c.read_standing.new.reader.at c.in_ok-numbered.ensures.0 (sym c.if-not-may_stand.ensures)) ∙ c.loop-i.invariant.2

pub loop-i-preserved : goal.loop-i-preserved
loop-i-preserved c =
    let lt : c.loop-i.i < c.args.count = omega arith in
    let s = c.in_ok-numbered.field-0 in (
      omega arith,
      c.read_standing.ensures.1 ∙ c.loop-i.invariant.1,
      ap (λ b. end_of (cards_at (c.args.count - (c.loop-i.i + 1)) (c.loop-i.i + 1 + 1) (s.numbered.resource + 1) b.now c.read_standing.new.reader.at)) c.read_standing.ensures.1
          ∙ sym (cards_more c.args.count c.loop-i.i lt (c.loop-i.i + 1) c.loop-i.least c.loop-i.reader.bytes.now c.loop-i.reader.at s c.read_standing.new.reader.at c.in_ok-numbered.ensures.0 (sym c.if-not-may_stand.ensures)) ∙ c.loop-i.invariant.2,
    )
