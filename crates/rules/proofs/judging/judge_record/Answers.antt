use Rattle.std.proofs.Common.{Err, ap, ◌∙◌}
use Rattle.std.proofs.lemmas.Result.{err_from_is_err_and}
use Rattle.bid.specs.Record.{record_written}
use Rattle.rule_laws.specs.Judging.{verdict_of, row_written, wrote}
use Rattle.rule_laws.proofs.Rulings.{read_judged_lem, judged_none}
use Rattle.rules.proofs.judging.judge_record.Goals as goal

pub returns-then-coordinator-eq0 : goal.returns-then-coordinator-eq0
returns-then-coordinator-eq0 g c =
    let whole = judged_none c.args.coordinator (g.R.Register.meaning c.args.register.now) c.args.bytes.now c.args.out.now c.if-coordinator-eq0.true in
    record { answer = ap (λ w. w.0) whole; memory = ap (λ w. w.1) whole }

pub returns-in_err-bid : goal.returns-in_err-bid
returns-in_err-bid g c =
    let p = err_from_is_err_and c.from_residual.result c.from_residual.ensures.1 in
    let whole = read_judged_lem c.args.coordinator (g.R.Register.meaning c.args.register.now) c.args.bytes.now c.args.out.now _ c.if-coordinator-eq0.false c.in_err-bid.ensures.value in
    record { answer = ap verdict_of (p.1 ∙ ap Err p.2) ∙ ap (λ w. w.0) whole; memory = ap (λ w. w.1) whole }

pub returns-in_err-judged : goal.returns-in_err-judged
returns-in_err-judged g c =
    let p = err_from_is_err_and c.from_residual-in_err-judged.result c.from_residual-in_err-judged.ensures.1 in
    let whole = ap (λ x. row_written x c.args.out.now) c.in_err-judged.ensures ∙ read_judged_lem c.args.coordinator (g.R.Register.meaning c.args.register.now) c.args.bytes.now c.args.out.now _ c.if-coordinator-eq0.false c.in_ok-bid.ensures.value in
    record { answer = ap verdict_of (p.1 ∙ ap Err p.2) ∙ ap (λ w. w.0) whole; memory = ap (λ w. w.1) whole }

pub returns-in_err-length : goal.returns-in_err-length
returns-in_err-length g c =
    let p = err_from_is_err_and c.from_residual-in_err-length.result c.from_residual-in_err-length.ensures.1 in
    let j = c.in_ok-judged.judged in
    let row = j.row.components in
    let out = c.args.out.now in
    let whole =
    ap (λ r. wrote j.marks r c.write.new.out) c.in_err-length.ensures.answer ∙ ap (wrote j.marks (record_written row out).0) c.write.ensures.memory
    ∙ ap (λ x. row_written x out) c.in_ok-judged.ensures ∙ read_judged_lem c.args.coordinator (g.R.Register.meaning c.args.register.now) c.args.bytes.now out _ c.if-coordinator-eq0.false c.in_ok-bid.ensures.value in
    record { answer = ap verdict_of (p.1 ∙ ap Err p.2) ∙ ap (λ w. w.0) whole; memory = ap (λ w. w.1) whole }

pub returns : goal.returns
returns g c =
    let j = c.in_ok-judged.judged in
    let row = j.row.components in
    let out = c.args.out.now in
    let whole =
    ap (λ r. wrote j.marks r c.write.new.out) c.in_ok-length.ensures.answer ∙ ap (wrote j.marks (record_written row out).0) c.write.ensures.memory
    ∙ ap (λ x. row_written x out) c.in_ok-judged.ensures ∙ read_judged_lem c.args.coordinator (g.R.Register.meaning c.args.register.now) c.args.bytes.now out _ c.if-coordinator-eq0.false c.in_ok-bid.ensures.value in
    record { answer = ap (λ w. w.0) whole; memory = ap (λ w. w.1) whole }
