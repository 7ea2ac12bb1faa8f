use Rattle.std.proofs.Common.{Ok, Err, sym, ap, ◌∙◌}
use Rattle.std.proofs.lemmas.Result.{err_from_is_err_and}
use Rattle.rule_laws.specs.Judging.{after_checks, marked}
use Rattle.mending.specs.Mending.{mended}
use Rattle.rules.specs.Told.{told}
use Rattle.rule_laws.proofs.Rulings.{found, ruled_none, ruled_card, judged_kept}
use Rattle.rules.proofs.judging.rule_bid.Goals as goal

pub returns-then-not-look : goal.returns-then-not-look
returns-then-not-look g c = ruled_none c.args.coordinator (g.R.Register.meaning c.args.register.now) c.args.bid.now.components (sym c.look.ensures.answer ∙ c.if-not-look.true)

pub returns-in_err-check : goal.returns-in_err-check
returns-in_err-check g c =
    let m = g.R.Register.meaning c.args.register.now in
    let b = c.args.bid.now.components in
    let p = err_from_is_err_and c.from_residual.result c.from_residual.ensures.1 in
    let card = found _ c.look.new.card (m.cards b.resource) (sym c.look.ensures.answer ∙ c.if-not-look.false) c.look.ensures.filled in
    ap told (p.1 ∙ ap Err p.2) ∙ ap (λ x. marked b (after_checks x (mended c.day.result c.look.new.card b))) c.in_err-check.ensures ∙ ap (marked b) (ruled_card c.args.coordinator m b c.day.result c.look.new.card card c.day.ensures.value)

pub returns-in_err-components : goal.returns-in_err-components
returns-in_err-components g c =
    let m = g.R.Register.meaning c.args.register.now in
    let b = c.args.bid.now.components in
    let p = err_from_is_err_and c.from_residual-in_err-components.result c.from_residual-in_err-components.ensures.1 in
    let card = found _ c.look.new.card (m.cards b.resource) (sym c.look.ensures.answer ∙ c.if-not-look.false) c.look.ensures.filled in
    ap told (p.1 ∙ ap Err p.2) ∙ ap (marked b) c.in_err-components.ensures ∙ ap (λ x. marked b (after_checks x (mended c.day.result c.look.new.card b))) c.in_ok-check.ensures ∙ ap (marked b) (ruled_card c.args.coordinator m b c.day.result c.look.new.card card c.day.ensures.value)

pub invariant_of-result : goal.invariant_of-result
invariant_of-result g c =
    let m = g.R.Register.meaning c.args.register.now in
    let b = c.args.bid.now.components in
    let card = found _ c.look.new.card (m.cards b.resource) (sym c.look.ensures.answer ∙ c.if-not-look.false) c.look.ensures.filled in
    record { kept = judged_kept m b c.day.result c.look.new.card c.in_ok-components.components (g.met.R.Register.keeps c.args.register.now) card c.day.ensures.value c.args.bid.now.kept (sym c.in_ok-components.ensures) }

pub returns : goal.returns
returns g c =
    let m = g.R.Register.meaning c.args.register.now in
    let b = c.args.bid.now.components in
    let card = found _ c.look.new.card (m.cards b.resource) (sym c.look.ensures.answer ∙ c.if-not-look.false) c.look.ensures.filled in
    ap (λ k. Ok (c.in_ok-components.components, k)) c.marks-marks.ensures ∙ ap (marked b) c.in_ok-components.ensures ∙ ap (λ x. marked b (after_checks x (mended c.day.result c.look.new.card b))) c.in_ok-check.ensures ∙ ap (marked b) (ruled_card c.args.coordinator m b c.day.result c.look.new.card card c.day.ensures.value)
