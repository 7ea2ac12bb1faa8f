use Rattle.std.proofs.Common.{◌≡◌, ◌+◌, length, Some, Err, arith, rules, sym, ap, subst, ◌∙◌}
use Rattle.std.proofs.lemmas.List.{length_push}
use Rattle.faults.specs.declared.Fault.TheVariants.{Rule}
use Rattle.wire.specs.Rows.{entries}
use Rattle.checks.proofs.Beside.{Left, turn_of, turns_of, turn_refused, turn_let_in, turns_done}
use Rattle.checks.proofs.pairs.check_beside.Goals as goal

pub overflow_cast-result : goal.overflow_cast-result
overflow_cast-result g c =
    let t = turn_of (entries c.args.pairs.now) (entries c.args.limits.now) c.into_iter-i-iterator.result (cc) (cc) (cc) c.loop-i.yielded c.loop-i.i-iterator c.loop-i.yielded_by c.next.result c.next.new.self _ _ _ c.in-Some.is c.next.ensures.steps in
    omega (arith, t.place, t.within, ap length c.standing-pairs.ensures.value, c.standing-pairs.ensures.few)

pub overflow_add-result : goal.overflow_add-result
overflow_add-result g c =
    let t = turn_of (entries c.args.pairs.now) (entries c.args.limits.now) c.into_iter-i-iterator.result (cc) (cc) (cc) c.loop-i.yielded c.loop-i.i-iterator c.loop-i.yielded_by c.next.result c.next.new.self _ _ _ c.in-Some.is c.next.ensures.steps in
    omega (arith, t.place, t.within, ap length c.standing-pairs.ensures.value, c.standing-pairs.ensures.few)

pub returns-then-broken : goal.returns-then-broken
returns-then-broken g c =
    let ps = entries c.args.pairs.now in
    let ls = entries c.args.limits.now in
    let t = turn_of ps ls c.into_iter-i-iterator.result (cc) (cc) (cc) c.loop-i.yielded c.loop-i.i-iterator c.loop-i.yielded_by c.next.result c.next.new.self _ _ _ c.in-Some.is c.next.ensures.steps in
    let alike : length ps ≡ length ls = cc in
    ap (λ f. Err (Rule f (c.in-Some.i + 1))) c.FAULT-then-broken.ensures ∙ turn_refused g.P.Beside.FAULT g.P.Beside.broken ps ls _ c.loop-i.before _ _ _ t (cc) c.loop-i.invariant.2 alike

pub loop-i-preserved : goal.loop-i-preserved
loop-i-preserved g c =
    let ps = entries c.args.pairs.now in
    let ls = entries c.args.limits.now in
    let t = turn_of ps ls c.into_iter-i-iterator.result (cc) (cc) (cc) c.loop-i.yielded c.loop-i.i-iterator c.loop-i.yielded_by c.next.result c.next.new.self _ _ _ c.in-Some.is c.next.ensures.steps in
    let on = turn_let_in g.P.Beside.FAULT g.P.Beside.broken ps ls _ c.loop-i.before _ _ _ t (cc) c.loop-i.invariant.2 in
    (search rules, search rules, subst (λ n. Left g.P.Beside.FAULT g.P.Beside.broken ps ls n (Some c.in-Some.pair.now)) (sym (length_push c.loop-i.yielded _)) on)

pub returns : goal.returns
returns g c =
    let ps = entries c.args.pairs.now in
    let ls = entries c.args.limits.now in
    let e = turns_of ps ls c.into_iter-i-iterator.result (cc) (cc) (cc) c.loop-i.yielded c.loop-i.i-iterator c.loop-i.yielded_by c.next.result c.next.new.self c.in-None.is c.next.ensures.steps in
    let alike : length ps ≡ length ls = cc in
    turns_done g.P.Beside.FAULT g.P.Beside.broken ps ls (length c.loop-i.yielded) c.loop-i.before (omega arith) c.loop-i.invariant.2 alike
