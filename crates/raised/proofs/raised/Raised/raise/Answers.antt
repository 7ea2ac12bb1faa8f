use Rattle.std.proofs.Common.{◌≡◌, true, false, Err, sym, refl, ap, ◌∙◌, inl, inr, w32, SFits, rules}
use lib.Signed.{lt_z}
use Rattle.std.proofs.lemmas.Int.{to_z-of_z}
use Rattle.faults.specs.declared.Fault.TheVariants.{Register}
use Rattle.faults.specs.declared.RegisterFault.TheVariants.{RaiseNotAllowed}
use Rattle.wire.specs.Reading.{is_price}
use Rattle.wire.specs.Rows.{entries}
use Rattle.raised.specs.Levels.{threshold, may_raise, put_answer, put_level, raised_meaning}
use Rattle.register.specs.Meaning.{granted}
use Rattle.raised.proofs.RaisedLevels.{raises_hold, after_answer, raise_not_allowed, raise_put, held_price, may_not, may}
use Rattle.raised.proofs.raised.Raised.raise.Goals as goal
use Rattle.raised.proofs.raised.Raised.raise.Goals.{then-level-card-via-then-level-card, then-level-card-via-else-level-card+then-level-threshold}

pub threshold-requires : goal.threshold-requires
threshold-requires g c =
    let m = g.R.Register.meaning c.args.self.now.below in
    let b = c.look.new.card in
    let own : SFits w32 b.level = search rules in
    ap is_price (to_z-of_z w32 b.level own) ∙ ap (λ x. is_price x.level) c.look.ensures.filled
    ∙ held_price m c.args.resource c.blank-card.result (g.met.R.Register.keeps c.args.self.now.below) (sym c.if-not-look.ensures.answer)

pub returns-then-not-is_price-clause-raises : goal.returns-then-not-is_price-clause-raises
returns-then-not-is_price-clause-raises g c = raises_hold (g.R.Register.meaning c.args.self.now.below)

pub returns-then-not-look-clause-raises : goal.returns-then-not-look-clause-raises
returns-then-not-look-clause-raises g c = raises_hold (g.R.Register.meaning c.args.self.now.below)

pub returns-then-level-card : goal.returns-then-level-card
returns-then-level-card g c =
    let r = c.args.self.now in
    let m = g.R.Register.meaning r.below in
    let xs = entries r.levels.levels in
    let n = c.args.resource in
    let l = c.args.level in
    let b = c.look.new.card in
    let own : SFits w32 b.level = search rules in
    let price : is_price l ≡ true = ap is_price (sym (to_z-of_z w32 l c.ranges.level)) ∙ sym c.if-not-is_price.ensures in
    let fails : may_raise b.level l ≡ false = elim c.then-level-card.branch [
      | then-level-card-via-then-level-card w ↦ may_not b.level l (inl (sym (λ j. lt_z (to_z-of_z w32 l c.ranges.level j) (to_z-of_z w32 b.level own j)) ∙ w.if-level-card.true))
      | then-level-card-via-else-level-card+then-level-threshold w ↦ (
          let t = w.threshold.result in
          let fits : SFits w32 t = search rules in
          let top = to_z-of_z w32 t fits ∙ w.threshold.ensures ∙ ap threshold (to_z-of_z w32 b.level own) in
          may_not b.level l (inr (sym (λ j. lt_z (top j) (to_z-of_z w32 l c.ranges.level j)) ∙ w.if-level-threshold.true)))
    ] in
    let is = raise_not_allowed m xs n l price c.blank-card.result (sym c.if-not-look.ensures.answer) (ap (λ x. may_raise x.level l) (sym c.look.ensures.filled) ∙ fails) in
    let after = after_answer m xs n l (Err (Register RaiseNotAllowed 0)) is in
    record { answer = sym is; below = refl; levels = after; means = ap (raised_meaning m) after; raises = raises_hold m }

pub returns : goal.returns
returns g c =
    let r = c.args.self.now in
    let m = g.R.Register.meaning r.below in
    let xs = entries r.levels.levels in
    let n = c.args.resource in
    let l = c.args.level in
    let b = c.look.new.card in
    let own : SFits w32 b.level = search rules in
    let price : is_price l ≡ true = ap is_price (sym (to_z-of_z w32 l c.ranges.level)) ∙ sym c.if-not-is_price.ensures in
    let t = c.threshold.result in
    let fits : SFits w32 t = search rules in
    let top = to_z-of_z w32 t fits ∙ c.threshold.ensures ∙ ap threshold (to_z-of_z w32 b.level own) in
    let passes : may_raise b.level l ≡ true = may b.level l (sym (λ j. lt_z (to_z-of_z w32 l c.ranges.level j) (to_z-of_z w32 b.level own j)) ∙ c.if-level-card.false) (sym (λ j. lt_z (top j) (to_z-of_z w32 l c.ranges.level j)) ∙ c.if-level-threshold.false) in
    let is = raise_put m xs n l price c.blank-card.result (sym c.if-not-look.ensures.answer) (ap (λ x. may_raise x.level l) (sym c.look.ensures.filled) ∙ passes) in
    let after = c.put.ensures.after ∙ ap (λ k. granted (put_answer xs n) (put_level n k xs) xs) (to_z-of_z w32 l c.ranges.level) ∙ after_answer m xs n l (put_answer xs n) is in
    record { answer = c.put.ensures.answer ∙ sym is; below = refl; levels = after; means = ap (raised_meaning m) after; raises = raises_hold m }
