use Rattle.std.proofs.Common.{◌+◌, ◌-◌, ◌<◌, is_ok, sym, ap, ◌∙◌, arith}
use native.Mathlib.Nat.{sub-zero}
use Rattle.register_file.specs.File.{cards_at}
use Rattle.register_file.specs.Skipping.{find_at}
use Rattle.register_file.proofs.FileMeaning.{cards_stand, next_stands, search_more, search_here, search_past}
use Rattle.register_file.proofs.file.RegisterFile.find.Goals as goal

pub loop-i-init : goal.loop-i-init
loop-i-init c =
    let file = c.args.self.now in
    let count = c.word_or_zero-i-end.result in (
      (0, ap (λ k. is_ok (cards_at k 1 0 file.bytes.now 19)) (sub-zero count) ∙ cards_stand file.bytes.now file.lent file.accepted count c.word_or_zero-i-end.ensures),
      ap (λ k. find_at c.args.resource k file.bytes.now 19) (sub-zero count),
    )

pub after_card-next-requires : goal.after_card-next-requires
after_card-next-requires c =
    let file = c.args.self.now in
    (next_stands file.bytes.now file.lent c.word_or_zero-i-end.result c.loop-i._i c.loop-i-test.true c.loop-i.next (c.loop-i._i + 1) c.loop-i.invariant.0.0 c.loop-i.invariant.0.1).0

pub returns-then-number-resource : goal.returns-then-number-resource
returns-then-number-resource c =
    let file = c.args.self.now in
    sym (search_here file.bytes.now file.lent c.word_or_zero-i-end.result c.loop-i._i c.loop-i-test.true c.loop-i.next c.args.resource c.word_or_zero-number.result c.word_or_zero-number.ensures c.if-number-resource.true)
    ∙ c.loop-i.invariant.1 ∙ ap (λ k. find_at c.args.resource k file.bytes.now 19) c.word_or_zero-i-end.ensures

pub returns-then-number-resource-2 : goal.returns-then-number-resource-2
returns-then-number-resource-2 c =
    let file = c.args.self.now in
    sym (search_past file.bytes.now file.lent c.word_or_zero-i-end.result c.loop-i._i c.loop-i-test.true c.loop-i.next c.args.resource c.word_or_zero-number.result c.word_or_zero-number.ensures c.if-number-resource-2.true)
    ∙ c.loop-i.invariant.1 ∙ ap (λ k. find_at c.args.resource k file.bytes.now 19) c.word_or_zero-i-end.ensures

pub loop-i-preserved : goal.loop-i-preserved
loop-i-preserved c =
    let bytes = c.args.self.now.bytes.now in
    let all = c.args.self.now.lent in
    let count = c.word_or_zero-i-end.result in
    let i = c.loop-i._i in
    let n = c.args.resource in
    let number = c.word_or_zero-number.result in
    let lower : number < n = omega arith in
    let more = (next_stands bytes all count i c.loop-i-test.true c.loop-i.next (i + 1) c.loop-i.invariant.0.0 c.loop-i.invariant.0.1).1 in
    let to = c.after_card-next.ensures.value in (
      (more.0, ap (λ p. is_ok (cards_at (count - (i + 1)) (i + 1 + 1) more.0 bytes p)) to ∙ more.1),
      ap (find_at n (count - (i + 1)) bytes) to ∙ sym (search_more bytes all count i c.loop-i-test.true c.loop-i.next n number c.word_or_zero-number.ensures lower) ∙ c.loop-i.invariant.1,
    )
