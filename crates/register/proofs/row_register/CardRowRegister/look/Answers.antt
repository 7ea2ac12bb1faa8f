use Rattle.std.proofs.Common.{rules, of_calls, ltb, is_some, sym, ap, ◌∙◌}
use Rattle.std.proofs.lemmas.List.Sorted.{IsPartitionPoint-from_clause}
use Rattle.register.specs.CardRow.{number_of}
use Rattle.register.specs.Meaning.{card_or}
use Rattle.register.specs.RowKeeps.{row_rises, row_keeps}
use Rattle.register.proofs.CardRows.{no_card, lower_numbers, is_found, not_found, past_end}
use Rattle.register.proofs.row_register.CardRowRegister.look.Goals as goal

pub returns-in-Some : goal.returns-in-Some
returns-in-Some c =
    let r = c.args.self.now in
    let xs = r.cards.now in
    let n = c.args.resource in
    let up = row_rises r.day xs r.kept in
    let at = IsPartitionPoint-from_clause (λ x. ltb (number_of x) n) xs c.partition_point-at.result c.partition_point-at.ensures.partitioned (lower_numbers xs up n) (λ a b f k. search (rules, of_calls)) in
    let here = c.in-Some.ensures.lookup.3 in
    let some = is_found xs up n c.partition_point-at.result at c.in-Some.held.now here.0 (here.1 no_card) c.if-held-resource.true in
    record { answer = sym (ap is_some some); filled = c.tidied.ensures ∙ sym (ap (card_or c.args.card.now) some); keeps = row_keeps r.day xs r.kept }

pub returns-in_default : goal.returns-in_default
returns-in_default c =
    let r = c.args.self.now in
    let xs = r.cards.now in
    let n = c.args.resource in
    let up = row_rises r.day xs r.kept in
    let at = IsPartitionPoint-from_clause (λ x. ltb (number_of x) n) xs c.partition_point-at.result c.partition_point-at.ensures.partitioned (lower_numbers xs up n) (λ a b f k. search (rules, of_calls)) in
    let here = c.in-Some.ensures.lookup.3 in
    let none = not_found xs up n c.partition_point-at.result at c.in-Some.held.now here.0 (here.1 no_card) c.if-held-resource.false in
    record { answer = sym (ap is_some none); filled = sym (ap (card_or c.args.card.now) none); keeps = row_keeps r.day xs r.kept }

pub returns-in_default-2 : goal.returns-in_default-2
returns-in_default-2 c =
    let r = c.args.self.now in
    let xs = r.cards.now in
    let n = c.args.resource in
    let up = row_rises r.day xs r.kept in
    let at = IsPartitionPoint-from_clause (λ x. ltb (number_of x) n) xs c.partition_point-at.result c.partition_point-at.ensures.partitioned (lower_numbers xs up n) (λ a b f k. search (rules, of_calls)) in
    let none = past_end xs up n c.partition_point-at.result at (rw c.in_default.is at c.get.ensures.lookup).3 in
    record { answer = sym (ap is_some none); filled = sym (ap (card_or c.args.card.now) none); keeps = row_keeps r.day xs r.kept }
