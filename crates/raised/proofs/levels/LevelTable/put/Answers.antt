use Rattle.std.proofs.Common.{sym, ap, ◌∙◌, inl, inr, w32, to_z, of_z}
use Rattle.std.proofs.lemmas.Int.{to_z-of_z}
use Rattle.std.proofs.lemmas.Bool.{cond-true, cond-false}
use Rattle.wire.specs.Rows.{entries}
use Rattle.raised.specs.Levels.{put_level, has_place}
use Rattle.register.specs.Meaning.{granted}
use Rattle.raised.proofs.LevelLists.{Put, table_full, table_has_place, table_levels, table_kept}
use Rattle.raised.proofs.levels.LevelTable.put.Goals as goal
use Rattle.raised.proofs.levels.LevelTable.put.Goals.{in-Some, in-None+else-at-eq-PLACES}

pub returns-then-at-eq-PLACES : goal.returns-then-at-eq-PLACES
returns-then-at-eq-PLACES c =
    let r = c.args.self.now in
    let n = c.args.resource in
    let xs = entries r.levels in
    let is = cond-false (has_place xs n) _ _ (table_full r.levels r.kept n c.in-None.ensures c.if-at-eq-PLACES.true) in
    record { answer = sym is; after = sym (ap (λ a. granted a (put_level n c.args.level xs) xs) is) }

pub invariant_of-self : goal.invariant_of-self
invariant_of-self c =
    let r = c.args.self.now in
    let n = c.args.resource in
    let l = c.args.level in
    let put : Put r.levels n (to_z w32 (of_z w32 l)) c.match-place_of.levels = elim c.match-place_of.branch [
      | in-Some w ↦ inl (w.in-Some.at, w.in-Some.ensures, w.levels-is)
      | in-None+else-at-eq-PLACES w ↦ inr (w.in-None.ensures, w.if-at-eq-PLACES.false, w.levels-is)
    ] in
    record { kept = table_kept r.levels r.kept n l (to_z w32 (of_z w32 l)) (to_z-of_z w32 l c.ranges.level) c.match-place_of.levels put c.requires }

pub returns : goal.returns
returns c =
    let r = c.args.self.now in
    let n = c.args.resource in
    let l = c.args.level in
    let xs = entries r.levels in
    let put : Put r.levels n (to_z w32 (of_z w32 l)) c.match-place_of.levels = elim c.match-place_of.branch [
      | in-Some w ↦ inl (w.in-Some.at, w.in-Some.ensures, w.levels-is)
      | in-None+else-at-eq-PLACES w ↦ inr (w.in-None.ensures, w.if-at-eq-PLACES.false, w.levels-is)
    ] in
    let is = cond-true (has_place xs n) _ _ (table_has_place r.levels r.kept n l (to_z w32 (of_z w32 l)) (to_z-of_z w32 l c.ranges.level) c.match-place_of.levels put) in
    let after = table_levels r.levels r.kept n l (to_z w32 (of_z w32 l)) (to_z-of_z w32 l c.ranges.level) c.match-place_of.levels put in
    record { answer = sym is; after = after ∙ sym (ap (λ a. granted a (put_level n l xs) xs) is) }
