-- A curve that a bid keeps is tidy, and so is one that is capped. Assumes nothing.
use Rattle.std.proofs.Common.{◌≡◌, ℤ, true, Some, None, Option, List, [], ◌∷◌, map, length, sym, refl, ap, ◌∙◌}
use Rattle.std.proofs.lemmas.Bool.{and_parts}
use Rattle.std.proofs.lemmas.List.{length-map}
use Rattle.wire.specs.Reading.{is_count, is_quantity}
use Rattle.wire.specs.Rows.{all_held, optional_held}
use Rattle.wire.specs.CountedRows.{packed-entries, packed_held, counts}
use Rattle.bid.specs.declared.components.Curve.{Curve}
use Rattle.bid.specs.declared.components.Step.{Step}
use Rattle.bid.specs.Fields.{blank_step, is_blank_step, step_held, steps_held, curve_held}
use Rattle.bid.specs.FieldLaws.{step_blanks}
use Rattle.checks.specs.Terms.{steps_of}
use Rattle.mending.specs.Mending.{Tidy, is_tidy, capped, capped_step}

pub tidy_curve : (v : Option Curve) → optional_held curve_held v ≡ true → Tidy v
tidy_curve None h = tt
tidy_curve (Some v) h =
    let a = and_parts (is_quantity v.start) (steps_held v.steps) h in
    (counts blank_step is_blank_step step_blanks refl step_held v.steps a.1, sym (packed-entries blank_step is_blank_step step_blanks refl step_held v.steps a.1))

-- the test says so
pub tidy_so : (v : Option Curve) → is_tidy v ≡ true → Tidy v
tidy_so None h = tt
tidy_so (Some v) h = (counts blank_step is_blank_step step_blanks refl (λ s. true) v.steps h, sym (packed-entries blank_step is_blank_step step_blanks refl (λ s. true) v.steps h))

all_true : (ss : List Step) → all_held (λ s. true) ss ≡ true
all_true [] = refl
all_true (s ∷ ss) = all_true ss

pub tidy_capped : (limit : ℤ) (v : Option Curve) → Tidy v → is_tidy (capped limit v) ≡ true
tidy_capped limit None t = refl
tidy_capped limit (Some v) t =
    let xs : List Step = map (capped_step limit) (steps_of v) in
    let long : length xs ≡ v.steps.count = length-map (steps_of v) (capped_step limit) ∙ sym (ap (λ d. d.count) t.1) in
    packed_held blank_step is_blank_step step_blanks refl (λ s. true) 10 xs (ap (is_count 10) long ∙ t.0) (all_true xs)
