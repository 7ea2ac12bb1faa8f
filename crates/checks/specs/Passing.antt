-- The checks group after group, as the code runs them. Assumes nothing.
use Rattle.std.specs.Prelude.{ℕ, Ok, Err}
use Rattle.wire.specs.Rows.{entries}
use Rattle.bid.specs.declared.components.Components.{Components}
use Rattle.bid.specs.declared.components.Services.{Services}
use Rattle.register.specs.declared.data.Card.{Card}
use Rattle.register.specs.declared.data.Day.{Day}
use Rattle.checks.specs.Checks.{Passed, first_broken, filing_checks, self_schedule_checks, curve_checks, service_checks, start_up_checks, ramp_checks}
use Rattle.checks.specs.Terms.{top, base}

abbrev pub in_turn : Passed → Passed → Passed
in_turn (Ok x) p = p
in_turn (Err f) p = Err f

abbrev pub services_passed : Day → Card → Services → Passed
services_passed d c s =
    in_turn (first_broken (service_checks d 1 c.up.certified s.regulation_up)) (in_turn (first_broken (service_checks d 2 c.down.certified s.regulation_down))
    (in_turn (first_broken (service_checks d 3 c.spinning s.spinning)) (first_broken (service_checks d 4 c.non_spinning s.non_spinning))))

abbrev pub checks_passed : ℕ → Day → Card → Components → Passed
checks_passed coordinator d c b =
    in_turn (first_broken (filing_checks coordinator d c b)) (in_turn (first_broken (self_schedule_checks c b.self_schedule)) (in_turn (first_broken (curve_checks (base c b) (top c) d b.curve))
    (in_turn (services_passed d c b.services) (in_turn (first_broken (start_up_checks (entries c.start_up) b.start_up)) (first_broken (ramp_checks (entries c.ramp) b.ramp))))))
