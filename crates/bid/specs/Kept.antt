-- What every bid keeps: each number in its range, each count right, and zeros behind the counts. Assumes nothing.
use Rattle.std.specs.Prelude.{ℕ, Bool, ◌&&◌, nat_lt}
use Rattle.wire.specs.Reading.{is_quantity}
use Rattle.wire.specs.Rows.{optional_held}
use Rattle.bid.specs.declared.components.Components.{Components}
use Rattle.bid.specs.declared.components.Services.{Services}
use Rattle.bid.specs.Fields.{service_held, curve_held, start_up_held, ramp_held}

abbrev pub is_resource : ℕ → Bool
is_resource v = nat_lt v 65536

abbrev pub is_hour : ℕ → Bool
is_hour v = nat_lt v 256

abbrev pub services_held : Services → Bool
services_held s =
    optional_held service_held s.regulation_up && optional_held service_held s.regulation_down
    && optional_held service_held s.spinning && optional_held service_held s.non_spinning

unfoldable pub keeps : Components → Bool
keeps c =
    is_resource c.resource && is_hour c.hour && optional_held is_quantity c.self_schedule && optional_held curve_held c.curve
    && services_held c.services && optional_held start_up_held c.start_up && optional_held ramp_held c.ramp
