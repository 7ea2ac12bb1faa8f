-- The bits of a record's map. Assumes nothing.
use Rattle.std.specs.Prelude.{ℕ}
use Rattle.bid.specs.declared.record.Part.{Part}
use Rattle.bid.specs.declared.record.Part.TheVariants.{SelfSchedule, Curve, RegulationUp, RegulationDown, Spinning, NonSpinning, StartUp, Ramp}

abbrev pub part_bit : Part → ℕ
part_bit SelfSchedule = 0
part_bit Curve = 1
part_bit RegulationUp = 2
part_bit RegulationDown = 3
part_bit Spinning = 4
part_bit NonSpinning = 5
part_bit StartUp = 6
part_bit Ramp = 7
