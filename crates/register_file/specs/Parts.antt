-- The bits of a card's map. Assumes nothing.
use Rattle.std.specs.Prelude.{ℕ}
use Rattle.register_file.specs.declared.parts.Part.{Part}
use Rattle.register_file.specs.declared.parts.Part.TheVariants.{Up, Down, Spinning, NonSpinning, RegulationLimit, Level, StartUp, Ramp}

abbrev pub part_bit : Part → ℕ
part_bit Up = 0
part_bit Down = 1
part_bit Spinning = 2
part_bit NonSpinning = 3
part_bit RegulationLimit = 4
part_bit Level = 5
part_bit StartUp = 6
part_bit Ramp = 7
