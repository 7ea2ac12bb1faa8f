-- A bid by its components. Assumes nothing.
use Rattle.std.specs.Prelude.{Ok, Err, Result}
use Rattle.faults.specs.declared.Fault.{Fault}
use Rattle.bid.specs.declared.bid.Bid.{Bid}
use Rattle.bid.specs.declared.components.Components.{Components}

-- a bid that was read or made, as its components
abbrev pub told : Result Bid Fault → Result Components Fault
told (Ok b) = Ok b.components
told (Err f) = Err f
