use Rattle.std.proofs.Common.{arith}
use Rattle.wire.specs.Bytes.{byte_bytes, word_bytes, long_bytes}
use Rattle.wire.specs.Maps.{map_of}
use Rattle.wire.specs.Rows.{optional_bytes}
use Rattle.bid.specs.Fields.{curve_bytes, start_up_bytes, ramp_bytes}
use Rattle.bid.specs.Record.{presences, services_bytes, record_bytes}
use Rattle.bid.proofs.RecordLaws.{joined_length}
use Rattle.bid.proofs.record.record_length.Goals as goal

pub returns-clause-value : goal.returns-clause-value
unfolding record_bytes
returns-clause-value c =
    let v = c.args.components.now in
    let whole = joined_length (word_bytes v.resource) (byte_bytes v.hour) (word_bytes (map_of (presences v))) (optional_bytes long_bytes v.self_schedule) (optional_bytes curve_bytes v.curve) (services_bytes v.services) (optional_bytes start_up_bytes v.start_up) (optional_bytes ramp_bytes v.ramp) in
    omega arith
