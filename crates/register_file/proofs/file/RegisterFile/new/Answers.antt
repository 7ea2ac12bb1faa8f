use Rattle.register_file.specs.File.{file_at}
use Rattle.register_file.proofs.FileMeaning.{accepted_file, read_as_row}
use Rattle.register_file.proofs.FilePlaces.{file_placed}
use Rattle.register_file.proofs.FileWritten.{file_written}
use Rattle.register_file.proofs.Skipped.{lent_bytes}
use Rattle.register_file.proofs.file.RegisterFile.new.Goals as goal

pub returns-in_err-check_file-clause-placed : goal.returns-in_err-check_file-clause-placed
returns-in_err-check_file-clause-placed c = file_placed c.args.bytes.now (lent_bytes c.args.bytes.now c.type_inv.bytes)

pub returns-in_err-check_file-clause-written : goal.returns-in_err-check_file-clause-written
returns-in_err-check_file-clause-written c = file_written c.args.bytes.now (lent_bytes c.args.bytes.now c.type_inv.bytes)

pub invariant_of-result : goal.invariant_of-result
invariant_of-result c = record { lent = lent_bytes c.args.bytes.now c.type_inv.bytes; accepted = accepted_file (file_at c.args.bytes.now) c.in_ok-check_file.ensures }

pub returns-clause-rows : goal.returns-clause-rows
returns-clause-rows c = read_as_row c.args.bytes.now (lent_bytes c.args.bytes.now c.type_inv.bytes)

pub returns-clause-written : goal.returns-clause-written
returns-clause-written c = file_written c.args.bytes.now (lent_bytes c.args.bytes.now c.type_inv.bytes)
