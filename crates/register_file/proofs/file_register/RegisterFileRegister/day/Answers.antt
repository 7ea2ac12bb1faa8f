use Rattle.register_file.specs.FileKeeps.{file_keeps}
use Rattle.register_file.proofs.file_register.RegisterFileRegister.day.Goals as goal

pub returns-clause-keeps : goal.returns-clause-keeps
returns-clause-keeps c = file_keeps c.args.self.now.bytes.now c.args.self.now.accepted
