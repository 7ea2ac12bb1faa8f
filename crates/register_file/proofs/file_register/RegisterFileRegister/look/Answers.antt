use Rattle.std.proofs.Common.{is_some, sym, refl, ap}
use Rattle.register.specs.Meaning.{card_or}
use Rattle.register_file.specs.FileKeeps.{file_keeps}
use Rattle.register_file.proofs.FileMeaning.{look_misses, look_finds, look_stands}
use Rattle.register_file.proofs.file_register.RegisterFileRegister.look.Goals as goal

pub returns-in_default : goal.returns-in_default
returns-in_default c =
    let file = c.args.self.now in
    let none = look_misses file.bytes.now file.lent file.accepted _ refl c.args.resource (sym c.in_default.ensures) in
    record { answer = sym (ap is_some none); filled = sym (ap (card_or c.args.card.now) none); keeps = file_keeps file.bytes.now file.accepted }

pub unreachable-requires : goal.unreachable-requires
unreachable-requires c =
    let file = c.args.self.now in
    look_stands file.bytes.now file.lent file.accepted _ refl c.args.resource c.in-Some.at (sym c.in-Some.ensures) c.in-Err.field-0 c.in-Err.ensures.0

pub returns : goal.returns
returns c =
    let file = c.args.self.now in
    let some = look_finds file.bytes.now file.lent file.accepted _ refl c.args.resource c.in-Some.at (sym c.in-Some.ensures) c.in-Ok.standing c.read_standing.new.reader.at c.in-Ok.ensures.0 in
    record { answer = sym (ap is_some some); filled = sym (ap (card_or c.args.card.now) some); keeps = file_keeps file.bytes.now file.accepted }
