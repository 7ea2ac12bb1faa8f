use Rattle.std.proofs.Common.{Err, sym, ap, ◌∙◌}
use Rattle.std.proofs.lemmas.Result.{err_from_is_err_and}
use Rattle.register_file.specs.File.{file_at, file_meaning}
use Rattle.register_file.proofs.FileMeaning.{granted_new, granted_old, made_new, made_old}
use Rattle.register_file.proofs.file.RegisterFile.open.Goals as goal

pub returns-in_err-self : goal.returns-in_err-self
returns-in_err-self c =
    let bytes = c.args.bytes.now in
    let old = c.args.self.now.bytes.now in
    let p = err_from_is_err_and c.from_residual.result c.from_residual.ensures.1 in
    let refused = made_old (file_at bytes) bytes _ c.in_err-self.ensures.value in
    record {
      answer = p.1 ∙ ap Err p.2 ∙ refused;
      bytes = sym (granted_old (file_at bytes) bytes old _ refused);
      means = sym (granted_old (file_at bytes) (file_meaning bytes) (file_meaning old) _ refused);
      placed = c.new.ensures.placed;
      rows = c.new.ensures.rows;
      written = c.new.ensures.written;
    }

pub returns : goal.returns
returns c =
    let bytes = c.args.bytes.now in
    let old = c.args.self.now.bytes.now in
    let taken = made_new (file_at bytes) bytes _ c.in_ok-self.ensures.value in
    record {
      answer = taken.1;
      bytes = taken.0 ∙ sym (granted_new (file_at bytes) bytes old taken.1);
      means = ap file_meaning taken.0 ∙ sym (granted_new (file_at bytes) (file_meaning bytes) (file_meaning old) taken.1);
      placed = c.new.ensures.placed;
      rows = c.new.ensures.rows;
      written = c.new.ensures.written;
    }
