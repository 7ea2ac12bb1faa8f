use Rattle.std.proofs.Common.{◌≤◌, length, take, sym, ap, ◌∙◌, arith}
use Rattle.wire.specs.Steps.{ok_same}
use Rattle.bid.specs.Record.{record_bytes, record_read}
use Rattle.bid.proofs.Told.{put_front, written_fits, written_short, front_restores, written_within}
use Rattle.bid.proofs.bid.Bid.write.Goals as goal

pub returns-then-out-length-clause-answer : goal.returns-then-out-length-clause-answer
returns-then-out-length-clause-answer c = sym (ap (λ w. w.0) (written_short c.args.self.now.components c.args.out.now (omega arith)))

pub returns-then-out-length-clause-memory : goal.returns-then-out-length-clause-memory
returns-then-out-length-clause-memory c = sym (ap (λ w. w.1) (written_short c.args.self.now.components c.args.out.now (omega arith)))

pub returns : goal.returns
returns c =
    let v = c.args.self.now.components in
    let room : length (record_bytes v) ≤ length c.args.out.now = omega arith in
    let e = written_fits v c.args.out.now room in
    let f = put_front v c.args.out.now room in
    record {
      answer = c.put_record.ensures.answer ∙ ap (λ w. w.0) e;
      memory = c.put_record.ensures.memory ∙ ap (λ w. w.1) e;
      within = written_within v c.args.out.now c.put_record.result c.put_record.new.out room (c.put_record.ensures.answer ∙ ap (λ w. w.0) f) (omega arith);
      restores = λ n h.
          ap (λ l. record_read (take n l)) (c.put_record.ensures.memory ∙ ap (λ w. w.1) f)
          ∙ front_restores v c.args.out.now n c.args.self.now.kept (ok_same (sym h ∙ c.put_record.ensures.answer ∙ ap (λ w. w.0) f));
    }
