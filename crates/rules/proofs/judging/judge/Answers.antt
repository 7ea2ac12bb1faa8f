use Rattle.std.proofs.Common.{rules}
use Rattle.bid.proofs.Told.{lent_bytes}
use Rattle.rule_laws.proofs.SettledBytes.{settled, only_meaning}
use Rattle.rules.proofs.judging.judge.Goals as goal

pub returns-in-Ok : goal.returns-in-Ok
returns-in-Ok g c = record {
  answer = search rules;
  memory = search rules;
  settled = λ m K. settled c.args.coordinator m c.args.bytes.now c.args.out.now K (lent_bytes c.args.bytes.now c.type_inv.bytes);
  meaning_counts = λ m. only_meaning c.args.coordinator m c.args.bytes.now c.args.out.now (lent_bytes c.args.bytes.now c.type_inv.bytes);
}

pub returns-in-Err : goal.returns-in-Err
returns-in-Err g c = record {
  answer = search rules;
  memory = search rules;
  settled = λ m K. settled c.args.coordinator m c.args.bytes.now c.args.out.now K (lent_bytes c.args.bytes.now c.type_inv.bytes);
  meaning_counts = λ m. only_meaning c.args.coordinator m c.args.bytes.now c.args.out.now (lent_bytes c.args.bytes.now c.type_inv.bytes);
}
