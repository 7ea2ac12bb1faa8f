use Rattle.rule_laws.proofs.ExactlyThen.{exactly_then, tells_layers}
use Rattle.rules.proofs.GrantedRows.{granted_row}
use Rattle.rules.proofs.judging.judge_bid.Goals as goal

pub returns : goal.returns
returns g c =
    let b = c.args.bid.now.components in
    record {
      value = c.rule_bid.ensures;
      exactly = exactly_then c.args.coordinator (g.R.Register.meaning c.args.register.now) b c.args.bid.now.kept;
      layers = tells_layers c.args.coordinator (g.R.Register.meaning c.args.register.now) b c.args.bid.now.kept;
      granted = granted_row c.args.coordinator (g.R.Register.meaning c.args.register.now) b c.args.bid.now.kept c.rule_bid.result c.rule_bid.ensures;
    }
