use Rattle.std.proofs.Common.{◌≡◌, ap, ◌∙◌, rules}
use Rattle.std.specs.Option.{option_copied, option_map_or}
use Rattle.mending.proofs.Steps.{last_end}
use Rattle.mending.proofs.curves.end_of.Goals as goal

pub returns : goal.returns
returns c =
    let e : c.map_or.result ≡ option_map_or (λ s. s.end) (option_copied c.last.result) c.args.start = search rules in
    e ∙ ap (λ o. option_map_or (λ s. s.end) o c.args.start) c.last.ensures.value ∙ last_end c.args.start c.args.steps.now
