-- What mending makes, put together from its parts. Assumes nothing.
use Rattle.std.proofs.Common.{◌≡◌, ℕ, ℤ, Option, ap, ◌∙◌}
use Rattle.bid.specs.declared.components.Components.{Components}
use Rattle.bid.specs.declared.components.Curve.{Curve}
use Rattle.bid.specs.declared.components.Services.{Services}
use Rattle.register.specs.declared.data.Card.{Card}
use Rattle.register.specs.declared.data.Day.{Day}
use Rattle.mending.specs.Mending.{capped, mended_services, reached}
use Rattle.checks.specs.Terms.{top, base, ceiling, extension_price, need}

pub joined : (d : Day) (k : Card) (b : Components) (from : ℕ) (price price' limit limit' : ℤ) (s : Services) (v : Option Curve)
    → from ≡ base k b → s ≡ mended_services k b → price' ≡ price → price ≡ extension_price d k → limit' ≡ limit → limit ≡ ceiling d k → v ≡ capped limit' b.curve
    → reached from (top k) (need s) price' v ≡ reached (base k b) (top k) (need (mended_services k b)) (extension_price d k) (capped (ceiling d k) b.curve)
joined d k b from price price' limit limit' s v e₁ e₂ e₃ e₄ e₅ e₆ e₇ =
    ap (λ x. reached x (top k) (need s) price' v) e₁ ∙ ap (λ x. reached (base k b) (top k) (need x) price' v) e₂
    ∙ ap (λ x. reached (base k b) (top k) (need (mended_services k b)) x v) (e₃ ∙ e₄)
    ∙ ap (reached (base k b) (top k) (need (mended_services k b)) (extension_price d k)) (e₇ ∙ ap (λ z. capped z b.curve) (e₅ ∙ e₆))
