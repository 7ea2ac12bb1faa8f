use Rattle.std.proofs.Common.{◌≡◌, ℕ, ◌*◌, Bool, true, false, cond, ap, ◌∙◌, arith}
use Rattle.bid.proofs.record.map_of.Goals as goal

scaled : (b : Bool) (n : ℕ) → cond b n 0 ≡ n * cond b 1 0
scaled true n = omega arith
scaled false n = omega arith

pub returns : goal.returns
returns c =
    let b₀ = c.bit.ensures ∙ ap (λ b. cond b 1 0) c.is_some.ensures in
    let b₁ = c.bit-2.ensures ∙ ap (λ b. cond b 2 0) c.is_some-2.ensures ∙ scaled _ 2 in
    let b₂ = c.bit-3.ensures ∙ ap (λ b. cond b 4 0) c.is_some-3.ensures ∙ scaled _ 4 in
    let b₃ = c.bit-4.ensures ∙ ap (λ b. cond b 8 0) c.is_some-4.ensures ∙ scaled _ 8 in
    let b₄ = c.bit-5.ensures ∙ ap (λ b. cond b 16 0) c.is_some-5.ensures ∙ scaled _ 16 in
    let b₅ = c.bit-6.ensures ∙ ap (λ b. cond b 32 0) c.is_some-6.ensures ∙ scaled _ 32 in
    let b₆ = c.bit-7.ensures ∙ ap (λ b. cond b 64 0) c.is_some-7.ensures ∙ scaled _ 64 in
    let b₇ = c.bit-8.ensures ∙ ap (λ b. cond b 128 0) c.is_some-8.ensures ∙ scaled _ 128 in
    omega arith
