-- `image::row_by` meets its contract. Assumes nothing.
use mathlib.Core.Path.{ap, ◌∙◌}
use Prim.Native.Nat.{ℕ, ◌+◌}
use lib.ListN.{get_or}
use borrow.Author.Rules.{rules}
use Rattle.image.proofs.row_by.Goals as goal

pub returns : goal.returns
returns c =
    let s = c.number_at-start.ensures.0 ∙ ap (λ (n : ℕ). get_or c.args.words.now n 0) c.row_start-at.ensures in
    let k = c.number_at-key.ensures.0 ∙ ap (λ (n : ℕ). get_or c.args.words.now (n + 1) 0) c.row_start-at.ensures in
    let v = c.number_at-value.ensures.0 ∙ ap (λ (n : ℕ). get_or c.args.words.now (n + 2) 0) c.row_start-at.ensures in
    record { is = λ i. record { start = s i; key_length = k i; value_length = v i }; small = search rules }
