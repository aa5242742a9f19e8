-- `key_judge::is_plain_key` meets its contract. Assumes nothing.
use mathlib.Core.Logic.{inl, inr}
use mathlib.Core.Path.{refl, sym, ◌∙◌}
use native.Mathlib.Omega.{arith}
use borrow.Author.Tests.{not-false}
use Rattle.laws.proofs.Lists.{not_both}
use Rattle.key_judge.proofs.Pairs.{key_linked}
use Rattle.key_judge.proofs.is_plain_key.Goals as goal
use Rattle.key_judge.proofs.is_plain_key.Goals.{then-n-gt-FEW_BYTES+else-count_bindings-gt-MOST_PARTS, else-n-gt-FEW_BYTES}

pub returns : goal.returns
returns c =
    λ e. key_linked c.args.key.now (omega (arith, c.if-n-lt-RUN.false))
    (sym c.is_binding.ensures ∙ not-false _ c.if-not-is_binding.false-raw)
    (sym c.is_name_byte.ensures ∙ not-false _ c.if-not-is_name_byte.false-raw)
    (c.all_links.ensures e)
    (elim c.if-n-gt-FEW_BYTES.branch [
      | then-n-gt-FEW_BYTES+else-count_bindings-gt-MOST_PARTS w ↦ inr (omega (arith, w.count_bindings.ensures, w.if-count_bindings-gt-MOST_PARTS.false))
      | else-n-gt-FEW_BYTES w ↦ inl (omega (arith, w.if-n-gt-FEW_BYTES.false))
    ])

pub returns-then-n-lt-RUN : goal.returns-then-n-lt-RUN
returns-then-n-lt-RUN c e = absurd (not_both e refl)

pub returns-then-n-gt255 : goal.returns-then-n-gt255
returns-then-n-gt255 c e = absurd (not_both e refl)

pub returns-then-not-is_binding : goal.returns-then-not-is_binding
returns-then-not-is_binding c e = absurd (not_both e refl)

pub returns-then-not-is_name_byte : goal.returns-then-not-is_name_byte
returns-then-not-is_name_byte c e = absurd (not_both e refl)

pub returns-then-count_bindings-gt-MOST_PARTS : goal.returns-then-count_bindings-gt-MOST_PARTS
returns-then-count_bindings-gt-MOST_PARTS c e = absurd (not_both e refl)
