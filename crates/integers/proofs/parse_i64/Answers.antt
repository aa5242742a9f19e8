use mathlib.Core.Path.{◌≡◌, ◌∙◌}
use native.Mathlib.Omega.{arith}
use lib.ListN.{get_or}
use borrow.Author.Tests.{ltb-true}
use Rattle.integers.proofs.Numbers.{number_after_minus, number_after_plus, number_unsigned}
use Rattle.integers.proofs.parse_i64.Goals as goal
use Rattle.integers.proofs.parse_i64.Goals.{in_default-via-then-text-lt1, in_default-via-else-text-lt1+in_default-1}

pub returns-in-45 : goal.returns-in-45
returns-in-45 c =
    let e : get_or c.args.text.now 0 0 ≡ 45 = omega arith in
    c.signed_number.ensures ∙ number_after_minus c.args.text.now (omega arith) e

pub returns-in-43 : goal.returns-in-43
returns-in-43 c =
    let e : get_or c.args.text.now 0 0 ≡ 43 = omega arith in
    c.signed_number-in-43.ensures ∙ number_after_plus c.args.text.now (omega arith) (omega arith) e

pub returns-in_default : goal.returns-in_default
returns-in_default c =
    c.signed_number-in_default.ensures
    ∙ number_unsigned c.args.text.now
    (elim c.in_default.branch [ in_default-via-then-text-lt1 w ↦ λ h. absurd (omega (arith, ltb-true)) | in_default-via-else-text-lt1+in_default-1 w ↦ omega arith ])
    (elim c.in_default.branch [ in_default-via-then-text-lt1 w ↦ λ h. absurd (omega (arith, ltb-true)) | in_default-via-else-text-lt1+in_default-1 w ↦ omega arith ])
