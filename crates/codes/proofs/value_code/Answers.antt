-- `codes::value_code` meets its contract. Assumes nothing.
use mathlib.Core.Path.{◌≡◌, refl, ap, ◌∙◌}
use lib.IntN.{ℤ}
use mir.Syntax.{w64}
use mir.Val.{SFits}
use mir.Facts.{to_z-of_z}
use Rattle.std.specs.Prelude.{Some, None}
use Rattle.readings.specs.declared.ValueError.TheVariants.{NotANumber, Refused}
use Rattle.codes.specs.Codes.{taking}
use borrow.Author.Rules.{rules}
use Rattle.codes.proofs.value_code.Goals as goal

pub returns-in-Ok-Some : goal.returns-in-Ok-Some
returns-in-Ok-Some c =
    let some : c.in-Ok-Some.field-0 ≡ Some c.in-Ok-Some.number = rw c.in-Ok-Some.is at c.in-Ok-Some.field-0-is in
    let fits : SFits w64 c.in-Ok-Some.number = search rules in
    ap (λ (z : ℤ). taking 0 z) (to_z-of_z fits) ∙ rw (c.in-Ok-Some.is, some) refl

pub returns-in-Ok-None : goal.returns-in-Ok-None
returns-in-Ok-None c = let none : c.in-Ok-None.field-0 ≡ None = rw c.in-Ok-None.is at c.in-Ok-None.field-0-is in rw (c.in-Ok-None.is, none) refl

pub returns-in-Err-NotANumber : goal.returns-in-Err-NotANumber
returns-in-Err-NotANumber c =
    let no_number : c.in-Err-NotANumber.field-0 ≡ NotANumber = rw c.in-Err-NotANumber.is at c.in-Err-NotANumber.field-0-is in
    rw (c.in-Err-NotANumber.is, no_number) refl

pub returns-in-Err-Refused : goal.returns-in-Err-Refused
returns-in-Err-Refused c =
    let refused : c.in-Err-Refused.field-0 ≡ Refused c.in-Err-Refused.refusal = rw c.in-Err-Refused.is at c.in-Err-Refused.field-0-is in
    rw (c.in-Err-Refused.is, refused, c.from.ensures) refl
