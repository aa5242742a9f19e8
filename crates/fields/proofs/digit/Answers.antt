-- `fields::digit` meets its contract. Assumes nothing.
use native.Mathlib.Omega.{arith}
use Rattle.fields.proofs.Digits.{digit_number, digit_letter, digit_below, digit_between, digit_above}
use Rattle.fields.proofs.digit.Goals as goal

pub returns-in-48-to-57 : goal.returns-in-48-to-57
returns-in-48-to-57 c = (digit_number c.args.c (omega arith) (omega arith), omega arith)

pub returns-in-97-to-102 : goal.returns-in-97-to-102
returns-in-97-to-102 c = (digit_letter c.args.c (omega arith) (omega arith), omega arith)

pub returns-in_default-2 : goal.returns-in_default-2
returns-in_default-2 c = (digit_between c.args.c (omega arith) (omega arith), tt)

pub returns-in_default : goal.returns-in_default
returns-in_default c = (digit_below c.args.c (omega arith), tt)

pub returns-in_default-3 : goal.returns-in_default-3
returns-in_default-3 c = (digit_above c.args.c (omega arith), tt)
