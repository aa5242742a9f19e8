-- `scan::allowed_in_quark_name` meets its contract. Assumes nothing.
use mathlib.Core.Path.{sym}
use Rattle.scan.proofs.Bytes.{name_lower, name_upper, name_mark, name_digit, name_minus}
use Rattle.scan.proofs.allowed_in_quark_name.Goals as goal

pub returns-then-c-le90 : goal.returns-then-c-le90
returns-then-c-le90 c = sym (name_upper c.args.c c.if-c-ge65.true c.if-c-le90.true)

pub returns-then-c-ge65 : goal.returns-then-c-ge65
returns-then-c-ge65 c = sym (name_mark c.args.c c.if-c-le90.false c.if-c-ge97.false)

pub returns-then-c-ge48 : goal.returns-then-c-ge48
returns-then-c-ge48 c = sym (name_digit c.args.c c.if-c-ge48.true c.if-c-ge65.false)

pub returns-then-c-ge97 : goal.returns-then-c-ge97
returns-then-c-ge97 c = sym (name_lower c.args.c c.if-c-ge97.true)

pub returns : goal.returns
returns c = sym (name_minus c.args.c c.if-c-ge48.false)
