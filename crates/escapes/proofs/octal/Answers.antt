-- `escapes::octal` meets its contract. No sum wraps but those of `times_eight`. Assumes nothing.
use Rattle.std.proofs.Common.{◌-◌, ◌≤◌, arith}
use Rattle.escapes.proofs.Escapes.{octal_range, room_for_digit, octal_number}
use Rattle.escapes.proofs.octal.Goals as goal

pub overflow_add-result : goal.overflow_add-result
overflow_add-result c =
    let d : c.args.c - 48 ≤ 7 = omega (arith, octal_range _ c.requires.2) in
    omega (arith, room_for_digit _ _ (c.args.c - 48) c.times_eight-y.ensures d)

pub returns : goal.returns
returns c = octal_number _ _ _ _ _ c.requires.0 c.requires.1 c.requires.2 c.times_eight-x.ensures c.times_eight-y.ensures

pub overflow_sub-a : goal.overflow_sub-a
overflow_sub-a c = omega (arith, octal_range _ c.requires.0)

pub overflow_sub-b : goal.overflow_sub-b
overflow_sub-b c = omega (arith, octal_range _ c.requires.1)

pub overflow_add-x : goal.overflow_add-x
overflow_add-x c = omega (arith, octal_range _ c.requires.0, octal_range _ c.requires.1)

pub overflow_sub-result : goal.overflow_sub-result
overflow_sub-result c = omega (arith, octal_range _ c.requires.2)
