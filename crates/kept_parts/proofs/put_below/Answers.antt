-- `kept_parts::put_below` meets its contract. Assumes nothing.
use mathlib.Core.Path.{◌∙◌}
use native.Mathlib.Omega.{arith}
use lib.ListN.{length, length-set}
use Rattle.kept_parts.proofs.Storing.{end_first, end_later, put_first, put_later}
use Rattle.kept_parts.proofs.put_below.Goals as goal

pub copy_in-requires : goal.copy_in-requires
copy_in-requires c = omega (arith, c.requires, end_first c.args.size (length c.args.part.now) c.if-size-eq0.true)

pub returns-then-size-eq0 : goal.returns-then-size-eq0
returns-then-size-eq0 c = c.copy_in.ensures ∙ put_first c.args.path.now c.args.part.now c.args.size (omega (arith, c.if-size-eq0.true)) c.if-size-eq0.true

pub bounds-path-size : goal.bounds-path-size
bounds-path-size c = omega (arith, c.requires, end_later c.args.size (length c.args.part.now) (omega (arith, c.if-size-eq0.false)))

pub overflow_add-size : goal.overflow_add-size
overflow_add-size c = omega (arith, c.requires, c.well_formed, end_later c.args.size (length c.args.part.now) (omega (arith, c.if-size-eq0.false)))

pub copy_in-requires-2 : goal.copy_in-requires-2
copy_in-requires-2 c =
    rw (length-set c.args.path.now c.args.size 47)
    (omega (arith, c.requires, end_later c.args.size (length c.args.part.now) (omega (arith, c.if-size-eq0.false))))

pub shape_of-path : goal.shape_of-path
shape_of-path c = c.copy_in-2.auto.store ∙ simp length-set

pub returns : goal.returns
returns c =
    let later = end_later c.args.size (length c.args.part.now) (omega (arith, c.if-size-eq0.false)) in
    c.copy_in-2.ensures
    ∙ put_later c.args.path.now c.args.part.now c.args.size
    (omega (arith, c.requires, later)) (omega (arith, c.if-size-eq0.false)) (omega (arith, c.requires, later))
