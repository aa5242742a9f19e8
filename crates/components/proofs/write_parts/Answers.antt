use native.Mathlib.Omega.{arith}
use Rattle.components.proofs.Writing.{writing_next, writing_done, part_room, copy_room}
use Rattle.components.proofs.write_parts.Goals as goal

pub copy_in-requires : goal.copy_in-requires
copy_in-requires c = copy_room c.loop-next.invariant c.in-Some.ensures c.binding_byte.result

pub loop-next-preserved : goal.loop-next-preserved
loop-next-preserved c = writing_next c.loop-next.invariant c.in-Some.ensures _ c.binding_byte.ensures _ c.copy_in.ensures

pub bounds-store-place : goal.bounds-store-place
bounds-store-place c = omega (arith, part_room c.loop-next.invariant c.in-Some.ensures)

pub returns : goal.returns
returns c = writing_done c.loop-next.invariant c.in_default.ensures
