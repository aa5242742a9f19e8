-- `tell_shared::tell_entry` ends, and what it tells is there: each entry is after the one before. Assumes nothing.
use Prim.Native.Nat.{◌-◌}
use native.Mathlib.Omega.{arith}
use Rattle.definition.specs.Writing.{entries_of_image}
use Rattle.laws.proofs.Image.{image_holds}
use Rattle.shared_keys.proofs.Sharing.{found_shared}
use Rattle.tell_shared.proofs.tell_entry.Goals as goal

pub tell_line-requires : goal.tell_line-requires
tell_line-requires c =
    let one = c.args.one.now.image in
    let other = c.args.other.now.image in
    let f = found_shared (entries_of_image one.contents.now one.bodies.now) c.args.i other.contents.now other.bodies.now c.loop-j.next c.in-Some.j other.judged (rw c.in-Some.is at c.next_shared.ensures) in
    (c.requires, f.1)

pub overflow_add-next : goal.overflow_add-next
overflow_add-next c =
    let one = c.args.one.now.image in
    let other = c.args.other.now.image in
    let f = found_shared (entries_of_image one.contents.now one.bodies.now) c.args.i other.contents.now other.bodies.now c.loop-j.next c.in-Some.j other.judged (rw c.in-Some.is at c.next_shared.ensures) in
    omega (arith, f.1, (image_holds other.contents.now other.bodies.now other.judged).count_most)

pub loop-j-smaller : goal.loop-j-smaller
loop-j-smaller c =
    let one = c.args.one.now.image in
    let other = c.args.other.now.image in
    let f = found_shared (entries_of_image one.contents.now one.bodies.now) c.args.i other.contents.now other.bodies.now c.loop-j.next c.in-Some.j other.judged (rw c.in-Some.is at c.next_shared.ensures) in
    omega (arith, f.0, f.1)
