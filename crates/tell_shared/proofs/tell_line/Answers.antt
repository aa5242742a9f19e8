-- `tell_shared::tell_line`: the line fits, as a value of an image does. Assumes nothing.
use mathlib.Core.Bool.{true}
use mathlib.Core.List.{List}
use mathlib.Core.Path.{◌≡◌}
use Prim.Native.Nat.{ℕ, ◌≤◌, ◌<◌}
use native.Mathlib.Omega.{arith}
use lib.ListN.{length}
use lib.Seq.{length-slice}
use Rattle.definition.specs.Image.{count_of, key_end, value_at, value_end, is_image}
use Rattle.image.specs.Rows.{row_at}
use Rattle.image_judge.proofs.Judged.{judged}
use Rattle.tell_shared.proofs.tell_line.Goals as goal

value_most : (contents bodies : List ℕ) (i : ℕ) → is_image contents bodies ≡ true → i < count_of contents → length (value_at bodies (row_at contents i)) ≤ 32768
value_most contents bodies i image h =
    let j = judged contents bodies image in
    let r = row_at contents i in
    omega (arith, length-slice (key_end r) (value_end r) bodies (omega (arith, j.row_inside i h, j.used_most, j.bodies_long)), j.row_inside i h, j.used_most)

pub put_shared-requires : goal.put_shared-requires
put_shared-requires c =
    let one = c.args.one.now.image in
    let other = c.args.other.now.image in
    let v = value_most one.contents.now one.bodies.now c.args.i one.judged c.requires.0 in
    let w = value_most other.contents.now other.bodies.now c.args.j other.judged c.requires.1 in
    ((c.args.one.now.short, c.args.other.now.short, c.key.ensures.2), rw c.value.ensures v, rw c.value-2.ensures w, rw c.new-out.ensures.1 (omega arith))
