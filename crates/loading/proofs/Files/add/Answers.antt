-- The archive with one file more is one. Assumes nothing.
use Rattle.std.proofs.Common.{sym, length-take-le}
use native.Mathlib.Omega.{arith}
use Rattle.archive_add.specs.Adding.{file_of}
use Rattle.archive_add.proofs.Adding.{added_holds}
use Rattle.loading.proofs.Loading.{put_holds}
use Rattle.loading.proofs.Files.add.Goals as goal

pub slice_bounds-bytes-end : goal.slice_bounds-bytes-end
slice_bounds-bytes-end c = (added_holds (file_of c.args.name.now c.args.body.now) _ _ _ c.in-Ok.size c.archive.result.judged (rw c.in-Ok.is at c.add_file.ensures)).inside

pub slice_bounds-copy_in-end : goal.slice_bounds-copy_in-end
slice_bounds-copy_in-end c =
    let held = added_holds (file_of c.args.name.now c.args.body.now) _ _ _ c.in-Ok.size c.archive.result.judged (rw c.in-Ok.is at c.add_file.ensures) in
    sym (length-take-le _ _ held.inside)

pub invariant_of-self : goal.invariant_of-self
invariant_of-self c =
    let held = added_holds (file_of c.args.name.now c.args.body.now) _ _ _ c.in-Ok.size c.archive.result.judged (rw c.in-Ok.is at c.add_file.ensures) in
    let long = length-take-le c.in-Ok.size c.add_file.new.out held.inside in
    record { held = put_holds c.args.self.now.bytes _ c.copy_in.ensures (sym long) (omega (arith, c.add_file.auto.out, held.inside, long)) held.laid }
