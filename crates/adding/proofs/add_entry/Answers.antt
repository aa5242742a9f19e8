-- `adding::add_entry` meets its contract: 5, 6, 7, and then the entry behind those of the image. Assumes nothing.
use mathlib.Core.Path.{refl}
use native.Mathlib.Omega.{arith}
use Rattle.std.proofs.lemmas.Result.{err_from_is_err_and}
use Rattle.laws.proofs.Image.{image_holds}
use Rattle.adding.proofs.Appending.{entry_refused, entry_fits, entry_added}
use Rattle.adding.proofs.add_entry.Goals as goal

pub bounds-contents-0 : goal.bounds-contents-0
bounds-contents-0 c = omega (arith, (image_holds _ _ c.requires.0).contents_long)

pub bounds-contents-1 : goal.bounds-contents-1
bounds-contents-1 c = omega (arith, (image_holds _ _ c.requires.0).contents_long)

pub check_limits-requires : goal.check_limits-requires
check_limits-requires c = (image_holds _ _ c.requires.0).used_most

pub returns-in_err-check_limits : goal.returns-in_err-check_limits
returns-in_err-check_limits c =
    let p = err_from_is_err_and c.from_residual.result c.from_residual.ensures.1 in
    rw (p.1, p.2) (entry_refused c.requires.1 _ _ c.requires.0 c.skip_blanks-rest.ensures.0 c.value_size-length.ensures c.in_err-check_limits.ensures refl)

pub append-requires : goal.append-requires
append-requires c = entry_fits c.requires.1 _ _ c.requires.0 c.skip_blanks-rest.ensures.0 c.value_size-length.ensures c.in_ok-check_limits.ensures refl

pub returns : goal.returns
returns c =
    entry_added c.requires.1 _ _ c.requires.0 c.skip_blanks-rest.ensures.0 c.value_size-length.ensures c.in_ok-check_limits.ensures refl
    c.append.ensures
