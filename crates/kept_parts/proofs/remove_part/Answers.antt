-- `kept_parts::remove_part` meets its contract. Assumes nothing.
use mathlib.Core.Bool.{true}
use mathlib.Core.Path.{sym, ap, ◌∙◌}
use native.Mathlib.Omega.{arith}
use lib.ListN.{length}
use lib.Seq.{length-take-le}
use Rattle.std.specs.Prelude.{Some}
use Rattle.kept_parts.specs.Keeping.{kept}
use Rattle.kept_parts.proofs.Storing.{up_over, up_root, up_folder}
use Rattle.kept_parts.proofs.remove_part.Goals as goal

pub slice_bounds-folder_of-end : goal.slice_bounds-folder_of-end
slice_bounds-folder_of-end c = sym (length-take-le c.args.kept.size c.args.path.now (omega (arith, c.requires)))

pub returns : goal.returns
returns c =
    ap (λ l. Some (kept (length l) 0 true)) c.folder_of-folder.ensures.0
    ∙ up_folder c.args.kept c.args.path.now c.if-kept-gt0.false c.if-kept-eq0.false

pub returns-then-kept-gt0 : goal.returns-then-kept-gt0
returns-then-kept-gt0 c = up_over _ _ c.if-kept-gt0.true

pub returns-then-kept-eq0 : goal.returns-then-kept-eq0
returns-then-kept-eq0 c = up_root _ _ c.if-kept-gt0.false c.if-kept-eq0.true
