-- `file_names::is_file_name` meets its contract. The invariant: the bytes from i on decide, after the part so far, as the whole name does. Assumes nothing.
use mathlib.Core.Path.{sym, ap, ◌∙◌}
use Prim.Native.Nat.{◌+◌}
use lib.ListN.{drop}
use Rattle.file_names.specs.Names.{walked}
use Rattle.file_names.proofs.Names.{name_walked, name_long, walked_byte, walked_end}
use Rattle.file_names.proofs.is_file_name.Goals as goal

pub returns-then-name-gt-FILE_NAME_BYTES : goal.returns-then-name-gt-FILE_NAME_BYTES
returns-then-name-gt-FILE_NAME_BYTES c = sym (name_long c.args.name.now c.if-name-gt-FILE_NAME_BYTES.true)

pub loop-c-init : goal.loop-c-init
loop-c-init c = (c.if-name-gt-FILE_NAME_BYTES.false, name_walked c.args.name.now c.if-name-gt-FILE_NAME_BYTES.false)

pub loop-c-preserved : goal.loop-c-preserved
loop-c-preserved c = (c.loop-c.invariant.0, c.loop-c.invariant.1 ∙ walked_byte c.loop-c.part c.args.name.now c.loop-c.c-index c.loop-c-test.true ∙ ap (λ p. walked p (drop (c.loop-c.c-index + 1) c.args.name.now)) (sym c.next-part.ensures))

pub returns : goal.returns
returns c = c.passes.ensures ∙ sym (c.loop-c.invariant.1 ∙ walked_end c.loop-c.part c.args.name.now c.loop-c.c-index c.loop-c-test.false)
