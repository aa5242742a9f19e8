-- `entry_text::write_escape` meets its contract. Assumes nothing.
use mathlib.Core.List.{[], ◌∷◌}
use mathlib.Core.Path.{◌≡◌}
use native.Mathlib.Omega.{arith}
use lib.ListN.{length-set}
use Rattle.definition.specs.Bytes.{backslash}
use Rattle.definition.specs.Writing.{escaped}
use Rattle.copies.proofs.Pieces.{piece_of, piece_two}
use Rattle.entry_text.proofs.Texts.{newline_escaped, backslash_escaped, escaped_two}
use Rattle.entry_text.proofs.write_escape.Goals as goal
use Rattle.entry_text.proofs.write_escape.Goals.{then-c-eq10, else-c-eq10}

pub bounds-text-at : goal.bounds-text-at
bounds-text-at c = omega (arith, escaped_two _ c.requires.0)

pub bounds-text-at-2 : goal.bounds-text-at-2
bounds-text-at-2 c = simp length-set (omega (arith, escaped_two _ c.requires.0))

pub returns : goal.returns
returns c =
    let bytes : backslash ∷ c.if-c-eq10.text ∷ [] ≡ escaped c.args.c = elim c.if-c-eq10.branch [ then-c-eq10 w ↦ rw w.text-is (newline_escaped _ w.if-c-eq10.true) | else-c-eq10 w ↦ rw w.text-is (backslash_escaped _ c.requires.0 w.if-c-eq10.false) ] in
    piece_of bytes (piece_two _ _ _ _ (omega (arith, escaped_two _ c.requires.0)))
