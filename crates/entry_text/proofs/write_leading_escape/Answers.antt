-- `entry_text::write_leading_escape` meets its contract. Assumes nothing.
use mathlib.Core.List.{[], ◌∷◌}
use mathlib.Core.Path.{◌≡◌, sym, ap, ◌∙◌}
use native.Mathlib.Omega.{arith}
use lib.ListN.{length}
use borrow.Author.Tests.{not-true, not-false}
use Rattle.definition.specs.Bytes.{backslash}
use Rattle.copies.proofs.Pieces.{piece_of, piece_none, piece_byte}
use Rattle.entry_text.specs.Lines.{leading_escape}
use Rattle.entry_text.proofs.Texts.{a_leading_escape, no_leading_escape}
use Rattle.entry_text.proofs.write_leading_escape.Goals as goal

pub returns-then-not-begins_blank : goal.returns-then-not-begins_blank
returns-then-not-begins_blank c = piece_of (no_leading_escape _ (sym c.begins_blank.ensures ∙ not-true _ c.if-not-begins_blank.true-raw)) (piece_none _ _ (omega arith))

pub bounds-text-at : goal.bounds-text-at
bounds-text-at c =
    let escape : backslash ∷ [] ≡ leading_escape c.args.value.now = a_leading_escape _ (sym c.begins_blank.ensures ∙ not-false _ c.if-not-begins_blank.false-raw) in
    omega (arith, ap length escape)

pub returns : goal.returns
returns c =
    let escape : backslash ∷ [] ≡ leading_escape c.args.value.now = a_leading_escape _ (sym c.begins_blank.ensures ∙ not-false _ c.if-not-begins_blank.false-raw) in
    piece_of escape (piece_byte _ _ _ (omega (arith, ap length escape)))
