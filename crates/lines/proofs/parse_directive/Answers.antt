-- `lines::parse_directive` meets its contract. Assumes nothing.
use mathlib.Core.Path.{sym, ◌∙◌}
use native.Mathlib.Omega.{arith}
use Rattle.lines.specs.Places.{directive_in}
use Rattle.lines.proofs.Fronts.{directive_line, name_start}
use Rattle.lines.proofs.parse_directive.Goals as goal

pub overflow_add-result : goal.overflow_add-result
overflow_add-result c = omega (arith, name_start c.args.text.now c.requires.0 (sym c.in-Some.is ∙ c.parse_include.ensures), c.well_formed.0.0)

pub returns-in-Some : goal.returns-in-Some
unfolding directive_in
returns-in-Some c = rw c.in-Some.is at (directive_line _ c.requires.0 c.requires.1 _ c.line_end-end.ensures _ c.parse_include.ensures)

pub returns-in-None : goal.returns-in-None
unfolding directive_in
returns-in-None c = rw c.in-None.is at (directive_line _ c.requires.0 c.requires.1 _ c.line_end-end.ensures _ c.parse_include.ensures)
