-- `lines::parse_line` meets its contract. Assumes nothing.
use mathlib.Core.Path.{◌∙◌}
use native.Mathlib.Omega.{arith}
use Rattle.lines.proofs.Fronts.{newline_line, comment_line, resource_line}
use Rattle.lines.proofs.parse_line.Goals as goal

pub returns-in-10 : goal.returns-in-10
returns-in-10 c = newline_line _ c.requires c.in-10.is

pub returns-in-33 : goal.returns-in-33
returns-in-33 c = comment_line _ c.requires c.in-33.is _ c.line_end.ensures

pub returns-in_default : goal.returns-in_default
returns-in_default c = c.parse_resource.ensures ∙ resource_line _ c.requires (λ e. omega arith) (λ e. omega arith) (λ e. omega arith)
