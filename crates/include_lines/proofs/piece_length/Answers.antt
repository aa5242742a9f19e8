-- `include_lines::piece_length` meets its contract. Assumes nothing.
use native.Mathlib.Omega.{arith}
use Rattle.include_lines.proofs.Passing.{ends_over, ends_newline, takes_byte, takes_escape}
use Rattle.include_lines.proofs.piece_length.Goals as goal

pub returns-in-empty : goal.returns-in-empty
returns-in-empty c = ends_over c.args.text.now (omega arith)

pub returns-in-empty-2 : goal.returns-in-empty-2
returns-in-empty-2 c = ends_newline c.args.text.now (omega arith) (omega arith)

pub returns-in-92 : goal.returns-in-92
returns-in-92 c = takes_escape c.args.text.now (omega arith) (omega arith) c.parse_escape.ensures

pub returns-in_default : goal.returns-in_default
returns-in_default c = takes_byte c.args.text.now (omega arith) (λ e. omega arith) (λ e. omega arith)
