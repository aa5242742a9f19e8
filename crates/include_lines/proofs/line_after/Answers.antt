-- `include_lines::line_after` meets its contract. Assumes nothing.
use Rattle.parser.proofs.Entries.{value_inside}
use Rattle.include_lines.proofs.Passing.{after_newline, at_the_end}
use Rattle.include_lines.proofs.line_after.Goals as goal

pub overflow_sub-passed : goal.overflow_sub-passed
overflow_sub-passed c = value_inside c.args.text.now _ c.requires _ c.skip_blanks-rest.ensures.0

pub returns-then-passed-text : goal.returns-then-passed-text
returns-then-passed-text c = after_newline c.args.text.now _ c.requires _ c.skip_blanks-rest.ensures.0 _ c.value_length-taken.ensures c.if-passed-text.true

pub returns-else-passed-text : goal.returns-else-passed-text
returns-else-passed-text c = at_the_end c.args.text.now _ c.requires _ c.skip_blanks-rest.ensures.0 _ c.value_length-taken.ensures c.if-passed-text.false
