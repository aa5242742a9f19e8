-- `lines::parse_resource` meets its contract. Assumes nothing.
use borrow.Author.Tests.{not-true, not-false}
use Rattle.definition.specs.Lists.{ascii}
use Rattle.scan.proofs.Beginnings.{starts_yes, starts_no}
use Rattle.lines.proofs.Fronts.{parts_inside, skipped_line, unnamed, no_colon, colon_at, entry_line}
use Rattle.lines.proofs.parse_resource.Goals as goal

pub returns-then-not-parts : goal.returns-then-not-parts
returns-then-not-parts c = skipped_line _ _ c.line_end.ensures (unnamed _ c.parse_components-parts.result c.parse_components-parts.ensures (not-true _ c.if-not-parts.true))

pub slice_bounds-skip_spaces-count : goal.slice_bounds-skip_spaces-count
slice_bounds-skip_spaces-count c = parts_inside _ c.parse_components-parts.result c.parse_components-parts.ensures

pub returns-then-not-starts_with : goal.returns-then-not-starts_with
returns-then-not-starts_with c =
    skipped_line _ _ c.line_end-then-not-starts_with.ensures
    (no_colon _ c.parse_components-parts.result c.parse_components-parts.ensures _ c.skip_spaces-rest.ensures.0
    (starts_no (ascii ":") _ c.starts_with.result c.starts_with.ensures (not-true _ c.if-not-starts_with.true-raw)))

pub overflow_sub-result : goal.overflow_sub-result
overflow_sub-result c = (colon_at _ c.parse_components-parts.result c.parse_components-parts.ensures _ c.skip_spaces-rest.ensures.0).most

pub returns : goal.returns
returns c =
    entry_line _ c.parse_components-parts.result c.parse_components-parts.ensures _ c.skip_spaces-rest.ensures.0 (not-false _ c.if-not-parts.false)
    (starts_yes (ascii ":") _ c.starts_with.result c.starts_with.ensures (not-false _ c.if-not-starts_with.false-raw))

pub slice_bounds-skip_spaces-start : goal.slice_bounds-skip_spaces-start
slice_bounds-skip_spaces-start c = parts_inside _ c.parse_components-parts.result c.parse_components-parts.ensures
