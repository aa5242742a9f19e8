use Rattle.components.proofs.Parts.{bound_fits, parted, no_part}
use Rattle.components.proofs.next_part.Goals as goal

pub slice_bounds-next_component_name-count : goal.slice_bounds-next_component_name-count
slice_bounds-next_component_name-count c = bound_fits _ c.parse_binding-bound.result c.parse_binding-bound.ensures

pub slice_bounds-next_component_name-start : goal.slice_bounds-next_component_name-start
slice_bounds-next_component_name-start c = bound_fits _ c.parse_binding-bound.result c.parse_binding-bound.ensures

pub returns-in_err-found : goal.returns-in_err-found
returns-in_err-found c = rw c.from_residual.ensures (no_part _ c.parse_binding-bound.result c.parse_binding-bound.ensures c.in_err-found.ensures)

pub returns : goal.returns
returns c = parted _ c.parse_binding-bound.result c.parse_binding-bound.ensures c.in_ok-found.found c.in_ok-found.ensures
