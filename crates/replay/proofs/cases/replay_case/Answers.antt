-- `replay::cases::replay_case` is safe: a line's first word lies in it. Assumes nothing.
use Rattle.std.proofs.Common.{sym, length-take-le}
use Rattle.definition.specs.Bytes.{is_name}
use Rattle.scan.proofs.Runs.{run_inside}
use Rattle.replay.proofs.cases.replay_case.Goals as goal

pub slice_bounds-fields-count : goal.slice_bounds-fields-count
slice_bounds-fields-count c = run_inside is_name _ _ c.next_component-kind.ensures

pub slice_bounds-replay_reading-end : goal.slice_bounds-replay_reading-end
slice_bounds-replay_reading-end c = sym (length-take-le _ _ (run_inside is_name _ _ c.next_component-kind.ensures))

pub slice_bounds-fields-start : goal.slice_bounds-fields-start
slice_bounds-fields-start c = run_inside is_name _ _ c.next_component-kind.ensures
