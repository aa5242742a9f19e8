-- `resource_manager::boards::resource_manager_board_report` meets its contract. Assumes nothing.
use mathlib.Core.Path.{ap, ◌∙◌}
use Rattle.board_codes.specs.Codes.{report_code}
use Rattle.resource_manager.proofs.boards.resource_manager_board_report.Goals as goal

pub returns : goal.returns
returns c = c.report_code.ensures ∙ ap report_code c.report-reported.ensures
