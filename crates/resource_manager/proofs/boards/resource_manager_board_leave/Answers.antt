-- `resource_manager::boards::resource_manager_board_leave` meets its contract. Assumes nothing.
use Rattle.resource_manager.proofs.Packs.{call_numbered, board_crosses}
use Rattle.resource_manager.proofs.boards.resource_manager_board_leave.Goals as goal

pub call_code-requires : goal.call_code-requires
call_code-requires c = call_numbered _ _ _ c.leave-left.result c.leave-left.ensures

pub returns : goal.returns
returns c = board_crosses c.leave-left.result _ _ _ c.leave-left.ensures c.call_code.ensures
