-- `resource_manager::boards::resource_manager_board_arrive` meets its contract. Assumes nothing.
use Rattle.resource_manager.proofs.Packs.{call_numbered, board_crosses}
use Rattle.resource_manager.proofs.boards.resource_manager_board_arrive.Goals as goal

pub call_code-requires : goal.call_code-requires
call_code-requires c = call_numbered _ _ _ c.arrive-arrived.result c.arrive-arrived.ensures

pub returns : goal.returns
returns c = board_crosses c.arrive-arrived.result _ _ _ c.arrive-arrived.ensures c.call_code.ensures
