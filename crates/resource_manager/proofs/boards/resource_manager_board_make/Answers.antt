-- `resource_manager::boards::resource_manager_board_make` meets its contract. Assumes nothing.
use Rattle.resource_manager.proofs.Packs.{made_numbered, board_crosses}
use Rattle.resource_manager.proofs.boards.resource_manager_board_make.Goals as goal

pub call_code-requires : goal.call_code-requires
call_code-requires c = made_numbered _ _ c.make-made.result c.make-made.ensures

pub returns : goal.returns
returns c = board_crosses c.make-made.result _ _ _ c.make-made.ensures c.call_code.ensures
