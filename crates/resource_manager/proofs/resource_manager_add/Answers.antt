-- `resource_manager::resource_manager_add` meets its contract. Assumes nothing.
use Rattle.resource_manager.proofs.Fitting.{add_numbered, add_crosses}
use Rattle.resource_manager.proofs.resource_manager_add.Goals as goal

pub add_code-requires : goal.add_code-requires
add_code-requires c = add_numbered _ _ _ _ _ c.add-answer.result c.add-answer.ensures

pub returns : goal.returns
returns c = add_crosses c.add-answer.result _ _ _ _ c.add-answer.ensures c.add_code.ensures
