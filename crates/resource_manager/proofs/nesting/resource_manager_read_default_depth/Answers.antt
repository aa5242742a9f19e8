-- `resource_manager::nesting::resource_manager_read_default_depth` meets its contract. Assumes nothing.
use Rattle.resource_manager.proofs.Fitting.{read_few, read_crosses}
use Rattle.resource_manager.proofs.nesting.resource_manager_read_default_depth.Goals as goal

pub read_code-requires : goal.read_code-requires
read_code-requires c = read_few _ _ _ _ _ _ _ c.read_default-answer.result c.read_default-answer.ensures

pub returns : goal.returns
returns c = read_crosses c.read_default-answer.result _ _ _ _ (rw c.start_of-start.ensures at c.read_default-answer.ensures) c.read_code.ensures
