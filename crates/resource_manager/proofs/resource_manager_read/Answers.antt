-- `resource_manager::resource_manager_read` meets its contract. Assumes nothing.
use Rattle.resource_manager.proofs.Fitting.{read_few, read_crosses}
use Rattle.resource_manager.proofs.resource_manager_read.Goals as goal

pub read_code-requires : goal.read_code-requires
read_code-requires c = read_few _ _ _ _ _ _ _ c.read-answer.result c.read-answer.ensures

pub returns : goal.returns
returns c = read_crosses c.read-answer.result _ _ _ _ c.read-answer.ensures c.read_code.ensures
