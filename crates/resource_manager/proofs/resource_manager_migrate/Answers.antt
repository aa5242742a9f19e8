-- `resource_manager::resource_manager_migrate` meets its contract. Assumes nothing.
use Rattle.resource_manager.proofs.Fitting.{migrate_few, read_crosses}
use Rattle.resource_manager.proofs.resource_manager_migrate.Goals as goal

pub read_code-requires : goal.read_code-requires
read_code-requires c = migrate_few _ _ _ _ _ _ c.migrate-answer.result c.migrate-answer.ensures

pub returns : goal.returns
returns c = read_crosses c.migrate-answer.result _ _ _ _ c.migrate-answer.ensures c.read_code.ensures
