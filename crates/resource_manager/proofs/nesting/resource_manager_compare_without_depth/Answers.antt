-- `resource_manager::nesting::resource_manager_compare_without_depth` meets its contract. Assumes nothing.
use Rattle.resource_manager.proofs.Fitting.{both_small, crosses}
use Rattle.resource_manager.proofs.nesting.resource_manager_compare_without_depth.Goals as goal

pub compare_code-requires : goal.compare_code-requires
compare_code-requires c = both_small _ _ c.compare_without-answer.result _ _ _ _ _ c.compare_without-answer.ensures.equals

pub returns : goal.returns
returns c = crosses _ _ c.compare_without-answer.result _ _ _ _ _ _ _ _ c.compare_without-answer.ensures c.compare_code.ensures
