-- `resource_manager::comparing::resource_manager_compare_default_without` meets its contract. Assumes nothing.
use Rattle.resource_manager.proofs.Fitting.{both_small, crosses}
use Rattle.resource_manager.proofs.comparing.resource_manager_compare_default_without.Goals as goal

pub compare_code-requires : goal.compare_code-requires
compare_code-requires c = both_small _ _ c.compare_default_without-answer.result _ _ _ _ _ c.compare_default_without-answer.ensures.equals

pub returns : goal.returns
returns c =
    crosses _ _ c.compare_default_without-answer.result _ _ _ _ _ _ _ _
    (rw c.start_of-start.ensures at c.compare_default_without-answer.ensures) c.compare_code.ensures
