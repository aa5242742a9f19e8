-- `resource_manager::resource_manager_write` meets its contract. Assumes nothing.
use Rattle.resource_manager.proofs.Fitting.{write_bounded, write_fills}
use Rattle.resource_manager.proofs.resource_manager_write.Goals as goal

pub write_code-requires : goal.write_code-requires
write_code-requires c = write_bounded _ _ _ _ c.write-answer.result c.write-answer.ensures

pub returns : goal.returns
returns c = write_fills c.write-answer.result _ _ _ c.write-answer.ensures c.write_code.ensures
