-- `include_paths::first_of` meets its contract. Assumes nothing.
use Rattle.include_paths.proofs.Taking.{first_name, first_folder}
use Rattle.include_paths.proofs.first_of.Goals as goal

pub returns-then-folder-eq0 : goal.returns-then-folder-eq0
returns-then-folder-eq0 c = first_name _ _ c.if-folder-eq0.true

pub returns : goal.returns
returns c = first_folder _ _ c.if-folder-eq0.false
