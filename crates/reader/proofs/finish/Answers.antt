-- `reader::finish` meets its contract. Assumes nothing.
use Rattle.reader.proofs.Finishing.{stop_finished, go_finished}
use Rattle.reader.proofs.finish.Goals as goal

pub close_image-requires : goal.close_image-requires
close_image-requires c = rw c.in-Ok.is at c.requires

pub returns-in-Err : goal.returns-in-Err
returns-in-Err c = stop_finished c.args.read c.args.words.now c.args.store.now c.requires c.in-Err.is c.empty_image.ensures

pub returns-in-Ok : goal.returns-in-Ok
returns-in-Ok c = go_finished c.args.read c.args.words.now c.args.store.now c.requires _ c.in-Ok.is c.close_image.ensures
