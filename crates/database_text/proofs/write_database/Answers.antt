-- `database_text::write_database` meets its contract. Assumes nothing.
use mathlib.Core.List.{map}
use Rattle.definition.specs.Lists.{zeroes}
use Rattle.database_text.proofs.Telling.{read_image, text_told, refused_told}
use Rattle.database_text.proofs.write_database.Goals as goal

pub write_image-requires : goal.write_image-requires
unfolding zeroes
write_image-requires c = (read_image c.args.depth (map (λ c. c.now) c.args.texts.now) c.args.archive.now _ _ c.in-Ok.ensures, c.requires)

pub returns-in-Ok : goal.returns-in-Ok
unfolding zeroes
returns-in-Ok c = text_told c.args.depth (map (λ c. c.now) c.args.texts.now) c.args.archive.now _ _ c.in-Ok.ensures c.write_image.ensures

pub returns-in-Err : goal.returns-in-Err
unfolding zeroes
returns-in-Err c = refused_told c.args.depth (map (λ c. c.now) c.args.texts.now) c.args.archive.now _ c.in-Err.ensures c.refuse.ensures
