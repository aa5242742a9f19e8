-- `includes::parse_text` meets its contract. Assumes nothing.
use mathlib.Core.List.{[]}
use mathlib.Core.Path.{sym, ◌∙◌}
use Prim.Native.Nat.{◌-◌}
use native.Mathlib.Omega.{arith}
use lib.ListN.{length, take, drop}
use Rattle.definition.specs.Archive.{files_of}
use Rattle.laws.proofs.Lists.{length_part_rest}
use Rattle.image.specs.Running.{world}
use Rattle.plain_lines.proofs.Lines.{ahead}
use Rattle.includes.proofs.Loop.{stands_main, Reading, reading_first, reading_plain, reading_done}
use Rattle.includes.proofs.parse_text.Goals as goal
use Rattle.includes.proofs.parse_text.Goals.{After-plain_lines-plain}

-- the lines of the common form are read
here : (c : After-plain_lines-plain) → Reading 0 c.args.depth (files_of c.args.archive.bytes.now) [] c.args.text.now (world c.args.totals c.args.words.now c.args.store.now) (ahead c.args.totals c.plain_lines-plain.result) c.plain_lines-plain.new.words c.plain_lines-plain.new.store (take (length c.args.text.now - c.plain_lines-plain.result.taken) (drop c.plain_lines-plain.result.taken c.args.text.now))
here c =
    reading_plain (reading_first c.args.totals c.args.words.now c.args.store.now c.requires) c.plain_lines-plain.ensures c.plain_lines-plain.auto.words c.plain_lines-plain.auto.store

pub returns-then-taken-text : goal.returns-then-taken-text
returns-then-taken-text c =
    reading_done (here (goal.at.returns-then-taken-text c).After-plain_lines-plain)
    (omega (arith, length_part_rest c.args.text.now c.plain_lines-plain.result.taken, c.if-taken-text.true)) [] (stands_main _)

pub parse_database-requires : goal.parse_database-requires
parse_database-requires c = (here (goal.at.parse_database-requires c).After-plain_lines-plain).room

pub returns : goal.returns
returns c = c.parse_database.ensures [] (stands_main _) ∙ sym ((here (goal.at.returns c).After-plain_lines-plain).same [] (stands_main _))
