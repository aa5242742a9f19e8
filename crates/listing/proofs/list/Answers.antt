-- `listing::list` meets its contract. Assumes nothing.
use native.Mathlib.Omega.{arith}
use Rattle.definition.specs.Lists.{ascii, zeroes}
use Rattle.list_lines.proofs.Lines.{word_most}
use Rattle.listing.proofs.Printing.{listable, accepted_lists, refused_lists}
use Rattle.listing.proofs.list.Goals as goal

pub put_word-requires : goal.put_word-requires
put_word-requires c = omega (arith, c.requires, word_most (ascii "entries") c.in-Ok.accepted.entries)

pub put_entries-requires : goal.put_entries-requires
unfolding zeroes
put_entries-requires c =
    listable c.args.text.now _ _ _ _ c.in-Ok.ensures _ (omega (arith, c.requires, c.put_word.ensures.room, word_most (ascii "entries") c.in-Ok.accepted.entries))

pub returns-in-Ok : goal.returns-in-Ok
unfolding zeroes
returns-in-Ok c = accepted_lists c.args.text.now _ _ _ _ c.in-Ok.ensures c.put_word.ensures c.put_entries.ensures

pub returns-in-Err : goal.returns-in-Err
unfolding zeroes
returns-in-Err c = refused_lists c.args.text.now c.in-Err.ensures c.put_refusal.ensures
