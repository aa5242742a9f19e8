-- The refusals of document 01's table, those of document 02 among them, in words.
use Rattle.std.specs.Prelude.{List, ℕ, eqb, if◌then◌else◌}
use Rattle.definition.specs.Lists.{ascii}

unfoldable pub refusal_of : ℕ → List ℕ
refusal_of k =
    if eqb k 1 then ascii "refused 1: the buffers are too short" else
    if eqb k 2 then ascii "refused 2: a text has more than 32,768 bytes" else
    if eqb k 3 then ascii "refused 3: the files are not laid out as an archive" else
    if eqb k 4 then ascii "refused 4: the includes open files more than 4,096 times" else
    if eqb k 5 then ascii "refused 5: an entry has more than 16 parts" else
    if eqb k 6 then ascii "refused 6: there are more than 512 entries" else
    if eqb k 7 then ascii "refused 7: keys and values have more than 32,768 bytes" else
    if eqb k 8 then ascii "refused 8: the buffers hold no database" else
    if eqb k 9 then ascii "refused 9: the name or the class has more than 1,024 bytes" else
    if eqb k 10 then ascii "refused 10: the name or the class has more than 32 parts" else
    if eqb k 11 then ascii "refused 11: the buffer is shorter than the text" else
    if eqb k 12 then ascii "refused 12: the text makes no entry or more than one" else
    if eqb k 13 then ascii "refused 13: the board keeps 16 packs, or watches 32 queries" else
    if eqb k 14 then ascii "refused 14: the pack's number is 0, taken, or not there" else
    if eqb k 15 then ascii "refused 15: the depth is over 100" else
    ascii "refused"
