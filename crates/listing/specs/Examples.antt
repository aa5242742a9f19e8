-- What the list program writes for a few texts, document 01's example first, by evaluating the definition.
use Rattle.std.specs.Prelude.{[], ◌≡◌, refl}
use Rattle.definition.specs.Lists.{ascii}
use Rattle.definition.specs.Evaluation.{definition}
use Rattle.printing.specs.Putting.{decimal_in}
use Rattle.list_lines.specs.Lines.{entry_line, word_line}
use Rattle.listing.specs.Listing.{entry_lines, written, printed}

table :
    (printed (ascii "a.b: x\n*c: yes\n") ≡ ascii "entries 2\n0 .a.b 1\n1 *c 3\n")
    × (printed [] ≡ ascii "entries 0\n")
    × (printed (ascii "a.a.a.a.a.a.a.a.a.a.a.a.a.a.a.a.a:") ≡ ascii "refused 5\n")
    × (printed (ascii "a*?.b: 0123456789\\n") ≡ ascii "entries 1\n0 .a*?.b 11\n")
unfolding definition decimal_in entry_line entry_lines word_line written printed
table = (refl, refl, refl, refl)
