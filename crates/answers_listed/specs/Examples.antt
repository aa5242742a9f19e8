-- Lists of a few databases, by evaluating the definition.
use Rattle.std.specs.Prelude.{[], ◌∷◌, ◌≡◌, refl}
use Prim.Native.String.{String}
use Rattle.definition.specs.Lists.{ascii}
use Rattle.definition.specs.Limits.{default_depth}
use Rattle.definition.specs.Archive.{archive_of}
use Rattle.definition.specs.Evaluation.{definition, no_files, file}
use Rattle.printing.specs.Putting.{decimal_in}
use Rattle.shown_bytes.specs.Shown.{is_shown, shown_byte, shown}
use Rattle.refusals.specs.Refusals.{refusal_of}
use Rattle.reports.specs.Telling.{Told, output, trouble, refused}
use Rattle.places.specs.Places.{file_told}
use Rattle.walk_lines.specs.Lines.{head_of, listed_line, line_at, lines_at}
use Rattle.answers_listed.specs.Listed.{numbers_told, query_told, read_told, list_told}

-- of one text, with no files
listed : String → String → Told
listed text name = list_told default_depth (ascii text ∷ []) no_files (ascii name) []

told :
    (listed "a.b: x\nc: 1\n*b:\\ \\\\y\\n" "a.b" ≡ output 0 (ascii "0 main text: .a.b: x\n2 main text: *b:  \\134y\\012\n"))
    × (listed "a: 1" "b" ≡ trouble 1 (ascii "getres: no entry\n"))
    × (listed "a: 1" ".a" ≡ trouble 1 (ascii "getres: no entry\n"))
    × (listed "a: 1" "a.a.a.a.a.a.a.a.a.a.a.a.a.a.a.a.a.a.a.a.a.a.a.a.a.a.a.a.a.a.a.a.a" ≡ trouble 2 (ascii "getres: refused 10: the name or the class has more than 32 parts\n"))
    × (listed "a.a.a.a.a.a.a.a.a.a.a.a.a.a.a.a.a:" "a" ≡ trouble 2 (ascii "getres: refused 5: an entry has more than 16 parts\n"))
    × (list_told 1 (ascii "#include \"p\"\n*c: 2" ∷ ascii "?c:3" ∷ []) (archive_of (file "p" "a.c: 1" ∷ [])) (ascii "a.c") [] ≡ output 0 (ascii "0 p: .a.c: 1\n1 main text: *c: 2\n2 main text: .?.c: 3\n"))
    -- at depth 0 nothing is opened, and 101 is refused
    × (list_told 0 (ascii "#include \"p\"\n*c: 2" ∷ []) (archive_of (file "p" "a.c: 1" ∷ [])) (ascii "a.c") [] ≡ output 0 (ascii "0 main text: *c: 2\n"))
    × (list_told 101 (ascii "*c: 2" ∷ []) no_files (ascii "a.c") [] ≡ trouble 2 (ascii "getres: refused 15: the depth is over 100\n"))
unfolding definition decimal_in is_shown shown_byte shown refusal_of refused file_told head_of listed_line line_at lines_at numbers_told query_told read_told list_told listed
told = (refl, refl, refl, refl, refl, refl, refl, refl)
