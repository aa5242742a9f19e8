-- Databases written out, by evaluating the definition.
use Rattle.std.specs.Prelude.{[], ◌∷◌, ◌≡◌, refl}
use Rattle.definition.specs.Lists.{ascii}
use Rattle.definition.specs.Archive.{archive_of}
use Rattle.definition.specs.Evaluation.{definition, no_files, file}
use Rattle.refusals.specs.Refusals.{refusal_of}
use Rattle.reports.specs.Telling.{output, trouble, refused}
use Rattle.database_text.specs.Database.{entries_told, database_told}

told :
    (database_told 0 (ascii "a.b: x\n! none\n*c:\\ \\\\y\\n" ∷ []) no_files ≡ output 0 (ascii ".a.b: x\n*c: \\ \\\\y\\n\n"))
    × (database_told 0 (ascii "a: 1\n" ∷ ascii "b: 2" ∷ []) no_files ≡ output 0 (ascii ".a: 1\n.b: 2\n"))
    × (database_told 1 (ascii "#include \"p\"\n*c: 2" ∷ []) (archive_of (file "p" "a: 1" ∷ [])) ≡ output 0 (ascii ".a: 1\n*c: 2\n"))
    × (database_told 100 [] no_files ≡ output 0 [])
    × (database_told 0 (ascii "a.a.a.a.a.a.a.a.a.a.a.a.a.a.a.a.a:" ∷ []) no_files ≡ trouble 2 (ascii "getres: refused 5: an entry has more than 16 parts\n"))
unfolding definition refusal_of refused entries_told database_told
told = (refl, refl, refl, refl, refl)
