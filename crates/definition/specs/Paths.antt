-- Document 02 (iii), sentence by sentence, by evaluating the definition. The crate `bounds` has the 96 bytes.
use Rattle.std.specs.Prelude.{List, [], ◌∷◌, map, ◌≡◌, refl, ℕ}
use Rattle.std.proofs.Math.Option.{Option, some, none}
use Prim.Native.String.{String}
use Rattle.definition.specs.Lists.{ascii}
use Rattle.definition.specs.Limits.{default_depth}
use Rattle.definition.specs.Archive.{archive_of, path_of}
use Rattle.definition.specs.Including.{Entered}
use Rattle.definition.specs.Reading.{read_entries}
use Rattle.definition.specs.Evaluation.{definition, file, line, written, entries_with}

-- what an include of a name from a folder looks for
path : String → String → Option (List ℕ)
path folder name = path_of (ascii folder) (ascii name)

looks_for :
    -- `.` parts are dropped
    (path "" "./pack" ≡ some (ascii "pack"))
    × (path "a" "./pack" ≡ some (ascii "a/pack"))
    × (path "a" "b/././c" ≡ some (ascii "a/b/c"))
    -- `..` removes the part before it, over folder and name joined
    × (path "a" "../common" ≡ some (ascii "common"))
    × (path "a/b" "../common" ≡ some (ascii "a/common"))
    × (path "a/b" "../../common" ≡ some (ascii "common"))
    × (path "" "b/../common" ≡ some (ascii "common"))
    × (path "a" "b/./../c" ≡ some (ascii "a/c"))
    × (path "a/b" "c/../../d/../e" ≡ some (ascii "a/e"))
    -- the part removed may be one that no file's name has
    × (path "" "a b/../q" ≡ some (ascii "q"))
    × (path "" "*:/../q" ≡ some (ascii "q"))
    -- the bound of 96 bytes is not on the name: this one has 101
    × (path "a" "././././././././././././././././././././././././././././././././././././././././././././././././././b" ≡ some (ascii "a/b"))
    -- other parts of dots are names
    × (path "a" ".../b" ≡ some (ascii "a/.../b"))
    × (path "a" "..b/.c" ≡ some (ascii "a/..b/.c"))
    × (path "" "..." ≡ some (ascii "..."))
    -- as before
    × (path "" "pack" ≡ some (ascii "pack"))
    × (path "a/b" "c/d" ≡ some (ascii "a/b/c/d"))
unfolding definition path
looks_for = (refl, refl, refl, refl, refl, refl, refl, refl, refl, refl, refl, refl, refl, refl, refl, refl, refl)

finds_nothing :
    -- above the root, at any point
    (path "" "../a" ≡ none)
    × (path "a" "../../b" ≡ none)
    × (path "" "a/../../b" ≡ none)
    × (path "" "../a/b" ≡ none)
    × (path "" "./../a" ≡ none)
    -- an empty part, anywhere
    × (path "" "" ≡ none)
    × (path "a" "" ≡ none)
    × (path "" "/a" ≡ none)
    × (path "a" "/b" ≡ none)
    × (path "" "a//b" ≡ none)
    × (path "" "a/" ≡ none)
    × (path "" "a//../b" ≡ none)
    × (path "" "/../a" ≡ none)
    -- a last part `.` or `..`
    × (path "" "." ≡ none)
    × (path "" ".." ≡ none)
    × (path "a/b" "." ≡ none)
    × (path "a/b" ".." ≡ none)
    × (path "" "a/." ≡ none)
    × (path "" "a/b/.." ≡ none)
unfolding definition path
finds_nothing = (refl, refl, refl, refl, refl, refl, refl, refl, refl, refl, refl, refl, refl, refl, refl, refl, refl, refl, refl)

finds :
    -- from the main text, and from a file's folder
    (entries_with (file "p" "b:1" ∷ []) "#include \"./p\"" ≡ line ".b" "1" ∷ [])
    × (entries_with (file "a/p" "#include \"../q\"" ∷ file "q" "b:1" ∷ []) "#include \"a/p\"" ≡ line ".b" "1" ∷ [])
    -- through a file's name, and through what is no folder of the archive
    × (entries_with (file "p" "c:2" ∷ file "q" "b:1" ∷ []) "#include \"p/../q\"" ≡ line ".b" "1" ∷ [])
    × (entries_with (file "q" "b:1" ∷ []) "#include \"x/y/../../q\"" ≡ line ".b" "1" ∷ [])
    -- the folder of a found file is before the last `/` of its own name, not of the way it was reached
    × (entries_with (file "a/q" "c:1" ∷ file "p" "#include \"q\"" ∷ file "q" "c:2" ∷ []) "#include \"a/../p\"" ≡ line ".c" "2" ∷ [])
    × (entries_with (file "a/p" "#include \"../b/q\"" ∷ file "b/q" "#include \"r\"" ∷ file "b/r" "c:1" ∷ []) "#include \"a/p\"" ≡ line ".c" "1" ∷ [])
unfolding definition written entries_with
finds = (refl, refl, refl, refl, refl, refl)

-- a chain of includes has the file's own name
chain : map (λ (x : Entered). x.chain) (read_entries default_depth (ascii "#include \"x/../p\"" ∷ []) (archive_of (file "p" "b:1" ∷ []))) ≡ (ascii "p" ∷ []) ∷ []
unfolding definition
chain = refl
