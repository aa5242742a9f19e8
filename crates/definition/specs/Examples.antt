-- Document 01's proved examples: one table, proved by evaluating the definition.
use Rattle.std.specs.Prelude.{[], ◌∷◌, ◌≡◌, refl}
use Rattle.std.proofs.Math.Option.{some, none}
use Rattle.definition.specs.Lists.{ascii}
use Rattle.definition.specs.Query.{names_of}
use Rattle.definition.specs.Evaluation.{definition, line, written, entries_with, entries, value_in, answer}

table :
    -- lines
    (entries "a..*b:x" ≡ line ".a*b" "x" ∷ [])
    × (entries "foo?bar: x" ≡ line ".foo.?.bar" "x" ∷ [])
    × (entries "a.?: x" ≡ [])
    × (entries "a.: x" ≡ [])
    × (entries " a: x" ≡ [])
    -- values
    × (value_in (entries "a:\\101\\400") ≡ some (0x41 ∷ 0x00 ∷ []))
    × (value_in (entries "a:\\12") ≡ some [])
    × (value_in (entries "a:\\12z") ≡ some (0x5C ∷ 0x31 ∷ 0x32 ∷ 0x7A ∷ []))
    -- queries
    × (names_of (ascii "a..") ≡ some (ascii "a" ∷ []))
    × (names_of (ascii ".a") ≡ none)
    -- name `a.b`, class empty
    × (answer "a*b: 2\n*b: 1" "a.b" "" ≡ some (ascii "2"))
    × (answer "?.b: 1\n*b: 2" "a.b" "" ≡ some (ascii "1"))
    × (answer "a*b: 1\na*b: 2" "a.b" "" ≡ some (ascii "2"))
unfolding definition written entries_with entries value_in answer
table = (refl, refl, refl, refl, refl, refl, refl, refl, refl, refl, refl, refl, refl)
