-- Document 02 (iv) by evaluating the definition: the text of entries, a sentence each. The crate `bounds` has the call.
use Rattle.std.specs.Prelude.{true, false, List, [], ◌∷◌, ◌++◌, ◌≡◌, refl, ℕ}
use Prim.Native.String.{String}
use Rattle.definition.specs.Lists.{ascii}
use Rattle.definition.specs.Limits.{default_depth}
use Rattle.definition.specs.Reading.{plain, read_entries}
use Rattle.definition.specs.Writing.{filled, written, refused, text_of, put_into}
use Rattle.definition.specs.Evaluation.{definition, no_files}

-- a text read, and its entries written out
rewritten : String → List ℕ
rewritten t = text_of (plain (read_entries default_depth (ascii t ∷ []) no_files))

table :
    -- key, `: `, value, newline
    (rewritten "" ≡ [])
    × (rewritten "a.b:x" ≡ ascii ".a.b: x\n")
    × (rewritten "a..*b   :\t x\n! no resource\n\n?c:" ≡ ascii ".a*b: x\n.?.c: \n")
    × (rewritten "a:1\na:1\na:2" ≡ ascii ".a: 1\n.a: 1\n.a: 2\n")
    -- a space or tab that begins the value, and no other
    × (rewritten "a:\\  b " ≡ ascii ".a: \\  b \n")
    × (rewritten "a:\\\t\tb\t" ≡ ascii ".a: \\\t\tb\t\n")
    × (rewritten "a:b c" ≡ ascii ".a: b c\n")
    -- backslashes and newlines, wherever they stand
    × (rewritten "a:\\\\" ≡ ascii ".a: \\\\\n")
    × (rewritten "a:\\q\\\\n\\\\101" ≡ ascii ".a: \\\\q\\\\n\\\\101\n")
    × (rewritten "a:\\n" ≡ ascii ".a: \\n\n")
    × (rewritten "a:\\nb\\n\\n c" ≡ ascii ".a: \\nb\\n\\n c\n")
    × (rewritten "a:\\012" ≡ ascii ".a: \\n\n")
    -- all other bytes are plain
    × (rewritten "a:\\000\\001\\377" ≡ ascii ".a: " ++ 0 ∷ 1 ∷ 255 ∷ 10 ∷ [])
    × (rewritten "a:!#:*.?\"" ≡ ascii ".a: !#:*.?\"\n")
    -- a buffer: too short, just long enough, longer
    × (put_into 11 (1 ∷ 2 ∷ []) (7 ∷ []) ≡ filled (refused 11) (7 ∷ []))
    × (put_into 11 (1 ∷ 2 ∷ []) (7 ∷ 7 ∷ []) ≡ filled (written 2) (1 ∷ 2 ∷ []))
    × (put_into 11 (1 ∷ 2 ∷ []) (7 ∷ 7 ∷ 7 ∷ []) ≡ filled (written 2) (1 ∷ 2 ∷ 7 ∷ []))
    × (put_into 11 [] [] ≡ filled (written 0) [])
unfolding definition rewritten
table = (refl, refl, refl, refl, refl, refl, refl, refl, refl, refl, refl, refl, refl, refl, refl, refl, refl, refl)
