-- Queries past their limits, readings of a value and archives, by evaluating the definition. The crate `bounds` has the examples with buffers.
use Rattle.std.specs.Prelude.{Bool, true, false, List, [], ◌∷◌, ◌++◌, ◌≡◌, refl, ℕ, zero, suc, replicate, pos, negsuc}
use Rattle.std.proofs.Math.Option.{Option, some, none}
use Prim.Native.String.{String}
use Rattle.definition.specs.Lists.{ascii}
use Rattle.definition.specs.Limits.{greatest_depth}
use Rattle.definition.specs.Archive.{archive_of, struck_off, laid_out}
use Rattle.definition.specs.Reading.{judge, start, met, within}
use Rattle.definition.specs.Query.{Query, positions, malformed, past_limit, query_within, window, query_of}
use Rattle.definition.specs.Value.{to_bool, i64_of, is_utf8}
use Rattle.definition.specs.Image.{written_over}
use Rattle.definition.specs.Evaluation.{definition, file}

-- document 01's case of 100 opens, which passes that depth
deep : List ℕ
deep = archive_of (file "p" "#include \"p\"\na:1" ∷ [])

nested : judge start (met greatest_depth (ascii "#include \"p\"\n" ∷ []) deep) ≡ within (record { opens = 100; entries = 100; used = 300 })
unfolding definition deep
nested = refl

-- what is written over a buffer zeroes it up to n, and changes nothing beyond
overwritten : written_over 4 (7 ∷ 7 ∷ 7 ∷ 7 ∷ 7 ∷ 7 ∷ []) (1 ∷ 2 ∷ []) ≡ 1 ∷ 2 ∷ 0 ∷ 0 ∷ 7 ∷ 7 ∷ []
unfolding definition
overwritten = refl

-- a name of 33 parts is past the limit; malformed is tested before that, and 9 before both
parts : ℕ → List ℕ
parts zero = []
parts (suc n) = ascii "a." ++ parts n

is_past : Query → Option ℕ
is_past (positions qs) = none
is_past malformed = none
is_past (past_limit k) = some k

queries :
    (query_of (parts 33) (ascii ".a") ≡ malformed)
    × (is_past (query_of (parts 33) []) ≡ some 10)
    × (is_past (query_of [] (parts 33)) ≡ some 10)
    × (is_past (query_of (parts 32) (parts 32)) ≡ none)
    × (is_past (query_of (replicate 1025 46) []) ≡ some 9)
    × (is_past (query_of (replicate 1024 97) []) ≡ none)
unfolding definition parts is_past
queries = (refl, refl, refl, refl, refl, refl)

-- the dictionary window's (document 02 (vi))
windows :
    -- 8 parts, 128 bytes, and 8 parts in 128 bytes
    (is_past (query_within window (parts 8) (parts 8)) ≡ none)
    × (is_past (query_within window (replicate 128 97) (replicate 128 97)) ≡ none)
    × (is_past (query_within window (parts 8 ++ replicate 112 46) []) ≡ none)
    × (query_within window (replicate 129 97) [] ≡ past_limit 9)
    × (query_within window [] (replicate 129 97) ≡ past_limit 9)
    × (query_within window (parts 9) [] ≡ past_limit 10)
    × (query_within window [] (parts 9) ≡ past_limit 10)
    -- 9, malformed, 10
    × (query_within window (replicate 129 46) (parts 9) ≡ past_limit 9)
    × (query_within window (parts 9) (ascii ".a") ≡ malformed)
    -- the shell keeps its bounds
    × (is_past (query_of (parts 9) (replicate 129 97)) ≡ none)
    -- one that both admit
    × (query_within window (ascii "a..b.") (ascii "C") ≡ query_of (ascii "a..b.") (ascii "C"))
    × (query_within window (ascii "a") (ascii ".C") ≡ query_of (ascii "a") (ascii ".C"))
unfolding definition parts is_past
windows = (refl, refl, refl, refl, refl, refl, refl, refl, refl, refl, refl, refl)

values :
    (to_bool (ascii "+5") ≡ some true)
    × (to_bool (ascii "-0") ≡ some false)
    × (to_bool (ascii "-") ≡ none)
    × (to_bool (ascii "") ≡ none)
    × (to_bool (ascii "9223372036854775808") ≡ none)
    × (to_bool (ascii "-9223372036854775808") ≡ some true)
    × (to_bool (ascii "tRuE") ≡ some true)
    × (to_bool (ascii "oFf") ≡ some false)
    × (i64_of (ascii "0009223372036854775807") ≡ some (pos 9223372036854775807))
    × (i64_of (ascii "-9223372036854775808") ≡ some (negsuc 9223372036854775807))
    × (i64_of (ascii "1_000") ≡ none)
    -- Unicode, table 3-7: the ends of its rows
    × (is_utf8 (0x7F ∷ 0xC2 ∷ 0x80 ∷ 0xE0 ∷ 0xA0 ∷ 0x80 ∷ 0xED ∷ 0x9F ∷ 0xBF ∷ 0xEF ∷ 0xBF ∷ 0xBF ∷ 0xF0 ∷ 0x90 ∷ 0x80 ∷ 0x80 ∷ 0xF4 ∷ 0x8F ∷ 0xBF ∷ 0xBF ∷ []) ≡ true)
    × (is_utf8 (0xC1 ∷ 0xBF ∷ []) ≡ false)
    × (is_utf8 (0xE0 ∷ 0x9F ∷ 0xBF ∷ []) ≡ false)
    × (is_utf8 (0xED ∷ 0xA0 ∷ 0x80 ∷ []) ≡ false)
    × (is_utf8 (0xF0 ∷ 0x8F ∷ 0xBF ∷ 0xBF ∷ []) ≡ false)
    × (is_utf8 (0xF4 ∷ 0x90 ∷ 0x80 ∷ 0x80 ∷ []) ≡ false)
    × (is_utf8 (0xE2 ∷ 0x82 ∷ []) ≡ false)
unfolding definition
values = (refl, refl, refl, refl, refl, refl, refl, refl, refl, refl, refl, refl, refl, refl, refl, refl, refl, refl)

-- document 01's archive of `p` holding `b:1`, names that are and are not, and a file struck off
named : String → Bool
named n = laid_out (archive_of (file n "" ∷ []))

archives :
    (archive_of (file "p" "b:1" ∷ []) ≡ 0x01 ∷ 0x00 ∷ 0x01 ∷ 0x00 ∷ 0x03 ∷ 0x00 ∷ 0x70 ∷ 0x62 ∷ 0x3A ∷ 0x31 ∷ [])
    × (struck_off 0 (archive_of (file "a" "1" ∷ file "b" "22" ∷ [])) ≡ archive_of (file "b" "22" ∷ []))
    × (laid_out (archive_of (file "a" "" ∷ file "a/b" "" ∷ file "ab" "" ∷ [])) ≡ true)
    × (laid_out (archive_of (file "b" "" ∷ file "a" "" ∷ [])) ≡ false)
    × (laid_out (archive_of (file "a" "" ∷ file "a" "" ∷ [])) ≡ false)
    × (laid_out (archive_of (file "a" "" ∷ []) ++ 0 ∷ []) ≡ false)
    × (laid_out (1 ∷ 0 ∷ 1 ∷ 0 ∷ 2 ∷ 0 ∷ ascii "ab") ≡ false)
    × (named "d/e/p-1_x.y" ≡ true)
    × (named "..." ≡ true)
    × (named "." ≡ false)
    × (named "a/../b" ≡ false)
    × (named "a//b" ≡ false)
    × (named "/a" ≡ false)
    × (named "" ≡ false)
    × (named "a b" ≡ false)
    × (laid_out (archive_of (record { name = replicate 96 97; body = [] } ∷ [])) ≡ true)
    × (laid_out (archive_of (record { name = replicate 97 97; body = [] } ∷ [])) ≡ false)
unfolding definition named
archives = (refl, refl, refl, refl, refl, refl, refl, refl, refl, refl, refl, refl, refl, refl, refl, refl, refl)
