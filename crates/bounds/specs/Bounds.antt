-- Document 01's table of numbers, an example each, and what an accepted and a refused reading leave, by evaluating the definition.
use Rattle.std.specs.Prelude.{true, false, List, [], ◌∷◌, ◌++◌, ◌≡◌, refl, ℕ, zero, suc, ◌+◌, ◌*◌, ◌/◌, ◌%◌, replicate}
use Rattle.std.proofs.Math.Option.{some, none}
use Rattle.definition.specs.Lists.{ascii}
use Rattle.definition.specs.Limits.{greatest_depth, default_depth}
use Rattle.definition.specs.Archive.{File, archive_of, laid_out, path_of}
use Rattle.definition.specs.Reading.{Answer, accepted, refused, outcome, reading, judge, start, met, within, past}
use Rattle.definition.specs.StartUp.{StartUp, starting}
use Rattle.definition.specs.Writing.{filled, written, refused as refusedFill, writing}
use Rattle.definition.specs.Lookup.{Reply, given, no_value, refused as refusedReply, Place, get_bytes}
use Rattle.definition.specs.Value.{to_bool, is_utf8}
use Rattle.definition.specs.Evaluation.{definition, no_files, file}
use Rattle.bounds.specs.Lookups.{copies, contents, bodies, rows_alike, words_alike, bytes_alike, name, include, look}

number_of : Answer → ℕ
number_of (accepted n o) = 0
number_of (refused k) = k

read : List ℕ → List ℕ → ℕ
read t s = number_of (reading default_depth (t ∷ []) s contents bodies).answer

-- `p` that includes itself twice, and `p` of 20,000 bytes
twice : List ℕ
twice = archive_of (file "p" "#include \"p\"\n#include \"p\"" ∷ [])

large : List ℕ
large = archive_of (record { name = ascii "p"; body = ascii "a:" ++ replicate 19998 122 } ∷ [])

readings :
    (reading default_depth ([] ∷ []) no_files [] bodies ≡ outcome (refused 1) [] bodies)
    × (reading default_depth ([] ∷ []) no_files contents (replicate 32767 7) ≡ outcome (refused 1) contents (replicate 32767 7))
    × (read (replicate 32769 10) no_files ≡ 2)
    × (read (replicate 32768 10) no_files ≡ 0)
    × (read [] [] ≡ 3)
    × (read include twice ≡ 4)
    × (read (name 16 ++ ascii "a:") no_files ≡ 5)
    × (read (name 15 ++ ascii "b:") no_files ≡ 0)
    × (read (name 17 ++ ascii "b") no_files ≡ 0)
    × (read (copies 513 (ascii "a:\n")) no_files ≡ 6)
    × (read (copies 512 (ascii "a:\n")) no_files ≡ 0)
    × (read (include ++ include) large ≡ 7)
unfolding definition copies contents bodies number_of read name twice large include
readings = (refl, refl, refl, refl, refl, refl, refl, refl, refl, refl, refl, refl)

-- an accepted reading zeroes what it does not use, and changes nothing past 2,050 words and 32,768 bytes; so does a refusal by 4 to 7
leaves :
    (reading default_depth (ascii "a.b: x" ∷ []) no_files contents bodies
    ≡ outcome (accepted 1 0) (1 ∷ 5 ∷ 0 ∷ 4 ∷ 1 ∷ 0 ∷ replicate 2044 0 ++ 7 ∷ 7 ∷ []) (ascii ".a.bx" ++ replicate 32763 0 ++ 7 ∷ 7 ∷ []))
    × (reading default_depth ((name 16 ++ ascii "a:") ∷ []) no_files contents bodies
    ≡ outcome (refused 5) (replicate 2050 0 ++ 7 ∷ 7 ∷ []) (replicate 32768 0 ++ 7 ∷ 7 ∷ []))
unfolding definition copies contents bodies name
leaves = (refl, refl)

-- the 96 bytes are asked of the path that is looked for, and of no name or path on the way to it
paths :
    (path_of [] (replicate 96 97) ≡ some (replicate 96 97))
    × (path_of [] (replicate 97 97) ≡ none)
    × (path_of (replicate 47 97) (replicate 48 98) ≡ some (replicate 47 97 ++ 47 ∷ replicate 48 98))
    × (path_of (replicate 47 97) (replicate 49 98) ≡ none)
    × (path_of [] (copies 10 (ascii "./") ++ replicate 96 97) ≡ some (replicate 96 97))
    × (path_of [] (replicate 300 97 ++ ascii "/../q") ≡ some (ascii "q"))
    × (path_of (replicate 90 97) (copies 10 (ascii "b/") ++ copies 11 (ascii "../") ++ replicate 96 99) ≡ some (replicate 96 99))
    × (path_of (replicate 90 97) (copies 10 (ascii "b/") ++ copies 12 (ascii "../") ++ ascii "q") ≡ none)
unfolding definition copies
paths = (refl, refl, refl, refl, refl, refl, refl, refl)

-- n files of two-byte names, and one file of a body of n bytes
numbered : ℕ → List File
numbered zero = []
numbered (suc n) = numbered n ++ record { name = (65 + n / 26) ∷ (65 + n % 26) ∷ []; body = [] } ∷ []

sized : ℕ → List ℕ
sized n = archive_of (record { name = ascii "p"; body = replicate n 33 } ∷ [])

-- 64 times `p` with its 63 `q`: 4,096 opens
opens_text : List ℕ
opens_text = copies 64 include

opens_files : List ℕ
opens_files = archive_of (record { name = ascii "p"; body = copies 63 (ascii "#include \"q\"\n") } ∷ file "q" "" ∷ [])

edges :
    (laid_out (archive_of (numbered 64)) ≡ true)
    × (laid_out (archive_of (numbered 65)) ≡ false)
    × (laid_out (sized 65529) ≡ true)
    × (laid_out (sized 65530) ≡ false)
    × (judge start (met default_depth (opens_text ∷ []) opens_files) ≡ within (record { opens = 4096; entries = 0; used = 0 }))
    × (judge start (met default_depth ((opens_text ++ ascii "#include \"q\"") ∷ []) opens_files) ≡ past 4)
    × (read (ascii "a:" ++ replicate 32766 122) no_files ≡ 0)
    × (read (include ++ ascii "a:" ++ replicate 12766 122) large ≡ 0)
    × (read (include ++ ascii "a:" ++ replicate 12767 122) large ≡ 7)
    -- the order of the tests
    × (reading default_depth (replicate 32769 10 ∷ []) [] [] bodies ≡ outcome (refused 1) [] bodies)
    × (reading default_depth (replicate 32769 10 ∷ []) [] contents bodies ≡ outcome (refused 2) contents bodies)
    × (reading default_depth ([] ∷ []) [] contents bodies ≡ outcome (refused 3) contents bodies)
    × (read (copies 512 (ascii "a:\n") ++ name 16 ++ ascii "b:") no_files ≡ 5)
    × (get_bytes [] bodies (replicate 1025 97) [] ≡ refusedReply 8)
    × (look "a:1" (replicate 1024 97) [] ≡ no_value)
    × (to_bool (ascii "on") ≡ some true)
    × (to_bool (ascii "FALSE") ≡ some false)
    × (to_bool (ascii "no") ≡ some false)
    × (is_utf8 (0xDF ∷ 0xBF ∷ 0xE1 ∷ 0x80 ∷ 0x80 ∷ 0xEC ∷ 0xBF ∷ 0xBF ∷ 0xEE ∷ 0x80 ∷ 0x80 ∷ 0xF1 ∷ 0x80 ∷ 0x80 ∷ 0x80 ∷ 0xF3 ∷ 0xBF ∷ 0xBF ∷ 0xBF ∷ []) ≡ true)
    × (is_utf8 (0x80 ∷ []) ≡ false)
    × (is_utf8 (0xF5 ∷ 0x80 ∷ 0x80 ∷ 0x80 ∷ []) ≡ false)
unfolding definition copies contents bodies number_of read name include large look numbered sized opens_text opens_files
edges = (refl, refl, refl, refl, refl, refl, refl, refl, refl, refl, refl, refl, refl, refl, refl, refl, refl, refl, refl, refl, refl)

-- ---- Document 02 (i): a start-up whose texts are a property and the text that XENVIRONMENT names

property : List ℕ → List ℕ → StartUp
property first second = record {
  format = 8;
  property = first;
  xresources = none;
  xdefaults = none;
  is_set = true;
  xenvironment = some second;
  host = none;
}

start_up : List ℕ → List ℕ → List ℕ → ℕ
start_up first second archive = number_of (starting greatest_depth (property first second) archive contents bodies).answer

-- texts that are not used, each longer than a text may be: a property of format 16, .Xdefaults, one that XENVIRONMENT does not name
long : List ℕ
long = replicate 32769 10

unused : StartUp
unused = record {
  format = 16;
  property = long;
  xresources = some (ascii "a:1");
  xdefaults = some long;
  is_set = false;
  xenvironment = some long;
  host = some (ascii "b:22");
}

start_ups :
    (start_up [] long no_files ≡ 2)
    × (start_up long [] no_files ≡ 2)
    × (start_up long long [] ≡ 2)
    × (start_up (ascii "a:1") [] [] ≡ 3)
    -- limits run over both texts
    × (start_up opens_text (ascii "#include \"q\"") opens_files ≡ 4)
    × (start_up (ascii "a:") (name 16 ++ ascii "a:") no_files ≡ 5)
    × (start_up (copies 256 (ascii "a:\n")) (copies 256 (ascii "a:\n")) no_files ≡ 0)
    × (start_up (copies 256 (ascii "a:\n")) (copies 257 (ascii "a:\n")) no_files ≡ 6)
    × (start_up include include large ≡ 7)
    -- the first text's refusal comes before the second's
    × (start_up (name 16 ++ ascii "a:") (copies 513 (ascii "a:\n")) no_files ≡ 5)
    × (starting greatest_depth unused no_files contents bodies
    ≡ outcome (accepted 2 0) (2 ∷ 7 ∷ 0 ∷ 2 ∷ 1 ∷ 0 ∷ 3 ∷ 2 ∷ 2 ∷ 0 ∷ replicate 2040 0 ++ 7 ∷ 7 ∷ []) (ascii ".a1.b22" ++ replicate 32761 0 ++ 7 ∷ 7 ∷ []))
    × (starting greatest_depth (property (ascii "a:1") (name 16 ++ ascii "a:")) no_files contents bodies
    ≡ outcome (refused 5) (replicate 2050 0 ++ 7 ∷ 7 ∷ []) (replicate 32768 0 ++ 7 ∷ 7 ∷ []))
    × (starting greatest_depth (property (ascii "a:1") long) no_files contents bodies ≡ outcome (refused 2) contents bodies)
unfolding definition copies contents bodies number_of name include large opens_text opens_files property start_up long unused
start_ups = (refl, refl, refl, refl, refl, refl, refl, refl, refl, refl, refl, refl, refl)

-- ---- Document 02 (x): 15 after 1, 2 and 3 and before 4 to 7; nothing changes

read_at : ℕ → List ℕ → List ℕ → ℕ
read_at depth t s = number_of (reading depth (t ∷ []) s contents bodies).answer

depths :
    (reading 101 (ascii "a:1" ∷ []) no_files contents bodies ≡ outcome (refused 15) contents bodies)
    × (starting 101 unused no_files contents bodies ≡ outcome (refused 15) contents bodies)
    -- every number over 100
    × (read_at 65536 (ascii "a:1") no_files ≡ 15)
    × (read_at 4294967296 (ascii "a:1") no_files ≡ 15)
    × (read_at 18446744073709551615 (ascii "a:1") no_files ≡ 15)
    × (read_at 100 (ascii "a:1") no_files ≡ 0)
    × (read_at 0 (ascii "a:1") no_files ≡ 0)
    -- the order of the tests
    × (reading 101 ([] ∷ []) no_files [] bodies ≡ outcome (refused 1) [] bodies)
    × (read_at 101 long no_files ≡ 2)
    × (read_at 101 [] [] ≡ 3)
    × (read_at 101 include twice ≡ 15)
    × (read_at 101 (name 16 ++ ascii "a:") no_files ≡ 15)
    × (read_at 101 (copies 513 (ascii "a:\n")) no_files ≡ 15)
    × (read_at 101 (include ++ include) large ≡ 15)
    -- `p` that includes itself twice: 4,095 opens at depth 12, and no greater depth is accepted
    × (read_at 12 include twice ≡ 0)
    × (read_at 13 include twice ≡ 4)
unfolding definition copies contents bodies number_of name include large twice long unused read_at
depths = (refl, refl, refl, refl, refl, refl, refl, refl, refl, refl, refl, refl, refl, refl, refl, refl)

-- ---- Images

-- a lookup in an image of n entries
alike : ℕ → Reply Place
alike n = get_bytes (words_alike n) (bytes_alike n) (ascii "a") []

images :
    (alike 512 ≡ given (record { start = 1024; length = 0 }))
    × (alike 513 ≡ refusedReply 8)
    × (get_bytes (1 ∷ 32768 ∷ 0 ∷ 2 ∷ 32766 ∷ 0 ∷ contents) (ascii ".a" ++ bodies) (ascii "a") [] ≡ given (record { start = 2; length = 32766 }))
    × (get_bytes (1 ∷ 32769 ∷ 0 ∷ 2 ∷ 32767 ∷ 0 ∷ contents) (ascii ".a" ++ bodies) (ascii "a") [] ≡ refusedReply 8)
    × (get_bytes (1 ∷ 32 ∷ 0 ∷ 32 ∷ 0 ∷ 0 ∷ contents) (copies 16 (ascii ".a") ++ bodies) (name 16) [] ≡ given (record { start = 32; length = 0 }))
    × (get_bytes (1 ∷ 34 ∷ 0 ∷ 34 ∷ 0 ∷ 0 ∷ contents) (copies 17 (ascii ".a") ++ bodies) (name 17) [] ≡ refusedReply 8)
    × (get_bytes (1 ∷ 0 ∷ 0 ∷ 0 ∷ 0 ∷ 0 ∷ contents) bodies (ascii "a") [] ≡ refusedReply 8)
unfolding definition copies contents bodies name rows_alike words_alike bytes_alike alike
images = (refl, refl, refl, refl, refl, refl, refl)

-- ---- Document 02 (iv): the image of `a: x` written out. 8 is tested before 11
writings :
    (writing (1 ∷ 3 ∷ 0 ∷ 2 ∷ 1 ∷ 0 ∷ contents) (ascii ".ax" ++ bodies) (replicate 6 7) ≡ filled (written 6) (ascii ".a: x\n"))
    × (writing (1 ∷ 3 ∷ 0 ∷ 2 ∷ 1 ∷ 0 ∷ contents) (ascii ".ax" ++ bodies) (replicate 8 7) ≡ filled (written 6) (ascii ".a: x\n" ++ 7 ∷ 7 ∷ []))
    × (writing (1 ∷ 3 ∷ 0 ∷ 2 ∷ 1 ∷ 0 ∷ contents) (ascii ".ax" ++ bodies) (replicate 5 7) ≡ filled (refusedFill 11) (replicate 5 7))
    × (writing (1 ∷ 4 ∷ 0 ∷ 2 ∷ 1 ∷ 0 ∷ contents) (ascii ".ax" ++ bodies) (replicate 5 7) ≡ filled (refusedFill 8) (replicate 5 7))
    × (writing (0 ∷ 0 ∷ contents) bodies [] ≡ filled (written 0) [])
    × (writing [] bodies [] ≡ filled (refusedFill 8) [])
unfolding definition copies contents bodies
writings = (refl, refl, refl, refl, refl, refl)
