-- Worked examples of the manual and of X(7), and of the departures of the Rust, by evaluating the definition.
use Rattle.std.specs.Prelude.{List, [], ◌∷◌, ◌≡◌, refl, ℕ}
use Rattle.std.proofs.Math.Option.{Option, some, none}
use Rattle.definition.specs.Lists.{ascii}
use Rattle.definition.specs.Evaluation.{definition, file, line, written, entries_with, entries, value_in, answer}

-- Xlib 15.2's database and query
xmh : Option (List ℕ)
xmh =
    answer
    "xmh*Paned*activeForeground: red\n*incorporate.Foreground: blue\nxmh.toc*Command*activeForeground: green\nxmh.toc*?.Foreground: white\nxmh.toc*Command.activeForeground: black"
    "xmh.toc.messagefunctions.incorporate.activeForeground" "Xmh.Paned.Box.Command.Foreground"

manual :
    -- 15.1: a backslash, a null, a "z" and a newline (as X(7) prints it)
    (value_in (entries "magic.values: \\\\\\000\\\nz\\n") ≡ some (0x5C ∷ 0x00 ∷ 0x7A ∷ 0x0A ∷ []))
    -- 15.1: comments, blank lines, blanks about the colon and at the end, runs of bindings
    × (entries "!x\\\n\na : \t y \t\nb...c:1" ≡ line ".a" "y \t" ∷ line ".b.c" "1" ∷ [])
    × (entries "a*:x" ≡ [])
    × (entries "a+b:x\na b:x" ≡ [])
    × (entries "*a?b*?.c-D_9:" ≡ line "*a.?.b*?.c-D_9" "" ∷ [])
    -- 15.1: escapes
    × (entries "a:\\ x\\\ty\\nz\\\\\\q" ≡ line ".a" " x\ty\nz\\\\q" ∷ [])
    × (entries "a:x\\\n y\nb:\\" ≡ line ".a" "x y" ∷ line ".b" "\\" ∷ [])
    -- 15.1: an include is replaced by the file's contents, which are looked for beside the file with the line
    × (entries_with (file "p" "b:2" ∷ []) "a:1\n#include \"p\"\nc:3" ≡ line ".a" "1" ∷ line ".b" "2" ∷ line ".c" "3" ∷ [])
    × (entries_with (file "d/p" "#include \"q\"\nb:2" ∷ file "d/q" "c:3" ∷ file "q" "c:4" ∷ []) "#include \"d/p\"" ≡ line ".c" "3" ∷ line ".b" "2" ∷ [])
    × (entries_with (file "p" "b:1" ∷ []) "#Include \"p\"\n #include \"p\"\n#include \"p" ≡ [])
    -- 15.2
    × (xmh ≡ some (ascii "black"))
    × (answer "*b:1\na*b:2" "a.b" "X.Y" ≡ some (ascii "2"))
    × (answer "?.b:1\nX.b:2\na.b:3" "a.b" "X.Y" ≡ some (ascii "3"))
    × (answer "X.b:2\n?.b:1" "a.b" "X.Y" ≡ some (ascii "2"))
    × (answer "a.b:1\na*b:2" "a.b" "X.Y" ≡ some (ascii "1"))
    × (answer "*a.b:1" "a.a.b" "" ≡ some (ascii "1"))
    × (answer "A:1" "a" "x" ≡ none)
unfolding definition written entries_with entries value_in answer xmh
manual = (refl, refl, refl, refl, refl, refl, refl, refl, refl, refl, refl, refl, refl, refl, refl, refl, refl)

departures :
    -- 15.1: blanks before the name, a tab before the colon, tabs in an include
    (entries "\ta:x\na\t:x" ≡ [])
    × (entries_with (file "p" "b:1" ∷ []) "#\tinclude \"p\"\n#include\t\"p\"\n#include p" ≡ [])
    × (entries_with (file "p" "b:1" ∷ []) "# include  \"p\"z" ≡ line ".b" "1" ∷ [])
    -- 15.1: parts that adjoin a `?`, two entries of one name, a null in a value, blanks after a pair, digits at the end
    × (entries "??a:x" ≡ line ".?.?.a" "x" ∷ [])
    × (entries "a:1\na:2" ≡ line ".a" "1" ∷ line ".a" "2" ∷ [])
    × (entries "a:x\0y" ≡ line ".a" "x\0y" ∷ [])
    × (entries "a:\\\n y" ≡ line ".a" "y" ∷ [])
    × (entries "a:\\1\nb:2" ≡ line ".a" "" ∷ line ".b" "2" ∷ [])
    -- 15, 15.2: name and class of unequal length, dots after a part
    × (answer "a.b:1" "a" "x.b" ≡ some (ascii "1"))
    × (answer "a.b:1" "x.b" "a" ≡ some (ascii "1"))
    × (answer "a.b:1" "a..b." "A.B" ≡ some (ascii "1"))
    × (answer "a:1" "a" "" ≡ some (ascii "1"))
    × (answer "A:1" "" "A" ≡ some (ascii "1"))
unfolding definition written entries_with entries answer
departures = (refl, refl, refl, refl, refl, refl, refl, refl, refl, refl, refl, refl, refl)

-- each mark against the one below it, the higher first: the rules' order at one level (15.2, rules 1 to 3)
ranks :
    (answer "*?.b:1\n*b:2" "a.b" "A.B" ≡ some (ascii "1"))
    × (answer "?.b:1\n*?.b:2" "a.b" "A.B" ≡ some (ascii "1"))
    × (answer "*A.b:1\n?.b:2" "a.b" "A.B" ≡ some (ascii "1"))
    × (answer "A.b:1\n*A.b:2" "a.b" "A.B" ≡ some (ascii "1"))
    × (answer "*a.b:1\nA.b:2" "a.b" "A.B" ≡ some (ascii "1"))
    × (answer "a.b:1\n*a.b:2" "a.b" "A.B" ≡ some (ascii "1"))
    -- from the left, and not by the number of parts matched
    × (answer "a*d:1\n*b.c.d:2" "a.b.c.d" "" ≡ some (ascii "1"))
    -- of one key the highest row: `*a*b` meets the first `a`
    × (answer "*a*b:1\n?*b:2" "a.a.b" "" ≡ some (ascii "1"))
unfolding definition written entries_with entries answer
ranks = (refl, refl, refl, refl, refl, refl, refl, refl)

more :
    -- a missing file, and the empty name
    (entries_with (file "p" "b:1" ∷ []) "#include \"q\"\n#include \"\"\na:1" ≡ line ".a" "1" ∷ [])
    -- a file's text ends where the file ends
    × (entries_with (file "p" "b:1\\" ∷ []) "#include \"p\"\nc:2" ≡ line ".b" "1\\" ∷ line ".c" "2" ∷ [])
    -- the folder is what stands before the last `/`
    × (entries_with (file "d/e/p" "#include \"q\"" ∷ file "d/e/q" "a:1" ∷ file "d/q" "a:2" ∷ []) "#include \"d/e/p\"" ≡ line ".a" "1" ∷ [])
    × (entries "a:\\1012\\1\\\n2" ≡ line ".a" "A2\\12" ∷ [])
    -- 15.2: no `?` in a query
    × (answer "*b:1" "a.?.b" "A.B.C" ≡ none)
    -- 15.4: a bad line does not swallow the next
    × (entries "x\\\na:1" ≡ line ".a" "1" ∷ [])
unfolding definition written entries_with entries answer
more = (refl, refl, refl, refl, refl, refl)
