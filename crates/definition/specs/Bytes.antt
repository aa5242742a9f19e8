-- Bytes with a meaning, by their ASCII numbers, and what a byte may be.
use Rattle.std.specs.Prelude.{Bool, ◌&&◌, ◌||◌, not, ℕ, eqb, leb}

abbrev pub tab : ℕ
tab = 9

abbrev pub newline : ℕ
newline = 10

abbrev pub space : ℕ
space = 32

abbrev pub exclamation : ℕ
exclamation = 33

abbrev pub quote : ℕ
quote = 34

abbrev pub hash : ℕ
hash = 35

abbrev pub star : ℕ
star = 42

abbrev pub plus : ℕ
plus = 43

abbrev pub minus : ℕ
minus = 45

abbrev pub dot : ℕ
dot = 46

abbrev pub slash : ℕ
slash = 47

abbrev pub colon : ℕ
colon = 58

abbrev pub question : ℕ
question = 63

abbrev pub backslash : ℕ
backslash = 92

abbrev pub underscore : ℕ
underscore = 95

abbrev pub letter_n : ℕ
letter_n = 110

-- from a to b, both included
abbrev pub within : ℕ → ℕ → ℕ → Bool
within a b c = leb a c && leb c b

-- 0 to 9
unfoldable pub is_digit : ℕ → Bool
is_digit c = within 48 57 c

-- 0 to 7
unfoldable pub is_octal : ℕ → Bool
is_octal c = within 48 55 c

-- Xlib 15.1, NameChar: A to Z, a to z, 0 to 9, `_`, `-`
unfoldable pub is_name : ℕ → Bool
is_name c = within 65 90 c || within 97 122 c || is_digit c || eqb c underscore || eqb c minus

-- Xlib 15.1, WhiteSpace: a space or a tab
unfoldable pub is_blank : ℕ → Bool
is_blank c = eqb c space || eqb c tab

unfoldable pub is_space : ℕ → Bool
is_space c = eqb c space

-- Xlib 15.1, Binding: `.` is tight and `*` is loose
unfoldable pub is_binding : ℕ → Bool
is_binding c = eqb c dot || eqb c star

unfoldable pub not_newline : ℕ → Bool
not_newline c = not (eqb c newline)
