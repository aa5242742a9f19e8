-- The name-byte rule, once over all 256 bytes, and the ASCII numbers that the definition uses.
use Rattle.std.specs.Prelude.{List, [], ◌∷◌, ◌≡◌, refl, ℕ, zero, suc}
use Rattle.definition.specs.Lists.{ascii, filter}
use Rattle.definition.specs.Bytes.{
  tab,
  newline,
  space,
  exclamation,
  quote,
  hash,
  star,
  plus,
  minus,
  dot,
  slash,
  colon,
  question,
  backslash,
  underscore,
  letter_n,
  is_digit,
  is_octal,
  is_name,
  is_blank,
  is_binding,
}

-- n numbers from `from` on
upward : ℕ → ℕ → List ℕ
upward zero from = []
upward (suc n) from = from ∷ upward n (suc from)

-- the bytes that pass a test are these
bytes : (filter is_name (upward 256 0) ≡ ascii "-0123456789ABCDEFGHIJKLMNOPQRSTUVWXYZ_abcdefghijklmnopqrstuvwxyz")
    × (filter is_octal (upward 256 0) ≡ ascii "01234567")
    × (filter is_digit (upward 256 0) ≡ ascii "0123456789")
    × (filter is_blank (upward 256 0) ≡ ascii "\t ")
    × (filter is_binding (upward 256 0) ≡ ascii "*.")
unfolding filter is_name is_octal is_digit is_blank is_binding upward
bytes = (refl, refl, refl, refl, refl)

numbers : ascii "\t\n !\"#*+-./:?\\_n"
    ≡ tab ∷ newline ∷ space ∷ exclamation ∷ quote ∷ hash ∷ star ∷ plus ∷ minus ∷ dot ∷ slash ∷ colon ∷ question ∷ backslash ∷ underscore ∷ letter_n ∷ []
numbers = refl
