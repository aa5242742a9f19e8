-- Bytes as a terminal may show them: what is not printable, and a backslash, by its number in octal.
use Rattle.std.specs.Prelude.{Bool, ◌&&◌, not, List, [], ◌∷◌, ◌++◌, ◌≡◌, refl, ℕ, ◌+◌, ◌/◌, ◌%◌, eqb, if◌then◌else◌}
use Rattle.definition.specs.Lists.{ascii}
use Rattle.definition.specs.Bytes.{within, backslash}
use Rattle.definition.specs.Evaluation.{definition}

-- from blank to `~`, but no backslash
unfoldable pub is_shown : ℕ → Bool
is_shown c = within 32 126 c && not (eqb c backslash)

unfoldable pub shown_byte : ℕ → List ℕ
shown_byte c = if is_shown c then c ∷ [] else backslash ∷ (48 + c / 64) ∷ (48 + c / 8 % 8) ∷ (48 + c % 8) ∷ []

unfoldable pub shown : List ℕ → List ℕ
shown [] = []
shown (c ∷ t) = shown_byte c ++ shown t

examples :
    (shown (ascii "a b~") ≡ ascii "a b~")
    × (shown (27 ∷ ascii "[2J") ≡ ascii "\\033[2J")
    × (shown (127 ∷ 128 ∷ 255 ∷ []) ≡ ascii "\\177\\200\\377")
    × (shown (ascii "\\033") ≡ ascii "\\134033")
unfolding definition is_shown shown_byte shown
examples = (refl, refl, refl, refl)
