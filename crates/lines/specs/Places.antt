-- The line at the front of a text, by its places there: what the code answers.
use Rattle.std.specs.Prelude as rattle
use Rattle.std.specs.Prelude.{Some, None, List, [], ◌∷◌, ℕ, ◌+◌, ◌-◌, eqb, length, if◌then◌else◌}
use Rattle.std.proofs.Math.Option.{Option, some, none}
use Rattle.definition.specs.Lists.{take_while}
use Rattle.definition.specs.Bytes.{newline, exclamation, hash, not_newline}
use Rattle.definition.specs.Text.{assigned}
use Rattle.directives.specs.Directives.{include_at}
use Rattle.directives.specs.declared.Named.{Named}
use Rattle.components.specs.Parts.{parts_of, key_first, is_verbatim}
use Rattle.lines.specs.declared.Line.{Line}
use Rattle.lines.specs.declared.Line.TheVariants.{Skip, Include, Entry}

-- where the first line ends
abbrev pub line_length : List ℕ → ℕ
line_length t = length (take_while not_newline t)

-- a line of a directive, whose `#` is its first byte
unfoldable pub directive_in : ℕ → rattle.Option Named → Line
directive_in end (Some n) = Include (record { start = 1 + n.start; size = n.size; end = end })
directive_in end None = Skip end

-- a line that is no comment and no directive; u follows its `:`
unfoldable pub resource_in : List ℕ → Option (List ℕ) → Line
resource_in t none = Skip (line_length t)
resource_in t (some u) = Entry (record { value = length t - length u; count = length (parts_of t); size = length (key_first t); verbatim = is_verbatim t })

-- as line_at, which has the line's bytes
unfoldable pub line_in : List ℕ → Line
line_in [] = Skip 0
line_in (c ∷ t) =
    if eqb c newline then Skip 1 else
    if eqb c exclamation then Skip (line_length (c ∷ t)) else
    if eqb c hash then directive_in (line_length (c ∷ t)) (include_at t) else
    resource_in (c ∷ t) (assigned (c ∷ t))
