-- The entries of a text's own lines, and the only one of them, by its place there: what the code answers.
use Rattle.std.specs.Prelude.{List, [], ◌∷◌, ◌≡◌, ℕ, ◌≤◌, ◌<◌, length, drop, Some, None}
use Rattle.std.specs.Prelude.{Option as Answer}
use Rattle.std.proofs.Math.Option.{Option, some, none}
use Rattle.definition.specs.Text.{lines_of}
use Rattle.definition.specs.Text as text
use Rattle.definition.specs.Image.{key_of}
use Rattle.components.specs.Parts.{parts_of, is_verbatim}
use Rattle.parser.specs.Putting.{entry_from}
use Rattle.lines.specs.declared.Resource.{Resource}
use Rattle.adding.specs.declared.Placed.{Placed}

-- the entries of lines, without those of their includes
unfoldable pub entered_by : List text.Line → List text.Entry
entered_by [] = []
entered_by (text.skipped ∷ ls) = entered_by ls
entered_by (text.include n ∷ ls) = entered_by ls
entered_by (text.entry e ∷ ls) = e ∷ entered_by ls

-- those that are left of t: the one that the code answers, and those after its line
abbrev pub starting_with : List ℕ → Answer Placed → List text.Entry
starting_with t (Some p) = entry_from (drop p.at t) p.resource.value ∷ entered_by (lines_of (drop p.next t))
starting_with t None = []

-- r is the entry of a line t: where the text of its value begins, the number of its parts, the length of its key and whether that is the
-- text itself
pub record Counted (t : List ℕ) (r : Resource) : Type 0 where
  pub inside : r.value ≤ length t
  pub parts : r.count ≡ length (parts_of t)
  pub key : r.size ≡ length (key_of (parts_of t))
  pub some_key : 0 < r.size
  pub is_text : r.verbatim ≡ is_verbatim t

-- such a line stands at its place in t
abbrev pub Standing : List ℕ → Answer Placed → Type 0
Standing t (Some p) = (p.at ≤ length t) × Counted (drop p.at t) p.resource
Standing t None = Unit {0}

-- ---- The only entry

unfoldable pub only_of : List text.Entry → Option text.Entry
only_of [] = none
only_of (e ∷ []) = some e
only_of (e ∷ f ∷ es) = none

abbrev pub given_by : List ℕ → Answer Placed → Option text.Entry
given_by t (Some p) = some (entry_from (drop p.at t) p.resource.value)
given_by t None = none
