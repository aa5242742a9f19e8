-- Which texts a reader starts with (document 02 (i); X(7), RESOURCES; `new_from_default`). All of them are lent.
-- Departure: X(7) does not list.Xresources; it lists SCREEN_RESOURCES, application files and `-xrm`, which the Rust leaves out.
use Rattle.std.specs.Prelude.{Bool, ◌&&◌, not, List, [], ◌∷◌, ◌++◌, ℕ, eqb, if◌then◌else◌}
use Rattle.std.proofs.Math.Option.{Option, some, none}
use Rattle.definition.specs.Lists.{is_empty, or_else}
use Rattle.definition.specs.Reading.{Outcome, reading}

-- the property, the texts, each of which is none if it could not be read, and whether XENVIRONMENT is set
pub record StartUp : Type 0 where
  pub format : ℕ
  pub property : List ℕ
  pub xresources : Option (List ℕ)
  pub xdefaults : Option (List ℕ)
  pub is_set : Bool
  pub xenvironment : Option (List ℕ)  -- the one named by XENVIRONMENT
  pub host : Option (List ℕ)  -- the host's.Xdefaults

-- a property of format 8 that isn't empty comes first; else.Xresources if it could be read, even if empty; else.Xdefaults
unfoldable pub first_text : ℕ → List ℕ → Option (List ℕ) → Option (List ℕ) → Option (List ℕ)
first_text format property xresources xdefaults =
    if eqb format 8 && not (is_empty property) then some property else
    or_else xresources xdefaults

-- then comes the named text if XENVIRONMENT is set, else the host's
unfoldable pub second_text : Bool → Option (List ℕ) → Option (List ℕ) → Option (List ℕ)
second_text is_set xenvironment host = if is_set then xenvironment else host

-- a text that couldn't be read adds nothing
unfoldable pub added : Option (List ℕ) → List (List ℕ)
added none = []
added (some text) = text ∷ []

-- the others are not looked at
unfoldable pub texts_used : StartUp → List (List ℕ)
texts_used s =
    added (first_text s.format s.property s.xresources s.xdefaults) ++ added (second_text s.is_set s.xenvironment s.host)

-- the reading at a depth: its limits run over both texts, each of which has the empty folder. A caller that gives no depth gets the greatest,
-- which the Rust has (document 02 (x))
abbrev pub starting : ℕ → StartUp → List ℕ → List ℕ → List ℕ → Outcome
starting depth s archive contents bodies = reading depth (texts_used s) archive contents bodies
