-- What is told of a text, include by include: as `include_lines::next_include` gives them, and `look_for` says what each finds. Assumes nothing.
use Rattle.std.specs.Prelude.{if◌then◌else◌}
use mathlib.Core.Bool.{Bool, true, false}
use mathlib.Core.List.{List, [], ◌∷◌, ◌++◌, map}
use mathlib.Core.Path.{◌≡◌, refl, ◌∙◌}
use Prim.Native.Nat.{ℕ}
use Rattle.definition.specs.Lists.{filter}
use Rattle.definition.specs.Archive.{File, files_of}
use Rattle.include_lines.specs.Includes.{includes_of}
use Rattle.missing.specs.Missing.{seen, is_missing, told, missing_of}
use Rattle.missing.specs.Looking.{saying, Looks}
use Rattle.missing.specs.declared.Look.{Look}

module _ (fs : List File) (folder t : List ℕ) where
  pub told_end : includes_of t ≡ [] → missing_of fs folder t ≡ []
  unfolding missing_of filter
  told_end e = rw e refl

  pub told_next : (name u : List ℕ) → includes_of t ≡ name ∷ includes_of u → missing_of fs folder t ≡ told (seen fs folder name) ++ missing_of fs folder u
  unfolding missing_of told filter
  told_next name u e = rw e (at (is_missing (seen fs folder name)))
    where
      at : (b : Bool) → (if b then seen fs folder name ∷ filter is_missing (map (seen fs folder) (includes_of u)) else filter is_missing (map (seen fs folder) (includes_of u)))
          ≡ (if b then seen fs folder name ∷ [] else []) ++ filter is_missing (map (seen fs folder) (includes_of u))
      at true = refl
      at false = refl

-- by the answer of `look_for`
pub told_look : {s folder name path path' : List ℕ} {r : Look} (t u : List ℕ) → includes_of t ≡ name ∷ includes_of u → Looks s folder name path path' r
    → missing_of (files_of s) folder t ≡ told (saying s name path' r) ++ missing_of (files_of s) folder u
told_look {s} {folder} {name} t u e l = told_next (files_of s) folder t name u e ∙ rw l.says refl
