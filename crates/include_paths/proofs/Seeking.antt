-- The path that an include looks for, by what was kept of it. Assumes nothing.
use mathlib.Core.Bool.{true, false}
use mathlib.Core.List.{List}
use mathlib.Core.Option.{none}
use mathlib.Core.Path.{◌≡◌, sym, ap, ◌∙◌}
use Prim.Native.Nat.{ℕ, ◌≤◌, ◌<◌}
use native.Mathlib.Omega.{arith}
use lib.ListN.{length, take}
use lib.Seq.{length-take-le}
use Rattle.definition.specs.Limits.{file_name_bytes}
use Rattle.definition.specs.Archive.{split, joined, path_of}
use Rattle.kept_parts.specs.declared.Kept.{Kept}
use Rattle.std.specs.Prelude.{Option, Some, None}
use Rattle.kept_parts.specs.Keeping.{Did, did}
use Rattle.include_paths.specs.Sought.{root, taken_parts, sought_bytes, sought_as, path_in, Within}
use Rattle.include_paths.proofs.Reducing.{no_path, dots_end, long_end, path_end}

module _ (folder name b : List ℕ) (h : length b ≡ file_name_bytes) where
  -- what `path_of` ensures
  abbrev pub Seeks : Option ℕ → List ℕ → Type 0
  Seeks s b' = (s ≡ sought_as (path_of folder name)) × (path_in s b' ≡ path_of folder name) × Within s × (b' ≡ sought_bytes folder name b)

  no_seeking : {b' : List ℕ} → none ≡ path_of folder name → b' ≡ sought_bytes folder name b → Seeks None b'
  unfolding sought_as
  no_seeking e f = (ap sought_as e, e, tt, f)

  module _ {r : Option Kept} {b' : List ℕ} (e : did r b' ≡ taken_parts (split (joined folder name)) root b) where
    left : b' ≡ sought_bytes folder name b
    unfolding sought_bytes
    left = ap (λ (d : Did). d.bytes) e

    answer_is : (taken_parts (split (joined folder name)) root b).answer ≡ r
    answer_is = sym (ap (λ (d : Did). d.answer) e)

    pub seeks_nothing : r ≡ None → Seeks None b'
    seeks_nothing z = no_seeking (no_path folder name b h (answer_is ∙ z)) left

    module _ {m : Kept} (z : r ≡ Some m) where
      pub seeks_dots : m.dots ≡ true → Seeks None b'
      seeks_dots d = no_seeking (dots_end folder name b h m (answer_is ∙ z) d) left

      pub seeks_long : m.dots ≡ false → 0 < m.over → Seeks None b'
      seeks_long d o = no_seeking (long_end folder name b h m (answer_is ∙ z) d o) left

      pub seeks_at : m.dots ≡ false → m.over ≤ 0 → Seeks (Some m.size) b'
      unfolding sought_as
      seeks_at d o =
          let q : (taken_parts (split (joined folder name)) root b).bytes ≡ b' = sym (ap (λ (x : Did). x.bytes) e) in
          let p = rw q at (path_end folder name b h m (answer_is ∙ z) d (omega arith)) in
          let l : length (take m.size b') ≡ m.size = length-take-le m.size b' (omega (arith, p.1)) in
          (ap Some (sym l) ∙ ap sought_as p.0, p.0, p.1.0, left)
