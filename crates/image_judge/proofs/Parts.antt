-- A row's key and value, as code takes them from the bodies of an image. Assumes nothing.
use mathlib.Core.Bool.{true}
use mathlib.Core.List.{List}
use mathlib.Core.Path.{◌≡◌, ap, ◌∙◌}
use Prim.Native.Nat.{ℕ, ◌+◌, ◌-◌, ◌≤◌, ◌<◌}
use native.Mathlib.Omega.{arith}
use lib.ListN.{length, take, drop, length-take}
use Rattle.definition.specs.Limits.{body_bytes}
use Rattle.definition.specs.Image.{count_of, value_end, key_at, value_at, is_key, is_image}
use Rattle.laws.proofs.Lists.{part_slice}
use Rattle.image.specs.declared.Row.{Row}
use Rattle.image.specs.Rows.{row_start, row_at, RowIs}
use Rattle.image_judge.proofs.Judged.{judged}

pub rows_inside : (contents bodies : List ℕ) (i : ℕ) → is_image contents bodies ≡ true → i < count_of contents → row_start (i + 1) ≤ length contents
rows_inside contents bodies i image h = omega (arith, (judged contents bodies image).rows_within)

module _ (contents bodies : List ℕ) (i : ℕ) (r : Row) (e : RowIs contents i r) where
  pub key_part_lem : take (r.start + r.key - r.start) (drop r.start bodies) ≡ key_at bodies (row_at contents i)
  key_part_lem = part_slice bodies r.start (r.start + r.key) ∙ ap (key_at bodies) e.is

  pub value_part_lem : take (r.start + r.key + r.value - (r.start + r.key)) (drop (r.start + r.key) bodies) ≡ value_at bodies (row_at contents i)
  value_part_lem = part_slice bodies (r.start + r.key) (r.start + r.key + r.value) ∙ ap (value_at bodies) e.is

  module _ (image : is_image contents bodies ≡ true) (h : i < count_of contents) where
    pub row_within : r.start + r.key + r.value ≤ length bodies
    row_within =
        let j = judged contents bodies image in
        omega (arith, ap value_end e.is, j.row_inside i h, j.used_most, j.bodies_long)

    pub key_within : r.start + r.key ≤ length bodies
    key_within = omega (arith, row_within)

    pub key_is : is_key (take (r.start + r.key - r.start) (drop r.start bodies)) ≡ true
    key_is = rw key_part_lem ((judged contents bodies image).row_key i h)

    pub key_short : length (take (r.start + r.key - r.start) (drop r.start bodies)) ≤ body_bytes
    key_short =
        let j = judged contents bodies image in
        let v : r.start + r.key + r.value ≡ value_end (row_at contents i) = ap value_end e.is in
        omega (arith, length-take (r.start + r.key - r.start) (drop r.start bodies), v, j.row_inside i h, j.used_most)
