-- Striking a file off: what is left when its lengths, its name and its body are passed over. Assumes nothing.
use mathlib.Core.Bool.{true}
use mathlib.Core.List.{List, ◌++◌, append_assoc}
use mathlib.Core.Path.{◌≡◌, refl, sym, ap, ◌∙◌}
use Prim.Native.Nat.{ℕ, suc, ◌+◌, ◌-◌, ◌≤◌, ◌<◌}
use native.Mathlib.Numerals.{add-one}
use native.Mathlib.Omega.{arith}
use lib.ListN.{length, take, drop, length-append, length-drop}
use lib.Seq.{paste, length-take-le}
use Rattle.definition.specs.Limits.{archive_bytes, archive_files}
use Rattle.definition.specs.Archive.{bytes_of, lengths_of, bodies_of, archive_of, number_at, files_of, laid_out, struck_off}
use Rattle.laws.proofs.Archive.{laid_out_says, length_struck}
use Rattle.archive.specs.declared.Member.{Member}
use Rattle.archive.specs.Walk.{lengths_at, name_start, member_at}
use Rattle.archive.proofs.Walk.{length_files, counted, bodies_append, part_size, member_next}
use Rattle.archive_write.proofs.Stretches.{lengths_append, stretch_sizes, stretch_lengths, stretch_middle, stretch_last, starts_low, start_next, written_first, written_on, written_all}

-- where file j starts, and where it ends
starts_at : (s : List ℕ) (j : ℕ) {m : Member} → m ≡ member_at s j (name_start j s) → m.start ≡ name_start j s
starts_at s j e = ap (λ x. x.start) e

ends_at : (s : List ℕ) (h : laid_out s ≡ true) (j : ℕ) → j < length (files_of s) → {m : Member} → m ≡ member_at s j (name_start j s) → m.end ≡ name_start (j + 1) s
ends_at s h j k e = ap (λ x. x.end) e ∙ member_next s h j k

-- how the numbers lie to each other
pub record Numbers (s : List ℕ) (j count at rest : ℕ) : Type 0 where
  pub more : j < count
  pub low : lengths_at count ≤ at
  pub high : at ≤ rest
  pub inside : rest ≤ length s
  pub left : length (struck_off j s) + (4 + (rest - at)) ≡ length s
  pub short : length s ≤ archive_bytes

module _ (s : List ℕ) (j : ℕ) (h : laid_out s ≡ true) (k : j < length (files_of s)) (count at rest : ℕ) (ec : count ≡ number_at s 0) (ea : at ≡ name_start j s)
    (er : rest ≡ name_start (j + 1) s) where
  abbrev parts : List ℕ
  parts = bytes_of (count - 1) ++ take (lengths_at j - 2) (drop 2 s) ++ take (at - (lengths_at j + 4)) (drop (lengths_at j + 4) s) ++ take (length s - rest) (drop rest s)

  struck_parts : parts ≡ struck_off j s
  unfolding struck_off archive_of
  struck_parts =
      let fs = files_of s in
      let next : lengths_at j + 4 ≡ lengths_at (j + 1) = omega arith in
      let n : length (take j fs ++ drop (suc j) fs) ≡ count - 1 = length-append (take j fs) (drop (suc j) fs) ∙ omega (arith, length-take-le j fs (omega arith), length-drop (suc j) fs, ec, length_files s) in
      rw (
        ea,
        er,
        next,
        stretch_lengths s h j j (omega arith) (omega arith),
        stretch_middle s h (j + 1) j (omega arith) (omega arith),
        stretch_last s h j (j + 1) (omega arith) (omega arith),
        add-one j,
        n,
        lengths_append (take j fs) (drop (suc j) fs),
        bodies_append (take j fs) (drop (suc j) fs),
      ) (regroup (bytes_of (count - 1)) (lengths_of (take j fs)) (lengths_of (drop (suc j) fs)) (bodies_of (take j fs)) (bodies_of (drop (suc j) fs)))
    where
      regroup : (a b c d e : List ℕ) → a ++ b ++ (c ++ d) ++ e ≡ a ++ (b ++ c) ++ (d ++ e)
      regroup a b c d e = simp append_assoc

  numbers : Numbers s j count at rest
  numbers =
      let l = (laid_out_says s h).short in
      let n = start_next s j k in
      record {
        more = omega (arith, ec, length_files s);
        low = omega (arith, ec, length_files s, ea, starts_low s j);
        high = omega (arith, ea, er, n);
        inside = omega (arith, er, stretch_sizes s h j (j + 1) (omega arith) (omega arith));
        left = omega (arith, ea, er, n, length_struck j s h k);
        short = l;
      }

  -- two bytes, then three stretches, each where the one before it ends
  strike_written : (d₀ d₁ d₂ d₃ d₄ : List ℕ) → d₁ ≡ paste d₀ 0 (bytes_of (count - 1)) 2
      → d₂ ≡ paste d₁ 2 (take (lengths_at j - 2) (drop 2 s)) (lengths_at j - 2)
      → d₃ ≡ paste d₂ (lengths_at j) (take (at - (lengths_at j + 4)) (drop (lengths_at j + 4) s)) (at - (lengths_at j + 4))
      → d₄ ≡ paste d₃ (at - 4) (take (length s - rest) (drop rest s)) (length s - rest)
      → (length s - 4 - (rest - at) ≡ length (struck_off j s)) × (d₄ ≡ paste d₀ 0 (struck_off j s) (length s - 4 - (rest - at)))
  strike_written d₀ d₁ d₂ d₃ d₄ e₁ e₂ e₃ e₄ =
      let q = numbers in
      let la : lengths_at j ≡ 2 + (lengths_at j - 2) = omega arith in
      let lb : at - 4 ≡ lengths_at j + (at - (lengths_at j + 4)) = omega arith in
      let lc : length s - 4 - (rest - at) ≡ at - 4 + (length s - rest) = ends at rest (length s) (omega arith) q.high q.inside in
      let w₁ = written_on (written_first d₀) (bytes_of (count - 1)) d₁ 2 2 refl refl e₁ in
      let w₂ = written_on w₁ (take (lengths_at j - 2) (drop 2 s)) d₂ (lengths_at j - 2) (lengths_at j) (sym (part_size s 2 (lengths_at j) (omega arith))) la e₂ in
      let w₃ = written_on w₂ (take (at - (lengths_at j + 4)) (drop (lengths_at j + 4) s)) d₃ (at - (lengths_at j + 4)) (at - 4) (sym (part_size s (lengths_at j + 4) at (omega arith))) lb e₃ in
      let w₄ = written_on w₃ (take (length s - rest) (drop rest s)) d₄ (length s - rest) (length s - 4 - (rest - at)) (sym (part_size s rest (length s) (omega arith))) lc e₄ in
      written_all w₄ (struck_off j s) struck_parts
    where
      ends : (a r n : ℕ) → 4 ≤ a → a ≤ r → r ≤ n → n - 4 - (r - a) ≡ a - 4 + (n - r)
      ends a r n h k m = omega arith

-- the same, by what the calls for the numbers ensure
module _ (s : List ℕ) (j : ℕ) (h : laid_out s ≡ true) (k : j < length (files_of s)) {count : ℕ} (e : (count ≡ length (files_of s)) × (count ≤ archive_files)) {m : Member} (em : m ≡ member_at s j (name_start j s)) where
  pub member_numbers : Numbers s j count m.start m.end
  member_numbers = numbers s j h k count m.start m.end (counted s e).0 (starts_at s j em) (ends_at s h j k em)

  pub member_written : (d₀ d₁ d₂ d₃ d₄ : List ℕ) {row : ℕ} → row ≡ lengths_at j → d₁ ≡ paste d₀ 0 (bytes_of (count - 1)) 2
      → d₂ ≡ paste d₁ 2 (take (row - 2) (drop 2 s)) (row - 2)
      → d₃ ≡ paste d₂ row (take (m.start - (row + 4)) (drop (row + 4) s)) (m.start - (row + 4))
      → d₄ ≡ paste d₃ (m.start - 4) (take (length s - m.end) (drop m.end s)) (length s - m.end)
      → (length s - 4 - (m.end - m.start) ≡ length (struck_off j s)) × (d₄ ≡ paste d₀ 0 (struck_off j s) (length s - 4 - (m.end - m.start)))
  member_written d₀ d₁ d₂ d₃ d₄ er e₁ e₂ e₃ e₄ = strike_written s j h k count m.start m.end (counted s e).0 (starts_at s j em) (ends_at s h j k em) d₀ d₁ d₂ d₃ d₄ e₁ (rw er at e₂) (rw er at e₃) e₄
