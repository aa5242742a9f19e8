-- Blanks in a text that ends with a newline. Assumes nothing.
use mathlib.Core.Bool.{true, false}
use mathlib.Core.List.{List}
use mathlib.Core.Path.{◌≡◌, refl, ap, ◌∙◌}
use Prim.Native.Nat.{ℕ, ◌+◌, ◌<◌}
use lib.ListN.{length, get_or}
use Rattle.definition.specs.Bytes.{is_blank}
use Rattle.laws.proofs.Lists.{not_both}
use Rattle.scan.proofs.Runs.{Passed, passed_none, passed_more, passed_stop}
use Rattle.values.proofs.Skipping.{Dropping, dropping_none, dropping_blank}
use Rattle.plain_keys.specs.Ended.{Ended}
use Rattle.plain_keys.proofs.Ends.{goes_on}
use Rattle.plain_values.specs.Values.{BlanksFirst}

-- the first i are blanks, and the text goes on
pub record Blank (t : List ℕ) (i : ℕ) : Type 0 where
  pub run : Passed is_blank t i
  pub dropped : Dropping t i
  pub inside : i < length t

pub blank_first : {t : List ℕ} → Ended t → Blank t 0
blank_first {t} e = record { run = passed_none is_blank t; dropped = dropping_none t; inside = e.some }

pub blank_more : {t : List ℕ} → Ended t → {i : ℕ} → Blank t i → is_blank (get_or t i 0) ≡ true → Blank t (i + 1)
blank_more {t} e {i} b f = record {
  run = passed_more is_blank t b.run b.inside f;
  dropped = dropping_blank b.dropped b.inside f;
  inside = goes_on e i b.inside (λ k. not_both f (ap is_blank k ∙ unfold is_blank in refl));
}

pub blank_over : {t : List ℕ} {i : ℕ} → Blank t i → is_blank (get_or t i 0) ≡ false → BlanksFirst t i
blank_over {t} b f = record { run = passed_stop is_blank t b.run b.inside f; same = b.dropped.same; stop = f; inside = b.inside }
