-- No files are two zeroes. Assumes nothing.
use Rattle.std.proofs.Common.{◌≡◌, ℕ, length, refl, arith}
use Rattle.std.proofs.Math.ListN.{length-replicate}
use Rattle.std.specs.Prelude.{replicate, suc}
use Rattle.archive_add.proofs.Adding.{none_laid}
use Rattle.loading.specs.Loading.{Holds}
use Rattle.loading.proofs.Files.new.Goals as goal

two_zeroes : (n : ℕ) → Holds (replicate (suc (suc n)) 0) 2
two_zeroes n =
    let long : length (replicate (suc (suc n)) 0) ≡ suc (suc n) = length-replicate {A = ℕ} (suc (suc n)) 0 in
    record { counts = (omega (arith, long), refl); laid = none_laid }

pub invariant_of-result : goal.invariant_of-result
invariant_of-result c = record { held = two_zeroes 65534 }
