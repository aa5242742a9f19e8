-- A reading with a file struck off the archive.
use Rattle.std.specs.Prelude.{List, ◌≡◌, ℕ, length, Result}
use Rattle.std.proofs.Math.Seq.{paste}
use Rattle.definition.specs.Archive.{struck_off}
use Rattle.definition.specs.Reading.{outcome, reading}
use Rattle.reader.specs.Said.{said}
use Rattle.refusal.specs.declared.Refusal.{Refusal}
use Rattle.reader.specs.declared.Accepted.{Accepted}

-- what striking off and the second reading answer and leave
pub record SecondOf (r : Result Accepted Refusal) (depth : ℕ) (texts : List (List ℕ)) (archive : List ℕ) (file : ℕ) (struck contents bodies struck' contents' bodies' : List ℕ) : Type 0 where
  pub struck_off_left : struck' ≡ paste struck 0 (struck_off file archive) (length (struck_off file archive))
  pub read : outcome (said r) contents' bodies' ≡ reading depth texts (struck_off file archive) contents bodies
