-- `archive::member_at` meets its contract. Assumes nothing.
use mathlib.Core.Path.{refl}
use Rattle.archive.proofs.member_at.Goals as goal

pub returns : goal.returns
returns c = rw (c.word_at-2.ensures.0, c.word_at.ensures.0, c.lengths_at-lengths.ensures) refl
