-- `argument_words::depth_of` meets its contract. Assumes nothing.
use Rattle.std.proofs.Common.{◌≡◌, ℕ, ap, sym, ◌∙◌, refl}
use Rattle.std.specs.Prelude.{Option, Some, None}
use Rattle.integers.specs.Readings.{natural_in}
use Rattle.argument_words.specs.Words.{depth_in, depth_of}
use Rattle.argument_words.proofs.depth_of.Goals as goal

as_given : (o : Option ℕ) → depth_in (natural_in o) ≡ o
unfolding depth_in natural_in
as_given (Some n) = refl
as_given None = refl

pub returns : goal.returns
unfolding depth_of
returns c = sym (as_given _) ∙ ap depth_in c.parse_natural.ensures
