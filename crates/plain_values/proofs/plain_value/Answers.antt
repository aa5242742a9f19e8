-- `plain_values::plain_value` meets its contract. Assumes nothing.
use mathlib.Core.Path.{ap}
use native.Mathlib.Omega.{arith}
use lib.ListN.{length}
use Rattle.values.proofs.Skipping.{blanks_suffix}
use Rattle.plain_values.proofs.Values.{after_pairs, no_pairs}
use Rattle.plain_values.proofs.plain_value.Goals as goal

pub overflow_sub-text : goal.overflow_sub-text
overflow_sub-text c = omega (arith, ap length c.skip_blanks-rest.ensures.0, (blanks_suffix c.args.text.now).most)

pub value_on-requires : goal.value_on-requires
value_on-requires c = (omega arith, omega (arith, c.requires.2))

pub returns-then-text-eq92 : goal.returns-then-text-eq92
returns-then-text-eq92 c = after_pairs _ c.skip_blanks-rest.ensures.0 c.value_on.ensures

pub returns : goal.returns
returns c = no_pairs c.requires.0.some c.requires.1 c.if-text-eq92.false c.short_value.ensures
