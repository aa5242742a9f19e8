-- `refusals::reason_of` meets its contract: what is left is the number of no refusal. Assumes nothing.
use Rattle.std.proofs.Common.{rules, tests}
use Rattle.refusals.specs.Refusals.{refusal_of}
use Rattle.refusals.proofs.reason_of.Goals as goal

pub returns-in_default : goal.returns-in_default
unfolding refusal_of
returns-in_default c = search (rules, tests)
