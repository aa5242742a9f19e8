-- `sources::second_source` meets its contract. Assumes nothing.
use borrow.Author.Rules.{rules}
use Rattle.sources.specs.Lending.{second_source}
use Rattle.sources.proofs.second_source.Goals as goal

pub returns-then-xenvironment_set : goal.returns-then-xenvironment_set
unfolding second_source
returns-then-xenvironment_set c = search rules

pub returns : goal.returns
unfolding second_source
returns c = search rules
