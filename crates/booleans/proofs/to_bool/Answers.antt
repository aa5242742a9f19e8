use borrow.Author.Rules.{rules}
use mathlib.Core.Path.{◌∙◌}
use mir.Syntax.{w64}
use mir.Val.{SFits}
use Rattle.booleans.proofs.Words.{truth_word, truth_number}
use Rattle.booleans.proofs.to_bool.Goals as goal

pub returns-in-None : goal.returns-in-None
returns-in-None c = c.word_to_bool.ensures ∙ truth_word c.args.text.now c.in-None.ensures

pub returns-in-Some : goal.returns-in-Some
returns-in-Some c = let fits : SFits w64 c.in-Some.number = search rules in truth_number c.args.text.now c.in-Some.number fits c.in-Some.ensures
