use Rattle.booleans.proofs.Words.{same_words}
use Rattle.booleans.proofs.is_word.Goals as goal

pub returns : goal.returns
returns c = same_words c.args.text.now c.args.word.now _ c.eq_ignore_ascii_case.ensures.test
