-- `answers_without::answer_twice` meets its contract. Assumes nothing.
use Rattle.answers_without.proofs.answer_twice.Goals as goal

pub returns : goal.returns
returns c = rw (← c.number_of-number.ensures) c.compare_file.ensures
