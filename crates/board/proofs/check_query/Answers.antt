-- `board::check_query` meets its contract. Assumes nothing.
use mathlib.Core.Path.{sym, ap, ◌∙◌}
use Rattle.std.proofs.lemmas.Result.{err_from_is_err_and}
use Rattle.definition.specs.Board.{checked}
use Rattle.definition.specs.Query.{Query}
use Rattle.board.proofs.Calling.{checked_ok, checked_err}
use Rattle.board.proofs.check_query.Goals as goal

pub returns-in_err-parse_both : goal.returns-in_err-parse_both
returns-in_err-parse_both c =
    let p = err_from_is_err_and c.from_residual.result c.from_residual.ensures.1 in
    rw (p.1, p.2) (sym (checked_err c.args.number _) ∙ ap (λ (q : Query). checked c.args.number q) c.in_err-parse_both.ensures.query)

pub returns : goal.returns
returns c = sym (checked_ok c.args.number c.args.name.now c.args.class.now _) ∙ ap (λ (q : Query). checked c.args.number q) c.in_ok-parse_both.ensures.query
