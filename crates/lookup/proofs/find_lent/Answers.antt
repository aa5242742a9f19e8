-- `lookup::find_lent` meets its contract: what the query decides, and the search. Assumes nothing.
use Rattle.std.proofs.lemmas.Result.{err_from_is_err_and}
use mathlib.Core.Path.{sym, ◌∙◌}
use native.Mathlib.Omega.{arith}
use Rattle.definition.specs.Limits.{window_bytes, window_parts}
use Rattle.query.proofs.Queries.{lent_asked, lent_in, both_good}
use Rattle.lookup.proofs.Looking.{begun_none, best_none, in_past, in_malformed, in_found}
use Rattle.lookup.proofs.find_lent.Goals as goal

pub returns-in_err-both-clause-found : goal.returns-in_err-both-clause-found
returns-in_err-both-clause-found c =
    let p = err_from_is_err_and c.from_residual.result c.from_residual.ensures.1 in
    rw (p.1, p.2) (in_past _ _ _ _ _ _ _ (rw c.in_err-both.was at (lent_asked window_bytes window_parts _ _ (rw c.new-names.ensures at c.parse_query-a.ensures.fault) (rw c.new-names.ensures at c.parse_query-a.ensures.split)
    (rw c.new-classes.ensures at c.parse_query-b.ensures.fault) (rw c.new-classes.ensures at c.parse_query-b.ensures.split) c.both.ensures (omega arith))))

pub returns-in_default-clause-found : goal.returns-in_default-clause-found
returns-in_default-clause-found c = in_malformed _ _ _ _ _ _ (rw (c.in_ok-both.was, c.in_default.is) at (lent_asked window_bytes window_parts _ _ (rw c.new-names.ensures at c.parse_query-a.ensures.fault) (rw c.new-names.ensures at c.parse_query-a.ensures.split)
    (rw c.new-classes.ensures at c.parse_query-b.ensures.fault) (rw c.new-classes.ensures at c.parse_query-b.ensures.split) c.both.ensures (omega arith)))

pub names-name-requires : goal.names-name-requires
names-name-requires c =
    let good = both_good _ _ _ (sym c.both.ensures ∙ rw c.in-Some.is at c.in_ok-both.was) in
    (omega arith, lent_in window_bytes window_parts _ (rw c.new-names.ensures at c.parse_query-a.ensures.fault) (rw c.new-names.ensures at c.parse_query-a.ensures.split) (omega arith) good.0)

pub names-class-requires : goal.names-class-requires
names-class-requires c =
    let good = both_good _ _ _ (sym c.both.ensures ∙ rw c.in-Some.is at c.in_ok-both.was) in
    (omega arith, lent_in window_bytes window_parts _ (rw c.new-classes.ensures at c.parse_query-b.ensures.fault) (rw c.new-classes.ensures at c.parse_query-b.ensures.split) (omega arith) good.1)

pub search-requires : goal.search-requires
search-requires c = (omega (arith, c.count-last.ensures.0), rw c.no_row-held.ensures (begun_none _ _))

pub returns : goal.returns
returns c = record {
  found = in_found _ _ _ _ _ _ _ (rw (c.in_ok-both.was, c.in-Some.is) at (lent_asked window_bytes window_parts _ _ (rw c.new-names.ensures at c.parse_query-a.ensures.fault) (rw c.new-names.ensures at c.parse_query-a.ensures.split)
      (rw c.new-classes.ensures at c.parse_query-b.ensures.fault) (rw c.new-classes.ensures at c.parse_query-b.ensures.split) c.both.ensures (omega arith))) _
      (rw (c.no_row-held.ensures, best_none, c.count-last.ensures.0, c.names-name.ensures.text, c.names-name.ensures.starts, c.names-name.ensures.lengths, c.names-class.ensures.text, c.names-class.ensures.starts, c.names-class.ensures.lengths) at c.search.ensures.number)
      (rw c.count-last.ensures.0 at c.search.ensures.below);
  below = rw c.count-last.ensures.0 at c.search.ensures.below;
}
