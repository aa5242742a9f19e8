-- `query::parse_both` meets its contract: by what the parses say of the parts that they leave. Assumes nothing.
use Rattle.std.proofs.lemmas.Result.{err_from_is_err_and}
use Rattle.query.proofs.Queries.{lent_said, lent_asked, lent_inside}
use Rattle.query.proofs.parse_both.Goals as goal

pub returns-in_err-both : goal.returns-in_err-both
returns-in_err-both g c =
    let p = err_from_is_err_and c.from_residual.result c.from_residual.ensures.1 in
    rw (p.1, p.2) (record {
      query = rw c.in_err-both.was at (lent_asked g.row.BYTES g.row.PARTS _ _ (rw c.new-names.ensures at c.parse_query-a.ensures.fault) (rw c.new-names.ensures at c.parse_query-a.ensures.split)
          (rw c.new-classes.ensures at c.parse_query-b.ensures.fault) (rw c.new-classes.ensures at c.parse_query-b.ensures.split) c.both.ensures c.requires.1);
      inside = tt;
      said = rw c.in_err-both.was at (lent_said g.row.BYTES g.row.PARTS _ _ (rw c.new-names.ensures at c.parse_query-a.ensures.fault) (rw c.new-names.ensures at c.parse_query-a.ensures.split)
          (rw c.new-classes.ensures at c.parse_query-b.ensures.fault) (rw c.new-classes.ensures at c.parse_query-b.ensures.split) c.both.ensures);
    })

pub returns-in-Some : goal.returns-in-Some
returns-in-Some g c =
    record {
      query = rw (c.in_ok-both.was, c.in-Some.is) at (lent_asked g.row.BYTES g.row.PARTS _ _ (rw c.new-names.ensures at c.parse_query-a.ensures.fault) (rw c.new-names.ensures at c.parse_query-a.ensures.split)
          (rw c.new-classes.ensures at c.parse_query-b.ensures.fault) (rw c.new-classes.ensures at c.parse_query-b.ensures.split) c.both.ensures c.requires.1);
      inside = rw (c.in_ok-both.was, c.in-Some.is) at (lent_inside g.row.BYTES g.row.PARTS _ _ (rw c.new-names.ensures at c.parse_query-a.ensures.fault) (rw c.new-names.ensures at c.parse_query-a.ensures.split)
          (rw c.new-classes.ensures at c.parse_query-b.ensures.fault) (rw c.new-classes.ensures at c.parse_query-b.ensures.split) c.both.ensures c.requires.1);
      said = rw (c.in_ok-both.was, c.in-Some.is) at (lent_said g.row.BYTES g.row.PARTS _ _ (rw c.new-names.ensures at c.parse_query-a.ensures.fault) (rw c.new-names.ensures at c.parse_query-a.ensures.split)
          (rw c.new-classes.ensures at c.parse_query-b.ensures.fault) (rw c.new-classes.ensures at c.parse_query-b.ensures.split) c.both.ensures);
    }

pub returns-in-None : goal.returns-in-None
returns-in-None g c =
    record {
      query = rw (c.in_ok-both.was, c.in-None.is) at (lent_asked g.row.BYTES g.row.PARTS _ _ (rw c.new-names.ensures at c.parse_query-a.ensures.fault) (rw c.new-names.ensures at c.parse_query-a.ensures.split)
          (rw c.new-classes.ensures at c.parse_query-b.ensures.fault) (rw c.new-classes.ensures at c.parse_query-b.ensures.split) c.both.ensures c.requires.1);
      inside = tt;
      said = rw (c.in_ok-both.was, c.in-None.is) at (lent_said g.row.BYTES g.row.PARTS _ _ (rw c.new-names.ensures at c.parse_query-a.ensures.fault) (rw c.new-names.ensures at c.parse_query-a.ensures.split)
          (rw c.new-classes.ensures at c.parse_query-b.ensures.fault) (rw c.new-classes.ensures at c.parse_query-b.ensures.split) c.both.ensures);
    }
