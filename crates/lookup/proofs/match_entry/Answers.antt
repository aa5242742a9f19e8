-- `lookup::match_entry` meets its contract. Assumes nothing.
use Rattle.lookup.proofs.Looking.{begun_none, best_none}
use Rattle.lookup.proofs.match_entry.Goals as goal

pub search-requires : goal.search-requires
search-requires g c = (c.requires.2, rw c.no_row-held.ensures (begun_none _ _))

pub returns : goal.returns
returns g c = record {
  number = rw (
    c.no_row-held.ensures,
    best_none,
    c.names-n.ensures.text,
    c.names-n.ensures.starts,
    c.names-n.ensures.lengths,
    c.names-c.ensures.text,
    c.names-c.ensures.starts,
    c.names-c.ensures.lengths,
  ) at c.search.ensures.number;
  below = c.search.ensures.below;
}
