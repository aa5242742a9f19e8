-- `lookup::search` meets its contract: going on from entry i with the best so far comes to what is looked for. Assumes nothing.
use mathlib.Core.Path.{sym, ◌∙◌}
use native.Mathlib.Omega.{arith}
use Rattle.key_end.proofs.Ends.{refused}
use Rattle.lookup.proofs.Looking.{queried_long, searching_first, searching_ends, passes, loses, goes_on, stops}
use Rattle.lookup.proofs.search.Goals as goal
use Rattle.lookup.proofs.search.Goals.{then-may_match+then-consider+else-first, then-may_match+else-consider, else-may_match}

pub loop-i-init : goal.loop-i-init
loop-i-init c = record { searching = searching_first _ _ _ _ _ _ _ _ c.requires.1; below = tt }

pub key-key-requires : goal.key-key-requires
key-key-requires c = omega (arith, c.loop-i-test.true, c.requires.0)

pub returns-then-first : goal.returns-then-first
returns-then-first c =
    let k = c.key-key.ensures.0 in
    let s = stops _ _ _ _ _ _ _ _ _ _ _ c.loop-i.invariant.searching c.loop-i-test.true (queried_long _ _ _ _ _ _ _) _
    (rw k at c.consider.ensures.0) _ (rw k at c.consider.ensures.1) c.if-consider.true c.if-first.true in
    record { number = s.0; below = c.loop-i-test.true; held = s.1; holds = s.2 }

pub loop-i-preserved : goal.loop-i-preserved
loop-i-preserved c =
    let k = c.key-key.ensures.0 in
    let s = c.loop-i.invariant.searching in
    elim c.if-may_match.branch [
      | then-may_match+then-consider+else-first w ↦ rw (w.held-is, w.found-is) (record {
        searching = goes_on _ _ _ _ _ _ _ _ _ _ _ s c.loop-i-test.true (queried_long _ _ _ _ _ _ _) _ (rw k at w.consider.ensures.0) _ (rw k at w.consider.ensures.1) w.if-consider.true w.if-first.false;
        below = c.loop-i-test.true;
      })
      | then-may_match+else-consider w ↦ rw (w.held-is, w.found-is) (record {
        searching = loses _ _ _ _ _ _ _ _ _ _ _ s c.loop-i-test.true (queried_long _ _ _ _ _ _ _) _ (rw k at w.consider.ensures.0) _ (rw k at w.consider.ensures.1) w.if-consider.false;
        below = c.loop-i.invariant.below;
      })
      | else-may_match w ↦ rw (w.held-is, w.found-is) (record {
        searching = passes _ _ _ _ _ _ _ _ _ _ _ s c.loop-i-test.true
            (rw k at (refused _ c.key-key.ensures.1 _ _ (sym c.may_match.ensures ∙ w.if-may_match.false) _ _ _ _ _ _ c.args.name.now.inside c.args.class.now.inside
            (rw c.count_positions-len.ensures at c.last_part-n.ensures) (rw c.count_positions-len.ensures at c.last_part-c.ensures)));
        below = c.loop-i.invariant.below;
      })
    ]

pub returns : goal.returns
returns c =
    let s = searching_ends _ _ _ _ _ _ _ _ _ _ _ c.loop-i.invariant.searching c.loop-i-test.false in
    record { number = s.0; below = c.loop-i.invariant.below; held = s.1; holds = s.2 }
