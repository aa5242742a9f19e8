-- `entry_text::escapes_in` meets its contract. Assumes nothing.
use mathlib.Core.Path.{◌∙◌}
use native.Mathlib.Omega.{arith}
use borrow.Author.Rules.{rules}
use Rattle.std.specs.Slice.Iter.{chunks_rest}
use Rattle.entry_text.proofs.Texts.{counted_none, counted_part, counted_few, counted_all}
use Rattle.entry_text.proofs.escapes_in.Goals as goal

pub loop-part-init : goal.loop-part-init
loop-part-init c =
    let e = c.into_iter-part-iterator.ensures.into_iter_gives in
    (search rules, tt, rw (e, c.chunks-part-items.ensures.size) (omega arith), rw (e, c.chunks-part-items.ensures.rest) (counted_none _))

pub escapes_of-requires : goal.escapes_of-requires
escapes_of-requires c = omega (arith, c.in-Some.ensures.steps.1.1, c.loop-part.invariant.2)

pub overflow_add-n : goal.overflow_add-n
overflow_add-n c =
    omega (
      arith,
      counted_few
          (counted_part c.loop-part.invariant.3 c.in-Some.part.now (chunks_rest c.next.new.self) c.in-Some.ensures.steps.1.0 _ (c.from-n.ensures ∙ c.escapes_of.ensures)),
      c.well_formed,
    )

pub loop-part-preserved : goal.loop-part-preserved
loop-part-preserved c =
    let steps = c.in-Some.ensures.steps in (
      search rules,
      tt,
      rw steps.0 c.loop-part.invariant.2,
      counted_part c.loop-part.invariant.3 _ _ steps.1.0 _ (c.from-n.ensures ∙ c.escapes_of.ensures),
    )

pub returns : goal.returns
returns c = counted_all c.loop-part.invariant.3 c.in-None.ensures.steps.1.0
