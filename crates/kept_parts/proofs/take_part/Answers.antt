-- `kept_parts::take_part` meets its contract. Assumes nothing.
use mathlib.Core.Path.{sym, ap, ◌∙◌}
use Rattle.std.specs.Prelude.{Some}
use Rattle.kept_parts.specs.Keeping.{did}
use Rattle.kept_parts.proofs.Storing.{part_empty, part_dot, part_up, part_name}
use Rattle.kept_parts.proofs.take_part.Goals as goal

pub returns-then-is_dot : goal.returns-then-is_dot
returns-then-is_dot c = part_dot _ _ _ c.if-part-eq0.false (sym c.is_dot.ensures ∙ c.if-is_dot.true)

pub returns-then-is_dot_dot : goal.returns-then-is_dot_dot
returns-then-is_dot_dot c =
    ap (λ r. did r c.args.path.now) c.remove_part.ensures
    ∙ part_up c.args.part.now c.args.kept c.args.path.now c.if-part-eq0.false
    (sym c.is_dot.ensures ∙ c.if-is_dot.false) (sym c.is_dot_dot.ensures ∙ c.if-is_dot_dot.true)

pub returns : goal.returns
returns c =
    ((λ i. did (Some (c.add_part.ensures.0 i)) (c.add_part.ensures.1 i))
    ∙ part_name c.args.part.now c.args.kept c.args.path.now c.if-part-eq0.false
    (sym c.is_dot.ensures ∙ c.if-is_dot.false) (sym c.is_dot_dot.ensures ∙ c.if-is_dot_dot.false))

pub returns-then-part-eq0 : goal.returns-then-part-eq0
returns-then-part-eq0 c = part_empty _ _ _ c.if-part-eq0.true
