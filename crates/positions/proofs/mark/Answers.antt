-- `positions::mark` meets its contract: each way out is one law of marks. Assumes nothing.
use mathlib.Core.Path.{◌∙◌}
use Rattle.positions.specs.Parts.{position_of}
use Rattle.positions.proofs.Marking.{same_part, by_wildcard, by_instance, by_class, by_none}
use Rattle.positions.proofs.mark.Goals as goal

pub returns-then-key-s-eq63 : goal.returns-then-key-s-eq63
returns-then-key-s-eq63 c =
    let q = position_of c.args.n.now c.args.c.now in
    by_wildcard c.args.key.now c.args.b c.args.e c.requires.0 q _ c.if-key-s-eq63.true c.mark_of.ensures

pub returns-then-same_text : goal.returns-then-same_text
returns-then-same_text c =
    let q = position_of c.args.n.now c.args.c.now in
    by_instance c.args.key.now c.args.b c.args.e c.requires.0 q c.if-key-s-eq63.false _
    (same_part c.args.key.now c.args.b c.args.e c.requires.0 q c.requires.1 c.args.n.now _ c.same_text.ensures ∙ c.if-same_text.true) c.mark_of-then-same_text.ensures

pub returns-then-same_text-2 : goal.returns-then-same_text-2
returns-then-same_text-2 c =
    let q = position_of c.args.n.now c.args.c.now in
    by_class c.args.key.now c.args.b c.args.e c.requires.0 q c.if-key-s-eq63.false
    (same_part c.args.key.now c.args.b c.args.e c.requires.0 q c.requires.1 c.args.n.now _ c.same_text.ensures ∙ c.if-same_text.false) _
    (same_part c.args.key.now c.args.b c.args.e c.requires.0 q c.requires.1 c.args.c.now _ c.same_text-2.ensures ∙ c.if-same_text-2.true) c.mark_of-then-same_text-2.ensures

pub returns : goal.returns
returns c =
    let q = position_of c.args.n.now c.args.c.now in
    by_none c.args.key.now c.args.b c.args.e c.requires.0 q c.if-key-s-eq63.false
    (same_part c.args.key.now c.args.b c.args.e c.requires.0 q c.requires.1 c.args.n.now _ c.same_text.ensures ∙ c.if-same_text.false)
    (same_part c.args.key.now c.args.b c.args.e c.requires.0 q c.requires.1 c.args.c.now _ c.same_text-2.ensures ∙ c.if-same_text-2.false)
