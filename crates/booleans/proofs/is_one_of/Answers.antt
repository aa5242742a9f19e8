use mathlib.Core.List.{List, map}
use mathlib.Core.Path.{sym, ◌∙◌}
use Prim.Native.Nat.{ℕ}
use Rattle.definition.specs.Lists.{same}
use Rattle.definition.specs.Value.{lowercase}
use Rattle.booleans.proofs.Words.{first_of_three, second_of_three, third_of_three}
use Rattle.booleans.proofs.is_one_of.Goals as goal
use Rattle.booleans.proofs.is_one_of.Goals.{then-is_word, else-is_word}

pub returns-then-is_word-2 : goal.returns-then-is_word-2
returns-then-is_word-2 c =
    let is = λ (w : List ℕ). same (map lowercase c.args.text.now) (map lowercase w) in
    c.if-is_word-2.true
    ∙ elim c.if-is_word.branch [
      | then-is_word w ↦ sym (first_of_three is c.args.a.now c.args.b.now c.args.c.now (sym w.if-is_word.ensures))
      | else-is_word w ↦ sym (second_of_three is c.args.a.now c.args.b.now c.args.c.now (sym w.if-is_word.ensures) (cc))
    ]

pub returns-else-is_word-2 : goal.returns-else-is_word-2
returns-else-is_word-2 c =
    let is = λ (w : List ℕ). same (map lowercase c.args.text.now) (map lowercase w) in
    c.is_word-else-is_word-2.ensures
    ∙ elim c.if-is_word.branch [
      | then-is_word w ↦ absurd (cc)
      | else-is_word w ↦ sym (third_of_three is c.args.a.now c.args.b.now c.args.c.now (sym w.if-is_word.ensures) (cc))
    ]
