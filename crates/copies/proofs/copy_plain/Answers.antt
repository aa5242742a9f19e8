-- `copies::copy_plain` meets its contract. Assumes nothing.
use mathlib.Core.Path.{refl}
use lib.ListN.{length-set}
use borrow.Author.Rules.{rules}
use Rattle.scan.proofs.Runs.{passed_more, passed_stop, passed_all}
use Rattle.copies.specs.Plain.{is_plain}
use Rattle.copies.proofs.Copying.{copied_to, copied_byte, copied_all, plain_byte, newline_ends, backslash_ends}
use Rattle.copies.proofs.copy_plain.Goals as goal

pub loop-i-init : goal.loop-i-init
loop-i-init c = (λ d fits w. w, record { inside = c.copy_plain_blocks-whole.ensures.1; same = c.copy_plain_blocks-whole.ensures.2 }, refl)

pub returns-then-c-eq10 : goal.returns-then-c-eq10
returns-then-c-eq10 c = (
  passed_stop is_plain _ c.loop-i.invariant.1 (search rules) (newline_ends _ c.if-c-eq10.true),
  (c.loop-i.invariant.0 _ c.requires (copied_to _ _ _ c.requires _ _ c.copy_plain_blocks-whole.ensures.1 c.copy_plain_blocks-whole.ensures.0)).same,
)

pub returns-then-c-eq92 : goal.returns-then-c-eq92
returns-then-c-eq92 c = (
  passed_stop is_plain _ c.loop-i.invariant.1 (search rules) (backslash_ends _ c.if-c-eq92.true),
  (c.loop-i.invariant.0 _ c.requires (copied_to _ _ _ c.requires _ _ c.copy_plain_blocks-whole.ensures.1 c.copy_plain_blocks-whole.ensures.0)).same,
)

pub loop-i-preserved : goal.loop-i-preserved
loop-i-preserved c = (
  λ d fits w. copied_byte d _ _ fits (c.loop-i.invariant.0 d fits w) (search rules),
  passed_more is_plain _ c.loop-i.invariant.1 (search rules) (plain_byte _ c.if-c-eq10.false c.if-c-eq92.false),
  simp length-set c.loop-i.invariant.2,
)

pub returns : goal.returns
returns c = (passed_all is_plain _ c.loop-i.invariant.1 c.loop-i-test.false, copied_all _ _ _ c.requires (c.loop-i.invariant.0 _ c.requires (copied_to _ _ _ c.requires _ _ c.copy_plain_blocks-whole.ensures.1 c.copy_plain_blocks-whole.ensures.0)) c.loop-i-test.false)
