-- `key_judge::walk_key` meets its contract. The invariant: the whole is a key if what is left ends one. Assumes nothing.
use mathlib.Core.Path.{sym, ◌∙◌}
use Prim.Native.Nat.{◌≤◌}
use native.Mathlib.Omega.{arith}
use lib.ListN.{length}
use borrow.Author.Tests.{not-true, not-false}
use Rattle.laws.proofs.Lists.{length_part_rest}
use Rattle.key_judge.proofs.Keys.{key_whole, key_short, key_unbound, key_full, past, Begins, run_inside, last_name, last_wild, none_here, wild_on, name_on}
use Rattle.key_judge.proofs.walk_key.Goals as goal
use Rattle.key_judge.proofs.walk_key.Goals.{After-next_component-n, Joined-n-eq0, then-n-eq0+else-component-ne63, else-n-eq0}

-- what is left begins with a binding, and behind it are n bytes of a component
begins : (c : After-next_component-n) → Begins c.loop-parts.rest.now c.next_component-n.result
begins c = record {
  long = c.if-rest-lt2.false;
  bound = sym c.is_binding.ensures ∙ not-false _ c.if-not-is_binding.false-raw;
  run = c.next_component-n.ensures;
}

-- the component, a name or a wildcard, is in the key
inside : (c : Joined-n-eq0) → Begins c.loop-parts.rest.now c.next_component-n.result → c.if-n-eq0.n ≤ length (past c.loop-parts.rest.now 1)
inside c s =
    elim c.if-n-eq0.branch [
      | then-n-eq0+else-component-ne63 w ↦ omega (arith, w.n-is, length_part_rest c.loop-parts.rest.now 1, s.long)
      | else-n-eq0 w ↦ omega (arith, w.n-is, run_inside s)
    ]

pub loop-parts-init : goal.loop-parts-init
loop-parts-init c = key_whole _

pub returns-then-rest-lt2 : goal.returns-then-rest-lt2
returns-then-rest-lt2 c = sym (c.loop-parts.invariant ∙ key_short c.loop-parts._parts c.loop-parts.rest.now c.if-rest-lt2.true)

pub returns-then-not-is_binding : goal.returns-then-not-is_binding
returns-then-not-is_binding c =
    sym
    (c.loop-parts.invariant
    ∙ key_unbound c.loop-parts._parts c.loop-parts.rest.now (sym c.is_binding.ensures ∙ not-true _ c.if-not-is_binding.true-raw))

pub returns-then-component-ne63 : goal.returns-then-component-ne63
returns-then-component-ne63 c =
    sym (c.loop-parts.invariant ∙ none_here (begins (goal.at.returns-then-component-ne63 c).After-next_component-n) c.loop-parts._parts c.if-n-eq0.true (λ e. omega (arith, c.if-component-ne63.true)))

pub returns-then-n-component : goal.returns-then-n-component
returns-then-n-component c =
    let s = begins (goal.at.returns-then-n-component c).After-next_component-n in
    sym
    (c.loop-parts.invariant
    ∙ elim c.if-n-eq0.branch [
      | then-n-eq0+else-component-ne63 w ↦ last_wild s c.loop-parts._parts (omega (arith, w.if-component-ne63.false)) (sym w.n-is ∙ c.if-n-component.true)
      | else-n-eq0 w ↦ last_name s c.loop-parts._parts w.if-n-eq0.false (sym w.n-is ∙ c.if-n-component.true) (omega (arith, c.loop-parts-test.true))
    ])

pub loop-parts-preserved : goal.loop-parts-preserved
loop-parts-preserved c =
    let s = begins (goal.at.loop-parts-preserved c).After-next_component-n in
    c.loop-parts.invariant
    ∙ elim c.if-n-eq0.branch [
      | then-n-eq0+else-component-ne63 w ↦ rw w.n-is (wild_on s c.loop-parts._parts (omega (arith, w.if-component-ne63.false)))
      | else-n-eq0 w ↦ rw w.n-is (name_on s c.loop-parts._parts w.if-n-eq0.false (λ e. c.if-n-component.false (w.n-is ∙ e)))
    ]

pub returns : goal.returns
returns c = sym (c.loop-parts.invariant ∙ key_full c.loop-parts._parts c.loop-parts.rest.now (omega (arith, c.loop-parts-test.false)))

pub slice_bounds-rest-count : goal.slice_bounds-rest-count
slice_bounds-rest-count c =
    let at = goal.at.slice_bounds-rest-count c in
    inside at.Joined-n-eq0 (begins at.After-next_component-n)

pub slice_bounds-rest-start : goal.slice_bounds-rest-start
slice_bounds-rest-start c =
    let at = goal.at.slice_bounds-rest-start c in
    inside at.Joined-n-eq0 (begins at.After-next_component-n)
