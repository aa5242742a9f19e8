-- `plain_values::short_value` meets its contract. Assumes nothing.
use mathlib.Core.Path.{◌≡◌, ◌∙◌}
use native.Mathlib.Omega.{arith}
use Rattle.plain_values.proofs.Values.{copying_first, byte_room, copying_more, copying_done, copying_on}
use Rattle.plain_values.proofs.short_value.Goals as goal

pub loop-i-init : goal.loop-i-init
loop-i-init c = copying_first c.requires.0 c.requires.1

pub bounds-text-i : goal.bounds-text-i
bounds-text-i c = c.loop-i.invariant.inside

pub overflow_add-result : goal.overflow_add-result
overflow_add-result c = omega (arith, byte_room c.requires.0 c.requires.1 c.loop-i.invariant, c.loop-i.invariant.decoding.kept, c.well_formed.1.1.0.0)

pub overflow_add-result-then-c-eq10 : goal.overflow_add-result-then-c-eq10
overflow_add-result-then-c-eq10 c = omega (arith, c.loop-i.invariant.inside, c.well_formed.1.0.0)

pub shape_of-store-then-c-eq10 : goal.shape_of-store-then-c-eq10
shape_of-store-then-c-eq10 c = c.loop-i.invariant.decoding.kept

pub returns-then-c-eq10 : goal.returns-then-c-eq10
returns-then-c-eq10 c = copying_done c.requires.0 c.requires.1 c.loop-i.invariant c.if-c-eq10.true

pub overflow_add-at : goal.overflow_add-at
overflow_add-at c = omega (arith, byte_room c.requires.0 c.requires.1 c.loop-i.invariant, c.loop-i.invariant.decoding.kept, c.well_formed.1.1.0.0)

pub value_on-requires : goal.value_on-requires
value_on-requires c = (omega (arith, c.loop-i.invariant.inside), omega (arith, c.requires.1, c.loop-i.invariant.inside, c.loop-i.invariant.decoding.kept))

pub shape_of-store-then-c-eq92 : goal.shape_of-store-then-c-eq92
shape_of-store-then-c-eq92 c = c.value_on.auto.store ∙ c.loop-i.invariant.decoding.kept

pub returns-then-c-eq92 : goal.returns-then-c-eq92
returns-then-c-eq92 c = copying_on c.requires.0 c.requires.1 c.loop-i.invariant c.value_on.ensures

pub overflow_add-store : goal.overflow_add-store
overflow_add-store c = omega (arith, byte_room c.requires.0 c.requires.1 c.loop-i.invariant, c.loop-i.invariant.decoding.kept, c.well_formed.1.1.0.0)

pub bounds-store-at : goal.bounds-store-at
bounds-store-at c = byte_room c.requires.0 c.requires.1 c.loop-i.invariant

pub loop-i-preserved : goal.loop-i-preserved
loop-i-preserved c = copying_more c.requires.0 c.requires.1 c.loop-i.invariant c.if-c-eq10.false c.if-c-eq92.false

pub overflow_add-at-2 : goal.overflow_add-at-2
overflow_add-at-2 c = omega (arith, byte_room c.requires.0 c.requires.1 c.loop-i.invariant, c.loop-i.invariant.decoding.kept, c.well_formed.1.1.0.0)

pub value_on-requires-2 : goal.value_on-requires-2
value_on-requires-2 c = (omega (arith, c.loop-i.invariant.inside), omega (arith, c.requires.1, c.loop-i.invariant.inside, c.loop-i.invariant.decoding.kept))

pub shape_of-store : goal.shape_of-store
shape_of-store c = c.value_on-2.auto.store ∙ c.loop-i.invariant.decoding.kept

pub returns : goal.returns
returns c =
    let e : c.loop-i.i ≡ 8 = omega arith in
    copying_on c.requires.0 c.requires.1 (rw e at c.loop-i.invariant) c.value_on-2.ensures
