-- `plain_keys::plain_key` meets its contract. Assumes nothing.
use mathlib.Core.Path.{sym, ◌∙◌}
use native.Mathlib.Omega.{arith}
use Rattle.plain_keys.proofs.Ends.{binding_on, ended_rest}
use Rattle.plain_keys.proofs.Keys.{first_most, keying_first, keying_none, keying_over, keying_other, keying_more}
use Rattle.plain_keys.proofs.plain_key.Goals as goal

pub overflow_sub-extra : goal.overflow_sub-extra
overflow_sub-extra c = first_most c.first_name-first.ensures

pub loop-start-init : goal.loop-start-init
loop-start-init c = keying_first c.requires c.first_name-first.ensures

pub bounds-text-i : goal.bounds-text-i
bounds-text-i c = c.loop-start.invariant.inside

pub returns-then-c-eq58 : goal.returns-then-c-eq58
returns-then-c-eq58 c = keying_over c.loop-start.invariant c.loop-start-test.true c.if-c-eq58.true

pub returns-then-not-is_binding : goal.returns-then-not-is_binding
returns-then-not-is_binding c = keying_other c.loop-start.invariant c.loop-start-test.true c.if-c-eq58.false (sym c.is_binding.ensures ∙ c.if-not-is_binding.true)

pub overflow_add-start : goal.overflow_add-start
overflow_add-start c =
    let on = binding_on c.requires _ c.loop-start.invariant.inside (sym c.is_binding.ensures ∙ c.if-not-is_binding.false) in
    omega (arith, on, c.well_formed.1.0.0)

pub slice_bounds-name_length-count : goal.slice_bounds-name_length-count
slice_bounds-name_length-count c =
    let on = binding_on c.requires _ c.loop-start.invariant.inside (sym c.is_binding.ensures ∙ c.if-not-is_binding.false) in
    omega (arith, on)

pub slice_bounds-name_length-start : goal.slice_bounds-name_length-start
slice_bounds-name_length-start c =
    let on = binding_on c.requires _ c.loop-start.invariant.inside (sym c.is_binding.ensures ∙ c.if-not-is_binding.false) in
    omega (arith, on)

pub name_length-requires : goal.name_length-requires
name_length-requires c =
    let on = binding_on c.requires _ c.loop-start.invariant.inside (sym c.is_binding.ensures ∙ c.if-not-is_binding.false) in
    (ended_rest c.requires _ on)

pub overflow_add-i : goal.overflow_add-i
overflow_add-i c =
    let next =
    keying_more c.loop-start.invariant c.loop-start-test.true c.if-c-eq58.false c.requires (sym c.is_binding.ensures ∙ c.if-not-is_binding.false) _
    c.name_length.ensures.0
    in
    omega (arith, next.inside, c.well_formed.1.0.0)

pub overflow_add-count : goal.overflow_add-count
overflow_add-count c =
    let next =
    keying_more c.loop-start.invariant c.loop-start-test.true c.if-c-eq58.false c.requires (sym c.is_binding.ensures ∙ c.if-not-is_binding.false) _
    c.name_length.ensures.0
    in
    omega (arith, next.count_most, next.inside, c.well_formed.1.0.0)

pub loop-start-smaller : goal.loop-start-smaller
loop-start-smaller c =
    let next =
    keying_more c.loop-start.invariant c.loop-start-test.true c.if-c-eq58.false c.requires (sym c.is_binding.ensures ∙ c.if-not-is_binding.false) _
    c.name_length.ensures.0
    in
    omega (arith, next.inside)

pub loop-start-preserved : goal.loop-start-preserved
loop-start-preserved c =
    keying_more c.loop-start.invariant c.loop-start-test.true c.if-c-eq58.false c.requires (sym c.is_binding.ensures ∙ c.if-not-is_binding.false) _
    c.name_length.ensures.0

pub returns : goal.returns
returns c = keying_none c.loop-start.invariant c.loop-start-test.false
