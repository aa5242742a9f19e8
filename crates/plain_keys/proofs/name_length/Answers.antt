-- `plain_keys::name_length` meets its contract: four bytes in a turn. Assumes nothing.
use mathlib.Core.Path.{sym, ◌∙◌}
use native.Mathlib.Omega.{arith}
use Rattle.plain_keys.proofs.Ends.{naming_first, naming_more, naming_over}
use Rattle.plain_keys.proofs.name_length.Goals as goal

pub loop-i-preserved : goal.loop-i-preserved
loop-i-preserved c =
    let one = naming_more c.requires c.loop-i.invariant (sym c.allowed_in_quark_name.ensures ∙ c.if-not-allowed_in_quark_name.false) in
    let two = naming_more c.requires one (sym c.allowed_in_quark_name-in-loop-i.ensures ∙ c.if-not-allowed_in_quark_name-2.false) in
    let three = naming_more c.requires two (sym c.allowed_in_quark_name-in-loop-i-2.ensures ∙ c.if-not-allowed_in_quark_name-3.false) in
    naming_more c.requires three
    (sym c.allowed_in_quark_name-in-loop-i-3.ensures ∙ c.if-not-allowed_in_quark_name-4.false)

pub loop-i-init : goal.loop-i-init
loop-i-init c = naming_first c.requires

pub bounds-text-i : goal.bounds-text-i
bounds-text-i c = c.loop-i.invariant.inside

pub returns-then-not-allowed_in_quark_name : goal.returns-then-not-allowed_in_quark_name
returns-then-not-allowed_in_quark_name c = naming_over c.loop-i.invariant (sym c.allowed_in_quark_name.ensures ∙ c.if-not-allowed_in_quark_name.true)

pub overflow_add-i : goal.overflow_add-i
overflow_add-i c = omega (arith, c.loop-i.invariant.inside, c.well_formed.1.0.0)

pub bounds-text-i-in-loop-i : goal.bounds-text-i-in-loop-i
bounds-text-i-in-loop-i c =
    let one = naming_more c.requires c.loop-i.invariant (sym c.allowed_in_quark_name.ensures ∙ c.if-not-allowed_in_quark_name.false) in
    one.inside

pub returns-then-not-allowed_in_quark_name-2 : goal.returns-then-not-allowed_in_quark_name-2
returns-then-not-allowed_in_quark_name-2 c =
    let one = naming_more c.requires c.loop-i.invariant (sym c.allowed_in_quark_name.ensures ∙ c.if-not-allowed_in_quark_name.false) in
    naming_over one (sym c.allowed_in_quark_name-in-loop-i.ensures ∙ c.if-not-allowed_in_quark_name-2.true)

pub overflow_add-i-in-loop-i : goal.overflow_add-i-in-loop-i
overflow_add-i-in-loop-i c =
    let one = naming_more c.requires c.loop-i.invariant (sym c.allowed_in_quark_name.ensures ∙ c.if-not-allowed_in_quark_name.false) in
    omega (arith, one.inside, c.well_formed.1.0.0)

pub bounds-text-i-in-loop-i-2 : goal.bounds-text-i-in-loop-i-2
bounds-text-i-in-loop-i-2 c =
    let one = naming_more c.requires c.loop-i.invariant (sym c.allowed_in_quark_name.ensures ∙ c.if-not-allowed_in_quark_name.false) in
    let two = naming_more c.requires one (sym c.allowed_in_quark_name-in-loop-i.ensures ∙ c.if-not-allowed_in_quark_name-2.false) in
    two.inside

pub returns-then-not-allowed_in_quark_name-3 : goal.returns-then-not-allowed_in_quark_name-3
returns-then-not-allowed_in_quark_name-3 c =
    let one = naming_more c.requires c.loop-i.invariant (sym c.allowed_in_quark_name.ensures ∙ c.if-not-allowed_in_quark_name.false) in
    let two = naming_more c.requires one (sym c.allowed_in_quark_name-in-loop-i.ensures ∙ c.if-not-allowed_in_quark_name-2.false) in
    naming_over two (sym c.allowed_in_quark_name-in-loop-i-2.ensures ∙ c.if-not-allowed_in_quark_name-3.true)

pub overflow_add-i-in-loop-i-2 : goal.overflow_add-i-in-loop-i-2
overflow_add-i-in-loop-i-2 c =
    let one = naming_more c.requires c.loop-i.invariant (sym c.allowed_in_quark_name.ensures ∙ c.if-not-allowed_in_quark_name.false) in
    let two = naming_more c.requires one (sym c.allowed_in_quark_name-in-loop-i.ensures ∙ c.if-not-allowed_in_quark_name-2.false) in
    omega (arith, two.inside, c.well_formed.1.0.0)

pub bounds-text-i-in-loop-i-3 : goal.bounds-text-i-in-loop-i-3
bounds-text-i-in-loop-i-3 c =
    let one = naming_more c.requires c.loop-i.invariant (sym c.allowed_in_quark_name.ensures ∙ c.if-not-allowed_in_quark_name.false) in
    let two = naming_more c.requires one (sym c.allowed_in_quark_name-in-loop-i.ensures ∙ c.if-not-allowed_in_quark_name-2.false) in
    let three = naming_more c.requires two (sym c.allowed_in_quark_name-in-loop-i-2.ensures ∙ c.if-not-allowed_in_quark_name-3.false) in
    three.inside

pub returns-then-not-allowed_in_quark_name-4 : goal.returns-then-not-allowed_in_quark_name-4
returns-then-not-allowed_in_quark_name-4 c =
    let one = naming_more c.requires c.loop-i.invariant (sym c.allowed_in_quark_name.ensures ∙ c.if-not-allowed_in_quark_name.false) in
    let two = naming_more c.requires one (sym c.allowed_in_quark_name-in-loop-i.ensures ∙ c.if-not-allowed_in_quark_name-2.false) in
    let three = naming_more c.requires two (sym c.allowed_in_quark_name-in-loop-i-2.ensures ∙ c.if-not-allowed_in_quark_name-3.false) in
    naming_over three (sym c.allowed_in_quark_name-in-loop-i-3.ensures ∙ c.if-not-allowed_in_quark_name-4.true)

pub overflow_add-i-in-loop-i-3 : goal.overflow_add-i-in-loop-i-3
overflow_add-i-in-loop-i-3 c =
    let one = naming_more c.requires c.loop-i.invariant (sym c.allowed_in_quark_name.ensures ∙ c.if-not-allowed_in_quark_name.false) in
    let two = naming_more c.requires one (sym c.allowed_in_quark_name-in-loop-i.ensures ∙ c.if-not-allowed_in_quark_name-2.false) in
    let three = naming_more c.requires two (sym c.allowed_in_quark_name-in-loop-i-2.ensures ∙ c.if-not-allowed_in_quark_name-3.false) in
    omega (arith, three.inside, c.well_formed.1.0.0)

pub loop-i-smaller : goal.loop-i-smaller
loop-i-smaller c =
    let one = naming_more c.requires c.loop-i.invariant (sym c.allowed_in_quark_name.ensures ∙ c.if-not-allowed_in_quark_name.false) in
    let two = naming_more c.requires one (sym c.allowed_in_quark_name-in-loop-i.ensures ∙ c.if-not-allowed_in_quark_name-2.false) in
    let three = naming_more c.requires two (sym c.allowed_in_quark_name-in-loop-i-2.ensures ∙ c.if-not-allowed_in_quark_name-3.false) in
    omega (arith, three.inside)
