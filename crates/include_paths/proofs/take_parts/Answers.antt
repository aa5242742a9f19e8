-- `include_paths::take_parts` meets its contract. Assumes nothing.
use mathlib.Core.Path.{sym}
use native.Mathlib.Omega.{arith}
use lib.Seq.{length-take-le}
use Rattle.include_paths.proofs.Splitting.{part_most}
use Rattle.include_paths.proofs.Taking.{taking_first, taking_end, taking_none, taking_less, taking_next, taking_last, name_less, taking_name}
use Rattle.include_paths.proofs.take_parts.Goals as goal

pub parts-init : goal.parts-init
parts-init c = taking_first c.args.folder.now c.args.name.now c.args.path.now c.requires (omega (arith, c.well_formed)) c.first_of-rest.ensures

pub slice_bounds-take_part-end : goal.slice_bounds-take_part-end
slice_bounds-take_part-end c = sym (length-take-le c.part_len-n.result c.parts.rest.now (part_most _ _ c.part_len-n.ensures))

pub take_part-requires : goal.take_part-requires
take_part-requires c = (c.parts.invariant.fits, omega (arith, c.parts.invariant.over_most, c.parts-test.true))

pub returns-in_err-so_far : goal.returns-in_err-so_far
returns-in_err-so_far c = rw c.from_residual.ensures (taking_none c.parts.invariant c.part_len-n.ensures c.take_part.ensures c.in_err-so_far.was)

pub parts-smaller-then-n-rest : goal.parts-smaller-then-n-rest
parts-smaller-then-n-rest c = taking_less c.parts.invariant c.part_len-n.ensures c.take_part.ensures c.in_ok-so_far.was c.if-n-rest.true

pub parts-preserved-then-n-rest : goal.parts-preserved-then-n-rest
parts-preserved-then-n-rest c = taking_next c.parts.invariant c.part_len-n.ensures c.take_part.ensures c.in_ok-so_far.was c.if-n-rest.true

pub returns-then-in_name : goal.returns-then-in_name
returns-then-in_name c = taking_last c.parts.invariant c.part_len-n.ensures c.take_part.ensures c.in_ok-so_far.was c.if-n-rest.false c.if-in_name.true

pub parts-smaller : goal.parts-smaller
parts-smaller c = name_less c.parts.invariant c.part_len-n.ensures c.take_part.ensures c.in_ok-so_far.was c.if-n-rest.false c.if-in_name.false

pub parts-preserved : goal.parts-preserved
parts-preserved c = taking_name c.parts.invariant c.part_len-n.ensures c.take_part.ensures c.in_ok-so_far.was c.if-n-rest.false c.if-in_name.false c.parts-test.true

pub returns : goal.returns
returns c = taking_end c.parts.invariant c.parts-test.false
