-- `plain_values::value_on` meets its contract. Assumes nothing.
use native.Mathlib.Omega.{arith}
use Rattle.plain_values.proofs.Values.{surely, passed_inside, valued_next, valued_last}
use Rattle.plain_values.proofs.value_on.Goals as goal

pub unwrap-stored-requires : goal.unwrap-stored-requires
unwrap-stored-requires c = surely c.args.text.now c.args.from c.requires.0 _ _ _ c.requires.1 _ c.parse_value.ensures

pub overflow_add-passed : goal.overflow_add-passed
overflow_add-passed c =
    omega (arith, passed_inside c.args.text.now c.args.from c.requires.0 _ _ _ _ _ c.unwrap-stored.ensures c.parse_value.ensures, c.well_formed.1.0.0)

pub returns-then-passed-text : goal.returns-then-passed-text
returns-then-passed-text c = valued_next _ _ c.requires.0 _ _ _ _ _ c.unwrap-stored.ensures c.parse_value.ensures c.if-passed-text.true

pub returns : goal.returns
returns c = valued_last _ _ c.requires.0 _ _ _ _ _ c.unwrap-stored.ensures c.parse_value.ensures c.if-passed-text.false
