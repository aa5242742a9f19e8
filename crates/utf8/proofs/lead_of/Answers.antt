use native.Mathlib.Omega.{arith}
use Rattle.utf8.proofs.Characters.{lead_c2, lead_e0, lead_e1, lead_ed, lead_ee, lead_f0, lead_f1, lead_f4, lead_before, lead_after}
use Rattle.utf8.proofs.lead_of.Goals as goal

pub returns-in-224 : goal.returns-in-224
returns-in-224 c = lead_e0 _ (omega arith) (omega arith)

pub returns-in-237 : goal.returns-in-237
returns-in-237 c = lead_ed _ (omega arith) (omega arith)

pub returns-in-240 : goal.returns-in-240
returns-in-240 c = lead_f0 _ (omega arith) (omega arith)

pub returns-in-244 : goal.returns-in-244
returns-in-244 c = lead_f4 _ (omega arith) (omega arith)

pub returns-in-194-to-223 : goal.returns-in-194-to-223
returns-in-194-to-223 c = lead_c2 _ (omega arith) (omega arith)

pub returns-in-225-to-236 : goal.returns-in-225-to-236
returns-in-225-to-236 c = lead_e1 _ (omega arith) (omega arith)

pub returns-in-238-to-239 : goal.returns-in-238-to-239
returns-in-238-to-239 c = lead_ee _ (omega arith) (omega arith)

pub returns-in-241-to-243 : goal.returns-in-241-to-243
returns-in-241-to-243 c = lead_f1 _ (omega arith) (omega arith)

pub returns-in_default : goal.returns-in_default
returns-in_default c = lead_before _ (omega arith) (omega arith)

pub returns-in_default-2 : goal.returns-in_default-2
returns-in_default-2 c = lead_after _ (omega arith)
