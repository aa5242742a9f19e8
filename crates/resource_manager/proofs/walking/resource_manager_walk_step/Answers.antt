-- `resource_manager::walking::resource_manager_walk_step` meets its contract. Assumes nothing.
use mathlib.Core.Path.{ap, ◌∙◌}
use Prim.Native.Nat.{ℕ}
use Rattle.definition.specs.Lookup.{Reply}
use Rattle.definition.specs.Walking.{walk}
use Rattle.codes.specs.Codes.{step_numbers}
use Rattle.resource_manager.proofs.Fitting.{step_numbered}
use Rattle.resource_manager.proofs.walking.resource_manager_walk_step.Goals as goal

pub step_code-requires : goal.step_code-requires
step_code-requires c = step_numbered _ _ _ _ _ c.walk_step-stepped.result c.walk_step-stepped.ensures

pub returns : goal.returns
returns c = c.step_code.ensures c.args.count ∙ ap (λ (x : Reply ℕ). step_numbers x (walk c.args.next.now c.args.count)) c.walk_step-stepped.ensures
