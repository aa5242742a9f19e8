-- The text after the parts is the text from some place on. Assumes nothing.
use mathlib.Core.List.{List, [], ◌∷◌}
use native.Mathlib.Omega.{arith}
use Prim.Native.Nat.{ℕ}
use lib.Dec.{eqb}
use Rattle.definition.specs.Lists.{take_while, drop_while}
use Rattle.definition.specs.Parsing.{many}
use Rattle.definition.specs.Bytes.{question, is_name, is_binding}
use Rattle.definition.specs.Text.{Binding, Part, binding_of, component_at, part_at}
use Rattle.laws.proofs.Lists.{Suffix, suffix_whole, suffix_drop, suffix_run}
use Rattle.laws.proofs.Keys.{if_either}
use Rattle.scan.proofs.Suffixes.{LeavesRest, many_suffix}

part_leaves : (t : List ℕ) → LeavesRest t (part_at t)
unfolding part_at component_at
part_leaves t = component (binding_of (take_while is_binding t)) (drop_while is_binding t) (suffix_run (suffix_whole t) is_binding)
  where
    component : (b : Binding) (u : List ℕ) → Suffix u t → LeavesRest t (component_at b u)
    component b [] s = tt
    component b (c ∷ u) s =
        let P = LeavesRest {A = Part} t in
        let s' = suffix_drop s 1 (omega arith) in
        if_either P (eqb c question) (λ e. s') λ e. if_either P (is_name c) (λ e. suffix_run s' is_name) λ e. tt

pub parts_suffix : (t : List ℕ) → Suffix (many part_at t).rest t
parts_suffix t = many_suffix part_at part_leaves t
