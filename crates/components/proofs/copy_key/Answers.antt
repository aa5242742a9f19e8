-- `components::copy_key` meets its contract. Assumes nothing.
use mathlib.Core.Bool.{Bool, true, false}
use mathlib.Core.List.{List, ◌∷◌}
use mathlib.Core.Path.{◌≡◌, sym, ap, ◌∙◌}
use Prim.Native.Nat.{ℕ, ◌+◌, ◌-◌, ◌≤◌, ◌<◌}
use native.Mathlib.Omega.{arith}
use lib.ListN.{length, take, get_or}
use lib.Seq.{length-take-le}
use Rattle.definition.specs.Bytes.{is_binding}
use Rattle.components.specs.Parts.{key_first, is_verbatim}
use Rattle.components.proofs.Verbatim.{bound_key, free_key, key_some}
use Rattle.components.proofs.Writing.{pasted, pasted_cons}
use Rattle.components.proofs.copy_key.Goals as goal

-- a key of so many bytes that is the text itself has room from `at` on in n bytes
abbrev Copied : List ℕ → ℕ → ℕ → ℕ → Type 0
Copied t size at n = (is_verbatim t ≡ true) × (size ≡ length (key_first t)) × (0 < size) × (at + size ≤ n)

module _ (t : List ℕ) (size at n : ℕ) (p : Copied t size at n) {b : Bool} (e : b ≡ is_binding (get_or t 0 0)) where
  -- the text begins with a binding
  bound : b ≡ true → (key_first t ≡ take size t) × (length (take size t) ≡ size)
  bound h =
      let k = bound_key t p.0 (omega (arith, p)) (sym e ∙ h) in
      (k.0 ∙ ap (λ (i : ℕ). take i t) (sym p.1), length-take-le size t (omega (arith, p, k.1)))

  -- it begins with none
  free : b ≡ false → (key_first t ≡ 46 ∷ take (size - 1) t) × (length (take (size - 1) t) ≡ size - 1)
  free h =
      let k = free_key t p.0 (omega (arith, p)) (sym e ∙ h) in
      (k.0 ∙ ap (λ (i : ℕ). 46 ∷ take (i - 1) t) (sym p.1), length-take-le (size - 1) t (omega (arith, p, k.1)))

pub bounds-text-0 : goal.bounds-text-0
bounds-text-0 c = key_some c.args.text.now c.requires.0 (omega (arith, c.requires))

pub slice_bounds-copy_in-end : goal.slice_bounds-copy_in-end
slice_bounds-copy_in-end c = sym (bound _ _ _ _ c.requires c.is_binding.ensures c.if-is_binding.true).1

pub returns-then-is_binding : goal.returns-then-is_binding
returns-then-is_binding c =
    c.copy_in.ensures ∙ ap (pasted c.args.store.now c.args.at) (sym (bound _ _ _ _ c.requires c.is_binding.ensures c.if-is_binding.true).0)

pub slice_bounds-copy_in-length : goal.slice_bounds-copy_in-length
slice_bounds-copy_in-length c = sym (free _ _ _ _ c.requires c.is_binding.ensures c.if-is_binding.false).1

pub returns : goal.returns
returns c =
    let k = free _ _ _ _ c.requires c.is_binding.ensures c.if-is_binding.false in
    c.copy_in-2.ensures
    ∙ pasted_cons c.args.store.now c.args.at 46 (take (c.args.size - 1) c.args.text.now) (omega (arith, k, c.requires))
    ∙ ap (pasted c.args.store.now c.args.at) (sym k.0)
