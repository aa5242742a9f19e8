-- What `next_part` finds. Assumes nothing.
use Rattle.std.specs.Prelude.{None}
use mathlib.Core.List.{List}
use mathlib.Core.Path.{◌≡◌, refl, ◌∙◌}
use Prim.Native.Nat.{ℕ, ◌+◌, ◌-◌, ◌≤◌}
use native.Mathlib.Omega.{arith}
use lib.ListN.{length, take, drop, length-drop}
use lib.Seq.{drop-drop}
use Rattle.definition.specs.Parsing.{nothing}
use Rattle.definition.specs.Bytes.{is_binding}
use Rattle.definition.specs.Text.{binding_of, component_at, part_at}
use Rattle.laws.proofs.Lists.{part_rest, drop_run, length_take_while_le}
use Rattle.components.specs.Parts.{binding_if, Bound, Begins, Begun, part_of, FirstPart}
use Rattle.components.specs.declared.Run.{Run}
use Rattle.components.specs.declared.Component.{Component}
use Rattle.components.specs.declared.Next.{Next}

module _ (t : List ℕ) (r : Run) (b : Bound t r) where
  pub bound_fits : r.len ≤ length t
  bound_fits = omega (arith, b.len, length_take_while_le is_binding t)

  -- a part is its bindings and what follows them
  part_split : part_at t ≡ component_at (binding_if r.loose) (drop r.len t)
  unfolding part_at binding_of
  part_split = rw (b.loose, b.len, drop_run is_binding t) refl

  pub no_part : Begun (take (length t - r.len) (drop r.len t)) None → part_at t ≡ nothing
  no_part g = part_split ∙ (rw (part_rest t r.len) at g) (binding_if r.loose)

  module _ (f : Component) (g : Begins (take (length t - r.len) (drop r.len t)) f) where
    abbrev next : Next
    next = record { loose = r.loose; named = f.named; start = r.len; end = r.len + f.len }

    begins : Begins (drop r.len t) f
    begins = rw (part_rest t r.len) at g

    pub parted : FirstPart t next
    unfolding part_of
    parted =
        let e : r.len + f.len - r.len ≡ f.len = omega arith in
        record {
          loose = b.loose;
          bindings = b.len;
          is = part_split ∙ begins.is (binding_if r.loose) ∙ rw (drop-drop, e) refl;
          bytes = rw e begins.bytes;
          some = omega (arith, begins.some);
          inside = omega (arith, begins.inside, length-drop r.len t, bound_fits);
        }
