-- The next field, taken. Assumes nothing.
use Rattle.std.specs.Prelude.{if◌then◌else◌, Option, Some, None, IfSome}
use Rattle.io.specs.Counts.{IsPrefixLen}
use mathlib.Core.Bool.{Bool, true, false}
use mathlib.Core.List.{List, [], ◌∷◌}
use mathlib.Core.Path.{◌≡◌, refl, sym, ap, ◌∙◌}
use Prim.Native.Nat.{ℕ, zero, suc, ◌+◌, ◌*◌, ◌-◌, ◌≤◌, ◌<◌}
use native.Mathlib.Omega.{arith}
use lib.Dec.{eqb}
use lib.ListN.{length, take, drop, length-append, length-drop}
use lib.Seq.{length-take-le}
use Rattle.definition.specs.Lists.{ascii}
use Rattle.laws.proofs.Lists.{not_both, part_rest}
use Rattle.scan.specs.Scanned.{starts_with}
use Rattle.scan.proofs.Beginnings.{starts_yes}
use Rattle.fields.specs.Fields.{decoded, Decodes, field_bytes, field_end, taken, Takes}
use Rattle.fields.proofs.Digits.{decoded_twice}

-- what begins with no space does not begin with a space and a dash
no_dash : (t : List ℕ) → starts_with (ascii " ") t ≡ false → starts_with (ascii " -") t ≡ false
unfolding starts_with
no_dash [] e = refl
no_dash (c ∷ t) e = at (eqb 32 c) e
  where
    at : (b : Bool) → (if b then true else false) ≡ false → (if b then starts_with (45 ∷ []) t else false) ≡ false
    at true e = absurd (not_both refl e)
    at false e = refl

pub no_field : (t out : List ℕ) → starts_with (ascii " ") t ≡ false → Takes t out out None
unfolding field_bytes field_end
no_field t out e = record { is = rw (e, no_dash t e) refl; leaves = rw e refl; inside = tt }

module _ (t out out' : List ℕ) (n : ℕ) (yes : starts_with (ascii " ") t ≡ true) (d : Decodes (take (length t - 1) (drop 1 t)) out out' n) where
  pub field_is : field_bytes (length out) t ≡ decoded (length out) (take (length t - 1) (drop 1 t))
  unfolding field_bytes
  field_is = rw (yes, part_rest t 1) refl

  long : 1 ≤ length t
  long = (starts_yes (ascii " ") t true (sym yes) refl).1

  pub field_inside : 1 + 2 * n ≤ length t
  field_inside = omega (arith, long, d.counts, decoded_twice (length out) (take (length t - 1) (drop 1 t)), ap length (part_rest t 1) ∙ length-drop 1 t)

  most : n ≤ length out'
  most = omega (arith, d.counts, ap length d.leaves, length-append (decoded (length out) (take (length t - 1) (drop 1 t))) (drop (length (decoded (length out) (take (length t - 1) (drop 1 t)))) out))

  pub field_taken : (o : Option ℕ) → o ≡ field_end n t → IfSome o (λ end. end ≤ length t) → Takes t out out' (taken n o)
  field_taken o e h =
      let bytes : n ≡ length (field_bytes (length out) t) = d.counts ∙ ap length (sym field_is) in
      record { is = rw (← bytes, e) refl; leaves = rw field_is d.leaves; inside = at o h }
    where
      at : (o : Option ℕ) → IfSome o (λ end. end ≤ length t) → IfSome (taken n o) (λ f. IsPrefixLen f.size out' × (f.end ≤ length t))
      at (Some end) h = ((most, sym (length-take-le n out' most)), h)
      at None h = tt

-- ---- Where it ends

pub end_some : (n : ℕ) (t : List ℕ) → 0 < n → Some (1 + 2 * n) ≡ field_end n t
unfolding field_end
end_some zero t h = absurd (omega arith)
end_some (suc n) t h = refl

pub end_dash : (n : ℕ) (t : List ℕ) → n ≤ 0 → starts_with (ascii " -") t ≡ true → Some 2 ≡ field_end n t
unfolding field_end
end_dash n t h e = let z : n ≡ 0 = omega arith in rw (z, e) refl

pub end_none : (n : ℕ) (t : List ℕ) → n ≤ 0 → starts_with (ascii " -") t ≡ false → None ≡ field_end n t
unfolding field_end
end_none n t h e = let z : n ≡ 0 = omega arith in rw (z, e) refl
