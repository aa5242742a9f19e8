-- Which texts are chosen. Assumes nothing.
use denote.Ref.{Bor}
use Rattle.std.specs.Prelude as rattle
use Rattle.std.specs.Prelude.{if◌then◌else◌, is_some, Some, None}
use mathlib.Core.Bool.{Bool, true, false, ◌&&◌, not}
use mathlib.Core.List.{List, [], ◌∷◌}
use mathlib.Core.Option.{some}
use mathlib.Core.Path.{◌≡◌, refl, ap}
use Prim.Native.Nat.{ℕ}
use native.Mathlib.Omega.{arith}
use lib.Dec.{eqb, ltb}
use lib.ListN.{length}
use borrow.Author.Tests.{lt-ltb, ne_eqb}
use Rattle.definition.specs.Lists.{is_empty, or_else}
use Rattle.definition.specs.StartUp.{first_text, second_text}
use Rattle.sources.specs.Lending.{is_text, first_source, second_source, first_at, second_at, text_of}
use Rattle.sources.specs.declared.StartUp as lent
use Rattle.sources.specs.declared.FirstSource.{FirstSource}
use Rattle.sources.specs.declared.FirstSource.TheVariants.{Property, Xresources, Xdefaults}
use Rattle.sources.specs.declared.SecondSource.{SecondSource}
use Rattle.sources.specs.declared.SecondSource.TheVariants.{Xenvironment, Host}

pub other_format : (format : ℕ) (property : List ℕ) → (format ≡ 8 → ⊥) → false ≡ is_text format property
unfolding is_text
other_format format property h = rw (ne_eqb format 8 h) refl

pub some_text : (format : ℕ) (property : List ℕ) → format ≡ 8 → ltb 0 (length property) ≡ is_text format property
unfolding is_text is_empty
some_text format [] e = rw e refl
some_text format (x ∷ property) e = rw (e, lt-ltb 0 (length (x ∷ property)) (omega arith)) refl

-- ---- The sources have the texts

module _ (s : lent.StartUp) where
  pub first_from : (source : FirstSource) → source ≡ first_source s.format s.property.now (is_some s.xresources)
      → text_of (first_at source s) ≡ first_text s.format s.property.now (text_of s.xresources) (text_of s.xdefaults)
  unfolding is_text first_source first_text or_else
  first_from source e = rw e (at (eqb s.format 8 && not (is_empty s.property.now)) s.xresources refl)
    where
      at : (taken : Bool) (x : rattle.Option (Bor (List ℕ))) → s.xresources ≡ x
          → text_of (first_at (if taken then Property else if is_some x then Xresources else Xdefaults) s)
          ≡ (if taken then some s.property.now else or_else (text_of x) (text_of s.xdefaults))
      at true x f = refl
      at false None f = refl
      at false (Some x) f = ap text_of f

  pub second_from : (source : SecondSource) → source ≡ second_source s.is_set
      → text_of (second_at source s) ≡ second_text s.is_set (text_of s.xenvironment) (text_of s.host)
  unfolding second_source second_text
  second_from source e = rw e (at s.is_set)
    where
      at : (b : Bool) → text_of (second_at (if b then Xenvironment else Host) s) ≡ (if b then text_of s.xenvironment else text_of s.host)
      at true = refl
      at false = refl
