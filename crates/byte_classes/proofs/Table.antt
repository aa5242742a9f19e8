-- The table's rule at each byte: its entry is the byte's classes, and a class is its bit. Assumes nothing.
use mathlib.Core.Bool.{Bool, true, false}
use mathlib.Core.List.{List}
use mathlib.Core.Path.{◌≡◌, refl, ap, ◌∙◌}
use Prim.Native.Nat.{ℕ, zero, suc, ◌+◌, ◌<◌, ◌%◌, ◌/◌}
use native.Mathlib.Omega.{arith}
use lib.Dec.{eqb}
use lib.ListN.{get_or}
use Rattle.definition.specs.Bytes.{is_name, is_octal, is_blank, is_binding}
use Rattle.byte_classes.specs.Classes.{bits, class_of, classes_from, byte_classes}

from : (n c i : ℕ) → i < n → get_or (classes_from c n) i 0 ≡ class_of (c + i)
unfolding classes_from
from zero c i h = absurd (omega arith)
from (suc n) c zero h = ap class_of (omega arith)
from (suc n) c (suc i) h = from n (suc c) i (omega arith) ∙ ap class_of (omega arith)

entry : (c : ℕ) → c < 256 → get_or byte_classes c 0 ≡ class_of c
unfolding byte_classes
entry c h = from 256 0 c h ∙ ap class_of (omega arith)

-- what a table's entry says of the four classes, each by its bit
pub record Classes (entry : ℕ) (n o b g : Bool) : Type 0 where
  pub name : eqb (entry % 2) 1 ≡ n
  pub octal : eqb (entry / 2 % 2) 1 ≡ o
  pub blank : eqb (entry / 4 % 2) 1 ≡ b
  pub binding : eqb (entry / 8 % 2) 1 ≡ g

classes : (n o b g : Bool) → Classes (bits n o b g) n o b g
unfolding bits
classes true true true true = record { name = refl; octal = refl; blank = refl; binding = refl }
classes true true true false = record { name = refl; octal = refl; blank = refl; binding = refl }
classes true true false true = record { name = refl; octal = refl; blank = refl; binding = refl }
classes true true false false = record { name = refl; octal = refl; blank = refl; binding = refl }
classes true false true true = record { name = refl; octal = refl; blank = refl; binding = refl }
classes true false true false = record { name = refl; octal = refl; blank = refl; binding = refl }
classes true false false true = record { name = refl; octal = refl; blank = refl; binding = refl }
classes true false false false = record { name = refl; octal = refl; blank = refl; binding = refl }
classes false true true true = record { name = refl; octal = refl; blank = refl; binding = refl }
classes false true true false = record { name = refl; octal = refl; blank = refl; binding = refl }
classes false true false true = record { name = refl; octal = refl; blank = refl; binding = refl }
classes false true false false = record { name = refl; octal = refl; blank = refl; binding = refl }
classes false false true true = record { name = refl; octal = refl; blank = refl; binding = refl }
classes false false true false = record { name = refl; octal = refl; blank = refl; binding = refl }
classes false false false true = record { name = refl; octal = refl; blank = refl; binding = refl }
classes false false false false = record { name = refl; octal = refl; blank = refl; binding = refl }

-- the table's rule, carried to a byte
pub at : (table : List ℕ) → table ≡ byte_classes → (c : ℕ) → c < 256 → Classes (get_or table c 0) (is_name c) (is_octal c) (is_blank c) (is_binding c)
unfolding class_of
at table e c h = rw (e, entry c h) (classes (is_name c) (is_octal c) (is_blank c) (is_binding c))
