-- The table of bytes: what each of the 256 may be, a bit for each class (document 02 (ii)).
use Rattle.std.specs.Prelude.{Bool, List, [], ◌∷◌, ℕ, zero, suc, ◌+◌, if◌then◌else◌}
use Rattle.definition.specs.Bytes.{is_name, is_octal, is_blank, is_binding}

-- 1 for a name byte, 2 for an octal digit, 4 for a blank, 8 for a binding
unfoldable pub bits : Bool → Bool → Bool → Bool → ℕ
bits name octal blank binding =
    (if name then 1 else 0) + ((if octal then 2 else 0) + ((if blank then 4 else 0) + (if binding then 8 else 0)))

unfoldable pub class_of : ℕ → ℕ
class_of c = bits (is_name c) (is_octal c) (is_blank c) (is_binding c)

-- n entries, the first that of c
unfoldable pub classes_from : ℕ → ℕ → List ℕ
classes_from c zero = []
classes_from c (suc n) = class_of c ∷ classes_from (suc c) n

-- the entries of all bytes
unfoldable pub byte_classes : List ℕ
byte_classes = classes_from 0 256
