-- A file name judged byte by byte: what each byte makes of the part that it stands in.
use Rattle.std.specs.Prelude.{Bool, true, false, List, [], ◌∷◌, ℕ, eqb, if◌then◌else◌}
use Rattle.definition.specs.Bytes.{dot, slash, is_name}
use Rattle.file_names.specs.declared.Part.{Part}
use Rattle.file_names.specs.declared.Part.TheVariants.{Empty, Dot, DotDot, Good, Bad}

-- a `/` ends a part that may stand, and begins another
abbrev pub ended : Part → Part
ended Good = Empty
ended Empty = Bad
ended Dot = Bad
ended DotDot = Bad
ended Bad = Bad

abbrev pub dotted : Part → Part
dotted Empty = Dot
dotted Dot = DotDot
dotted DotDot = Good
dotted Good = Good
dotted Bad = Bad

abbrev pub lettered : Part → Part
lettered Empty = Good
lettered Dot = Good
lettered DotDot = Good
lettered Good = Good
lettered Bad = Bad

unfoldable pub next : Part → ℕ → Part
next p c = if eqb c slash then ended p else if eqb c dot then dotted p else if is_name c then lettered p else Bad

-- may a name end so?
abbrev pub passes : Part → Bool
passes Good = true
passes Empty = false
passes Dot = false
passes DotDot = false
passes Bad = false

unfoldable pub walked : Part → List ℕ → Bool
walked p [] = passes p
walked p (c ∷ t) = walked (next p c) t
