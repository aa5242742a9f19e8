-- What is kept of a path as its parts are taken, in a buffer of 96 bytes. That it stands for the definition's path, which may have more
-- bytes on the way, is shown where all parts are taken (include_paths, Reducing.antt).
use Rattle.std.specs.Prelude.{Option, Some, None, Bool, true, false, ◌&&◌, List, ◌++◌, ◌≡◌, ℕ, ◌+◌, ◌-◌, ◌≤◌, eqb, leb, length, take, drop, if◌then◌else◌}
use Rattle.definition.specs.Lists.{ascii, is_empty, same}
use Rattle.definition.specs.Limits.{file_name_bytes}
use Rattle.definition.specs.Archive.{folder_of, joined}
use Rattle.kept_parts.specs.declared.Kept.{Kept}

abbrev pub kept : ℕ → ℕ → Bool → Kept
kept size over dots = record { size = size; over = over; dots = dots }

-- the buffer has just 96 bytes, and those kept stand in it
abbrev pub Fits : Kept → List ℕ → Type 0
Fits k b = (k.size ≤ file_name_bytes) × (length b ≡ file_name_bytes)

-- where a path of `size` bytes ends with a part of n below it
unfoldable pub end_below : ℕ → ℕ → ℕ
end_below size n = if eqb size 0 then n else size + 1 + n

-- the buffer with a part put below the first `size` bytes
unfoldable pub put_below : List ℕ → ℕ → List ℕ → List ℕ
put_below p size b = joined (take size b) p ++ drop (end_below size (length p)) b

-- all of the path is kept, and there is room for a part of n bytes below it
unfoldable pub has_room : ℕ → Kept → Bool
has_room n k = eqb k.over 0 && leb (end_below k.size n) file_name_bytes

unfoldable pub with_part : List ℕ → Kept → Kept
with_part p k = if has_room (length p) k then kept (end_below k.size (length p)) 0 false else kept k.size (k.over + 1) false

unfoldable pub bytes_with : List ℕ → Kept → List ℕ → List ℕ
bytes_with p k b = if has_room (length p) k then put_below p k.size b else b

-- the last part removed; none is there at the root
unfoldable pub without_part : Kept → List ℕ → Option Kept
without_part k b =
    if eqb k.over 0
    then (if eqb k.size 0 then None else Some (kept (length (folder_of (take k.size b))) 0 true))
    else Some (kept k.size (k.over - 1) true)

-- an answer, and the buffer that it leaves
pub record Did : Type 0 where
  pub answer : Option Kept
  pub bytes : List ℕ

abbrev pub did : Option Kept → List ℕ → Did
did r b = record { answer = r; bytes = b }

unfoldable pub taken_part : List ℕ → Kept → List ℕ → Did
taken_part p k b =
    if is_empty p then did None b
    else if same p (ascii ".") then did (Some (kept k.size k.over true)) b
    else if same p (ascii "..") then did (without_part k b) b
    else did (Some (with_part p k)) (bytes_with p k b)
