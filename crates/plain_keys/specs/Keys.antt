-- Keys of the common form: what the code answers of them, name by name. proofs/Keys.antt shows that they are the definition's.
use Rattle.std.specs.Prelude.{Option, Some, None, List, ◌≡◌, ℕ, zero, suc, ◌+◌, ◌-◌, eqb, leb, length, drop, get_or, if◌then◌else◌}
use Rattle.definition.specs.Lists.{take_while}
use Rattle.definition.specs.Bytes as bytes
use Rattle.definition.specs.Bytes.{is_name, is_binding}
use Rattle.plain_keys.specs.declared.First.{First}
use Rattle.plain_keys.specs.declared.Key.{Key}

-- where the name ends that starts at `start`
abbrev pub name_end : List ℕ → ℕ → ℕ
name_end t start = start + length (take_while is_name (drop start t))

-- the first name stands behind one binding or none
unfoldable pub first_start : List ℕ → ℕ
first_start t = if is_binding (get_or t 0 0) then 1 else 0

pub record FirstName (t : List ℕ) (r : First) : Type 0 where
  pub start : r.start ≡ first_start t
  pub end : r.end ≡ name_end t r.start

-- the key whose name number `count` stands from `start` to i, and n more at most behind it; None of another form
unfoldable pub key_from : ℕ → List ℕ → ℕ → ℕ → ℕ → ℕ → Option Key
key_from zero t extra count start i = None
key_from (suc n) t extra count start i =
    if leb i start then None else
    if eqb (get_or t i 0) bytes.colon then Some (record { end = i; count = count; extra = extra }) else
    if is_binding (get_or t i 0) then key_from n t extra (count + 1) (i + 1) (name_end t (i + 1)) else
    None

-- the key at the front of a text
unfoldable pub plain_key : List ℕ → Option Key
plain_key t = key_from (length t) t (1 - first_start t) 1 (first_start t) (name_end t (first_start t))
