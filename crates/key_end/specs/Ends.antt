-- A key's end and a query's last position. The laws are in proofs/Ends.antt: where a key may not match it has no row.
use Rattle.std.specs.Prelude.{Bool, ◌&&◌, ◌||◌, List, ℕ, ◌-◌, ltb, length, get_or, drop}
use Rattle.definition.specs.Lists.{same}
use Rattle.definition.specs.Bytes.{is_binding}

-- does the key end in a binding and then the name?
unfoldable pub ends_in : List ℕ → List ℕ → Bool
ends_in key n = ltb (length n) (length key) && (same (drop (length key - length n) key) n && is_binding (get_or key (length key - length n - 1) 0))

-- in one of the two?
unfoldable pub may_match : List ℕ → List ℕ → List ℕ → Bool
may_match key n c = ends_in key n || ends_in key c
