-- The search over the slots of a board. An entry has the number of its slot times 512, and of its row.
use Rattle.std.specs.Prelude.{List, [], ◌∷◌, ℕ, zero, suc, ◌+◌, ◌*◌, ◌/◌, ◌%◌, ◌<◌, eqb, if◌then◌else◌, Some, None}
use Rattle.std.specs.Prelude as std
use Rattle.std.proofs.Math.Option.{Option, some, none}
use Rattle.definition.specs.Limits.{most_entries}
use Rattle.definition.specs.Image.{Row, count_of, key_end, value_at}
use Rattle.definition.specs.Query.{Position, Query, positions, malformed, past_limit}
use Rattle.definition.specs.Ranking.{Best, no_entry, best_from}
use Rattle.definition.specs.Lookup.{keys_of, Reply, given, no_value, refused}
use Rattle.definition.specs.Writing.{entries_of_image}
use Rattle.definition.specs.Board.{Arrival, Found, Lent, pack_count, slot_at}
use Rattle.image.specs.Rows.{row_at}
use Rattle.lookup.specs.Searches.{numbered}

-- n slots from slot i on, but for slot `skip`, after those passed so far
unfoldable pub best_slots : Lent → ℕ → List Position → ℕ → ℕ → Best → Best
best_slots l skip qs i zero b = b
best_slots l skip qs i (suc n) b =
    best_slots l skip qs (suc i) n
    (if eqb i skip then b else best_from (keys_of (entries_of_image (slot_at l i).contents (slot_at l i).bodies)) qs (most_entries * i) b)

-- the best entry after those of a slot, of which `entry` is the one that wins, or none
abbrev pub found_after : std.Option ℕ → ℕ → std.Option ℕ → std.Option ℕ
found_after found slot (Some i) = Some (most_entries * slot + i)
found_after found slot None = found

-- the packs of n slots from slot i on, but for slot `skip`
unfoldable pub passing : Lent → ℕ → ℕ → ℕ → List Arrival
passing l skip i zero = []
passing l skip i (suc n) = if eqb i skip then passing l skip (suc i) n else slot_at l i ∷ passing l skip (suc i) n

-- the number of the entry that a query finds; none for a malformed one, and for one past its limits, which no call leaves
unfoldable pub spot_of : Lent → ℕ → Query → Reply ℕ
spot_of l skip (positions qs) = numbered (best_slots l skip qs 0 (pack_count l) no_entry)
spot_of l skip malformed = no_value
spot_of l skip (past_limit k) = no_value

-- the entry of a number
abbrev pub row_of : Lent → ℕ → Row
row_of l n = row_at (slot_at l (n / most_entries)).contents (n % most_entries)

unfoldable pub place_of : Lent → Reply ℕ → Reply Found
place_of l (given n) =
    given (record { pack = (slot_at l (n / most_entries)).number; place = record { start = key_end (row_of l n); length = (row_of l n).value_length } })
place_of l no_value = no_value
place_of l (refused k) = refused k

-- a number that names an entry of a pack
pub record Named (l : Lent) (n : ℕ) : Type 0 where
  pub slot : n / most_entries < pack_count l
  pub row : n % most_entries < count_of (slot_at l (n / most_entries)).contents

-- its value
abbrev pub spot_value : Lent → ℕ → List ℕ
spot_value l n = value_at (slot_at l (n / most_entries)).bodies (row_of l n)

-- the bytes of what is found, or none
unfoldable pub spot_bytes : Lent → Reply ℕ → Option (List ℕ)
spot_bytes l (given n) = some (spot_value l n)
spot_bytes l no_value = none
spot_bytes l (refused k) = none
