-- What is judged of an image's rows, in one pass.
use Rattle.std.specs.Prelude.{Bool, ◌&&◌, not, List, ℕ, leb}
use Rattle.definition.specs.Lists.{all}
use Rattle.definition.specs.Limits.{body_bytes, most_entries}
use Rattle.definition.specs.Image.{Row, count_of, used_of, rows_by, key_at, is_key, packed, too_short_by}

-- the rows are packed from `at` up to `used`, and each key is one
unfoldable pub holds : ℕ → List Row → ℕ → List ℕ → Bool
holds at rows used bodies = packed at rows used && all (λ r. is_key (key_at bodies r)) rows

-- all that is judged but where lines stand
unfoldable pub is_packed_by : ℕ → List ℕ → List ℕ → Bool
is_packed_by width contents bodies =
    not (too_short_by width contents bodies) && leb (count_of contents) most_entries && leb (used_of contents) body_bytes
    && holds 0 (rows_by width contents) (used_of contents) bodies
