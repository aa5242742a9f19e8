-- Which of two slices the show call gives a part of, and where that part starts.
use Rattle.std.specs.Prelude.{ℕ, ◌+◌}
use Rattle.definition.specs.Lookup.{Reply, given, no_value, refused, Place}

-- Where that starts which a reply shows: at the value's place in the bodies, or where the default starts. An address is a block of
-- memory and an offset in it.
unfoldable pub shown_at : Reply Place → ℕ × ℕ → ℕ × ℕ → ℕ × ℕ
shown_at (given p) bodies default = (bodies.0, p.start + bodies.1)
shown_at no_value bodies default = default
shown_at (refused k) bodies default = default
