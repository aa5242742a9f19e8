-- A value's plain bytes, and a step of a copy.
use Rattle.std.specs.Prelude.{Bool, not, ℕ, ◌+◌, ◌-◌, ltb, if◌then◌else◌}
use Rattle.definition.specs.Bytes.{newline, backslash}
use Rattle.blocks.specs.Either.{either}

-- a byte that stands for itself in a value: neither its end nor a backslash
unfoldable pub is_plain : ℕ → Bool
is_plain c = not (either newline backslash c)

-- where a copy of n bytes is that has come to `from`, after `size` bytes more, if there are so many
unfoldable pub stepped : ℕ → ℕ → ℕ → ℕ
stepped n from size = if ltb (n - from) size then from else from + size
