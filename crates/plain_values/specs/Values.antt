-- Values of the common form: what the code answers of them.
use Rattle.std.specs.Prelude.{false, List, ◌≡◌, ℕ, ◌+◌, ◌-◌, ◌<◌, length, drop, get_or}
use Rattle.std.proofs.Math.Seq.{paste}
use Rattle.definition.specs.Lists.{take_while}
use Rattle.definition.specs.Bytes.{is_blank}
use Rattle.definition.specs.Text.{after_blanks}
use Rattle.values.specs.Decoded.{decoded_at, rest_at}
use Rattle.plain_values.specs.declared.Value.{Value}

-- n blanks stand first in t, which goes on with another byte
pub record BlanksFirst (t : List ℕ) (n : ℕ) : Type 0 where
  pub run : n ≡ length (take_while is_blank t)
  pub same : after_blanks t ≡ after_blanks (drop n t)
  pub stop : is_blank (get_or t n 0) ≡ false
  pub inside : n < length t

-- the value at the front of u, which is the rest of t, stands in the store from `at` on, and the next line begins where the answer says
pub record Valued (t u store : List ℕ) (at : ℕ) (store' : List ℕ) (r : Value) : Type 0 where
  pub ends : r.end ≡ at + length (decoded_at u)
  pub stored : store' ≡ paste store at (decoded_at u) (length (decoded_at u))
  pub next : r.next ≡ length t - length (drop 1 (rest_at u))
  pub left : drop r.next t ≡ drop 1 (rest_at u)
