-- Values of lines of the common form: as parse_value has them, or byte by byte. Assumes nothing.
use Rattle.std.specs.Prelude.{Option, Some, None}
use Rattle.std.specs.Option.{IsSome}
use mathlib.Core.Bool.{false}
use mathlib.Core.List.{List}
use mathlib.Core.Path.{◌≡◌, refl, sym, ap, ◌∙◌}
use Prim.Native.Nat.{ℕ, ◌+◌, ◌-◌, ◌≤◌, ◌<◌}
use native.Mathlib.Omega.{arith}
use lib.ListN.{length, get_or, take, drop, set, length-drop, drop_of_length-le}
use lib.Seq.{paste, drop-drop}
use Rattle.definition.specs.Bytes.{newline, backslash, is_blank}
use Rattle.definition.specs.Text.{after_blanks}
use Rattle.laws.proofs.Lists.{part_rest}
use Rattle.copies.proofs.Copying.{plain_byte}
use Rattle.values.specs.Decoded.{decoded_at, rest_at, Decoded}
use Rattle.values.specs.declared.Stored.{Stored}
use Rattle.values.proofs.Skipping.{dropping_none, dropping_other, blanks_suffix}
use Rattle.values.proofs.Decoding.{Decoding, decoding_first, decoded, byte_more, more_stored, ended, plain}
use Rattle.values.proofs.Values.{decoded_within, Fits, decoded_fits, decoded_full}
use Rattle.plain_keys.specs.Ended.{Ended}
use Rattle.plain_keys.proofs.Ends.{goes_on}
use Rattle.plain_values.specs.Values.{Valued}
use Rattle.plain_values.specs.declared.Value.{Value}

-- ---- The value from a place on

-- where a part begins, by what is left
pub left_next : (t : List ℕ) {u : List ℕ} (n : ℕ) → drop n t ≡ u → n ≤ length t → n ≡ length t - length u
left_next t n e h = omega (arith, ap length e, length-drop n t)

-- as the borrow checker gives it
abbrev pub from_on : List ℕ → ℕ → List ℕ
from_on t from = take (length t - from) (drop from t)

module _ (t : List ℕ) (from : ℕ) (h : from ≤ length t) (store : List ℕ) (at : ℕ) (store' : List ℕ) where
  -- there is room for it
  pub surely : at + (length t - from) ≤ length store → (r : Option Stored) → Decoded (from_on t from) store at store' r → IsSome r
  surely k (Some v) d = refl
  surely k None d = absurd (omega (arith, decoded_full d, decoded_within (from_on t from), ap length (part_rest t from), length-drop from t))

  module _ (o : Option Stored) (r : Stored) (e : o ≡ Some r) (d : Decoded (from_on t from) store at store' o) where
    fits : Fits (drop from t) store at store' r.end r.taken
    fits = rw (part_rest t from) at (decoded_fits (rw e at d))

    pub passed_inside : from + r.taken ≤ length t
    passed_inside = omega (arith, fits.inside, length-drop from t)

    after : drop (from + r.taken) t ≡ rest_at (drop from t)
    after = sym (drop-drop r.taken from t) ∙ fits.rest

    pub valued_next : from + r.taken < length t → Valued t (drop from t) store at store' (record { end = r.end; next = from + r.taken + 1 })
    valued_next k =
        let left = sym (drop-drop 1 (from + r.taken) t) ∙ ap (drop 1) after in
        record { ends = fits.ends; stored = fits.stored; next = left_next t (from + r.taken + 1) left (omega arith); left = left }

    pub valued_last : length t ≤ from + r.taken → Valued t (drop from t) store at store' (record { end = r.end; next = from + r.taken })
    valued_last k =
        let a : length t ≤ from + r.taken + 1 = omega arith in
        let left = drop_of_length-le t k ∙ sym (drop_of_length-le t a) ∙ sym (drop-drop 1 (from + r.taken) t) ∙ ap (drop 1) after in
        record { ends = fits.ends; stored = fits.stored; next = left_next t (from + r.taken) left passed_inside; left = left }

-- ---- Byte by byte

-- i plain bytes are copied, and the text goes on
pub record Copying (t s₀ : List ℕ) (at : ℕ) (s : List ℕ) (i : ℕ) : Type 0 where
  pub decoding : Decoding t s₀ at s (at + i) i
  pub inside : i < length t

module _ {t s₀ : List ℕ} {at : ℕ} (e : Ended t) (room : at + length t ≤ length s₀) where
  pub copying_first : Copying t s₀ at s₀ 0
  copying_first =
      let z : at + 0 ≡ at = omega arith in
      record { decoding = rw z (decoding_first t s₀ at (omega (arith, room))); inside = e.some }

  module _ {s : List ℕ} {i : ℕ} (c : Copying t s₀ at s i) where
    abbrev d : Decoding t s₀ at s (at + i) i
    d = c.decoding

    pub byte_room : at + i < length s
    byte_room = omega (arith, room, c.inside, d.kept)

    pub copying_more : (get_or t i 0 ≡ newline → ⊥) → (get_or t i 0 ≡ backslash → ⊥) → Copying t s₀ at (set s (at + i) (get_or t i 0)) (i + 1)
    copying_more n b =
        let z : at + i + 1 ≡ at + (i + 1) = omega arith in
        record { decoding = rw z at (byte_more d (plain t i c.inside (plain_byte (get_or t i 0) n b)) byte_room); inside = goes_on e i c.inside n }

    pub copying_done : get_or t i 0 ≡ newline → Valued t t s₀ at s (record { end = at + i; next = i + 1 })
    copying_done n =
        let f = decoded_fits (decoded d (ended t i c.inside n)) in
        let left = sym (drop-drop 1 i t) ∙ ap (drop 1) f.rest in
        record { ends = f.ends; stored = f.stored; next = left_next t (i + 1) left (omega (arith, c.inside)); left = left }

    -- the rest is decoded
    pub copying_on : {s' : List ℕ} {r : Value} → Valued t (drop i t) s (at + i) s' r → Valued t t s₀ at s' r
    copying_on {s'} {r} v =
        let k = length (decoded_at (drop i t)) in
        let j : at + i - at ≡ i = omega arith in
        let n : k ≡ length (decoded_at t) - i = ap length d.left ∙ length-drop (at + i - at) (decoded_at t) ∙ ap (λ (m : ℕ). length (decoded_at t) - m) j in
        let most : i ≤ length (decoded_at t) = omega (arith, d.most) in
        let all : at + i - at + k ≡ length (decoded_at t) = omega arith in
        record {
          ends = omega (arith, v.ends);
          stored =
              v.stored
              ∙ more_stored s₀ (decoded_at t) (decoded_at (drop i t)) at (at + i) (at + i - at) k d.stored (omega arith) (ap (take k) d.left)
              (omega (arith, room, c.inside)) d.most
              ∙ ap (paste s₀ at (decoded_at t)) all;
          next = v.next ∙ ap (λ (u : List ℕ). length t - length (drop 1 u)) (sym d.rest);
          left = v.left ∙ ap (drop 1) (sym d.rest);
        }

-- ---- Blanks

pub after_pairs : {t store : List ℕ} {at : ℕ} {store' : List ℕ} {r : Value} (u : List ℕ) → u ≡ after_blanks t
    → Valued t (drop (length t - length u) t) store at store' r → Valued t (after_blanks t) store at store' r
after_pairs {t} u e v = rw (e, (blanks_suffix t).same) at v

pub no_pairs : {t store : List ℕ} {at : ℕ} {store' : List ℕ} {r : Value} → 0 < length t → is_blank (get_or t 0 0) ≡ false → (get_or t 0 0 ≡ backslash → ⊥)
    → Valued t t store at store' r → Valued t (after_blanks t) store at store' r
no_pairs {t} h e f v =
    let z = dropping_other (dropping_none t) h e f in
    let same : after_blanks t ≡ t = sym (blanks_suffix t).same ∙ ap (λ (n : ℕ). drop n t) (sym z) in
    rw same v
