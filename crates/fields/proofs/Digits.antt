-- Digits, decoded two at a time. Assumes nothing.
use Rattle.std.specs.Prelude.{Option, Some, None}
use mathlib.Core.List.{List, [], ◌∷◌, ◌++◌, append_assoc, append-nil}
use mathlib.Core.Path.{◌≡◌, refl, sym, ap, ◌∙◌}
use Prim.Native.Nat.{ℕ, zero, suc, ◌+◌, ◌*◌, ◌-◌, ◌≤◌, ◌<◌}
use native.Mathlib.Numerals.{add-one}
use native.Mathlib.Omega.{arith}
use lib.ListN.{length, get_or, take, drop, set, length-set, take-append-drop}
use lib.Seq.{length-take-le, take-suc-set, drop-set-lt, drop-drop}
use Rattle.laws.proofs.Lists.{in_range, below_range, above_range, part_rest}
use Rattle.fields.specs.Fields.{digit_of, byte_of, begun_with, decoded, Decodes}

module _ (c : ℕ) where
  pub digit_number : 48 ≤ c → c < 58 → Some (c - 48) ≡ digit_of c
  unfolding digit_of
  digit_number h k = rw (in_range 48 57 c h (omega arith)) refl

  pub digit_letter : 97 ≤ c → c < 103 → Some (c - 97 + 10) ≡ digit_of c
  unfolding digit_of
  digit_letter h k =
      let e : c - 97 + 10 ≡ c - 87 = omega arith in
      rw (above_range 48 57 c (omega arith), in_range 97 102 c h (omega arith), e) refl

  pub digit_below : c < 48 → None ≡ digit_of c
  unfolding digit_of
  digit_below h = rw (below_range 48 57 c h, below_range 97 102 c (omega arith)) refl

  pub digit_between : 58 ≤ c → c < 97 → None ≡ digit_of c
  unfolding digit_of
  digit_between h k = rw (above_range 48 57 c (omega arith), below_range 97 102 c k) refl

  pub digit_above : 103 ≤ c → None ≡ digit_of c
  unfolding digit_of
  digit_above h = rw (above_range 48 57 c (omega arith), above_range 97 102 c (omega arith)) refl

-- ---- Where the digits end

pub no_room : (t : List ℕ) (n : ℕ) → n ≡ 0 → decoded n t ≡ []
unfolding decoded
no_room t n e = rw e refl

pub no_pair : (n : ℕ) (t : List ℕ) → length t < 2 → decoded n t ≡ []
unfolding decoded
no_pair zero t h = refl
no_pair (suc n) [] h = refl
no_pair (suc n) (a ∷ []) h = refl
no_pair (suc n) (a ∷ b ∷ t) h = absurd (omega arith)

pub no_byte : (n : ℕ) (t : List ℕ) → None ≡ byte_of (get_or t 0 0) (get_or t 1 0) → decoded n t ≡ []
unfolding decoded
no_byte zero t e = refl
no_byte (suc n) [] e = refl
no_byte (suc n) (a ∷ []) e = refl
no_byte (suc n) (a ∷ b ∷ t) e = rw (← e) refl

pair : (n c : ℕ) (t : List ℕ) → 2 ≤ length t → Some c ≡ byte_of (get_or t 0 0) (get_or t 1 0) → decoded (suc n) t ≡ c ∷ decoded n (drop 2 t)
unfolding decoded
pair n c [] h e = absurd (omega arith)
pair n c (a ∷ []) h e = absurd (omega arith)
pair n c (a ∷ b ∷ t) h e = rw (← e) refl

-- ---- How many bytes there are

pub decoded_twice : (n : ℕ) (t : List ℕ) → 2 * length (decoded n t) ≤ length t
unfolding decoded
decoded_twice zero t = omega arith
decoded_twice (suc n) [] = omega arith
decoded_twice (suc n) (a ∷ []) = omega arith
decoded_twice (suc n) (a ∷ b ∷ t) = at (byte_of a b) (decoded_twice n t)
  where
    at : (o : Option ℕ) → 2 * length (decoded n t) ≤ length t → 2 * length (begun_with o (decoded n t)) ≤ suc (suc (length t))
    at (Some c) ih = omega arith
    at None ih = omega arith

-- ---- The loop

-- n bytes stand at the front of `out`, and `rest` is left to decode
pub record Decoding (t out₀ out rest : List ℕ) (n : ℕ) : Type 0 where
  pub inside : n ≤ length out₀
  pub long : length out ≡ length out₀
  pub left : drop n out ≡ drop n out₀
  pub same : decoded (length out₀) t ≡ take n out ++ decoded (length out₀ - n) rest

pub begun : (t out : List ℕ) → Decoding t out out t 0
begun t out = record { inside = omega arith; long = refl; left = refl; same = let e : length out - 0 ≡ length out = omega arith in rw e refl }

module _ {t out₀ out rest : List ℕ} {n : ℕ} (d : Decoding t out₀ out rest n) where
  -- one byte more; what is left as the borrow checker gives it
  pub more : (b : ℕ) → n < length out → 2 ≤ length rest → Some b ≡ byte_of (get_or rest 0 0) (get_or rest 1 0)
      → Decoding t out₀ (set out n b) (take (length rest - 2) (drop 2 rest)) (n + 1)
  more b h two byte =
      let k : length out₀ - n ≡ suc (length out₀ - (n + 1)) = omega (arith, d.long) in
      let s : take (n + 1) (set out n b) ≡ take n out ++ (b ∷ []) = rw (add-one n) (take-suc-set out n b h) in
      record {
        inside = omega (arith, d.long);
        long = length-set out n b ∙ d.long;
        left = drop-set-lt (n + 1) out n b (omega arith) ∙ sym (drop-drop 1 n out) ∙ ap (drop 1) d.left ∙ drop-drop 1 n out₀;
        same = d.same ∙ rw (s, part_rest rest 2, k, pair (length out₀ - (n + 1)) b rest two byte, append_assoc) refl;
      }

  pub ended : decoded (length out₀ - n) rest ≡ [] → Decodes t out₀ out n
  ended e =
      let f : decoded (length out₀) t ≡ take n out = d.same ∙ rw e (append-nil (take n out)) in
      let l : length (take n out) ≡ n = length-take-le n out (omega (arith, d.inside, d.long)) in
      record { counts = sym (ap length f ∙ l); leaves = sym (rw (f, l, ← d.left) (take-append-drop n out)) }
