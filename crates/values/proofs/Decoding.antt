-- The loop that decodes a value: what is stored is a beginning of the value, and the text that is left gives the rest. Assumes nothing.
use Rattle.std.specs.Prelude.{Some, None, if◌then◌else◌}
use mathlib.Core.Bool.{Bool, true, false}
use mathlib.Core.List.{List, [], ◌∷◌, ◌++◌, flatten}
use mathlib.Core.Path.{◌≡◌, refl, sym, ap, ◌∙◌}
use Prim.Native.Nat.{ℕ, zero, suc, ◌+◌, ◌-◌, ◌≤◌, ◌<◌, min}
use native.Mathlib.Nat.{min-eq_left, min-eq_right}
use native.Mathlib.Numerals.{add-one}
use native.Mathlib.Omega.{arith}
use lib.ListN.{length, take, drop, get_or, set, length-append, length-take, length-drop, drop_of_length-le}
use lib.Seq.{paste, paste-zero, length-paste, drop-drop, drop-cons, get_or-drop, take_at, drop_at}
use borrow.Author.Tests.{le-leb, lt-leb, eq-eqb}
use Rattle.definition.specs.Lists.{take_while}
use Rattle.definition.specs.Parsing.{nothing, Parsed}
use Rattle.definition.specs.Bytes.{newline, backslash}
use Rattle.definition.specs.Text.{piece_at}
use Rattle.laws.proofs.Lists.{not_both, part_rest, paste_one, take_run, length_take_while_le}
use Rattle.laws.proofs.Parsing.{many_stop}
use Rattle.laws.proofs.Keys.{piece_shrinks}
use Rattle.copies.specs.Plain.{is_plain}
use Rattle.copies.proofs.Copying.{paste_more, plain_byte}
use Rattle.escapes.specs.declared.Piece.{Piece}
use Rattle.escapes.specs.Pieces.{escape_in}
use Rattle.values.specs.Decoded.{decoded_at, rest_at, stored_at, Decoded}
use Rattle.values.proofs.Pieces.{Yields, IsPiece, plain_yields, run_yields, answer_piece}

-- ---- The piece at i of a text

module _ (t : List ℕ) (i : ℕ) where
  pub over : length t ≤ i → piece_at (drop i t) ≡ nothing
  unfolding piece_at
  over h = rw (drop_of_length-le t h) refl

  module _ (h : i < length t) where
    pub ended : get_or t i 0 ≡ newline → piece_at (drop i t) ≡ nothing
    unfolding piece_at
    ended e = rw (drop-cons t i 0 h, eq-eqb (get_or t i 0) newline e) refl

    pub plain : is_plain (get_or t i 0) ≡ true → Yields (drop i t) (get_or t i 0 ∷ []) 1
    plain e = rw (drop-cons t i 0 h) (plain_yields (get_or t i 0) (drop (suc i) t) e)

    -- the text after a backslash, as the code takes it
    escaped : get_or t i 0 ≡ backslash → backslash ∷ take (length t - (i + 1)) (drop (i + 1) t) ≡ drop i t
    escaped e = rw (part_rest t (i + 1), add-one, ← e) (sym (drop-cons t i 0 h))

    -- p is the code's answer on it
    pub escape_there : get_or t i 0 ≡ backslash → {p : Piece} → p ≡ escape_in (take (length t - (i + 1)) (drop (i + 1) t)) → IsPiece (drop i t) p
    escape_there e f = rw (escaped e) at (answer_piece _ f)

-- where a byte that passes follows a run in the first m bytes, the run is all of them
run_whole : (p : ℕ → Bool) (m : ℕ) (t : List ℕ) → let n = length (take_while p (take m t)) in n < length t → p (get_or t n 0) ≡ true → m ≤ n
unfolding take_while
run_whole p zero t h e = omega arith
run_whole p (suc m) [] h e = absurd (omega arith)
run_whole p (suc m) (c ∷ t) h e = at (p c) refl h e (run_whole p m t)
  where
    at : (b : Bool) → p c ≡ b → let n = length (if b then c ∷ take_while p (take m t) else []) in
        n < suc (length t) → p (get_or (c ∷ t) n 0) ≡ true
        → (let k = length (take_while p (take m t)) in k < length t → p (get_or t k 0) ≡ true → m ≤ k) → suc m ≤ n
    at true f h e ih = omega (arith, ih (omega arith) e)
    at false f h e ih = absurd (not_both e f)

-- ---- The loop

-- s holds the value of t up to `end`, and t from i on is left
pub record Decoding (t s₀ : List ℕ) (at : ℕ) (s : List ℕ) (end i : ℕ) : Type 0 where
  pub stored : s ≡ paste s₀ at (decoded_at t) (end - at)
  pub left : decoded_at (drop i t) ≡ drop (end - at) (decoded_at t)
  pub rest : rest_at t ≡ rest_at (drop i t)
  pub begun : at ≤ end
  pub most : end - at ≤ length (decoded_at t)
  pub in_text : i ≤ length t
  pub in_store : end ≤ length s
  pub kept : length s ≡ length s₀

pub decoding_first : (t s : List ℕ) (at : ℕ) → at ≤ length s → Decoding t s at s at 0
decoding_first t s at h =
    let z : at - at ≡ 0 = omega arith in
    record {
      stored = rw z (paste-zero s at (decoded_at t));
      left = rw z refl;
      rest = refl;
      begun = omega arith;
      most = omega arith;
      in_text = omega arith;
      in_store = h;
      kept = refl;
    }

-- k more bytes of v
pub more_stored : (s₀ v u : List ℕ) (at end j k : ℕ) {s : List ℕ} → s ≡ paste s₀ at v j → at + j ≡ end → take k u ≡ take k (drop j v) → end ≤ length s₀ → j ≤ length v
    → paste s end u k ≡ paste s₀ at v (j + k)
more_stored s₀ v u at end j k e p q h l = rw (q, e, ← p) (paste_more s₀ at v j k (omega arith) l)

module _ {t s₀ : List ℕ} {at : ℕ} {s : List ℕ} {end i : ℕ} (d : Decoding t s₀ at s end i) where
  left_length : length (decoded_at (drop i t)) ≡ length (decoded_at t) - (end - at)
  left_length = ap length d.left ∙ length-drop (end - at) (decoded_at t)

  pub decoded : piece_at (drop i t) ≡ nothing → Decoded t s₀ at s (Some (record { end = end; taken = i }))
  unfolding flatten stored_at
  decoded e =
      let m = many_stop piece_at piece_shrinks (drop i t) e in
      let v : length (decoded_at (drop i t)) ≡ 0 = ap (λ (r : Parsed (List ℕ)). length (flatten r.items)) m in
      let r : length (rest_at t) ≡ length t - i = ap length (d.rest ∙ ap (λ (r : Parsed (List ℕ)). r.rest) m) ∙ length-drop i t in
      let k : end - at ≡ length (decoded_at t) = omega (arith, left_length, d.most) in
      let a : end ≡ at + length (decoded_at t) = omega (arith, d.begun) in
      let b : i ≡ length t - length (rest_at t) = omega (arith, d.in_text) in
      let h : length (decoded_at t) ≤ length s₀ - at = omega (arith, d.in_store, d.kept) in
      record {
        answer = rw (le-leb (at + length (decoded_at t)) (length s₀) (omega (arith, d.in_store, d.kept)), ← a, ← b) refl;
        stored = d.stored ∙ rw (k, min-eq_left h) refl;
      }

  module _ {ys : List ℕ} {n : ℕ} (g : Yields (drop i t) ys n) where
    pub piece_fits : i + n ≤ length t
    piece_fits = omega (arith, g.inside, length-drop i t, d.in_text)

    next_is : drop (end - at) (decoded_at t) ≡ ys ++ decoded_at (drop (i + n) t)
    next_is = sym d.left ∙ rw (drop-drop n i t) at g.value

    next_fits : end - at + length ys ≤ length (decoded_at t)
    next_fits = omega (arith, d.most, simp length-append at (ap length next_is), length-drop (end - at) (decoded_at t))

    -- u begins with ys
    more : (k : ℕ) (u s' : List ℕ) → length ys ≡ k → take k u ≡ ys → s' ≡ paste s end u k → end + k ≤ length s → Decoding t s₀ at s' (end + k) (i + n)
    more k u s' a b f h =
        let z : end + k - at ≡ end - at + k = omega (arith, d.begun) in
        let x : take k u ≡ take k (drop (end - at) (decoded_at t)) = b ∙ sym (ap (take k) next_is ∙ take_at ys _ k a) in
        let y : decoded_at (drop (i + n) t) ≡ drop (end - at + k) (decoded_at t) = sym (drop_at ys _ k a) ∙ ap (drop k) (sym next_is) ∙ drop-drop k (end - at) (decoded_at t) in
        let l : k ≤ length u = omega (arith, ap length b, length-take k u) in
        let w : length s' ≡ length s = ap length f ∙ length-paste s end u k h l in
        record {
          stored = f ∙ rw z (more_stored s₀ (decoded_at t) u at end (end - at) k d.stored (omega (arith, d.begun)) x (omega (arith, d.kept, d.in_store)) d.most);
          left = rw z y;
          rest = d.rest ∙ rw (drop-drop n i t) at g.rest;
          begun = omega (arith, d.begun);
          most = omega (arith, next_fits);
          in_text = piece_fits;
          in_store = omega arith;
          kept = w ∙ d.kept;
        }

  module _ {n : ℕ} where
    module _ {b : ℕ} (g : Yields (drop i t) (b ∷ []) n) where
      pub byte_more : end < length s → Decoding t s₀ at (set s end b) (end + 1) (i + n)
      byte_more k = more g 1 (b ∷ []) (set s end b) refl refl (paste_one s end b k) (omega arith)

      pub full : length s ≤ end → Decoded t s₀ at s None
      unfolding stored_at
      full k =
          let f = next_fits g in
          let a : length s₀ - at ≤ length (decoded_at t) = omega (arith, d.kept, d.in_store) in
          let e : end - at ≡ length s₀ - at = omega (arith, d.kept, d.in_store) in
          record {
            answer = rw (lt-leb (at + length (decoded_at t)) (length s₀) (omega (arith, d.kept, d.in_store, d.begun))) refl;
            stored = d.stored ∙ rw (e, min-eq_right a) refl;
          }

    pub drop_more : Yields (drop i t) [] n → Decoding t s₀ at s end (i + n)
    drop_more g =
        let z : end + 0 ≡ end = omega arith in
        rw z at (more g 0 [] s refl refl (paste-zero s end []) (omega (arith, d.in_store)))

-- a run: the plain bytes among the m that are left and have room, as the code takes and copies them
abbrev pub Ran : List ℕ → List ℕ → ℕ → ℕ → ℕ → ℕ → List ℕ → Type 0
Ran t s end i m n s' =
    let u = take (i + m - i) (drop i t) in (n ≡ length (take_while is_plain u)) × (s' ≡ paste s end u n)

module _ {t s₀ : List ℕ} {at : ℕ} {s : List ℕ} {end i : ℕ} (d : Decoding t s₀ at s end i) {m n : ℕ} {s' : List ℕ} (room : m ≡ min (length t - i) (length s - end)) (ran : Ran t s end i m n s') where
  pub run_more : Decoding t s₀ at s' (end + n) (i + n)
  run_more =
      let u = take (i + m - i) (drop i t) in
      let l = length_take_while_le is_plain u in
      more d (run_yields (drop i t) (i + m - i) n ran.0) n u s' (sym ran.0) (rw ran.0 (take_run is_plain u)) ran.1 (omega (arith, length-take (i + m - i) (drop i t), d.in_store, ran))

  -- a plain byte follows it
  pub run_full : i + n < length t → (get_or t (i + n) 0 ≡ newline → ⊥) → (get_or t (i + n) 0 ≡ backslash → ⊥) → Decoded t s₀ at s' None
  run_full h e f =
      let p = plain_byte (get_or t (i + n) 0) e f in
      let w = run_whole is_plain (i + m - i) (drop i t) (omega (arith, length-drop i t, ran)) (rw (← get_or-drop i t n 0, ran.0) at p) in
      full run_more (plain t (i + n) h p) (omega (arith, run_more.kept, d.kept, ran))

  -- an escape follows it
  module _ (h : i + n < length t) (e : get_or t (i + n) 0 ≡ backslash) {p : Piece} (f : p ≡ escape_in (take (length t - (i + n + 1)) (drop (i + n + 1) t))) where
    there : IsPiece (drop (i + n) t) p
    there = escape_there t (i + n) h e f

    pub escape_fits : (1 ≤ p.len) × (i + n + p.len ≤ length t)
    escape_fits = (there.1, piece_fits run_more there.0)

    pub escape_nothing : p.byte ≡ None → Decoding t s₀ at s' (end + n) (i + n + p.len)
    escape_nothing g = drop_more run_more (rw g at there.0)

    module _ {b : ℕ} (g : p.byte ≡ Some b) where
      gives : Yields (drop (i + n) t) (b ∷ []) p.len
      gives = rw g at there.0

      pub escape_full : length s' ≤ end + n → Decoded t s₀ at s' None
      escape_full k = full run_more gives k

      pub escape_byte : end + n < length s' → Decoding t s₀ at (set s' (end + n) b) (end + n + 1) (i + n + p.len)
      escape_byte k = byte_more run_more gives k
