-- Fields that are compared. Assumes nothing.
use Rattle.std.specs.Prelude.{if◌then◌else◌, Option, Some, None, is_some, unwrap_or}
use Rattle.std.specs.Cmp.Lexicographic.{pointwise}
use Rattle.scan.proofs.Bridges.{same_pointwise}
use mathlib.Core.Bool.{Bool, true, false}
use mathlib.Core.List.{List, [], ◌∷◌, ◌++◌}
use mathlib.Core.Path.{◌≡◌, refl, sym, ap, ◌∙◌}
use Prim.Native.Nat.{ℕ, ◌+◌, ◌-◌}
use lib.Dec.{eqb}
use lib.ListN.{length, take, drop, length-append}
use lib.Seq.{take-append_seam}
use Rattle.definition.specs.Lists.{same}
use Rattle.definition.specs.Limits.{body_bytes}
use Rattle.laws.proofs.Lists.{not_both, part_rest}
use Rattle.scan.specs.Scanned.{starts_with}
use Rattle.fields.specs.Fields.{field_bytes, field_end, taken, Takes, passed, bytes_end, followed}
use Rattle.fields.specs.declared.Taken.{Taken}

-- one beginning after another
starts_append : (w v t : List ℕ) → starts_with (w ++ v) t ≡ (if starts_with w t then starts_with v (drop (length w) t) else false)
unfolding starts_with
starts_append [] v t = refl
starts_append (b ∷ w) v [] = refl
starts_append (b ∷ w) v (c ∷ t) = at (eqb b c) (starts_append w v t)
  where
    at : (x : Bool) → starts_with (w ++ v) t ≡ (if starts_with w t then starts_with v (drop (length w) t) else false)
        → (if x then starts_with (w ++ v) t else false) ≡ (if (if x then starts_with w t else false) then starts_with v (drop (length w) t) else false)
    at true ih = ih
    at false ih = refl

-- ---- Bytes: what was taken, compared

-- what is taken of a field, by its end
taken_size : {n : ℕ} {o : Option ℕ} {f : Taken} → Some f ≡ taken n o → (f.size ≡ n) × (Some f.end ≡ o)
taken_size {n} {o} {f} = at o
  where
    at : (o : Option ℕ) → Some f ≡ taken n o → (f.size ≡ n) × (Some f.end ≡ o)
    at (Some e) h =
        let g = ap (λ (r : Option Taken). unwrap_or r f) h in
        (ap (λ (r : Taken). r.size) g, ap (λ (r : Taken). Some r.end) g)
    at None h = absurd (not_both refl (ap is_some h))

module _ (t bytes out out' : List ℕ) (long : length out ≡ body_bytes) where
  module _ (f : Taken) (k : Takes t out out' (Some f)) where
    front : take f.size out' ≡ field_bytes body_bytes t
    front = ap (λ (l : List ℕ). take f.size l) k.leaves ∙ rw ((taken_size k.is).0, long) (take-append_seam (field_bytes body_bytes t) _)

    module _ (b : Bool) (s : b ≡ pointwise eqb (take f.size out') bytes) where
      same_is : same (field_bytes body_bytes t) bytes ≡ b
      same_is = ap (λ (l : List ℕ). same l bytes) (sym front) ∙ sym (same_pointwise _ _) ∙ sym s

      pub bytes_yes : b ≡ true → Some f.end ≡ bytes_end bytes t
      unfolding bytes_end
      bytes_yes e = (taken_size k.is).1 ∙ rw (same_is, e, long) refl

      pub bytes_no : b ≡ false → None ≡ bytes_end bytes t
      unfolding bytes_end
      bytes_no e = rw (same_is, e) refl

  pub no_bytes : Takes t out out' None → None ≡ bytes_end bytes t
  unfolding bytes_end
  no_bytes k = at (same (field_bytes body_bytes t) bytes)
    where
      ends : (o : Option ℕ) → None ≡ taken (length (field_bytes (length out) t)) o → None ≡ o
      ends (Some e) h = absurd (not_both (ap is_some h) refl)
      ends None h = refl

      at : (b : Bool) → None ≡ (if b then field_end (length (field_bytes body_bytes t)) t else None)
      at true = rw (← long) (ends _ k.is)
      at false = refl

-- ---- A number, and what stands before it

module _ (before digits t : List ℕ) where
  pub before_no : starts_with before t ≡ false → None ≡ passed (before ++ digits) t
  unfolding passed
  before_no e = rw (starts_append before digits t, e) refl

  module _ (e : starts_with before t ≡ true) where
    pub digits_no : starts_with digits (take (length t - length before) (drop (length before) t)) ≡ false → None ≡ passed (before ++ digits) t
    unfolding passed
    digits_no f = rw (starts_append before digits t, e, ← part_rest t (length before), f) refl

    pub digits_yes : starts_with digits (take (length t - length before) (drop (length before) t)) ≡ true → Some (length before + length digits) ≡ passed (before ++ digits) t
    unfolding passed
    digits_yes f = rw (starts_append before digits t, e, ← part_rest t (length before), f, length-append before digits) refl

-- ---- What follows a field; the rest as the borrow checker gives it

pub followed_on : (n : ℕ) (test : List ℕ → Bool) (t : List ℕ) → followed (Some n) test t ≡ test (take (length t - n) (drop n t))
followed_on n test t = ap test (sym (part_rest t n))
