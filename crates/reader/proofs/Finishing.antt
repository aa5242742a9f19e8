-- The end of a reading, and the tests before it. Assumes nothing.
use Rattle.std.specs.Array.{IsFirstChunk}
use Rattle.std.specs.Prelude.{Result, Ok, Err}
use Rattle.std.proofs.lemmas.List.{take-append-drop}
use mathlib.Core.Bool.{true, false}
use mathlib.Core.List.{List, [], ◌++◌, append-nil}
use mathlib.Core.Path.{◌≡◌, refl, sym, ap, ◌∙◌}
use Prim.Native.Nat.{ℕ, ◌-◌, ◌≤◌, ◌<◌}
use native.Mathlib.Omega.{arith}
use lib.ListN.{length, take, drop, drop_of_length-le}
use borrow.Author.Tests.{lt-ltb, le-ltb}
use Rattle.definition.specs.Lists.{any, zeroes, beyond}
use Rattle.definition.specs.Limits.{greatest_depth, contents_words, body_bytes}
use Rattle.definition.specs.Archive.{laid_out, files_of}
use Rattle.definition.specs.Image.{Sourced, bare, store_of, contents_of, written_over}
use Rattle.definition.specs.Reading.{Verdict, within, past, accepted, refused, outcome, left, judge, start, met, sourced, read_entries, too_long, reading}
use Rattle.image.specs.Running.{world, begun, run, answered, closed_words, closed_bytes, finished}
use Rattle.image.specs.declared.Totals.{Totals}
use Rattle.refusal.specs.Numbers.{number}
use Rattle.refusal.specs.declared.Refusal.{Refusal}
use Rattle.image.proofs.Images.{room_after, finished_left}
use Rattle.reader.specs.Said.{Ready, left_by}

-- ---- The end of a reading, whatever it has met

module _ (depth : ℕ) (texts : List (List ℕ)) (archive c b : List ℕ) (hc : length c ≡ contents_words) (hb : length b ≡ body_bytes) where
  pub ready : (r : Result Totals Refusal) (c' b' : List ℕ) → answered r c' b' ≡ run (files_of archive) (world begun c b) (met depth texts archive)
      → length c' ≡ length c → length b' ≡ length b → Ready r c' b'
  unfolding answered
  ready (Ok s) c' b' e lc lb = room_after c b hc hb (files_of archive) (met depth texts archive) (world s c' b') (sym e)
  ready (Err k) c' b' e lc lb = (lc ∙ hc, lb ∙ hb)

  pub finished_is : (r : Result Totals Refusal) (c' b' : List ℕ) → answered r c' b' ≡ run (files_of archive) (world begun c b) (met depth texts archive)
      → finished (answered r c' b') ≡ left_by depth texts archive c b
  unfolding left_by
  finished_is r c' b' e = ap finished e ∙ finished_left c b hc hb (files_of archive) (met depth texts archive)

-- what `empty_image` and `close_image` leave is the end of a reading
module _ (r : Result Totals Refusal) (c b : List ℕ) (ready : Ready r c b) where
  pub stop_finished : {k : Refusal} {c' b' : List ℕ} → r ≡ Err k → (c' ≡ zeroes (length c)) × (b' ≡ zeroes (length b))
      → outcome (refused (number k)) c' b' ≡ finished (answered r c b)
  unfolding answered finished
  stop_finished e f =
      let l = rw e at ready in
      rw (e, f.0, f.1, l.0, l.1) refl

  pub go_finished : (s : Totals) {c' b' : List ℕ} → r ≡ Ok s → (c' ≡ closed_words s c) × (b' ≡ closed_bytes s b)
      → outcome (accepted s.entries s.opens) c' b' ≡ finished (answered r c b)
  unfolding answered finished
  go_finished s e f = rw (e, f.0, f.1) refl

-- ---- The call, in buffers of any length

-- a buffer whose front was lent, and left as it was
pub front_left : (n : ℕ) (xs ys : List ℕ) → IsFirstChunk xs ys n → ys ++ drop n xs ≡ xs
front_left n xs ys h = rw h.same (take-append-drop n xs)

-- what is written over the front of a buffer, with the rest behind it
pub over_front : (n : ℕ) (lent xs : List ℕ) → written_over n (take n lent) xs ++ drop n lent ≡ written_over n lent xs
unfolding written_over beyond
over_front n lent xs =
    let none : drop n (take n lent) ≡ [] = drop_of_length-le (take n lent) {i = n} (taken_le n lent) in
    rw none (ap (λ (l : List ℕ). l ++ drop n lent) (append-nil (xs ++ zeroes (n - length xs))))
  where
    taken_le : (n : ℕ) (l : List ℕ) → length (take n l) ≤ n
    taken_le n l = omega (arith, lib.ListN.length-take n l)

left_front : (v : Verdict) (xs : List Sourced) (c b : List ℕ)
    → outcome (left v xs (take contents_words c) (take body_bytes b)).answer
    ((left v xs (take contents_words c) (take body_bytes b)).contents ++ drop contents_words c)
    ((left v xs (take contents_words c) (take body_bytes b)).bodies ++ drop body_bytes b)
    ≡ left v xs c b
unfolding left
left_front (within s) xs c b = λ i. outcome (accepted s.entries s.opens) (over_front contents_words c (contents_of xs) i) (over_front body_bytes b (store_of (bare xs)) i)
left_front (past k) xs c b = λ i. outcome (refused k) (over_front contents_words c (contents_of []) i) (over_front body_bytes b (store_of []) i)

module _ (depth : ℕ) (texts : List (List ℕ)) (archive c b : List ℕ) where
  pub short_contents : length c < contents_words → outcome (refused 1) c b ≡ reading depth texts archive c b
  unfolding reading
  short_contents h = rw (lt-ltb (length c) contents_words h) refl

  module _ (hc : contents_words ≤ length c) where
    pub short_bodies : length b < body_bytes → outcome (refused 1) c b ≡ reading depth texts archive c b
    unfolding reading
    short_bodies h = rw (le-ltb (length c) contents_words hc, lt-ltb (length b) body_bytes h) refl

    module _ (hb : body_bytes ≤ length b) where
      pub long_text : any too_long texts ≡ true → outcome (refused 2) c b ≡ reading depth texts archive c b
      unfolding reading
      long_text h = rw (le-ltb (length c) contents_words hc, le-ltb (length b) body_bytes hb, h) refl

      module _ (ht : any too_long texts ≡ false) where
        pub not_laid_out : laid_out archive ≡ false → outcome (refused 3) c b ≡ reading depth texts archive c b
        unfolding reading
        not_laid_out h = rw (le-ltb (length c) contents_words hc, le-ltb (length b) body_bytes hb, ht, h) refl

        pub too_deep : laid_out archive ≡ true → greatest_depth < depth → outcome (refused 15) c b ≡ reading depth texts archive c b
        unfolding reading
        too_deep a h = rw (le-ltb (length c) contents_words hc, le-ltb (length b) body_bytes hb, ht, a, lt-ltb greatest_depth depth h) refl

-- 1, 2, 3 and 15 are passed
pub record Admitted (depth : ℕ) (texts : List (List ℕ)) (archive c b : List ℕ) : Type 0 where
  pub words : contents_words ≤ length c
  pub bytes : body_bytes ≤ length b
  pub short : any too_long texts ≡ false
  pub laid : laid_out archive ≡ true
  pub shallow : depth ≤ greatest_depth

module _ {depth : ℕ} {texts : List (List ℕ)} {archive c b : List ℕ} (h : Admitted depth texts archive c b) where
  -- filling the fronts of the buffers is then the reading
  pub fronts : (a : Rattle.definition.specs.Reading.Answer) (c' b' : List ℕ)
      → outcome a c' b' ≡ left_by depth texts archive (take contents_words c) (take body_bytes b)
      → outcome a (c' ++ drop contents_words c) (b' ++ drop body_bytes b) ≡ reading depth texts archive c b
  unfolding reading left_by
  fronts a c' b' e =
      (λ i. outcome (e i).answer ((e i).contents ++ drop contents_words c) ((e i).bodies ++ drop body_bytes b))
      ∙ left_front (judge start (met depth texts archive)) (sourced (files_of archive) (read_entries depth texts archive)) c b
      ∙ sym (rw (le-ltb (length c) contents_words h.words, le-ltb (length b) body_bytes h.bytes, h.short, h.laid, le-ltb greatest_depth depth h.shallow) refl)
