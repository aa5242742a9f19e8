-- What an accepted reading is, and what holds of all that a reading gives. Assumes nothing.
use Rattle.std.specs.Prelude.{if◌then◌else◌}
use mathlib.Core.Bool.{Bool, true, false, not}
use mathlib.Core.List.{List, [], ◌∷◌, ◌++◌}
use mathlib.Core.Option.{Option, some, none}
use mathlib.Core.Path.{◌≡◌, refl, sym, ap, ◌∙◌}
use Prim.Native.Nat.{ℕ, zero, suc, ◌+◌, ◌≤◌}
use native.Mathlib.Omega.{arith}
use lib.Dec.{leb}
use lib.ListN.{length}
use borrow.Author.Tests.{le-leb}
use Rattle.definition.specs.Lists.{all, any}
use Rattle.definition.specs.Limits.{most_parts, most_entries, most_opens}
use Rattle.definition.specs.Archive.{File, laid_out, files_of, body_of, folder_of, path_of}
use Rattle.definition.specs.Text.{Entry, Line, skipped, include, entry, lines_of}
use Rattle.definition.specs.Including.{Chain, Event, opened, entered, events_of, opening, seeking, including, events, events_of_all, Entered, entries_of, opens_of}
use Rattle.definition.specs.Image.{Sourced, bare, too_short, image_contents, image_bodies}
use Rattle.definition.specs.Reading.{Totals, Verdict, within, past, judge, start, accepted, refused, Outcome, outcome, met, read_entries, plain, sourced, left, too_long, too_deep, reading}
use Rattle.definition.specs.ThirdTerm.{is_accepted}
use Rattle.laws.proofs.Lists.{not_both, and_true, and_both}
use Rattle.laws.proofs.Limits.{InLimits, FewParts, judge_limits, limits_judge}

-- the entries of a reading are those that stand in its image
pub bare_sourced : (fs : List File) (xs : List Entered) → bare (sourced fs xs) ≡ plain xs
bare_sourced fs [] = refl
bare_sourced fs (x ∷ xs) = ap (λ (l : List Entry). x.entry ∷ l) (bare_sourced fs xs)

-- ---- An accepted reading

pub record Reads (depth : ℕ) (texts : List (List ℕ)) (archive contents bodies : List ℕ) : Type 0 where
  pub long : too_short contents bodies ≡ false
  pub fit : any too_long texts ≡ false
  pub is_laid_out : laid_out archive ≡ true
  pub shallow : too_deep depth ≡ false
  pub limits : InLimits start (met depth texts archive)

not_refused : (b : Bool) (k : ℕ) (c d : List ℕ) (o : Outcome) → is_accepted (if b then outcome (refused k) c d else o).answer ≡ true
    → (b ≡ false) × (is_accepted o.answer ≡ true)
not_refused true k c d o e = absurd (not_both e refl)
not_refused false k c d o e = (refl, e)

judged : (v : Verdict) (es : List Sourced) (c b : List ℕ) → is_accepted (left v es c b).answer ≡ true → (s : Totals) × (v ≡ within s)
unfolding left
judged (within s) es c b e = (s, refl)
judged (past k) es c b e = absurd (not_both e refl)

not_not : (b : Bool) → not b ≡ false → b ≡ true
not_not true e = refl
not_not false e = sym e

module _ (depth : ℕ) (texts : List (List ℕ)) (archive contents bodies : List ℕ) where
  pub accepted_reads : is_accepted (reading depth texts archive contents bodies).answer ≡ true → Reads depth texts archive contents bodies
  unfolding reading
  accepted_reads e =
      let a = not_refused (too_short contents bodies) 1 contents bodies _ e in
      let b = not_refused (any too_long texts) 2 contents bodies _ a.1 in
      let c = not_refused (not (laid_out archive)) 3 contents bodies _ b.1 in
      let d = not_refused (too_deep depth) 15 contents bodies _ c.1 in
      let f = judged (judge start (met depth texts archive)) (sourced (files_of archive) (read_entries depth texts archive)) contents bodies d.1 in
      record {
        long = a.0;
        fit = b.0;
        is_laid_out = not_not (laid_out archive) c.0;
        shallow = d.0;
        limits = (judge_limits (met depth texts archive) start f.0 (omega arith) (omega arith) (omega arith) f.1).1;
      }

  -- it leaves the image of its entries, with their origins
  pub reads_outcome : Reads depth texts archive contents bodies
      → reading depth texts archive contents bodies
      ≡ outcome (accepted (0 + length (read_entries depth texts archive)) (0 + opens_of (met depth texts archive)))
      (image_contents (sourced (files_of archive) (read_entries depth texts archive)) contents) (image_bodies (plain (read_entries depth texts archive)) bodies)
  unfolding reading left
  reads_outcome r =
      rw (r.long, r.fit, r.is_laid_out, r.shallow, limits_judge (met depth texts archive) start r.limits, bare_sourced (files_of archive) (read_entries depth texts archive)) refl

-- an accepted reading answers within the limits
pub accepted_small : (depth : ℕ) (texts : List (List ℕ)) (archive contents bodies c b : List ℕ) (n o : ℕ) → outcome (accepted n o) c b ≡ reading depth texts archive contents bodies
    → (n ≤ most_entries) × (o ≤ most_opens)
accepted_small depth texts archive contents bodies c b n o e =
    let r = accepted_reads depth texts archive contents bodies (rw (← e) refl) in
    let f : outcome (accepted n o) c b ≡ _ = e ∙ reads_outcome depth texts archive contents bodies r in
    let g : accepted n o ≡ accepted (0 + length (read_entries depth texts archive)) (0 + opens_of (met depth texts archive)) = ap (λ (x : Outcome). x.answer) f in
    let p : n ≡ 0 + length (read_entries depth texts archive) = cc in
    let q : o ≡ 0 + opens_of (met depth texts archive) = cc in
    (omega (arith, r.limits.entries_most), omega (arith, r.limits.opens_most))

-- ---- What holds of every line's entry holds of every entry read

module _ (good : Entry → Bool) (test : Line → Bool) (agrees : (e : Entry) → test (entry e) ≡ good e) (lines-pass : (t : List ℕ) → all test (lines_of t) ≡ true) where
  abbrev Good : List Event → Type 0
  Good es = all good (plain (entries_of es)) ≡ true

  good_append : (xs ys : List Event) → Good xs → Good ys → Good (xs ++ ys)
  unfolding entries_of all
  good_append [] ys h k = k
  good_append (opened ch ∷ xs) ys h k = good_append xs ys h k
  good_append (entered ch e ∷ xs) ys h k =
      let a = and_true (good e) (all good (plain (entries_of xs))) h in
      and_both a.0 (good_append xs ys a.1 k)

  events_of_good : (inc : List ℕ → List Event) (ch : Chain) (ls : List Line) → ((n : List ℕ) → Good (inc n)) → all test ls ≡ true → Good (events_of inc ch ls)
  unfolding events_of entries_of all
  events_of_good inc ch [] f h = refl
  events_of_good inc ch (skipped ∷ ls) f h = events_of_good inc ch ls f (and_true (test skipped) (all test ls) h).1
  events_of_good inc ch (include n ∷ ls) f h =
      good_append (inc n) (events_of inc ch ls) (f n) (events_of_good inc ch ls f (and_true (test (include n)) (all test ls) h).1)
  events_of_good inc ch (entry e ∷ ls) f h =
      let a = and_true (test (entry e)) (all test ls) h in
      and_both (sym (agrees e) ∙ a.0) (events_of_good inc ch ls f a.1)

  opening_good : (ch : Chain) (r : List ℕ → List Event) (o : Option (List ℕ)) → ((b : List ℕ) → Good (r b)) → Good (opening ch r o)
  unfolding opening entries_of all
  opening_good ch r none f = refl
  opening_good ch r (some b) f = f b

  seeking_good : (f : List ℕ → List Event) (o : Option (List ℕ)) → ((g : List ℕ) → Good (f g)) → Good (seeking f o)
  unfolding seeking entries_of all
  seeking_good f none h = refl
  seeking_good f (some g) h = h g

  including_good : (d : ℕ) (fs : List File) (folder : List ℕ) (ch : Chain) (n : List ℕ) → Good (including d fs folder ch n)
  unfolding including entries_of all
  including_good zero fs folder ch n = refl
  including_good (suc d) fs folder ch n =
      seeking_good _ (path_of folder n)
      (λ g.
      opening_good (ch ++ g ∷ []) _ (body_of fs g)
      (λ b. events_of_good (including d fs (folder_of g) (ch ++ g ∷ [])) (ch ++ g ∷ []) (lines_of b) (λ m. including_good d fs (folder_of g) (ch ++ g ∷ []) m) (lines-pass b)))

  events_good : (d : ℕ) (fs : List File) (t : List ℕ) → all good (plain (entries_of (events d fs t))) ≡ true
  unfolding events
  events_good d fs t = events_of_good (including d fs [] []) [] (lines_of t) (λ n. including_good d fs [] [] n) (lines-pass t)

  pub events_of_all_good : (d : ℕ) (fs : List File) (ts : List (List ℕ)) → all good (plain (entries_of (events_of_all d fs ts))) ≡ true
  unfolding events_of_all entries_of all
  events_of_all_good d fs [] = refl
  events_of_all_good d fs (t ∷ ts) = good_append (events d fs t) (events_of_all d fs ts) (events_good d fs t) (events_of_all_good d fs ts)

-- each entry of a reading within the limits has few enough parts
pub few_parts : (es : List Event) → FewParts es → all (λ (e : Entry). leb (length e.parts) most_parts) (plain (entries_of es)) ≡ true
unfolding FewParts entries_of all
few_parts [] h = refl
few_parts (opened ch ∷ es) h = few_parts es h
few_parts (entered ch e ∷ es) h = and_both (le-leb (length e.parts) most_parts h.0) (few_parts es h.1)
