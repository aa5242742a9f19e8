-- The texts of a reading, one after another. Assumes nothing.
use Rattle.std.specs.Prelude.{Ok, Err}
use Rattle.std.specs.List.{list_any}
use mathlib.Core.Bool.{Bool, ◌||◌}
use mathlib.Core.List.{List, [], ◌∷◌, map}
use mathlib.Core.Path.{◌≡◌, refl, sym, ap, ◌∙◌}
use Prim.Native.Nat.{ℕ, suc, ◌+◌, ◌≤◌, ◌<◌}
use native.Mathlib.Omega.{arith}
use lib.ListN.{length, drop, get_or, drop_of_length-le}
use lib.Seq.{drop-cons}
use Rattle.definition.specs.Lists.{any}
use Rattle.definition.specs.Limits.{contents_words, body_bytes}
use Rattle.definition.specs.Archive.{files_of}
use Rattle.definition.specs.Including.{Event, events, events_of_all}
use Rattle.definition.specs.Reading.{too_long, met}
use Rattle.image.specs.Running.{world, begun, Room, and_then, run, answered}
use Rattle.image.specs.declared.Totals.{Totals}
use Rattle.refusal.specs.declared.Refusal.{Refusal}
use Rattle.image.proofs.Runs.{run_append, run_room}
use Rattle.image.proofs.Images.{room_first}
use Rattle.includes.specs.Texts.{text_events}

-- texts as the code lends them, each behind a reference
module _ {D : Type 0} (now : D → List ℕ) where
  abbrev from : ℕ → List D → List (List ℕ)
  from i ds = map now (drop i ds)

  from_next : (ds : List D) (i : ℕ) (d : D) → i < length ds → from i ds ≡ now (get_or ds i d) ∷ from (i + 1) ds
  from_next ds i d h = let e : i + 1 ≡ suc i = omega arith in rw (e, drop-cons ds i d h) refl

  from_end : (ds : List D) (i : ℕ) → length ds ≤ i → from i ds ≡ []
  from_end ds i h = rw (drop_of_length-le ds h) refl

  -- ---- Their lengths

  -- whether one is too long, as `any` has it
  pub some_long : (ds : List D) → list_any (λ d. too_long (now d)) ds ≡ any too_long (map now ds)
  unfolding any
  some_long [] = refl
  some_long (d ∷ ds) = ap (λ (b : Bool). too_long (now d) || b) (some_long ds)

  -- ---- What is read

  -- reading all of them comes to the same as reading those from i on from here
  pub record Reading (depth : ℕ) (archive : List ℕ) (ds : List D) (c₀ b₀ : List ℕ) (s : Totals) (c b : List ℕ) (i : ℕ) : Type 0 where
    pub same : run (files_of archive) (world begun c₀ b₀) (met depth (map now ds) archive) ≡ run (files_of archive) (world s c b) (met depth (from i ds) archive)
    pub room : Room s c b

  pub reading_first : {depth : ℕ} {archive : List ℕ} {ds : List D} (c b : List ℕ) → length c ≡ contents_words → length b ≡ body_bytes → Reading depth archive ds c b begun c b 0
  reading_first c b hc hb = record { same = refl; room = room_first c b hc hb }

  module _ {depth : ℕ} {archive : List ℕ} {ds : List D} {c₀ b₀ : List ℕ} {s : Totals} {c b : List ℕ} {i : ℕ} (r : Reading depth archive ds c₀ b₀ s c b i) where
    pub reading_done : length ds ≤ i → answered (Ok s) c b ≡ run (files_of archive) (world begun c₀ b₀) (met depth (map now ds) archive)
    unfolding answered events_of_all run
    reading_done h = sym (r.same ∙ rw (from_end ds i h) refl)

    module _ (d : D) (h : i < length ds) where
      abbrev here : List Event
      here = text_events depth (files_of archive) [] [] (now (get_or ds i d))

      next : run (files_of archive) (world s c b) (met depth (from i ds) archive) ≡ and_then (run (files_of archive) (world s c b) here) (λ v. run (files_of archive) v (met depth (from (i + 1) ds) archive))
      unfolding events_of_all text_events events
      next = rw (from_next ds i d h) (run_append (files_of archive) here (met depth (from (i + 1) ds) archive) (world s c b))

      pub reading_text : (s' : Totals) (c' b' : List ℕ) → answered (Ok s') c' b' ≡ run (files_of archive) (world s c b) here
          → Reading depth archive ds c₀ b₀ s' c' b' (i + 1)
      unfolding answered and_then
      reading_text s' c' b' e = record {
        same = r.same ∙ next ∙ rw (← e) refl;
        room = run_room (files_of archive) here (world s c b) (world s' c' b') r.room (sym e);
      }

      pub text_stops : (k : Refusal) (c' b' : List ℕ) → answered (Err k) c' b' ≡ run (files_of archive) (world s c b) here
          → answered (Err k) c' b' ≡ run (files_of archive) (world begun c₀ b₀) (met depth (map now ds) archive)
      unfolding answered and_then
      text_stops k c' b' e = sym (r.same ∙ next ∙ rw (← e) refl)
