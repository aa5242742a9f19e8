-- Laws of runs. Assumes nothing.
use Rattle.std.specs.Prelude.{if◌then◌else◌}
use mathlib.Core.Bool.{Bool, true, false}
use mathlib.Core.List.{List, [], ◌∷◌, ◌++◌}
use mathlib.Core.Path.{◌≡◌, refl, sym, ◌∙◌}
use Prim.Native.Nat.{ℕ, ◌+◌, ◌≤◌, ◌<◌}
use native.Mathlib.Omega.{arith}
use lib.Dec.{leb, ltb}
use lib.ListN.{length, length-set, length-append}
use lib.Seq.{length-paste}
use borrow.Author.Tests.{leb-false, ltb-false}
use Rattle.definition.specs.Limits.{most_opens, most_entries, most_parts, body_bytes}
use Rattle.definition.specs.Text.{Entry}
use Rattle.definition.specs.Archive.{File}
use Rattle.definition.specs.Including.{Event, opened, entered, origin_of}
use Rattle.definition.specs.Image.{key_of}
use Rattle.definition.specs.Reading.{size_of}
use Rattle.image.specs.Running.{World, world, Room, Ran, went, stopped, stored, put, counted, open_one, step, and_then, run}

then_then : (r : Ran) (f g : World → Ran) → and_then (and_then r f) g ≡ and_then r (λ v. and_then (f v) g)
unfolding and_then
then_then (went v) f g = refl
then_then (stopped k c b) f g = refl

then_same : (r : Ran) (f g : World → Ran) → ((v : World) → f v ≡ g v) → and_then r f ≡ and_then r g
unfolding and_then
then_same (went v) f g e = e v
then_same (stopped k c b) f g e = refl

pub run_append : (fs : List File) (xs ys : List Event) (w : World) → run fs w (xs ++ ys) ≡ and_then (run fs w xs) (λ v. run fs v ys)
unfolding run and_then
run_append fs [] ys w = refl
run_append fs (e ∷ xs) ys w =
    then_same (step fs w e) (λ v. run fs v (xs ++ ys)) (λ v. and_then (run fs v xs) (λ u. run fs u ys)) (λ v. run_append fs xs ys v)
    ∙ sym (then_then (step fs w e) (λ v. run fs v xs) (λ v. run fs v ys))

-- ---- Where a run went on, so did its steps

stopped_went : {k : ℕ} {c b : List ℕ} {v : World} → stopped k c b ≡ went v → ⊥
stopped_went e = let z : ◌≡◌ {A = ℕ} 0 1 = cc in omega arith

pub then_went : (r : Ran) (f : World → Ran) (v : World) → and_then r f ≡ went v → (u : World) × (r ≡ went u) × (f u ≡ went v)
unfolding and_then
then_went (went u) f v e = (u, refl, e)
then_went (stopped k c b) f v e = absurd (stopped_went e)

passed : (h : Bool) (k : ℕ) (c b : List ℕ) (r : Ran) {v : World} → (if h then stopped k c b else r) ≡ went v → (h ≡ false) × (r ≡ went v)
passed true k c b r e = absurd (stopped_went e)
passed false k c b r e = (refl, e)

-- what `put` stored, and that it fitted
pub record Fitting (origin : ℕ) (w : World) (e : Entry) (v : World) : Type 0 where
  pub is : stored origin w e ≡ v
  pub few : length e.parts ≤ most_parts
  pub entries_less : w.totals.entries < most_entries
  pub used_fits : w.totals.used + size_of e ≤ body_bytes

pub put_went : (origin : ℕ) (w : World) (e : Entry) (v : World) → put origin w e ≡ went v → Fitting origin w e v
unfolding put
put_went origin w e v h =
    let a = passed (ltb most_parts (length e.parts)) 5 _ _ _ h in
    let b = passed (leb most_entries w.totals.entries) 6 _ _ _ a.1 in
    let c = passed (ltb body_bytes (w.totals.used + size_of e)) 7 _ _ _ b.1 in
    record {
      is = let q : went (stored origin w e) ≡ went v = c.1 in cc;
      few = ltb-false most_parts (length e.parts) a.0;
      entries_less = leb-false most_entries w.totals.entries b.0;
      used_fits = ltb-false body_bytes (w.totals.used + size_of e) c.0;
    }

pub open_went : (w v : World) → open_one w ≡ went v → (world (counted w.totals) w.words w.bytes ≡ v) × (w.totals.opens < most_opens)
unfolding open_one
open_went w v h =
    let a = passed (leb most_opens w.totals.opens) 4 _ _ _ h in
    let q : went (world (counted w.totals) w.words w.bytes) ≡ went v = a.1 in
    (cc, leb-false most_opens w.totals.opens a.0)

-- ---- A run keeps its totals within the limits and the buffers' lengths

abbrev pub RoomIn : World → Type 0
RoomIn w = Room w.totals w.words w.bytes

pub size_is : (e : Entry) → length (key_of e.parts ++ e.value) ≡ size_of e
size_is e = length-append (key_of e.parts) e.value

pub stored_room : (origin : ℕ) (w : World) (e : Entry) → RoomIn w → w.totals.entries < most_entries → w.totals.used + size_of e ≤ body_bytes
    → RoomIn (stored origin w e)
stored_room origin w e r few fits = record {
  opens_most = r.opens_most;
  entries_most = omega arith;
  used_most = fits;
  words_long = simp length-set r.words_long;
  bytes_long =
      length-paste w.bytes w.totals.used (key_of e.parts ++ e.value) (size_of e) (omega (arith, r.bytes_long)) (omega (arith, size_is e))
      ∙ r.bytes_long;
}

pub put_room : (origin : ℕ) (w : World) (e : Entry) (v : World) → RoomIn w → put origin w e ≡ went v → RoomIn v
put_room origin w e v r h =
    let a = put_went origin w e v h in
    rw (← a.is) (stored_room origin w e r a.entries_less a.used_fits)

pub step_room : (fs : List File) (w : World) (e : Event) (v : World) → RoomIn w → step fs w e ≡ went v → RoomIn v
step_room fs w (opened ch) v r h =
    let a = open_went w v h in
    rw (← a.0) (record {
      opens_most = let k = a.1 in omega arith;
      entries_most = r.entries_most;
      used_most = r.used_most;
      words_long = r.words_long;
      bytes_long = r.bytes_long;
    })
step_room fs w (entered ch e) v r h =
    put_room (origin_of fs ch) w e v r h

pub run_room : (fs : List File) (es : List Event) (w v : World) → RoomIn w → run fs w es ≡ went v → RoomIn v
unfolding run
run_room fs [] w v r h = let e : w ≡ v = cc in rw (← e) r
run_room fs (e ∷ es) w v r h =
    let a = then_went (step fs w e) (λ u. run fs u es) v h in
    run_room fs es a.0 v (step_room fs w e a.0 r a.1) a.2
