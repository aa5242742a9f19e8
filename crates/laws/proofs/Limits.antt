-- A reading is accepted just where its totals are within the limits. Assumes nothing.
use Rattle.std.specs.Prelude.{if◌then◌else◌}
use mathlib.Core.Bool.{Bool, true, false}
use mathlib.Core.List.{List, [], ◌∷◌, ◌++◌}
use mathlib.Core.Logic.{◌↔◌}
use mathlib.Core.Path.{◌≡◌, refl, sym, ap, ◌∙◌}
use Prim.Native.Nat.{ℕ, ◌+◌, ◌≤◌, ◌<◌}
use native.Mathlib.Omega.{arith}
use lib.Dec.{leb, ltb}
use lib.ListN.{length, length-append}
use borrow.Author.Tests.{leb-false, ltb-false, le-ltb, lt-leb}
use Rattle.definition.specs.Lists.{filter}
use Rattle.definition.specs.Limits.{most_opens, most_entries, most_parts, body_bytes}
use Rattle.definition.specs.Including.{Event, opened, entered, entries_of, opens_of}
use Rattle.definition.specs.Image.{key_of, store_of}
use Rattle.definition.specs.Reading.{Totals, Verdict, within, past, size_of, judge, start, plain}

-- a weight of each event, added up
unfoldable pub total : (Event → ℕ) → List Event → ℕ
total w [] = 0
total w (e ∷ es) = w e + total w es

abbrev pub size_in : Event → ℕ
size_in (opened ch) = 0
size_in (entered ch e) = size_of e

-- the bytes that the entries need
abbrev pub used_by : List Event → ℕ
used_by es = total size_in es

-- each entry has few enough parts
unfoldable pub FewParts : List Event → Type 0
FewParts [] = Unit {0}
FewParts (opened ch ∷ es) = FewParts es
FewParts (entered ch e ∷ es) = (length e.parts ≤ most_parts) × FewParts es

abbrev pub totals_from : Totals → List Event → Totals
totals_from s es = record { opens = s.opens + opens_of es; entries = s.entries + length (entries_of es); used = s.used + used_by es }

-- the totals of what was met before and of these events are within the limits
pub record InLimits (s : Totals) (es : List Event) : Type 0 where
  pub opens_most : s.opens + opens_of es ≤ most_opens
  pub entries_most : s.entries + length (entries_of es) ≤ most_entries
  pub used_most : s.used + used_by es ≤ body_bytes
  pub parts_most : FewParts es

past_within : {k : ℕ} {v : Totals} → past k ≡ within v → ⊥
past_within e = let z : ◌≡◌ {A = ℕ} 0 1 = cc in omega arith

passed : (b : Bool) (k : ℕ) (w : Verdict) (v : Totals) → (if b then past k else w) ≡ within v → (b ≡ false) × (w ≡ within v)
passed true k w v e = absurd (past_within e)
passed false k w v e = (refl, e)

same_totals : (a b c a' b' c' : ℕ) → a ≡ a' → b ≡ b' → c ≡ c'
    → ◌≡◌ {A = Totals} (record { opens = a; entries = b; used = c }) (record { opens = a'; entries = b'; used = c' })
same_totals a b c a' b' c' p q r = λ i. record { opens = p i; entries = q i; used = r i }

-- accepted, so within the limits, and the totals are these
pub judge_limits : (es : List Event) (s v : Totals) → s.opens ≤ most_opens → s.entries ≤ most_entries → s.used ≤ body_bytes
    → judge s es ≡ within v → (v ≡ totals_from s es) × InLimits s es
unfolding judge opens_of entries_of total FewParts
judge_limits [] s v ho he hu h =
    let e : s ≡ v = cc in (
      sym e ∙ same_totals _ _ _ _ _ _ (omega arith) (omega arith) (omega arith),
      record { opens_most = omega arith; entries_most = omega arith; used_most = omega arith; parts_most = tt },
    )
judge_limits (opened ch ∷ es) s v ho he hu h =
    let p = passed (leb most_opens s.opens) 4 _ v h in
    let k : s.opens < most_opens = leb-false most_opens s.opens p.0 in
    let r = judge_limits es _ v (omega arith) he hu p.1 in (
      r.0 ∙ same_totals _ _ _ _ _ _ (omega arith) refl (omega arith),
      record {
        opens_most = omega (arith, r.1.opens_most);
        entries_most = r.1.entries_most;
        used_most = omega (arith, r.1.used_most);
        parts_most = r.1.parts_most;
      },
    )
judge_limits (entered ch e ∷ es) s v ho he hu h =
    let p = passed (ltb most_parts (length e.parts)) 5 _ v h in
    let q = passed (leb most_entries s.entries) 6 _ v p.1 in
    let z = passed (ltb body_bytes (s.used + size_of e)) 7 _ v q.1 in
    let few : length e.parts ≤ most_parts = ltb-false most_parts (length e.parts) p.0 in
    let k : s.entries < most_entries = leb-false most_entries s.entries q.0 in
    let u : s.used + size_of e ≤ body_bytes = ltb-false body_bytes (s.used + size_of e) z.0 in
    let r = judge_limits es _ v ho (omega arith) u z.1 in (
      r.0 ∙ same_totals _ _ _ _ _ _ refl (omega arith) (omega arith),
      record {
        opens_most = r.1.opens_most;
        entries_most = omega (arith, r.1.entries_most);
        used_most = omega (arith, r.1.used_most);
        parts_most = (few, r.1.parts_most);
      },
    )

-- and within the limits, so accepted
pub limits_judge : (es : List Event) (s : Totals) → InLimits s es → judge s es ≡ within (totals_from s es)
unfolding judge opens_of entries_of total FewParts
limits_judge [] s l = ap within (same_totals _ _ _ _ _ _ (omega arith) (omega arith) (omega arith))
limits_judge (opened ch ∷ es) s l =
    rw (lt-leb most_opens s.opens (omega (arith, l.opens_most)))
    (limits_judge es _ (record {
      opens_most = omega (arith, l.opens_most);
      entries_most = l.entries_most;
      used_most = omega (arith, l.used_most);
      parts_most = l.parts_most;
    })
    ∙ ap within (same_totals _ _ _ _ _ _ (omega arith) refl (omega arith)))
limits_judge (entered ch e ∷ es) s l =
    rw (
      le-ltb most_parts (length e.parts) l.parts_most.0,
      lt-leb most_entries s.entries (omega (arith, l.entries_most)),
      le-ltb body_bytes (s.used + size_of e) (omega (arith, l.used_most)),
    )
    (limits_judge es _ (record {
      opens_most = l.opens_most;
      entries_most = omega (arith, l.entries_most);
      used_most = omega (arith, l.used_most);
      parts_most = l.parts_most.1;
    })
    ∙ ap within (same_totals _ _ _ _ _ _ refl (omega arith) (omega arith)))

-- document 01's first term for 4 to 7: a reading is accepted just where its totals are within the limits
pub accepted_limits : (es : List Event) → ((v : Totals) × (judge start es ≡ within v)) ↔ InLimits start es
accepted_limits es = (
  λ a. (judge_limits es start a.0 (omega arith) (omega arith) (omega arith) a.1).1,
  λ l. (totals_from start es, limits_judge es start l),
)

-- the bytes needed are those of the store
pub used_store : (es : List Event) → used_by es ≡ length (store_of (plain (entries_of es)))
unfolding total entries_of store_of
used_store [] = refl
used_store (opened ch ∷ es) = let e : 0 + used_by es ≡ used_by es = omega arith in e ∙ used_store es
used_store (entered ch e ∷ es) =
    let k = key_of e.parts in
    let r = store_of (plain (entries_of es)) in
    rw (length-append (k ++ e.value) r, length-append k e.value, used_store es) refl

-- ---- Fewer events need no more

one_open : Event → ℕ
one_open (opened ch) = 1
one_open (entered ch e) = 0

one_entry : Event → ℕ
one_entry (opened ch) = 0
one_entry (entered ch e) = 1

opens_total : (es : List Event) → opens_of es ≡ total one_open es
unfolding opens_of total one_open
opens_total [] = refl
opens_total (opened ch ∷ es) = omega (arith, opens_total es)
opens_total (entered ch e ∷ es) = omega (arith, opens_total es)

entries_total : (es : List Event) → length (entries_of es) ≡ total one_entry es
unfolding entries_of total one_entry
entries_total [] = refl
entries_total (opened ch ∷ es) = omega (arith, entries_total es)
entries_total (entered ch e ∷ es) = omega (arith, entries_total es)

module _ (keep : Event → Bool) where
  total_fewer : (w : Event → ℕ) (es : List Event) → total w (filter keep es) ≤ total w es
  unfolding filter total
  total_fewer w [] = omega arith
  total_fewer w (e ∷ es) = at (keep e) (total_fewer w es)
    where
      at : (b : Bool) → total w (filter keep es) ≤ total w es → total w (if b then e ∷ filter keep es else filter keep es) ≤ w e + total w es
      at true ih = omega arith
      at false ih = omega arith

  parts_fewer : (es : List Event) → FewParts es → FewParts (filter keep es)
  unfolding filter FewParts
  parts_fewer [] h = tt
  parts_fewer (opened ch ∷ es) h = at (keep (opened ch)) (parts_fewer es h)
    where
      at : (b : Bool) → FewParts (filter keep es) → FewParts (if b then opened ch ∷ filter keep es else filter keep es)
      at true ih = ih
      at false ih = ih
  parts_fewer (entered ch e ∷ es) h = at (keep (entered ch e)) h.0 (parts_fewer es h.1)
    where
      at : (b : Bool) → length e.parts ≤ most_parts → FewParts (filter keep es) → FewParts (if b then entered ch e ∷ filter keep es else filter keep es)
      at true few ih = (few, ih)
      at false few ih = ih

  pub limits_fewer : (s : Totals) (es : List Event) → InLimits s es → InLimits s (filter keep es)
  limits_fewer s es l = record {
    opens_most = omega (arith, l.opens_most, opens_total es, opens_total (filter keep es), total_fewer one_open es);
    entries_most = omega (arith, l.entries_most, entries_total es, entries_total (filter keep es), total_fewer one_entry es);
    used_most = omega (arith, l.used_most, total_fewer size_in es);
    parts_most = parts_fewer es l.parts_most;
  }
