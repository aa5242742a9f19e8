-- What document 02 (vii) says of the calls, by their contracts: lookups in images that answer alike, as `Orders: ImagesAlike` says of those that
-- hold reordered lists, give the same bytes, numbers and booleans; and of two readings of rearranged include lines, at one depth, one is
-- accepted exactly when the other is, and both images answer alike. Readings, bytes and strings are those of `reader` and `lookup`, of which C
-- gets the codes. Assumes nothing.
use mathlib.Core.Bool.{true, false}
use mathlib.Core.List.{List, [], ◌∷◌}
use mathlib.Core.Logic.{◌↔◌}
use mathlib.Core.Path.{◌≡◌, refl, sym, ap, ◌∙◌}
use Prim.Native.Nat.{ℕ}
use native.Mathlib.Omega.{arith}
use lib.IntN.{ℤ}
use Rattle.definition.specs.Image.{too_short}
use Rattle.definition.specs.Reading.{outcome, accepted, read_entries, reading}
use Rattle.definition.specs.Query.{Bounds}
use Rattle.definition.specs.Lookup.{Reply, Place, get_bytes_within}
use Rattle.definition.specs.Value.{Number, get_string_within, get_bool_within, get_value_within, shown_within}
use Rattle.definition.specs.ThirdTerm.{is_accepted}
use Rattle.definition.specs.Orders.{Rearranged, are_includes, text_of_lines, OneFileEach, in_bytes, AnswerAlike}
use Rattle.orders.proofs.Readings.{packs_in_any_order}
use Rattle.lookup.specs.Replies.{replied}
use Rattle.lookup.specs.declared.Place as code
use Rattle.refusal.specs.declared.Refusal.{Refusal}
use Rattle.std.specs.Prelude.{Option, Result, Ok, Err}
use Rattle.reader.specs.Said.{said}
use Rattle.reader.specs.declared.Accepted.{Accepted}
use Rattle.codes.specs.Codes.{bool_code, taking, taken}

-- ---- Lookups in two images that answer alike, at the shell's bounds or the window's

module _ (most : Bounds) (contents bodies contents' bodies' name class : List ℕ) (alike : AnswerAlike most contents bodies contents' bodies' name class) where
  -- by the bytes: l and l' are the answers of both calls
  module _ (l l' : Result (Option code.Place) Refusal) where
    pub bytes_alike : replied l ≡ get_bytes_within most contents bodies name class → replied l' ≡ get_bytes_within most contents' bodies' name class
        → in_bytes bodies (replied l) ≡ in_bytes bodies' (replied l')
    bytes_alike e f = ap (λ (r : Reply Place). in_bytes bodies r) e ∙ alike.bytes ∙ sym (ap (λ (r : Reply Place). in_bytes bodies' r) f)

    pub string_alike : replied l ≡ get_string_within most contents bodies name class → replied l' ≡ get_string_within most contents' bodies' name class
        → in_bytes bodies (replied l) ≡ in_bytes bodies' (replied l')
    string_alike e f = ap (λ (r : Reply Place). in_bytes bodies r) e ∙ alike.string ∙ sym (ap (λ (r : Reply Place). in_bytes bodies' r) f)

  -- by the numbers: r and r' are those of both calls
  module _ (r r' : ℕ) where
    pub bool_alike : r ≡ bool_code (get_bool_within most contents bodies name class) → r' ≡ bool_code (get_bool_within most contents' bodies' name class) → r ≡ r'
    bool_alike e f = e ∙ ap bool_code alike.bool ∙ sym f

    -- with what each leaves in `out`
    pub value_alike : (out x y : ℤ) → taking r x ≡ taken (get_value_within most contents bodies name class) out
        → taking r' y ≡ taken (get_value_within most contents' bodies' name class) out → taking r x ≡ taking r' y
    value_alike out x y e f = e ∙ ap (λ (v : Reply Number). taken v out) alike.value ∙ sym f

  -- the bytes that are shown
  pub show_alike : (default x y : List ℕ) → x ≡ shown_within most contents bodies name class default
      → y ≡ shown_within most contents' bodies' name class default → x ≡ y
  show_alike default x y e f = e ∙ alike.show default ∙ sym f

-- ---- Readings

-- an answer of the reading call that is an acceptance
abbrev pub accepted_with : ℕ → ℕ → Result Accepted Refusal
accepted_with n m = Ok (record { entries = n; opens = m })

said_accepted : (r : Result Accepted Refusal) (n m : ℕ) → said r ≡ accepted n m → r ≡ accepted_with n m
said_accepted (Ok a) n m e =
    let p : a.entries ≡ n = cc in
    let q : a.opens ≡ m = cc in
    λ i. accepted_with (p i) (q i)
said_accepted (Err k) n m e = let z : ◌≡◌ {A = ℕ} 0 1 = cc in absurd (omega arith)

-- r and r' are the answers of both calls, and c, b, c' and b' what they left
module _ (depth : ℕ) (lines lines' : List (List ℕ)) (archive contents bodies contents' bodies' : List ℕ)
    (includes : are_includes lines ≡ true) (rearranged : Rearranged [] lines lines') (one : OneFileEach (read_entries depth (text_of_lines lines ∷ []) archive))
    (long : too_short contents bodies ≡ false) (long' : too_short contents' bodies' ≡ false)
    (r r' : Result Accepted Refusal) (c b c' b' : List ℕ)
    (first : outcome (said r) c b ≡ reading depth (text_of_lines lines ∷ []) archive contents bodies)
    (second : outcome (said r') c' b' ≡ reading depth (text_of_lines lines' ∷ []) archive contents' bodies') where
  claim : ((n m : ℕ) → (said r ≡ accepted n m) ↔ (said r' ≡ accepted n m))
      × (is_accepted (said r) ≡ true → (most : Bounds) (name class : List ℕ) → AnswerAlike most c b c' b' name class)
  claim = rw (← first, ← second) at (packs_in_any_order depth lines lines' archive contents bodies contents' bodies' includes rearranged one long long')

  -- one is accepted exactly when the other is, with as many entries and opens
  pub packs_accepted : (n m : ℕ) → (r ≡ accepted_with n m) ↔ (r' ≡ accepted_with n m)
  packs_accepted n m = (
    λ e. said_accepted r' n m ((claim.0 n m).0 (ap said e)),
    λ e. said_accepted r n m ((claim.0 n m).1 (ap said e)),
  )

  -- and then both images answer every query alike
  pub packs_alike : (n m : ℕ) → r ≡ accepted_with n m → (most : Bounds) (name class : List ℕ) → AnswerAlike most c b c' b' name class
  packs_alike n m e = claim.1 (rw e refl)
