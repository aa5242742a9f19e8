-- What the fact of document 02 (vi) says of the calls, by their contracts: where the window admits a query, its calls and the shell's give the
-- same numbers, and leave and show the same. Assumes nothing.
use mathlib.Core.List.{List}
use mathlib.Core.Path.{◌≡◌, sym, ap, ◌∙◌}
use Prim.Native.Nat.{ℕ}
use native.Mathlib.Omega.{arith}
use lib.IntN.{ℤ}
use Rattle.definition.specs.Query.{shell, window}
use Rattle.definition.specs.Lookup.{Reply, Place, get_bytes_within, get_bytes}
use Rattle.definition.specs.Value.{Number, get_string_within, get_bool_within, get_value_within, shown_within, get_string, get_bool, get_value, shown}
use Rattle.definition.specs.Window.{Admits, SameAnswers}
use Rattle.laws.proofs.Window.{bounds_agree, wider_admits}
use Rattle.codes.specs.Codes.{place_code, bool_code, taking, taken}
use Rattle.readings.specs.Showing.{shown_at}

module _ (contents bodies name class : List ℕ) (h : Admits window name class) where
  pub window_agrees : SameAnswers window shell contents bodies name class
  window_agrees = bounds_agree window shell name class h (wider_admits window shell (omega arith) (omega arith) name class h) contents bodies

  -- w is the answer of the window's call, and r of the shell's
  module _ (w r : ℕ) where
    pub bytes_same : w ≡ place_code (get_bytes_within window contents bodies name class) → r ≡ place_code (get_bytes contents bodies name class) → w ≡ r
    bytes_same e f = e ∙ ap place_code window_agrees.bytes ∙ sym f

    pub string_same : w ≡ place_code (get_string_within window contents bodies name class) → r ≡ place_code (get_string contents bodies name class) → w ≡ r
    string_same e f = e ∙ ap place_code window_agrees.string ∙ sym f

    pub bool_same : w ≡ bool_code (get_bool_within window contents bodies name class) → r ≡ bool_code (get_bool contents bodies name class) → w ≡ r
    bool_same e f = e ∙ ap bool_code window_agrees.boolean ∙ sym f

    -- with what each leaves in `out`
    pub value_same : (out x y : ℤ) → taking w x ≡ taken (get_value_within window contents bodies name class) out → taking r y ≡ taken (get_value contents bodies name class) out
        → taking w x ≡ taking r y
    value_same out x y e f = e ∙ ap (λ (v : Reply Number). taken v out) window_agrees.number ∙ sym f

  -- the bytes that are shown, and where they stand
  pub show_same : (default x y : List ℕ) → x ≡ shown_within window contents bodies name class default → y ≡ shown contents bodies name class default → x ≡ y
  show_same default x y e f = e ∙ window_agrees.show default ∙ sym f

  pub shown_at_same : (b d p q : ℕ × ℕ) → p ≡ shown_at (get_bytes_within window contents bodies name class) b d → q ≡ shown_at (get_bytes contents bodies name class) b d → p ≡ q
  shown_at_same b d p q e f = e ∙ ap (λ (v : Reply Place). shown_at v b d) window_agrees.bytes ∙ sym f
