-- The search through the slots of a board. Assumes nothing.
use Rattle.std.specs.Prelude.{if◌then◌else◌, Option, None, Some}
use Rattle.std.specs.Option.{option_eq, unwrap_or}
use mathlib.Core.Bool.{Bool, true, false, not}
use mathlib.Core.List.{List}
use mathlib.Core.Path.{◌≡◌, refl, sym, ap, ◌∙◌}
use Prim.Native.Nat.{ℕ, suc, ◌+◌, ◌*◌, ◌-◌, ◌≤◌, ◌<◌}
use native.Mathlib.Numerals.{add-one}
use native.Mathlib.Nat.{sub-zero}
use native.Mathlib.Omega.{arith}
use lib.Dec.{eqb}
use borrow.Author.Tests.{eqb-true, eq-eqb, ne_eqb}
use Rattle.definition.specs.Limits.{most_entries, most_packs}
use Rattle.definition.specs.Query.{Position}
use Rattle.definition.specs.Ranking.{Best, no_entry, best_from}
use Rattle.definition.specs.Lookup.{keys_of}
use Rattle.definition.specs.Writing.{entries_of_image}
use Rattle.definition.specs.Board.{Lent, pack_count, slot_at}
use Rattle.laws.proofs.Lists.{not_both}
use Rattle.board_search.specs.Slots.{best_slots}

module _ (l : Lent) (skip : ℕ) (qs : List Position) where
  -- going on from slot i with the best so far comes to what is looked for
  pub record Passing (i : ℕ) (b : Best) : Type 0 where
    pub same : best_slots l skip qs i (pack_count l - i) b ≡ best_slots l skip qs 0 (pack_count l) no_entry
    pub most : i ≤ pack_count l

  pub passing_first : Passing 0 no_entry
  passing_first = record { same = ap (λ (n : ℕ). best_slots l skip qs 0 n no_entry) (sub-zero (pack_count l)); most = omega arith }

  module _ {i : ℕ} {b : Best} (p : Passing i b) where
    slots_turn : i < pack_count l → best_slots l skip qs i (pack_count l - i) b
        ≡ best_slots l skip qs (i + 1) (pack_count l - (i + 1))
        (if eqb i skip then b else best_from (keys_of (entries_of_image (slot_at l i).contents (slot_at l i).bodies)) qs (most_entries * i) b)
    unfolding best_slots
    slots_turn h = let e : pack_count l - i ≡ suc (pack_count l - (i + 1)) = omega arith in rw (e, add-one i) refl

    pub passing_over : i < pack_count l → i ≡ skip → Passing (i + 1) b
    passing_over h e = record { same = sym (slots_turn h ∙ rw (eq-eqb i skip e) refl) ∙ p.same; most = omega arith }

    pub passing_on : i < pack_count l → (i ≡ skip → ⊥) → (b' : Best)
        → b' ≡ best_from (keys_of (entries_of_image (slot_at l i).contents (slot_at l i).bodies)) qs (most_entries * i) b → Passing (i + 1) b'
    passing_on h e b' f = record {
      same = ap (best_slots l skip qs (i + 1) (pack_count l - (i + 1))) f ∙ sym (slots_turn h ∙ rw (ne_eqb i skip e) refl) ∙ p.same;
      most = omega arith;
    }

    pub passing_end : pack_count l ≤ i → b ≡ best_slots l skip qs 0 (pack_count l) no_entry
    unfolding best_slots
    passing_end h = let e : pack_count l - i ≡ 0 = omega arith in sym (sym p.same ∙ rw e refl)

-- ---- The slot that is passed over; the packs' most stands for none, which is no slot's

module _ {r : Bool} where
  pub passed : (skip : Option ℕ) (i : ℕ) → i < most_packs → r ≡ not (option_eq eqb skip (Some i)) → r ≡ true → i ≡ unwrap_or skip most_packs → ⊥
  passed None i h e t z = omega arith
  passed (Some s) i h e t z = not_both t (e ∙ ap not (eq-eqb s i (sym z)))

  pub skipped : (skip : Option ℕ) (i : ℕ) → r ≡ not (option_eq eqb skip (Some i)) → r ≡ false → i ≡ unwrap_or skip most_packs
  skipped None i e f = absurd (not_both e f)
  skipped (Some s) i e f = sym (eqb-true s i (not_false (eqb s i) (sym e ∙ f)))
    where
      not_false : (b : Bool) → not b ≡ false → b ≡ true
      not_false true z = refl
      not_false false z = absurd (not_both refl z)
