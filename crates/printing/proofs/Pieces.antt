-- Pieces put one after another. Assumes nothing.
use mathlib.Core.List.{List, [], ◌++◌, append_assoc}
use mathlib.Core.Path.{◌≡◌, refl, sym, ap, ◌∙◌}
use Prim.Native.Nat.{ℕ, ◌+◌, ◌≤◌}
use native.Mathlib.Omega.{arith}
use lib.ListN.{length, drop, length-append, length-drop}
use lib.Seq.{drop-drop}
use Rattle.std.proofs.lemmas.List.{append-nil}
use Rattle.printing.specs.Putting.{Appends, written, left}
use Rattle.printing.specs.declared.Lines.{Lines}

-- the bytes by another name
pub piece_of : {xs ys : List ℕ} {w w' : Lines} → xs ≡ ys → Appends xs w w' → Appends ys w w'
piece_of {xs} {ys} {w} {w'} e p = rw e at p

-- one piece after another
pub then_piece : {xs ys : List ℕ} {w w₁ w₂ : Lines} → Appends xs w w₁ → Appends ys w₁ w₂ → Appends (xs ++ ys) w w₂
then_piece {xs} {ys} {w} {w₁} {w₂} p q = record {
  room = omega (arith, p.room, q.room, length-append xs ys);
  puts = q.puts ∙ rw p.puts (append_assoc (written w) xs ys);
  leaves = q.leaves ∙ rw (p.leaves, length-append xs ys) (drop-drop (length ys) (length xs) (left w));
  stays = q.stays ∙ p.stays;
}

-- ---- Pieces put in a loop

-- `rest` is still to be put of `whole`
pub record Walk (whole : List ℕ) (w₀ : Lines) (rest : List ℕ) (w : Lines) : Type 0 where
  pub joins : (written w) ++ rest ≡ (written w₀) ++ whole
  pub room : length rest ≤ length (left w)
  pub leaves : drop (length rest) (left w) ≡ drop (length whole) (left w₀)
  pub stays : w.out.ghost_name ≡ w₀.out.ghost_name

pub walk_begun : {whole : List ℕ} {w : Lines} → length whole ≤ length (left w) → Walk whole w whole w
walk_begun h = record { joins = refl; room = h; leaves = refl; stays = refl }

module _ {whole : List ℕ} {w₀ : Lines} {rest : List ℕ} {w : Lines} (k : Walk whole w₀ rest w) where
  -- one piece more
  pub walk_room : (line more : List ℕ) → rest ≡ line ++ more → length line ≤ length (left w)
  walk_room line more e = omega (arith, k.room, ap length e, length-append line more)

  pub walk_next : {line more : List ℕ} {w' : Lines} → rest ≡ line ++ more → Appends line w w' → Walk whole w₀ more w'
  walk_next {line} {more} {w'} e p = record {
    joins = rw p.puts (append_assoc (written w) line more ∙ ap (λ (l : List ℕ). (written w) ++ l) (sym e) ∙ k.joins);
    room = omega (arith, k.room, p.room, ap length e, length-append line more);
    leaves = rw p.leaves (drop-drop (length more) (length line) (left w) ∙ rw (← length-append line more, ← e) k.leaves);
    stays = p.stays ∙ k.stays;
  }

  pub walk_ended : length whole ≤ length (left w₀) → rest ≡ [] → Appends whole w₀ w
  walk_ended h e = record {
    room = omega (arith, ap length (rw e at k.leaves), length-drop (length whole) (left w₀));
    puts = sym (append-nil (written w)) ∙ ap (λ (l : List ℕ). (written w) ++ l) (sym e) ∙ k.joins;
    leaves = rw e at k.leaves;
    stays = k.stays;
  }
