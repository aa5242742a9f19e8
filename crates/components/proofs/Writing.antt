-- How `write_key` writes. Assumes nothing.
use mathlib.Core.List.{List, [], ◌∷◌, ◌++◌}
use mathlib.Core.Path.{◌≡◌, refl, sym, ap, ◌∙◌}
use Prim.Native.Nat.{ℕ, ◌+◌, ◌-◌, ◌≤◌}
use native.Mathlib.Omega.{arith}
use lib.ListN.{length, set, length-append, length-set}
use lib.Seq.{paste, paste-zero, length-paste}
use Rattle.definition.specs.Parsing.{nothing}
use Rattle.definition.specs.Text.{part_at}
use Rattle.definition.specs.Image.{binding_byte}
use Rattle.laws.proofs.Lists.{paste_one, paste_append, paste_cons}
use Rattle.components.specs.Parts.{key_first, binding_if, component_text, FirstPart}
use Rattle.components.specs.declared.Next.{Next}
use Rattle.components.proofs.Turns.{past, key_over, key_turn, bytes_length}

-- all of s, into d from `at` on
abbrev pub pasted : List ℕ → ℕ → List ℕ → List ℕ
pasted d at s = paste d at s (length s)

-- a byte, and k bytes after it
pasted_part : (d : List ℕ) (at b : ℕ) (xs ys : List ℕ) (k : ℕ) → length xs ≡ k → at + (1 + k + length ys) ≤ length d
    → pasted (pasted (set d at b) (at + 1) xs) (at + (1 + k)) ys ≡ pasted d at (b ∷ xs ++ ys)
pasted_part d at b xs ys k e h = rw (← e) (paste_cons d at b xs ys (omega arith))

-- u is left of t, and what is before u has been written into what was d₀
pub record Writing (t d₀ : List ℕ) (at₀ : ℕ) (u d : List ℕ) (at : ℕ) : Type 0 where
  pub same : pasted d at (key_first u) ≡ pasted d₀ at₀ (key_first t)
  pub fits : at + length (key_first u) ≤ length d
  pub long : length d ≡ length d₀

pub writing_first : (t d : List ℕ) (at : ℕ) → at + length (key_first t) ≤ length d → Writing t d at t d at
writing_first t d at h = record { same = refl; fits = h; long = refl }

module _ {t d₀ : List ℕ} {at₀ : ℕ} {u d : List ℕ} {at : ℕ} (w : Writing t d₀ at₀ u d at) where
  pub writing_done : part_at u ≡ nothing → d ≡ pasted d₀ at₀ (key_first t)
  writing_done h =
      paste-zero d at []
      ∙ ap (pasted d at) (sym (key_over u h))
      ∙ w.same

  module _ {r : Next} (p : FirstPart u r) where
    -- the part has room
    pub part_room : at + (1 + (r.end - r.start)) + length (key_first (past u r)) ≤ length d
    part_room =
        omega (arith, w.fits, ap length (key_turn p), length-append (component_text u r) (key_first (past u r)), bytes_length p)

    -- and so has its component, once the binding is written
    pub copy_room : (b : ℕ) → at + 1 + length (component_text u r) ≤ length (set d at b)
    copy_room b = omega (arith, part_room, bytes_length p, length-set d at b)

    pub writing_next : (b : ℕ) → b ≡ binding_byte (binding_if r.loose) → (e : List ℕ) → e ≡ pasted (set d at b) (at + 1) (component_text u r)
        → Writing t d₀ at₀ (past u r) e (at + (1 + (r.end - r.start)))
    writing_next b f e g =
        let n = bytes_length p in
        let long : length e ≡ length d =
        ap length g
        ∙ length-paste (set d at b) (at + 1) (component_text u r) (length (component_text u r)) (copy_room b) (omega arith)
        ∙ length-set d at b in
        record {
          same =
              ap (λ (l : List ℕ). pasted l (at + (1 + (r.end - r.start))) (key_first (past u r))) g
              ∙ pasted_part d at b (component_text u r) (key_first (past u r)) (r.end - r.start) n (omega (arith, part_room))
              ∙ ap (pasted d at) (ap (λ (x : ℕ). x ∷ component_text u r ++ key_first (past u r)) f ∙ sym (key_turn p))
              ∙ w.same;
          fits = omega (arith, part_room, long);
          long = long ∙ w.long;
        }

-- a byte, and what follows it
pub pasted_cons : (d : List ℕ) (at b : ℕ) (xs : List ℕ) → at + (1 + length xs) ≤ length d → pasted (set d at b) (at + 1) xs ≡ pasted d at (b ∷ xs)
pasted_cons d at b xs h = ap (λ (l : List ℕ). pasted l (at + 1) xs) (paste_one d at b (omega arith)) ∙ sym (paste_append d at (b ∷ []) xs (omega arith))
