-- The loop over a text's parts: those taken so far, and what is left. Assumes nothing.
use mathlib.Core.Bool.{Bool, true, false}
use mathlib.Core.List.{List, [], ◌∷◌, ◌++◌, append-nil}
use mathlib.Core.Path.{◌≡◌, refl, sym, ap, subst, ◌∙◌}
use Prim.Native.Nat.{ℕ, ◌+◌, ◌-◌, ◌≤◌, ◌<◌}
use native.Mathlib.Omega.{arith}
use lib.Dec.{eqb}
use lib.ListN.{length, take, drop}
use Rattle.definition.specs.Lists.{is_empty, take_while}
use Rattle.definition.specs.Limits.{file_name_bytes}
use Rattle.definition.specs.Archive.{split, joined}
use Rattle.laws.proofs.Lists.{Order, below, equal, above, order, part_rest, length_part_rest}
use Rattle.kept_parts.specs.declared.Kept.{Kept}
use Rattle.std.specs.Prelude.{Option, Some, None}
use Rattle.paths.specs.Parts.{not_slash}
use Rattle.kept_parts.specs.Keeping.{Fits, Did, did, taken_part}
use Rattle.include_paths.specs.Sought.{root, first_of, answering, and_then, taken_parts}
use Rattle.kept_parts.proofs.Storing.{empty_is}
use Rattle.include_paths.proofs.Splitting.{part_most, split_last, split_on, split_append}
use Rattle.include_paths.proofs.Reducing.{Keeps, part_keeps}

-- the parts of a name, while those of the folder are taken
abbrev pub later : List ℕ → Bool → List (List ℕ)
later name true = []
later name false = split name

-- how many bytes they have, with the `/` before them
abbrev pub later_bytes : List ℕ → Bool → ℕ
later_bytes name true = 0
later_bytes name false = 1 + length name

-- taking all parts of folder and name joined comes to the same as taking those of the rest from here, and then those of the name
pub record Taking (folder name b₀ b : List ℕ) (k : Kept) (is_name : Bool) (rest : List ℕ) : Type 0 where
  pub same : taken_parts (split (joined folder name)) root b₀ ≡ taken_parts (split rest ++ later name is_name) k b
  pub fits : Fits k b
  pub over_most : k.over + length rest + later_bytes name is_name ≤ 18446744073709551615

pub first_name : (folder name : List ℕ) → length folder ≡ 0 → name ≡ first_of folder name
unfolding first_of is_empty
first_name [] name h = refl
first_name (c ∷ f) name h = absurd (omega arith)

pub first_folder : (folder name : List ℕ) → (length folder ≡ 0 → ⊥) → folder ≡ first_of folder name
unfolding first_of is_empty
first_folder [] name h = absurd (h refl)
first_folder (c ∷ f) name h = refl

first_parts : (folder name : List ℕ) → split (joined folder name) ≡ split (first_of folder name) ++ later name (eqb (length folder) 0)
unfolding joined first_of is_empty
first_parts [] name = sym (append-nil (split name))
first_parts (c ∷ f) name = rw (← empty_is (c ∷ f)) (split_append (c ∷ f) name)

pub taking_first : (folder name b : List ℕ) → length b ≡ file_name_bytes → 1 + length folder + length name ≤ 18446744073709551615 → {rest : List ℕ} → rest ≡ first_of folder name
    → Taking folder name b b root (eqb (length folder) 0) rest
unfolding first_of is_empty
taking_first folder name b h m {rest} e = record {
  same = ap (λ (ps : List (List ℕ)). taken_parts ps root b) (first_parts folder name ∙ ap (λ (u : List ℕ). split u ++ later name (eqb (length folder) 0)) (sym e));
  fits = (omega arith, h);
  over_most = at folder m e;
}
  where
    at : (f : List ℕ) → 1 + length f + length name ≤ 18446744073709551615 → rest ≡ first_of f name → 0 + length rest + later_bytes name (eqb (length f) 0) ≤ 18446744073709551615
    at [] m e = omega (arith, ap length e)
    at (c ∷ f) m e = rw (← empty_is (c ∷ f)) (omega (arith, ap length e))

module _ {folder name b₀ b : List ℕ} {k : Kept} {is_name : Bool} {rest : List ℕ} (l : Taking folder name b₀ b k is_name rest) where
  abbrev all_parts : Did
  all_parts = taken_parts (split (joined folder name)) root b₀

  -- what is left behind the last `/` is empty
  pub taking_end : length rest ≤ 0 → did None b ≡ all_parts
  unfolding split taken_parts taken_part is_empty
  taking_end h = sym (l.same ∙ at rest h)
    where
      at : (u : List ℕ) → length u ≤ 0 → taken_parts (split u ++ later name is_name) k b ≡ did None b
      at [] h = refl
      at (x ∷ u) h = absurd (omega arith)

  module _ {n : ℕ} (en : n ≡ length (take_while not_slash rest)) {r : Option Kept} {b' : List ℕ} (e : did r b' ≡ taken_part (take n rest) k b) where
    abbrev after : List ℕ
    after = take (length rest - (n + 1)) (drop (n + 1) rest)

    -- the parts from here on, of which this is the first
    on : (ps : List (List ℕ)) → split rest ≡ take n rest ∷ ps → all_parts ≡ answering r b' (taken_parts (ps ++ later name is_name))
    unfolding taken_parts
    on ps s =
        l.same ∙ ap (λ (qs : List (List ℕ)). taken_parts (qs ++ later name is_name) k b) s
        ∙ ap (λ (d : Did). and_then d (taken_parts (ps ++ later name is_name))) (sym e)

    first : (ps : List (List ℕ)) × (split rest ≡ take n rest ∷ ps)
    first = at (order n (length rest))
      where
        at : Order n (length rest) → (ps : List (List ℕ)) × (split rest ≡ take n rest ∷ ps)
        at (below h) = (split (drop (n + 1) rest), split_on rest n en h)
        at (equal h) = ([], split_last rest n en h)
        at (above h) = absurd (omega (arith, part_most rest n en))

    pub taking_none : r ≡ None → did None b' ≡ all_parts
    taking_none z = sym (on first.0 first.1 ∙ ap (λ (x : Option Kept). answering x b' (taken_parts (first.0 ++ later name is_name))) z)

    module _ {k' : Kept} (z : r ≡ Some k') where
      -- the parts behind this one, taken from here
      behind : (ps : List (List ℕ)) → split rest ≡ take n rest ∷ ps → all_parts ≡ taken_parts (ps ++ later name is_name) k' b'
      behind ps s = on ps s ∙ ap (λ (x : Option Kept). answering x b' (taken_parts (ps ++ later name is_name))) z

      keeps : Fits k' b' × (k'.over ≤ k.over + 1)
      keeps =
          let a : taken_part (take n rest) k b ≡ did (Some k') b' = sym e ∙ ap (λ (x : Option Kept). did x b') z in
          let p : Keeps (taken_part (take n rest) k b).answer (taken_part (take n rest) k b).bytes (k.over + 1) = part_keeps k b l.fits (take n rest) in
          rw a at p

      -- there is more in this text
      module _ (h : n < length rest) where
        pub taking_less : length after + later_bytes name is_name < length rest + later_bytes name is_name
        taking_less = rw (length_part_rest rest (n + 1)) (omega (arith, h))

        pub taking_next : Taking folder name b₀ b' k' is_name after
        taking_next = record {
          same =
              behind (split (drop (n + 1) rest)) (split_on rest n en h)
              ∙ ap (λ (u : List ℕ). taken_parts (split u ++ later name is_name) k' b') (sym (part_rest rest (n + 1)));
          fits = keeps.0;
          over_most = omega (arith, keeps.1, h, l.over_most, length_part_rest rest (n + 1));
        }

      -- it was the last part of this text
      module _ (h : length rest ≤ n) where
        whole : n ≡ length rest
        whole = omega (arith, h, part_most rest n en)

        pub taking_last : is_name ≡ true → did (Some k') b' ≡ all_parts
        unfolding taken_parts
        taking_last y = sym (behind [] (split_last rest n en whole) ∙ ap (λ (x : Bool). taken_parts (later name x) k' b') y)

        pub name_less : is_name ≡ false → length name + later_bytes name true < length rest + later_bytes name is_name
        name_less y =
            let m : length name + 0 < length rest + later_bytes name false = omega arith in
            subst (λ (x : Bool). length name + 0 < length rest + later_bytes name x) (sym y) m

        pub taking_name : is_name ≡ false → 0 < length rest → Taking folder name b₀ b' k' true name
        taking_name y some_left = record {
          same =
              behind [] (split_last rest n en whole) ∙ ap (λ (x : Bool). taken_parts (later name x) k' b') y
              ∙ ap (λ (ps : List (List ℕ)). taken_parts ps k' b') (sym (append-nil (split name)));
          fits = keeps.0;
          over_most =
              let m : k.over + length rest + later_bytes name false ≤ 18446744073709551615 =
              subst (λ (x : Bool). k.over + length rest + later_bytes name x ≤ 18446744073709551615) y l.over_most in
              omega (arith, keeps.1, m, some_left);
        }
