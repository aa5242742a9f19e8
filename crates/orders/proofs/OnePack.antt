-- Packs in any order: under one key all lines give one pack's entries, or nothing. Assumes nothing.
use mathlib.Core.List.{List, [], ◌∷◌, flatten}
use mathlib.Core.Logic.{◌⊎◌, inl, inr}
use mathlib.Core.Option.{Option, some, none}
use mathlib.Core.Path.{◌≡◌, refl, sym, ap, ◌∙◌}
use Prim.Native.Nat.{ℕ}
use native.Mathlib.Omega.{arith}
use Rattle.definition.specs.Lists.{filter}
use Rattle.definition.specs.Archive.{File}
use Rattle.definition.specs.Text.{Part, Entry}
use Rattle.definition.specs.Including.{seeking, Entered, entries_of}
use Rattle.definition.specs.Reading.{plain}
use Rattle.orders.proofs.Drawing.{Drawn}
use Rattle.orders.proofs.Agreeing.{under}
use Rattle.orders.proofs.IncludeLines.{sought}
use Rattle.orders.proofs.Joined.{Each, each_weaker, each_both, each_split, joined, EmptyOr, joined_drawn}
use Rattle.orders.proofs.Packs.{Agrees, Through, first_under, file_through}
use Rattle.orders.proofs.Packs as packs

module _ (d : ℕ) (fs : List File) (key : List Part) where
  -- what a path, a line, gives, and what of it stands under the key
  abbrev gives : Option (List ℕ) → List Entered
  gives = packs.gives d fs

  abbrev line_gives : List ℕ → List Entered
  line_gives = packs.line_gives d fs

  abbrev under_path : Option (List ℕ) → List Entry
  under_path = packs.under_path d fs key

  abbrev under_line : List ℕ → List Entry
  under_line = packs.under_line d fs key

  paths_one : (o p : Option (List ℕ)) → Each (λ x. Each (Agrees key x) (gives p)) (gives o)
      → (under_path o ≡ []) ⊎ ((under_path p ≡ []) ⊎ (under_path p ≡ under_path o))
  unfolding seeking entries_of filter
  paths_one none p h = inl refl
  paths_one (some f) none h = inr (inl refl)
  paths_one (some f) (some g) h = at (under_path (some f)) refl (under_path (some g)) refl
    where
      at : (us : List Entry) → under_path (some f) ≡ us → (vs : List Entry) → under_path (some g) ≡ vs
          → (under_path (some f) ≡ []) ⊎ ((under_path (some g) ≡ []) ⊎ (under_path (some g) ≡ under_path (some f)))
      at [] e vs k = inl e
      at (u ∷ us) e [] k = inr (inl k)
      at (u ∷ us) e (v ∷ vs) k =
          let a = first_under (λ x. Each (Agrees key x) (gives (some g)) × Through f x) key (gives (some f)) u us
          (each_both (λ x. Each (Agrees key x) (gives (some g))) (Through f) (gives (some f)) h (file_through f d fs)) e in
          inr (inr (ap (λ (n : List ℕ). under_path (some n)) (sym (packs.files_one d fs key f g a v vs k))))

  -- if the first of some lines gives something under it, each of the others gives that or nothing
  others_one : (l : List ℕ) (e : Entry) (es : List Entry) → under_line l ≡ e ∷ es → (ms : List (List ℕ))
      → Each (λ x. Each (Agrees key x) (joined line_gives ms)) (line_gives l) → Each (EmptyOr under_line (under_line l)) ms
  unfolding Each flatten
  others_one l e es u [] h = tt
  others_one l e es u (m ∷ ms) h =
      let split : (x : Entered) → Each (Agrees key x) (joined line_gives (m ∷ ms)) → Each (Agrees key x) (line_gives m) × Each (Agrees key x) (joined line_gives ms) =
      λ x k. each_split (Agrees key x) (line_gives m) (joined line_gives ms) k in (
        at (paths_one (sought l) (sought m) (each_weaker _ _ (line_gives l) (λ x k. (split x k).0) h)),
        others_one l e es u ms (each_weaker _ _ (line_gives l) (λ x k. (split x k).1) h),
      )
    where
      at : (under_line l ≡ []) ⊎ ((under_line m ≡ []) ⊎ (under_line m ≡ under_line l)) → EmptyOr under_line (under_line l) m
      at (inl n) = let z : ◌≡◌ {A = ℕ} 0 1 = cc in absurd (omega arith)
      at (inr (inl n)) = inl n
      at (inr (inr n)) = inr n

  -- the lines give one list under it, or nothing
  lines_one : (ls : List (List ℕ)) → Each (λ x. Each (Agrees key x) (joined line_gives ls)) (joined line_gives ls)
      → (w : List Entry) × Each (EmptyOr under_line w) ls
  unfolding Each flatten
  lines_one [] h = ([], tt)
  lines_one (l ∷ ls) h =
      let rest : (x : Entered) → Each (Agrees key x) (joined line_gives (l ∷ ls)) → Each (Agrees key x) (joined line_gives ls) =
      λ x k. (each_split (Agrees key x) (line_gives l) (joined line_gives ls) k).1 in
      let r = each_split (λ x. Each (Agrees key x) (joined line_gives (l ∷ ls))) (line_gives l) (joined line_gives ls) h in
      at (under_line l) refl (each_weaker _ _ (line_gives l) rest r.0) (lines_one ls (each_weaker _ _ (joined line_gives ls) rest r.1))
    where
      at : (us : List Entry) → under_line l ≡ us → Each (λ x. Each (Agrees key x) (joined line_gives ls)) (line_gives l)
          → (w : List Entry) × Each (EmptyOr under_line w) ls → (w : List Entry) × Each (EmptyOr under_line w) (l ∷ ls)
      at [] u k ih = (ih.0, (inl u, ih.1))
      at (e ∷ es) u k ih = (under_line l, (inr refl, others_one l e es u ls k))

  pub under_drawn : {ls ms : List (List ℕ)} → Drawn ls ms → Each (λ x. Each (Agrees key x) (joined line_gives ls)) (joined line_gives ls)
      → under key (plain (joined line_gives ls)) ≡ under key (plain (joined line_gives ms))
  under_drawn {ls} {ms} r h =
      let w = lines_one ls h in
      packs.under_joined d fs key ls ∙ joined_drawn under_line w.0 r w.1 ∙ sym (packs.under_joined d fs key ms)
