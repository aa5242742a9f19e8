-- Lists joined one after another, when what gives them is rearranged: what adds up stays, and so does the whole if all that is not empty is one
-- list. Assumes nothing.
use mathlib.Core.List.{List, [], ◌∷◌, ◌++◌, flatten, map, append_assoc, append-nil}
use mathlib.Core.Logic.{◌⊎◌, inl, inr}
use mathlib.Core.Path.{◌≡◌, refl, sym, ap, ◌∙◌}
use Prim.Native.Nat.{ℕ, zero, suc, ◌+◌, ◌<◌}
use native.Mathlib.Omega.{arith}
use lib.ListN.{length, get_or}
use Rattle.orders.proofs.Drawing.{Drawn, none, one}

-- ---- What holds of each element

unfoldable pub Each : {A : Type 0} → (A → Type 0) → List A → Type 0
Each P [] = Unit {0}
Each P (x ∷ xs) = P x × Each P xs

module _ {A : Type 0} where
  pub each_get_d : (P : A → Type 0) (xs : List A) (d : A) → ((i : ℕ) → i < length xs → P (get_or xs i d)) → Each P xs
  unfolding Each
  each_get_d P [] d f = tt
  each_get_d P (x ∷ xs) d f = (f 0 (omega arith), each_get_d P xs d (λ i h. f (suc i) (omega arith)))

  pub each_at : (P : A → Type 0) (xs : List A) (d : A) → Each P xs → (i : ℕ) → i < length xs → P (get_or xs i d)
  unfolding Each
  each_at P [] d f i h = absurd (omega arith)
  each_at P (x ∷ xs) d f zero h = f.0
  each_at P (x ∷ xs) d f (suc i) h = each_at P xs d f.1 i (omega arith)

  pub each_weaker : (P Q : A → Type 0) (xs : List A) → ((x : A) → P x → Q x) → Each P xs → Each Q xs
  unfolding Each
  each_weaker P Q [] f h = tt
  each_weaker P Q (x ∷ xs) f h = (f x h.0, each_weaker P Q xs f h.1)

  pub each_both : (P Q : A → Type 0) (xs : List A) → Each P xs → Each Q xs → Each (λ x. P x × Q x) xs
  unfolding Each
  each_both P Q [] h k = tt
  each_both P Q (x ∷ xs) h k = ((h.0, k.0), each_both P Q xs h.1 k.1)

  module _ (P : A → Type 0) where
    pub each_join : (xs ys : List A) → Each P xs → Each P ys → Each P (xs ++ ys)
    unfolding Each
    each_join [] ys h k = k
    each_join (x ∷ xs) ys h k = (h.0, each_join xs ys h.1 k)

    pub each_split : (xs ys : List A) → Each P (xs ++ ys) → Each P xs × Each P ys
    unfolding Each
    each_split [] ys h = (tt, h)
    each_split (x ∷ xs) ys h = let r = each_split xs ys h.1 in ((h.0, r.0), r.1)

    pub each_drawn : {xs ys : List A} → Drawn xs ys → Each P xs → Each P ys
    unfolding Each
    each_drawn none h = tt
    each_drawn (one x xs ys zs d) h =
        let r = each_split ys zs (each_drawn d h.1) in
        each_join ys (x ∷ zs) r.0 (h.0, r.1)

-- ---- Joined lists

module _ {A B : Type 0} (f : A → List B) where
  abbrev pub joined : List A → List B
  joined xs = flatten (map f xs)

  pub joined_append : (xs ys : List A) → joined (xs ++ ys) ≡ joined xs ++ joined ys
  unfolding flatten
  joined_append [] ys = refl
  joined_append (x ∷ xs) ys = ap (λ (l : List B). f x ++ l) (joined_append xs ys) ∙ sym (append_assoc (f x) (joined xs) (joined ys))

  -- what adds up stays
  pub sum_drawn : (w : List B → ℕ) → ((xs ys : List B) → w (xs ++ ys) ≡ w xs + w ys) → {xs ys : List A} → Drawn xs ys
      → w (joined xs) ≡ w (joined ys)
  unfolding flatten
  sum_drawn w adds none = refl
  sum_drawn w adds (one x xs ys zs d) =
      omega (
        arith,
        sum_drawn w adds d,
        adds (f x) (joined xs),
        ap w (joined_append ys zs),
        adds (joined ys) (joined zs),
        ap w (joined_append ys (x ∷ zs)),
        adds (joined ys) (f x ++ joined zs),
        adds (f x) (joined zs),
      )

  pub each_joined : (P : B → Type 0) {xs ys : List A} → Drawn xs ys → Each P (joined xs) → Each P (joined ys)
  unfolding flatten
  each_joined P none h = h
  each_joined P (one x xs ys zs d) h =
      let r = each_split P (f x) (joined xs) h in
      let s = each_split P (joined ys) (joined zs) (rw (joined_append ys zs) at (each_joined P d r.1)) in
      rw (joined_append ys (x ∷ zs)) (each_join P (joined ys) (f x ++ joined zs) s.0 (each_join P (f x) (joined zs) r.0 s.1))

  -- each is empty, or is w
  module _ (w : List B) where
    abbrev pub EmptyOr : A → Type 0
    EmptyOr x = (f x ≡ []) ⊎ (f x ≡ w)

    around : (xs : List A) → Each EmptyOr xs → w ++ joined xs ≡ joined xs ++ w
    unfolding Each flatten
    around [] h = append-nil w
    around (x ∷ xs) h = at h.0 (around xs h.1)
      where
        at : EmptyOr x → w ++ joined xs ≡ joined xs ++ w → w ++ (f x ++ joined xs) ≡ (f x ++ joined xs) ++ w
        at (inl e) ih = rw e ih
        at (inr e) ih = rw e (ap (λ (l : List B). w ++ l) ih ∙ sym (append_assoc w (joined xs) w))

    pub joined_drawn : {xs ys : List A} → Drawn xs ys → Each EmptyOr xs → joined xs ≡ joined ys
    unfolding Each flatten
    joined_drawn none h = refl
    joined_drawn (one x xs ys zs d) h =
        ap (λ (l : List B). f x ++ l) (joined_drawn d h.1 ∙ joined_append ys zs)
        ∙ at h.0
        ∙ sym (joined_append ys (x ∷ zs))
      where
        at : EmptyOr x → f x ++ (joined ys ++ joined zs) ≡ joined ys ++ (f x ++ joined zs)
        at (inl e) = rw e refl
        at (inr e) =
            rw e
            (sym (append_assoc w (joined ys) (joined zs))
            ∙ ap (λ (l : List B). l ++ joined zs) (around ys (each_split EmptyOr ys zs (each_drawn EmptyOr d h.1)).0)
            ∙ append_assoc (joined ys) w (joined zs))
