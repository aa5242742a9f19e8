-- A name judged byte by byte is judged as the definition judges it. Assumes nothing.
use Rattle.std.specs.Prelude.{if◌then◌else◌}
use mathlib.Core.Bool.{Bool, true, false, ◌&&◌, ◌||◌, and-true, or-true}
use mathlib.Core.List.{List, [], ◌∷◌}
use mathlib.Core.Path.{◌≡◌, refl, sym, ap, ◌∙◌}
use Prim.Native.Nat.{ℕ, ◌+◌, ◌<◌, ◌≤◌}
use native.Mathlib.Numerals.{add-one}
use lib.Dec.{eqb}
use lib.ListN.{length, drop, get_or, drop_of_length-le}
use lib.Seq.{drop-cons}
use borrow.Author.Tests.{eqb-true, le-leb, lt-leb}
use Rattle.definition.specs.Lists.{all, is_empty, same}
use Rattle.definition.specs.Limits.{file_name_bytes}
use Rattle.definition.specs.Bytes.{dot, slash, is_digit, is_name}
use Rattle.definition.specs.Archive.{prefixed, split, is_name_part, is_file_name}
use Rattle.laws.proofs.Archive.{split_some}
use Rattle.file_names.specs.declared.Part.{Part}
use Rattle.file_names.specs.declared.Part.TheVariants.{Empty, Dot, DotDot, Good, Bad}
use Rattle.file_names.specs.Names.{ended, dotted, lettered, next, passes, walked}

-- ---- One part

-- is q a part, after the bytes that the state stands for?
good_part : Part → List ℕ → Bool
good_part Empty q = is_name_part q
good_part Dot q = is_name_part (dot ∷ q)
good_part DotDot q = is_name_part (dot ∷ dot ∷ q)
good_part Good q = all (λ c. is_name c || eqb c dot) q
good_part Bad q = false

part_end : (s : Part) → good_part s [] ≡ passes s
unfolding is_name_part is_empty all same is_name is_digit good_part
part_end Empty = refl
part_end Dot = refl
part_end DotDot = refl
part_end Good = refl
part_end Bad = refl

with_two : (b : Bool) → (b && true && true) ≡ b
with_two b = simp and-true

module _ (q : List ℕ) where
  part_dot : (s : Part) → good_part s (dot ∷ q) ≡ good_part (dotted s) q
  unfolding is_name_part is_empty all same is_name is_digit good_part
  part_dot Empty = refl
  part_dot Dot = refl
  part_dot DotDot = simp and-true
  part_dot Good = refl
  part_dot Bad = refl

  part_letter : (s : Part) (c : ℕ) → is_name c ≡ true → eqb c dot ≡ false → good_part s (c ∷ q) ≡ good_part (lettered s) q
  unfolding is_name_part is_empty all same good_part
  part_letter Empty c h d = rw (h, d) (with_two (all (λ b. is_name b || eqb b dot) q))
  part_letter Dot c h d = rw (h, d, or-true (is_name dot)) (with_two (all (λ b. is_name b || eqb b dot) q))
  part_letter DotDot c h d = rw (h, or-true (is_name dot)) (with_two (all (λ b. is_name b || eqb b dot) q))
  part_letter Good c h d = rw h refl
  part_letter Bad c h d = refl

  part_bad : (s : Part) (c : ℕ) → is_name c ≡ false → eqb c dot ≡ false → good_part s (c ∷ q) ≡ false
  unfolding is_name_part is_empty all same good_part
  part_bad Empty c h d = rw (h, d) refl
  part_bad Dot c h d = rw (h, d, or-true (is_name dot)) refl
  part_bad DotDot c h d = rw (h, d, or-true (is_name dot)) refl
  part_bad Good c h d = rw (h, d) refl
  part_bad Bad c h d = refl

  part_byte : (s : Part) (c : ℕ) → eqb c slash ≡ false → good_part s (c ∷ q) ≡ good_part (next s c) q
  unfolding next good_part
  part_byte s c n = at (eqb c dot) refl (is_name c) refl
    where
      at : (d : Bool) → eqb c dot ≡ d → (l : Bool) → is_name c ≡ l → good_part s (c ∷ q) ≡ good_part (next s c) q
      at true e l f = rw (eqb-true c dot e) (part_dot s)
      at false e true f = rw (n, e, f) (part_letter s c f e)
      at false e false f = rw (n, e, f) (part_bad s c f e)

-- ---- All parts

good_parts : Part → List (List ℕ) → Bool
good_parts s [] = good_part s []
good_parts s (q ∷ qs) = good_part s q && all is_name_part qs

parts_byte : (s : Part) (c : ℕ) (qs : List (List ℕ)) → eqb c slash ≡ false → good_parts s (prefixed c qs) ≡ good_parts (next s c) qs
unfolding prefixed good_parts all
parts_byte s c [] n = rw (part_byte [] s c n) (and-true (good_part (next s c) []))
parts_byte s c (q ∷ qs) n = rw (part_byte q s c n) refl

parts_first : (t : List ℕ) → good_parts Empty (split t) ≡ all is_name_part (split t)
unfolding good_parts good_part all
parts_first t = let r = split_some t in rw r.2 refl

parts_none : (qs : List (List ℕ)) → good_parts Bad qs ≡ false
unfolding good_parts good_part
parts_none [] = refl
parts_none (q ∷ qs) = refl

parts_slash : (s : Part) (t : List ℕ) → good_parts s ([] ∷ split t) ≡ good_parts (ended s) (split t)
unfolding good_parts
parts_slash Good t = rw (part_end Good) (sym (parts_first t))
parts_slash Empty t = rw (part_end Empty) (sym (parts_none (split t)))
parts_slash Dot t = rw (part_end Dot) (sym (parts_none (split t)))
parts_slash DotDot t = rw (part_end DotDot) (sym (parts_none (split t)))
parts_slash Bad t = rw (part_end Bad) (sym (parts_none (split t)))

slash_ends : (s : Part) (c : ℕ) → eqb c slash ≡ true → next s c ≡ ended s
unfolding next
slash_ends s c e = rw e refl

walked_parts : (s : Part) (t : List ℕ) → walked s t ≡ good_parts s (split t)
unfolding walked split good_parts all
walked_parts s [] = rw (part_end s) (sym (and-true (passes s)))
walked_parts s (c ∷ t) = at (eqb c slash) refl (walked_parts (next s c) t)
  where
    at : (b : Bool) → eqb c slash ≡ b → walked (next s c) t ≡ good_parts (next s c) (split t) → walked (next s c) t ≡ good_parts s (if b then [] ∷ split t else prefixed c (split t))
    at true e ih = ih ∙ ap (λ (p : Part). good_parts p (split t)) (slash_ends s c e) ∙ sym (parts_slash s t)
    at false e ih = ih ∙ sym (parts_byte s c (split t) e)

-- ---- A name

pub name_walked : (n : List ℕ) → length n ≤ file_name_bytes → is_file_name n ≡ walked Empty n
unfolding is_file_name
name_walked n h = rw (le-leb (length n) file_name_bytes h) (sym (walked_parts Empty n ∙ parts_first n))

pub name_long : (n : List ℕ) → file_name_bytes < length n → is_file_name n ≡ false
unfolding is_file_name
name_long n h = rw (lt-leb (length n) file_name_bytes h) refl

pub walked_byte : (s : Part) (n : List ℕ) (i : ℕ) → i < length n → walked s (drop i n) ≡ walked (next s (get_or n i 0)) (drop (i + 1) n)
unfolding walked
walked_byte s n i h = rw (add-one, drop-cons n i 0 h) refl

pub walked_end : (s : Part) (n : List ℕ) (i : ℕ) → length n ≤ i → walked s (drop i n) ≡ passes s
unfolding walked
walked_end s n i h = rw (drop_of_length-le n h) refl
