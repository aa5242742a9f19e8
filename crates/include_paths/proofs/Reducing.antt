-- What is kept of a path stands for the definition's path, part by part, and at the end it is the path that is looked for. Assumes nothing.
use Rattle.std.specs.Prelude.{if◌then◌else◌}
use mathlib.Core.Bool.{Bool, true, false, ◌&&◌, ◌||◌, not}
use mathlib.Core.List.{List, [], ◌∷◌}
use mathlib.Core.Option.{Option as Maybe, some, none}
use mathlib.Core.Path.{◌≡◌, refl, sym, ap, ◌∙◌}
use Prim.Native.Nat.{ℕ, zero, suc, ◌+◌, ◌-◌, ◌≤◌, ◌<◌}
use native.Mathlib.Omega.{arith}
use lib.Dec.{eqb, leb}
use lib.ListN.{length, take, drop, take-append-drop}
use lib.Seq.{length-take-le, take-append-le}
use borrow.Author.Tests.{eq-eqb, ne_eqb, leb-true, leb-false, le-leb, lt-leb}
use Rattle.definition.specs.Lists.{ascii, all, is_empty, same}
use Rattle.definition.specs.Limits.{file_name_bytes}
use Rattle.definition.specs.Archive.{folder_of, split, joined, reduced, ends_in_dots, as_file_name, path_of}
use Rattle.laws.proofs.Lists.{not_both, and_true}
use Rattle.laws.proofs.Archive.{split_some}
use Rattle.kept_parts.specs.declared.Kept.{Kept}
use Rattle.std.specs.Prelude.{Option, Some, None}
use Rattle.paths.specs.Parts.{not_slash}
use Rattle.kept_parts.specs.Keeping.{kept, Fits, end_below, put_below, has_room, with_part, bytes_with, without_part, Did, did, taken_part}
use Rattle.include_paths.specs.Sought.{root, answering, and_then, taken_parts}
use Rattle.paths.proofs.Folders.{folder_front, folder_short, folder_below, joined_some, joined_long}
use Rattle.include_paths.proofs.Splitting.{split_free}
use Rattle.kept_parts.proofs.Storing.{empty_is, length_joined, take_put, length_put}

-- ---- What is kept, and the path that it stands for

-- a path with parts below it, the last part first
beneath : List ℕ → List (List ℕ) → List ℕ
beneath h [] = h
beneath h (p ∷ ps) = joined (beneath h ps) p

-- with the first of these parts it has more than 96 bytes
Far : List ℕ → List (List ℕ) → Type 0
Far h [] = Unit {0}
Far h (p ∷ []) = file_name_bytes < length (joined h p)
Far h (p ∷ q ∷ ps) = Far h (q ∷ ps)

is_part : List ℕ → Bool
is_part p = not (is_empty p) && all not_slash p

record Stands (path : List ℕ) (k : Kept) (b : List ℕ) : Type 0 where
  fits : Fits k b
  parts : List (List ℕ)
  path_is : path ≡ beneath (take k.size b) parts
  over_is : k.over ≡ length parts
  good : all is_part parts ≡ true
  far : Far (take k.size b) parts

stands_root : (b : List ℕ) → length b ≡ file_name_bytes → Stands [] root b
unfolding beneath Far all
stands_root b h = record { fits = (omega arith, h); parts = []; path_is = refl; over_is = refl; good = refl; far = tt }

-- a path that the definition has, or has not, and an answer that stands for it
Reaches : Maybe (List ℕ) → Option Kept → List ℕ → Type 0
Reaches (some path) (Some k) b = Stands path k b
Reaches (some path) None b = ⊥
Reaches none (Some k) b = ⊥
Reaches none None b = Unit {0}

-- ---- One part

module _ {path : List ℕ} {k : Kept} {b : List ℕ} (s : Stands path k b) where
  abbrev h : List ℕ
  h = take k.size b

  size_most : k.size ≤ length b
  size_most = omega (arith, s.fits)

  stands_dot : Stands path (kept k.size k.over true) b
  stands_dot = record { fits = s.fits; parts = s.parts; path_is = s.path_is; over_is = s.over_is; good = s.good; far = s.far }

  -- `..`, where all of the path is kept
  module _ (none_over : s.parts ≡ []) where
    path_kept : path ≡ h
    unfolding beneath
    path_kept = s.path_is ∙ ap (beneath h) none_over

    nothing_over : k.over ≡ 0
    nothing_over = s.over_is ∙ ap length none_over

    stands_up : Stands (folder_of path) (kept (length (folder_of h)) 0 true) b
    unfolding beneath Far all
    stands_up =
        let l : length h ≡ k.size = length-take-le k.size b size_most in
        let m : length (folder_of h) ≤ k.size = omega (arith, folder_short h, l) in
        let front : take (length (folder_of h)) b ≡ folder_of h =
        ap (take (length (folder_of h))) (sym (take-append-drop k.size b)) ∙ take-append-le (length (folder_of h)) h (drop k.size b) (folder_short h) ∙ folder_front h in
        record {
          fits = (omega (arith, m, s.fits), s.fits.1);
          parts = [];
          path_is = rw path_kept (sym front);
          over_is = refl;
          good = refl;
          far = tt;
        }

  -- `..`, where the last of the parts over is removed
  module _ (q : List ℕ) (qs : List (List ℕ)) (some-over : s.parts ≡ q ∷ qs) where
    path_over : path ≡ joined (beneath h qs) q
    unfolding beneath
    path_over = s.path_is ∙ ap (beneath h) some-over

    over_suc : k.over ≡ suc (length qs)
    over_suc = s.over_is ∙ ap length some-over

    is_part_lem : (is_empty q ≡ false) × (all not_slash q ≡ true) × (all is_part qs ≡ true)
    unfolding is_part all
    is_part_lem =
        let g : all is_part (q ∷ qs) ≡ true = sym (ap (all is_part) some-over) ∙ s.good in
        let a = and_true (is_part q) (all is_part qs) g in
        let c = and_true (not (is_empty q)) (all not_slash q) a.0 in
        (not_empty (is_empty q) c.0, c.1, a.1)
      where
        not_empty : (e : Bool) → not e ≡ true → e ≡ false
        not_empty true x = absurd (not_both x refl)
        not_empty false x = refl

    path_some : is_empty path ≡ false
    path_some = rw path_over (joined_some (beneath h qs) q is_part_lem.0)

    far_over : Far h (q ∷ qs)
    far_over = rw (← some-over) s.far

    nearer : (rs : List (List ℕ)) → Far h (q ∷ rs) → Far h rs
    unfolding Far
    nearer [] f = tt
    nearer (r ∷ rs) f = f

    stands_back : Stands (folder_of path) (kept k.size (k.over - 1) true) b
    stands_back = record {
      fits = s.fits;
      parts = qs;
      path_is = rw path_over (folder_below (beneath h qs) q is_part_lem.1);
      over_is = omega (arith, over_suc);
      good = is_part_lem.2;
      far = nearer qs far_over;
    }

  -- a name's part
  module _ (p : List ℕ) (e : is_empty p ≡ false) (f : all not_slash p ≡ true) where
    good_part : is_part p ≡ true
    unfolding is_part
    good_part = rw (e, f) refl

    -- with room below the path
    stands_in_lem : s.parts ≡ [] → end_below k.size (length p) ≤ file_name_bytes
        → Stands (joined path p) (kept (end_below k.size (length p)) 0 false) (put_below p k.size b)
    unfolding beneath Far all
    stands_in_lem n m = record {
      fits = (m, length_put b p k.size size_most (omega (arith, m, s.fits)) ∙ s.fits.1);
      parts = [];
      path_is = rw (path_kept n, take_put b p k.size size_most) refl;
      over_is = refl;
      good = refl;
      far = tt;
    }

    -- counted
    stands_over : Far h (p ∷ s.parts) → Stands (joined path p) (kept k.size (k.over + 1) false) b
    unfolding beneath all
    stands_over g = record {
      fits = s.fits;
      parts = p ∷ s.parts;
      path_is = rw (← s.path_is) refl;
      over_is = omega (arith, s.over_is);
      good = rw (good_part, s.good) refl;
      far = g;
    }

-- ---- All parts

-- `..` and a name's part, by what is kept; `next` takes the parts behind, and `rest` is the definition's path after them
module _ {path : List ℕ} {k : Kept} {b : List ℕ} (s : Stands path k b) where
  up : (next : Kept → List ℕ → Did) (rest : List ℕ → Maybe (List ℕ))
      → ((path' : List ℕ) (k' : Kept) → Stands path' k' b → Reaches (rest path') (next k' b).answer (next k' b).bytes)
      → (ps : List (List ℕ)) → s.parts ≡ ps
      → Reaches (if is_empty path then none else rest (folder_of path)) (answering (without_part k b) b next).answer (answering (without_part k b) b next).bytes
  unfolding without_part Reaches is_empty
  up next rest f [] e = at k.size refl
    where
      at : (n : ℕ) → k.size ≡ n
          → Reaches (if is_empty path then none else rest (folder_of path)) (answering (without_part k b) b next).answer (answering (without_part k b) b next).bytes
      at zero z = rw (path_kept s e, eq-eqb k.over 0 (nothing_over s e), z) tt
      at (suc n) z =
          let l : length (take k.size b) ≡ k.size = length-take-le k.size b (size_most s) in
          let some-kept : is_empty path ≡ false = rw (path_kept s e) (empty_is (take k.size b) ∙ ne_eqb (length (take k.size b)) 0 (λ q. omega arith)) in
          rw (eq-eqb k.over 0 (nothing_over s e), ne_eqb k.size 0 (λ q. omega arith), some-kept)
          (f (folder_of path) (kept (length (folder_of (take k.size b))) 0 true) (stands_up s e))
  up next rest f (q ∷ qs) e =
      rw (path_some s q qs e, ne_eqb k.over 0 (λ z. omega (arith, over_suc s q qs e)))
      (f (folder_of path) (kept k.size (k.over - 1) true) (stands_back s q qs e))

  down : (p : List ℕ) → is_empty p ≡ false → all not_slash p ≡ true → (next : Kept → List ℕ → Did) (rest : List ℕ → Maybe (List ℕ))
      → ((path' : List ℕ) (k' : Kept) (b' : List ℕ) → Stands path' k' b' → Reaches (rest path') (next k' b').answer (next k' b').bytes)
      → (ps : List (List ℕ)) → s.parts ≡ ps
      → Reaches (rest (joined path p)) (next (with_part p k) (bytes_with p k b)).answer (next (with_part p k) (bytes_with p k b)).bytes
  unfolding with_part bytes_with has_room Far
  down p g h next rest f [] e = at (leb (end_below k.size (length p)) file_name_bytes) refl
    where
      at : (m : Bool) → leb (end_below k.size (length p)) file_name_bytes ≡ m
          → Reaches (rest (joined path p)) (next (with_part p k) (bytes_with p k b)).answer (next (with_part p k) (bytes_with p k b)).bytes
      at true m =
          rw (eq-eqb k.over 0 (nothing_over s e), m)
          (f (joined path p) (kept (end_below k.size (length p)) 0 false) (put_below p k.size b) (stands_in_lem s p g h e (leb-true _ _ m)))
      at false m =
          let far : Far (take k.size b) (p ∷ []) = rw (length_joined b p k.size (size_most s)) (leb-false _ _ m) in
          rw (eq-eqb k.over 0 (nothing_over s e), m)
          (f (joined path p) (kept k.size (k.over + 1) false) b (stands_over s p g h (rw e far)))
  down p g h next rest f (q ∷ qs) e =
      rw (ne_eqb k.over 0 (λ z. omega (arith, over_suc s q qs e)))
      (f (joined path p) (kept k.size (k.over + 1) false) b (stands_over s p g h (rw e (far_over s q qs e))))

parts_reach : (ps : List (List ℕ)) → all (all not_slash) ps ≡ true → (path : List ℕ) (k : Kept) (b : List ℕ) → Stands path k b
    → Reaches (reduced path ps) (taken_parts ps k b).answer (taken_parts ps k b).bytes
unfolding reduced taken_parts taken_part Reaches all
parts_reach [] h path k b s = s
parts_reach (p ∷ ps) h path k b s =
    let a = and_true (all not_slash p) (all (all not_slash) ps) h in
    at (is_empty p) refl (same p (ascii ".")) (same p (ascii "..")) a.0 (parts_reach ps a.1)
  where
    at : (e : Bool) → is_empty p ≡ e → (d dd : Bool) → all not_slash p ≡ true
        → ((path' : List ℕ) (k' : Kept) (b' : List ℕ) → Stands path' k' b' → Reaches (reduced path' ps) (taken_parts ps k' b').answer (taken_parts ps k' b').bytes)
        → Reaches
        (if e then none else if d then reduced path ps else if dd then (if is_empty path then none else reduced (folder_of path) ps) else reduced (joined path p) ps)
        (and_then (if e then did None b else if d then did (Some (kept k.size k.over true)) b else if dd then did (without_part k b) b else did (Some (with_part p k)) (bytes_with p k b)) (taken_parts ps)).answer
        (and_then (if e then did None b else if d then did (Some (kept k.size k.over true)) b else if dd then did (without_part k b) b else did (Some (with_part p k)) (bytes_with p k b)) (taken_parts ps)).bytes
    at true g d dd f ih = tt
    at false g true dd f ih = ih path (kept k.size k.over true) b (stands_dot s)
    at false g false true f ih = up s (taken_parts ps) (λ q. reduced q ps) (λ path' k'. ih path' k' b) s.parts refl
    at false g false false f ih = down s p g f (taken_parts ps) (λ q. reduced q ps) ih s.parts refl

-- ---- The last part

-- is the last part that was taken `.` or `..`?
DotsAre : Option Kept → Bool → Type 0
DotsAre (Some k) e = k.dots ≡ e
DotsAre None e = Unit {0}

without_dots : (k : Kept) (b : List ℕ) → DotsAre (without_part k b) true
unfolding without_part DotsAre
without_dots k b = at (eqb k.over 0) (eqb k.size 0)
  where
    at : (x y : Bool)
        → DotsAre (if x then (if y then None else Some (kept (length (folder_of (take k.size b))) 0 true)) else Some (kept k.size (k.over - 1) true)) true
    at true true = tt
    at true false = refl
    at false y = refl

with_dots : (p : List ℕ) (k : Kept) → (with_part p k).dots ≡ false
unfolding with_part
with_dots p k = at (has_room (length p) k)
  where
    at : (x : Bool) → (if x then kept (end_below k.size (length p)) 0 false else kept k.size (k.over + 1) false).dots ≡ false
    at true = refl
    at false = refl

last_dots : (p : List ℕ) (k : Kept) (b : List ℕ) → DotsAre (taken_part p k b).answer (same p (ascii ".") || same p (ascii ".."))
unfolding taken_part DotsAre
last_dots p k b = at (is_empty p) (same p (ascii ".")) (same p (ascii ".."))
  where
    at : (e d dd : Bool)
        → DotsAre (if e then did None b else if d then did (Some (kept k.size k.over true)) b else if dd then did (without_part k b) b else did (Some (with_part p k)) (bytes_with p k b)).answer (d || dd)
    at true d dd = tt
    at false true dd = refl
    at false false true = without_dots k b
    at false false false = with_dots p k

dots_are : (p : List ℕ) (ps : List (List ℕ)) (k : Kept) (b : List ℕ) → DotsAre (taken_parts (p ∷ ps) k b).answer (ends_in_dots (p ∷ ps))
unfolding taken_parts ends_in_dots DotsAre
dots_are p [] k b = at (taken_part p k b).answer (last_dots p k b)
  where
    at : (r : Option Kept) → DotsAre r (same p (ascii ".") || same p (ascii ".."))
        → DotsAre (answering r (taken_part p k b).bytes (taken_parts [])).answer (same p (ascii ".") || same p (ascii ".."))
    at (Some k') h = h
    at None h = tt
dots_are p (q ∷ qs) k b = at (taken_part p k b).answer (λ k' b'. dots_are q qs k' b')
  where
    at : (r : Option Kept) → ((k' : Kept) (b' : List ℕ) → DotsAre (taken_parts (q ∷ qs) k' b').answer (ends_in_dots (q ∷ qs)))
        → DotsAre (answering r (taken_part p k b).bytes (taken_parts (q ∷ qs))).answer (ends_in_dots (q ∷ qs))
    at (Some k') f = f k' (taken_part p k b).bytes
    at None f = tt

-- ---- The end

far_long : (h p : List ℕ) (ps : List (List ℕ)) → Far h (p ∷ ps) → file_name_bytes < length (beneath h (p ∷ ps))
unfolding Far beneath
far_long h p [] f = f
far_long h p (q ∷ qs) f =
    let g : file_name_bytes < length (joined (beneath h qs) q) = far_long h q qs f in
    omega (arith, g, joined_long (joined (beneath h qs) q) p)

module _ {path : List ℕ} {k : Kept} {b : List ℕ} (s : Stands path k b) where
  -- all is kept: it is the path
  whole_path : k.over ≡ 0 → as_file_name (some path) ≡ some (take k.size b)
  unfolding as_file_name beneath
  whole_path z = at s.parts refl
    where
      at : (ps : List (List ℕ)) → s.parts ≡ ps → as_file_name (some path) ≡ some (take k.size b)
      at [] e =
          let l : length (take k.size b) ≡ k.size = length-take-le k.size b (size_most s) in
          rw (path_kept s e, le-leb (length (take k.size b)) file_name_bytes (omega (arith, s.fits))) refl
      at (q ∷ qs) e = absurd (omega (arith, over_suc s q qs e))

  -- some of it is not: it has more than 96 bytes
  long_path : 0 < k.over → as_file_name (some path) ≡ none
  unfolding as_file_name
  long_path z = at s.parts refl
    where
      at : (ps : List (List ℕ)) → s.parts ≡ ps → as_file_name (some path) ≡ none
      at [] e = absurd (omega (arith, nothing_over s e))
      at (q ∷ qs) e =
          let l : file_name_bytes < length path = rw (s.path_is, e) (far_long (take k.size b) q qs (far_over s q qs e)) in
          rw (lt-leb (length path) file_name_bytes l) refl

-- ---- An include's path

module _ (folder name b : List ℕ) (h : length b ≡ file_name_bytes) where
  abbrev parts : List (List ℕ)
  parts = split (joined folder name)

  abbrev taken : Did
  taken = taken_parts parts root b

  reached : Reaches (reduced [] parts) taken.answer taken.bytes
  reached = parts_reach parts (split_free (joined folder name)) [] root b (stands_root b h)

  dotted : DotsAre taken.answer (ends_in_dots parts)
  dotted = let s = split_some (joined folder name) in rw s.2 (dots_are s.0 s.1 root b)

  pub no_path : taken.answer ≡ None → none ≡ path_of folder name
  unfolding path_of Reaches as_file_name
  no_path e = at (reduced [] parts) (ends_in_dots parts) (rw e at reached)
    where
      at : (o : Maybe (List ℕ)) (x : Bool) → Reaches o None taken.bytes → none ≡ (if x then none else as_file_name o)
      at (some p) x r = absurd r
      at none true r = refl
      at none false r = refl

  module _ (k : Kept) (e : taken.answer ≡ Some k) where
    ends : ends_in_dots parts ≡ k.dots
    unfolding DotsAre
    ends = sym (rw e at dotted)

    pub dots_end : k.dots ≡ true → none ≡ path_of folder name
    unfolding path_of
    dots_end d = rw (ends, d) refl

    at_end : k.dots ≡ false → (o : Maybe (List ℕ)) → Reaches o (Some k) taken.bytes
        → ((0 < k.over) → none ≡ as_file_name o) × (k.over ≡ 0 → some (take k.size taken.bytes) ≡ as_file_name o) × Fits k taken.bytes
    unfolding Reaches
    at_end d (some path) s = (λ z. sym (long_path s z), λ z. sym (whole_path s z), s.fits)
    at_end d none s = absurd s

    ended : k.dots ≡ false
        → ((0 < k.over) → none ≡ path_of folder name) × (k.over ≡ 0 → some (take k.size taken.bytes) ≡ path_of folder name) × Fits k taken.bytes
    unfolding path_of
    ended d = rw (ends, d) (at_end d (reduced [] parts) (rw e at reached))

    pub long_end : k.dots ≡ false → 0 < k.over → none ≡ path_of folder name
    long_end d = (ended d).0

    pub path_end : k.dots ≡ false → k.over ≡ 0 → (some (take k.size taken.bytes) ≡ path_of folder name) × Fits k taken.bytes
    path_end d z = ((ended d).1 z, (ended d).2)

-- ---- What a call asks of what is kept

-- it fits the buffer, and few parts are over
abbrev pub Keeps : Option Kept → List ℕ → ℕ → Type 0
Keeps (Some k) b n = Fits k b × (k.over ≤ n)
Keeps None b n = length b ≡ file_name_bytes

module _ (k : Kept) (b : List ℕ) (f : Fits k b) where
  without_keeps : Keeps (without_part k b) b k.over
  unfolding without_part
  without_keeps = at (eqb k.over 0) (eqb k.size 0)
    where
      short : length (folder_of (take k.size b)) ≤ file_name_bytes
      short = omega (arith, folder_short (take k.size b), length-take-le k.size b (omega (arith, f)), f)

      at : (x y : Bool)
          → Keeps (if x then (if y then None else Some (kept (length (folder_of (take k.size b))) 0 true)) else Some (kept k.size (k.over - 1) true)) b k.over
      at true true = f.1
      at true false = ((short, f.1), omega arith)
      at false y = (f, omega arith)

  with_keeps : (p : List ℕ) → Fits (with_part p k) (bytes_with p k b) × ((with_part p k).over ≤ k.over + 1)
  unfolding with_part bytes_with has_room
  with_keeps p = at (eqb k.over 0) (leb (end_below k.size (length p)) file_name_bytes) refl
    where
      at : (x y : Bool) → leb (end_below k.size (length p)) file_name_bytes ≡ y
          → Fits (if x && y then kept (end_below k.size (length p)) 0 false else kept k.size (k.over + 1) false) (if x && y then put_below p k.size b else b)
          × ((if x && y then kept (end_below k.size (length p)) 0 false else kept k.size (k.over + 1) false).over ≤ k.over + 1)
      at true true e =
          let m = leb-true _ _ e in
          ((m, length_put b p k.size (omega (arith, f)) (omega (arith, m, f)) ∙ f.1), omega arith)
      at true false e = (f, omega arith)
      at false y e = (f, omega arith)

  pub part_keeps : (p : List ℕ) → Keeps (taken_part p k b).answer (taken_part p k b).bytes (k.over + 1)
  unfolding taken_part
  part_keeps p = at (is_empty p) (same p (ascii ".")) (same p (ascii ".."))
    where
      more : (r : Option Kept) → Keeps r b k.over → Keeps r b (k.over + 1)
      more (Some k') g = (g.0, omega (arith, g.1))
      more None g = g

      at : (e d dd : Bool)
          → Keeps (if e then did None b else if d then did (Some (kept k.size k.over true)) b else if dd then did (without_part k b) b else did (Some (with_part p k)) (bytes_with p k b)).answer
          (if e then did None b else if d then did (Some (kept k.size k.over true)) b else if dd then did (without_part k b) b else did (Some (with_part p k)) (bytes_with p k b)).bytes
          (k.over + 1)
      at true d dd = f.1
      at false true dd = (f, omega arith)
      at false false true = more (without_part k b) without_keeps
      at false false false = with_keeps p
