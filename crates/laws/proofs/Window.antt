-- A query that two bounds admit is the same query to both (document 02 (vi)). Assumes nothing.
use Rattle.std.specs.Prelude.{if◌then◌else◌}
use mathlib.Core.Bool.{Bool, true, false, ◌||◌, not}
use mathlib.Core.List.{List}
use mathlib.Core.Option.{Option, some, none}
use mathlib.Core.Path.{◌≡◌, refl, sym, ap, ◌∙◌}
use Prim.Native.Nat.{ℕ, ◌≤◌, ◌<◌}
use native.Mathlib.Omega.{arith}
use lib.Dec.{ltb}
use lib.ListN.{length}
use borrow.Author.Tests.{lt-ltb, ltb-true}
use Rattle.definition.specs.Image.{rows_in, is_image}
use Rattle.definition.specs.Query.{Query, positions, malformed, past_limit, positions_of, names_of, Bounds, counted_query, query_within}
use Rattle.definition.specs.Lookup.{Reply, refused, Place, lookup, get_bytes_by, get_bytes_within}
use Rattle.definition.specs.Value.{bytes_or, as_string, as_bool, as_number, get_string_by, get_string_within, get_bool_by, get_value_by, shown_by}
use Rattle.definition.specs.Window.{Admits, SameAnswers, BoundsAgree, WiderAdmits}

-- the query without bounds
unfoldable unbounded : Option (List (List ℕ)) → Option (List (List ℕ)) → Query
unbounded none cs = malformed
unbounded (some ns) none = malformed
unbounded (some ns) (some cs) = positions (positions_of ns cs)

counted_admitted : (most : Bounds) (n c : Option (List (List ℕ))) → ((k : ℕ) → counted_query most n c ≡ past_limit k → ⊥) → counted_query most n c ≡ unbounded n c
unfolding counted_query unbounded
counted_admitted most none c h = refl
counted_admitted most (some ns) none h = refl
counted_admitted most (some ns) (some cs) h = at (ltb most.parts (length ns) || ltb most.parts (length cs)) h
  where
    at : (b : Bool) → ((k : ℕ) → (if b then past_limit 10 else positions (positions_of ns cs)) ≡ past_limit k → ⊥)
        → (if b then past_limit 10 else positions (positions_of ns cs)) ≡ positions (positions_of ns cs)
    at true h = absurd (h 10 refl)
    at false h = refl

module _ (name class : List ℕ) where
  admitted : (most : Bounds) → Admits most name class → query_within most name class ≡ unbounded (names_of name) (names_of class)
  unfolding query_within
  admitted most h = at (ltb most.bytes (length name) || ltb most.bytes (length class)) h
    where
      at : (b : Bool) → ((k : ℕ) → (if b then past_limit 9 else counted_query most (names_of name) (names_of class)) ≡ past_limit k → ⊥)
          → (if b then past_limit 9 else counted_query most (names_of name) (names_of class)) ≡ unbounded (names_of name) (names_of class)
      at true h = absurd (h 9 refl)
      at false h = counted_admitted most (names_of name) (names_of class) h

  pub same_query : (a b : Bounds) → Admits a name class → Admits b name class → query_within a name class ≡ query_within b name class
  same_query a b h k = admitted a h ∙ sym (admitted b k)

pub bounds_agree : BoundsAgree
unfolding get_bytes_by get_string_by get_bool_by get_value_by shown_by
bounds_agree a b name class h k contents bodies =
    let same = same_query name class a b h k in
    let bytes : get_bytes_within a contents bodies name class ≡ get_bytes_within b contents bodies name class =
    ap (λ (q : Query). if not (is_image contents bodies) then refused 8 else lookup (rows_in contents) bodies q) same in
    let string : get_string_within a contents bodies name class ≡ get_string_within b contents bodies name class = ap (as_string bodies) bytes in
    record { bytes = bytes; string = string; boolean = ap (as_bool bodies) string; number = ap (as_number bodies) string; show = λ default. ap (bytes_or bodies default) bytes }

-- ---- Wider bounds

or_true : (b : Bool) → (b || true) ≡ true
or_true true = refl
or_true false = refl

-- what turns a query away
module _ (most : Bounds) (name class : List ℕ) where
  long_name : most.bytes < length name → query_within most name class ≡ past_limit 9
  unfolding query_within
  long_name h = rw (lt-ltb most.bytes (length name) h) refl

  long_class : most.bytes < length class → query_within most name class ≡ past_limit 9
  unfolding query_within
  long_class h = rw (lt-ltb most.bytes (length class) h, or_true (ltb most.bytes (length name))) refl

  -- 10, of a query that 9 does not turn away
  module _ (ns cs : List (List ℕ)) (e : names_of name ≡ some ns) (f : names_of class ≡ some cs) (h : (query_within most name class ≡ past_limit 9 → ⊥)) where
    counted : query_within most name class ≡ counted_query most (some ns) (some cs)
    unfolding query_within
    counted = at (ltb most.bytes (length name) || ltb most.bytes (length class)) h
      where
        at : (b : Bool) → ((if b then past_limit 9 else counted_query most (names_of name) (names_of class)) ≡ past_limit 9 → ⊥)
            → (if b then past_limit 9 else counted_query most (names_of name) (names_of class)) ≡ counted_query most (some ns) (some cs)
        at true h = absurd (h refl)
        at false h = rw (e, f) refl

    many_names : most.parts < length ns → query_within most name class ≡ past_limit 10
    unfolding counted_query
    many_names k = counted ∙ rw (lt-ltb most.parts (length ns) k) refl

    many_classes : most.parts < length cs → query_within most name class ≡ past_limit 10
    unfolding counted_query
    many_classes k = counted ∙ rw (lt-ltb most.parts (length cs) k, or_true (ltb most.parts (length ns))) refl

pub wider_admits : WiderAdmits
unfolding query_within
wider_admits a b s t name class h k = at (ltb b.bytes (length name)) refl (ltb b.bytes (length class)) refl
  where
    few : (ns cs : List (List ℕ)) → names_of name ≡ some ns → names_of class ≡ some cs → (l : Bool) → ltb b.parts (length ns) ≡ l → (m : Bool) → ltb b.parts (length cs) ≡ m
        → (if l || m then past_limit 10 else positions (positions_of ns cs)) ≡ past_limit k → ⊥
    few ns cs e f true g m j z = h 10 (many_names a name class ns cs e f (h 9) (omega (arith, t, ltb-true b.parts (length ns) g)))
    few ns cs e f false g true j z = h 10 (many_classes a name class ns cs e f (h 9) (omega (arith, t, ltb-true b.parts (length cs) j)))
    few ns cs e f false g false j z = let y : ◌≡◌ {A = ℕ} 0 1 = cc in omega arith

    counts : (n c : Option (List (List ℕ))) → names_of name ≡ n → names_of class ≡ c → counted_query b n c ≡ past_limit k → ⊥
    counts none c e f z = unfold counted_query in let y : ◌≡◌ {A = ℕ} 0 1 = cc in omega arith
    counts (some ns) none e f z = unfold counted_query in let y : ◌≡◌ {A = ℕ} 0 1 = cc in omega arith
    counts (some ns) (some cs) e f z = unfold counted_query in few ns cs e f (ltb b.parts (length ns)) refl (ltb b.parts (length cs)) refl z

    at : (l : Bool) → ltb b.bytes (length name) ≡ l → (m : Bool) → ltb b.bytes (length class) ≡ m
        → (if l || m then past_limit 9 else counted_query b (names_of name) (names_of class)) ≡ past_limit k → ⊥
    at true e m f z = h 9 (long_name a name class (omega (arith, s, ltb-true b.bytes (length name) e)))
    at false e true f z = h 9 (long_class a name class (omega (arith, s, ltb-true b.bytes (length class) f)))
    at false e false f z = counts (names_of name) (names_of class) refl refl z
