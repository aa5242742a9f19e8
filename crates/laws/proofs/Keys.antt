-- Laws of the parsers: each takes a byte or more, what it finds is legal, a key reads back, and it is what its parts write. Assumes nothing.
use Rattle.std.specs.Prelude.{if◌then◌else◌}
use mathlib.Core.Bool.{Bool, true, false, ◌&&◌, ◌||◌, not}
use mathlib.Core.List.{List, [], ◌∷◌, ◌++◌, append-nil}
use mathlib.Core.Option.{Option, some, none}
use mathlib.Core.Logic.{◌⊎◌, inl, inr, ⊎_elim}
use mathlib.Core.Path.{◌≡◌, refl, sym, ap, subst, ◌∙◌}
use Prim.Native.Nat.{ℕ, zero, suc, ◌+◌, ◌≤◌, ◌<◌}
use native.Mathlib.Nat.{le_refl}
use native.Mathlib.Omega.{arith}
use lib.Dec.{eqb, leb}
use lib.ListN.{length, take, drop, length-drop}
use borrow.Author.Tests.{le-leb, leb-true, ne_eqb, eqb-true}
use Rattle.definition.specs.Lists.{ascii, all, any, take_while, drop_while, is_empty, or_else}
use Rattle.definition.specs.Parsing.{Parse, nothing, found, Parsed, parsed, continued, at_most, many, after}
use Rattle.definition.specs.Limits.{most_parts}
use Rattle.definition.specs.Bytes.{
  newline,
  exclamation,
  hash,
  question,
  backslash,
  letter_n,
  dot,
  star,
  is_digit,
  is_octal,
  is_name,
  is_blank,
  is_space,
  is_binding,
  not_newline,
  within,
}
use Rattle.definition.specs.Text.{
  Binding,
  tight,
  loose,
  Component,
  wildcard,
  name,
  Part,
  binding_of,
  component_at,
  part_at,
  ends_in_name,
  line_ends,
  octal_of,
  escape_at,
  piece_at,
  after_blanks,
  pieces,
  line_end,
  assigned,
  resource_of,
  Line,
  skipped,
  include,
  entry,
  include_of,
  directive_of,
  lines_of,
  line_at,
}
use Rattle.definition.specs.Image.{binding_byte, component_bytes, key_of, stored_part_at, key_parts, is_key}
use Rattle.definition.specs.Query.{query_part_at}
use Rattle.definition.specs.Value.{Range, table, after_row, first_row, character, character_at}
use Rattle.laws.proofs.Lists.{not_both, and_true, and_both, all_take_while, take_while_drop_while, drop_while_le, take_while_append, drop_while_append}
use Rattle.laws.proofs.Parsing.{Shrinks, many_stop, many_more}

-- ---- Legal parts

unfoldable pub is_legal_component : Component → Bool
is_legal_component wildcard = true
is_legal_component (name n) = not (is_empty n) && all is_name n

-- a wildcard, or a name of one byte or more
unfoldable pub is_legal : Part → Bool
is_legal p = is_legal_component p.component

-- ---- What a test leads to, and what is found

pub if_either : {A : Type 0} (P : A → Type 0) (b : Bool) {x y : A} → (b ≡ true → P x) → (b ≡ false → P y) → P (if b then x else y)
if_either P true p q = p refl
if_either P false p q = q refl

-- what is there, if anything, is so
abbrev pub Gives : {A : Type 0} → (A → Type 0) → Option A → Type 0
Gives P none = Unit {0}
Gives P (some a) = P a

abbrev pub Finds : {A : Type 0} → (A → List ℕ → Type 0) → Parse A → Type 0
Finds P nothing = Unit {0}
Finds P (found a u) = P a u

-- fewer than n bytes are left
abbrev pub Leaves : {A : Type 0} → ℕ → Parse A → Type 0
Leaves n r = Finds (λ a u. length u < n) r

pub leaves_more : {A : Type 0} (n m : ℕ) (r : Parse A) → n ≤ m → Leaves n r → Leaves m r
leaves_more n m nothing h k = tt
leaves_more n m (found a u) h k = omega arith

pub shrinks_from : {A : Type 0} (p : List ℕ → Parse A) → ((t : List ℕ) → Leaves (length t) (p t)) → Shrinks p
shrinks_from p h t a u e = subst (Leaves (length t)) e (h t)

module _ {A : Type 0} (p : List ℕ → Parse A) (shrinks : Shrinks p) where
  at_most_rest : (n : ℕ) (t : List ℕ) → length (at_most n p t).rest ≤ length t
  unfolding at_most continued
  at_most_rest zero t = le_refl (length t)
  at_most_rest (suc n) t = at (p t) refl (λ u. at_most_rest n u)
    where
      at : (r : Parse A) → p t ≡ r → ((u : List ℕ) → length (at_most n p u).rest ≤ length u)
          → length (continued r (at_most n p) t).rest ≤ length t
      at nothing e ih = le_refl (length t)
      at (found a u) e ih = omega (arith, ih u, shrinks t a u e)

  pub many_rest : (t : List ℕ) → length (many p t).rest ≤ length t
  unfolding many
  many_rest t = at_most_rest (length t) t

-- ---- Each takes a byte or more

component_leaves : (b : Binding) (t : List ℕ) → Leaves (length t) (component_at b t)
unfolding component_at
component_leaves b [] = tt
component_leaves b (c ∷ t) =
    let P = Leaves {A = Part} (suc (length t)) in
    if_either P (eqb c question) (λ e. omega arith)
    λ e. if_either P (is_name c) (λ k. omega (arith, drop_while_le is_name t)) λ k. tt

pub part_shrinks : Shrinks part_at
unfolding part_at
part_shrinks = shrinks_from part_at leaves
  where
    leaves : (t : List ℕ) → Leaves (length t) (part_at t)
    leaves t =
        let b = binding_of (take_while is_binding t) in
        let u = drop_while is_binding t in
        leaves_more (length u) (length t) (component_at b u) (drop_while_le is_binding t) (component_leaves b u)

pub stored_part_shrinks : Shrinks stored_part_at
unfolding stored_part_at
stored_part_shrinks = shrinks_from stored_part_at leaves
  where
    leaves : (t : List ℕ) → Leaves (length t) (stored_part_at t)
    leaves [] = tt
    leaves (c ∷ t) =
        if_either (Leaves (suc (length t))) (is_binding c)
        (λ e. leaves_more (length t) _ (component_at (binding_of (c ∷ [])) t) (omega arith) (component_leaves (binding_of (c ∷ [])) t)) λ e. tt

octal_leaves : (ds u : List ℕ) → Leaves (suc (length u)) (octal_of ds u)
unfolding octal_of
octal_leaves ds u =
    let P = Leaves {A = List ℕ} (suc (length u)) in
    if_either P (eqb (length ds) 3) (λ e. omega arith) λ e. if_either P (line_ends u) (λ k. omega arith) λ k. omega arith

escape_leaves : (t : List ℕ) → Leaves (suc (length t)) (escape_at t)
unfolding escape_at
escape_leaves [] = omega arith
escape_leaves (c ∷ t) =
    let P = Leaves {A = List ℕ} (suc (suc (length t))) in
    let ds = take_while is_octal (take 3 (c ∷ t)) in
    let u = drop (length ds) (c ∷ t) in
    if_either P (is_blank c || eqb c backslash) (λ e. omega arith)
    λ e. if_either P (eqb c letter_n) (λ e. omega arith)
    λ e. if_either P (eqb c newline) (λ e. omega arith)
    λ e. if_either P (is_octal c)
    (λ e. leaves_more (suc (length u)) _ (octal_of ds u) (omega (arith, length-drop (length ds) (c ∷ t))) (octal_leaves ds u))
    λ e. omega arith

pub piece_shrinks : Shrinks piece_at
unfolding piece_at
piece_shrinks = shrinks_from piece_at leaves
  where
    leaves : (t : List ℕ) → Leaves (length t) (piece_at t)
    leaves [] = tt
    leaves (c ∷ t) =
        let P = Leaves {A = List ℕ} (suc (length t)) in
        if_either P (eqb c newline) (λ e. tt)
        λ e. if_either P (eqb c backslash) (λ e. escape_leaves t) λ e. omega arith

pub query_part_shrinks : Shrinks query_part_at
unfolding query_part_at
query_part_shrinks = shrinks_from query_part_at leaves
  where
    leaves : (t : List ℕ) → Leaves (length t) (query_part_at t)
    leaves [] = tt
    leaves (c ∷ t) =
        if_either (Leaves (suc (length t))) (is_name c)
        (λ e. omega (arith, drop_while_le (eqb dot) (drop_while is_name t), drop_while_le is_name t)) λ e. tt

-- what follows a byte that was taken off too
one_more : (n m : ℕ) (o : Option (List ℕ)) → Gives (λ u. n + length u ≡ m) o → Gives (λ u. suc n + length u ≡ suc m) o
one_more n m none h = tt
one_more n m (some u) h = omega arith

pub after_length : (bs t : List ℕ) → Gives (λ u. length bs + length u ≡ length t) (after bs t)
unfolding after
after_length [] t = omega arith
after_length (b ∷ bs) [] = tt
after_length (b ∷ bs) (c ∷ t) =
    if_either (Gives (λ u. suc (length bs) + length u ≡ suc (length t))) (eqb b c) (λ e. one_more _ _ (after bs t) (after_length bs t)) λ e. tt

pub after_row_length : (row : List Range) (t : List ℕ) → Gives (λ u. length row + length u ≡ length t) (after_row row t)
unfolding after_row
after_row_length [] t = omega arith
after_row_length (r ∷ rs) [] = tt
after_row_length (r ∷ rs) (c ∷ t) =
    if_either (Gives (λ u. suc (length rs) + length u ≡ suc (length t))) (within r.low r.high c)
    (λ e. one_more _ _ (after_row rs t) (after_row_length rs t)) λ e. tt

abbrev is_row : List Range → Bool
is_row row = not (is_empty row)

first_row_length : (rows : List (List Range)) (t : List ℕ) → all is_row rows ≡ true → Gives (λ u. length u < length t) (first_row rows t)
unfolding first_row all is_empty or_else
first_row_length [] t h = tt
first_row_length ([] ∷ rows) t h = absurd (not_both h refl)
first_row_length ((r ∷ row) ∷ rows) t h = at (after_row (r ∷ row) t) (after_row_length (r ∷ row) t) (first_row_length rows t h)
  where
    at : (o : Option (List ℕ)) → Gives (λ u. suc (length row) + length u ≡ length t) o → Gives (λ u. length u < length t) (first_row rows t)
        → Gives (λ u. length u < length t) (or_else o (first_row rows t))
    at none k ih = ih
    at (some u) k ih = omega arith

pub character_shrinks : Shrinks character_at
unfolding character_at character table all is_empty
character_shrinks = shrinks_from character_at (λ t. at t (first_row table t) (first_row_length table t refl))
  where
    at : (t : List ℕ) (o : Option (List ℕ)) → Gives (λ u. length u < length t) o → Leaves (length t) (character o)
    at t none h = tt
    at t (some u) h = h

after_blanks_length : (t : List ℕ) → length (after_blanks t) ≤ length t
unfolding after_blanks
after_blanks_length [] = omega arith
after_blanks_length (c ∷ []) = at (is_blank c)
  where
    at : (b : Bool) → length (if b then [] else c ∷ []) ≤ 1
    at true = omega arith
    at false = omega arith
after_blanks_length (c ∷ d ∷ t) = at (is_blank c) (eqb c backslash && eqb d newline) (after_blanks_length (d ∷ t)) (after_blanks_length t)
  where
    at : (a b : Bool) → length (after_blanks (d ∷ t)) ≤ suc (length t) → length (after_blanks t) ≤ length t
        → length (if a then after_blanks (d ∷ t) else if b then after_blanks t else c ∷ d ∷ t) ≤ suc (suc (length t))
    at true b h k = omega arith
    at false true h k = omega arith
    at false false h k = omega arith

assigned_length : (t : List ℕ) → Gives (λ u. length u < length t) (assigned t)
unfolding assigned
assigned_length t =
    let r = (many part_at t).rest in
    let u = drop_while is_space r in
    let h : length u ≤ length t = omega (arith, drop_while_le is_space r, many_rest part_at part_shrinks t) in
    if_either (Gives (λ v. length v < length t)) (ends_in_name (many part_at t).items)
    (λ e. at u h (after (ascii ":") u) (after_length (ascii ":") u)) λ e. tt
  where
    at : (u : List ℕ) → length u ≤ length t → (o : Option (List ℕ)) → Gives (λ v. 1 + length v ≡ length u) o
        → Gives (λ v. length v < length t) o
    at u h none k = tt
    at u h (some v) k = omega arith

resource_leaves : (c : ℕ) (t : List ℕ) → eqb c newline ≡ false → (o : Option (List ℕ)) → Gives (λ u. length u < suc (length t)) o
    → Leaves (suc (length t)) (resource_of (c ∷ t) o)
unfolding resource_of line_end drop_while not_newline
resource_leaves c t e none h = rw e (omega (arith, drop_while_le not_newline t))
resource_leaves c t e (some u) h =
    omega (arith, length-drop 1 (pieces u).rest, many_rest piece_at piece_shrinks (after_blanks u), after_blanks_length u)

pub line_shrinks : Shrinks line_at
unfolding line_at line_end
line_shrinks = shrinks_from line_at leaves
  where
    leaves : (t : List ℕ) → Leaves (length t) (line_at t)
    leaves [] = tt
    leaves (c ∷ t) =
        let P = Leaves {A = Line} (suc (length t)) in
        let h = drop_while_le not_newline t in
        if_either P (eqb c newline) (λ e. omega arith)
        λ e. if_either P (eqb c exclamation) (λ e. omega arith)
        λ k. if_either P (eqb c hash) (λ e. omega arith)
        λ k. resource_leaves c t e (assigned (c ∷ t)) (assigned_length (c ∷ t))

-- ---- What a line and a key give is legal

module _ {A : Type 0} (p : List ℕ → Parse A) (test : A → Bool) (passes : (t : List ℕ) → Finds (λ a u. test a ≡ true) (p t)) where
  at_most_all : (n : ℕ) (t : List ℕ) → all test (at_most n p t).items ≡ true
  unfolding at_most continued all
  at_most_all zero t = refl
  at_most_all (suc n) t = at (p t) (passes t) (λ u. at_most_all n u)
    where
      at : (r : Parse A) → Finds (λ a u. test a ≡ true) r → ((u : List ℕ) → all test (at_most n p u).items ≡ true)
          → all test (continued r (at_most n p) t).items ≡ true
      at nothing h ih = refl
      at (found a u) h ih = and_both h (ih u)

  -- if whatever p finds passes a test, all do
  pub many_all : (t : List ℕ) → all test (many p t).items ≡ true
  unfolding many
  many_all t = at_most_all (length t) t

component_legal : (b : Binding) (t : List ℕ) → Finds (λ a u. is_legal a ≡ true) (component_at b t)
unfolding component_at is_legal is_legal_component is_empty all
component_legal b [] = tt
component_legal b (c ∷ t) =
    let P = Finds {A = Part} (λ a u. is_legal a ≡ true) in
    if_either P (eqb c question) (λ e. refl)
    λ e. if_either P (is_name c) (λ k. and_both k (all_take_while is_name t)) λ k. tt

pub parts_legal : (t : List ℕ) → all is_legal (many part_at t).items ≡ true
unfolding part_at
parts_legal = many_all part_at is_legal (λ t. component_legal (binding_of (take_while is_binding t)) (drop_while is_binding t))

pub stored_parts_legal : (t : List ℕ) → all is_legal (many stored_part_at t).items ≡ true
unfolding stored_part_at
stored_parts_legal = many_all stored_part_at is_legal legal
  where
    legal : (t : List ℕ) → Finds (λ a u. is_legal a ≡ true) (stored_part_at t)
    legal [] = tt
    legal (c ∷ t) =
        if_either (Finds {A = Part} (λ a u. is_legal a ≡ true)) (is_binding c) (λ e. component_legal (binding_of (c ∷ [])) t) λ e. tt

unfoldable pub is_legal_line : Line → Bool
is_legal_line skipped = true
is_legal_line (include n) = true
is_legal_line (entry e) = all is_legal e.parts && ends_in_name e.parts

assigned_named : (t : List ℕ) → Gives (λ u. ends_in_name (many part_at t).items ≡ true) (assigned t)
unfolding assigned
assigned_named t =
    if_either (Gives (λ (u : List ℕ). ends_in_name (many part_at t).items ≡ true)) (ends_in_name (many part_at t).items)
    (λ e. at (after (ascii ":") (drop_while is_space (many part_at t).rest)) e) λ e. tt
  where
    at : (o : Option (List ℕ)) → ends_in_name (many part_at t).items ≡ true → Gives (λ u. ends_in_name (many part_at t).items ≡ true) o
    at none e = tt
    at (some u) e = e

resource_legal : (t : List ℕ) (o : Option (List ℕ)) → Gives (λ u. ends_in_name (many part_at t).items ≡ true) o
    → Finds (λ l u. is_legal_line l ≡ true) (resource_of t o)
unfolding resource_of is_legal_line
resource_legal t none h = refl
resource_legal t (some u) h = and_both (parts_legal t) h

directive_legal : (o : Option (List ℕ)) → is_legal_line (directive_of o) ≡ true
unfolding directive_of is_legal_line
directive_legal none = refl
directive_legal (some n) = refl

pub lines_legal : (t : List ℕ) → all is_legal_line (lines_of t) ≡ true
unfolding lines_of line_at is_legal_line
lines_legal = many_all line_at is_legal_line legal
  where
    legal : (t : List ℕ) → Finds (λ l u. is_legal_line l ≡ true) (line_at t)
    legal [] = tt
    legal (c ∷ t) =
        let P = Finds {A = Line} (λ l u. is_legal_line l ≡ true) in
        if_either P (eqb c newline) (λ e. refl)
        λ e. if_either P (eqb c exclamation) (λ e. refl)
        λ e. if_either P (eqb c hash) (λ e. directive_legal (include_of t))
        λ e. resource_legal (c ∷ t) (assigned (c ∷ t)) (assigned_named (c ∷ t))

-- ---- A key reads back

-- a byte that passes a test is none that does not
pub passes_not : (test : ℕ → Bool) (c d : ℕ) → test c ≡ true → test d ≡ false → eqb c d ≡ false
passes_not test c d p q = ne_eqb c d (λ e. not_both p (ap test e ∙ q))

pub component_reads : (b : Binding) (c : Component) (t : List ℕ) → is_legal_component c ≡ true → take_while is_name t ≡ [] → drop_while is_name t ≡ t
    → component_at b (component_bytes c ++ t) ≡ found (record { binding = b; component = c }) t
unfolding component_at is_legal_component is_empty all
component_reads b wildcard t h p q = refl
component_reads b (name []) t h p q = absurd (not_both h refl)
component_reads b (name (d ∷ ds)) t h p q =
    let k = and_true (is_name d) (all is_name ds) h in
    let wild : eqb d question ≡ false = passes_not is_name d question k.0 (unfold is_name is_digit in refl) in
    rw (wild, k.0, take_while_append is_name ds t k.1 p, drop_while_append is_name ds t k.1, q) refl

-- a name ends where a key goes on, and where it ends if none goes on there
module _ (u : List ℕ) where
  pub key_takes : (ps : List Part) → take_while is_name u ≡ [] → take_while is_name (key_of ps ++ u) ≡ []
  unfolding key_of take_while is_name is_digit
  key_takes [] h = h
  key_takes (p ∷ ps) h = at p.binding
    where
      at : (b : Binding) → take_while is_name (binding_byte b ∷ component_bytes p.component ++ key_of ps ++ u) ≡ []
      at tight = refl
      at loose = refl

  pub key_drops : (ps : List Part) → drop_while is_name u ≡ u → drop_while is_name (key_of ps ++ u) ≡ key_of ps ++ u
  unfolding key_of drop_while is_name is_digit
  key_drops [] h = h
  key_drops (p ∷ ps) h = at p.binding
    where
      at : (b : Binding) → let t = binding_byte b ∷ component_bytes p.component ++ key_of ps ++ u in drop_while is_name t ≡ t
      at tight = refl
      at loose = refl

stored_part_reads : (p : Part) (ps : List Part) → is_legal p ≡ true → stored_part_at (key_of (p ∷ ps)) ≡ found p (key_of ps)
unfolding stored_part_at key_of is_legal binding_of is_binding any take_while drop_while
stored_part_reads p ps h = at p.binding
  where
    reads : (b : Binding) → component_at b (component_bytes p.component ++ key_of ps) ≡ found (record { binding = b; component = p.component }) (key_of ps)
    reads b = component_reads b p.component (key_of ps) h (rw append-nil at (key_takes [] ps refl)) (rw append-nil at (key_drops [] ps refl))

    at : (b : Binding) → stored_part_at (binding_byte b ∷ component_bytes p.component ++ key_of ps)
        ≡ found (record { binding = b; component = p.component }) (key_of ps)
    at tight = reads tight
    at loose = reads loose

pub key_parts_lem : (ps : List Part) → all is_legal ps ≡ true → many stored_part_at (key_of ps) ≡ parsed ps []
unfolding all
key_parts_lem [] h = unfold key_of in many_stop stored_part_at stored_part_shrinks [] (unfold stored_part_at in refl)
key_parts_lem (p ∷ ps) h =
    let k = and_true (is_legal p) (all is_legal ps) h in
    let q : many stored_part_at (key_of ps) ≡ parsed ps [] = key_parts_lem ps k.1 in
    many_more stored_part_at stored_part_shrinks (key_of (p ∷ ps)) p (key_of ps) (stored_part_reads p ps k.0)
    ∙ (λ i. parsed (p ∷ (q i).items) (q i).rest)

pub is_key_lem : (ps : List Part) → all is_legal ps ≡ true → length ps ≤ most_parts → ends_in_name ps ≡ true → is_key (key_of ps) ≡ true
unfolding is_key is_empty
is_key_lem ps h k e =
    ap (λ (r : Parsed Part). is_empty r.rest && leb (length r.items) most_parts && ends_in_name r.items) (key_parts_lem ps h)
    ∙ and_both (le-leb (length ps) most_parts k) e

-- ---- A binding is no byte of a name

pub binding_either : (c : ℕ) → is_binding c ≡ true → (c ≡ dot) ⊎ (c ≡ star)
unfolding is_binding
binding_either c e = at (eqb c dot) (eqb c star) refl refl e
  where
    at : (a b : Bool) → eqb c dot ≡ a → eqb c star ≡ b → (a || b) ≡ true → (c ≡ dot) ⊎ (c ≡ star)
    at true b d s h = inl (eqb-true c dot d)
    at false true d s h = inr (eqb-true c star s)
    at false false d s h = absurd (not_both h refl)

pub binding_no_name : (c : ℕ) → is_binding c ≡ true → is_name c ≡ false
unfolding is_name is_digit
binding_no_name c e = ⊎_elim (λ d. rw d refl) (λ d. rw d refl) (binding_either c e)

pub name_no_binding : (c : ℕ) → is_name c ≡ true → is_binding c ≡ false
name_no_binding c e = at (is_binding c) refl
  where
    at : (b : Bool) → is_binding c ≡ b → is_binding c ≡ false
    at true h = absurd (not_both e (binding_no_name c h))
    at false h = h

-- ---- A key is what its parts write

binding_byte_lem : (c : ℕ) → is_binding c ≡ true → binding_byte (binding_of (c ∷ [])) ≡ c
unfolding binding_of any
binding_byte_lem c h = ⊎_elim (λ e. rw e refl) (λ e. rw e refl) (binding_either c h)

abbrev Writes : List ℕ → Part → List ℕ → Type 0
Writes t p u = binding_byte p.binding ∷ component_bytes p.component ++ u ≡ t

component_writes : (c : ℕ) (b : Binding) (t : List ℕ) → binding_byte b ≡ c → Finds (Writes (c ∷ t)) (component_at b t)
unfolding component_at
component_writes c b [] e = tt
component_writes c b (d ∷ t) e =
    let P = Finds (Writes (c ∷ d ∷ t)) in
    if_either P (eqb d question) (λ h. rw (e, eqb-true d question h) refl)
    λ h. if_either P (is_name d) (λ k. rw (e, take_while_drop_while is_name t) refl) λ k. tt

part_writes : (t : List ℕ) → Finds (Writes t) (stored_part_at t)
unfolding stored_part_at
part_writes [] = tt
part_writes (c ∷ t) =
    if_either (Finds (Writes (c ∷ t))) (is_binding c) (λ h. component_writes c (binding_of (c ∷ [])) t (binding_byte_lem c h)) λ h. tt

at_most_writes : (n : ℕ) (t : List ℕ) → (at_most n stored_part_at t).rest ≡ [] → key_of (at_most n stored_part_at t).items ≡ t
unfolding at_most continued key_of
at_most_writes zero t e = sym e
at_most_writes (suc n) t e = at (stored_part_at t) (part_writes t) e (λ u. at_most_writes n u)
  where
    at : (r : Parse Part) → Finds (Writes t) r → (continued r (at_most n stored_part_at) t).rest ≡ []
        → ((u : List ℕ) → (at_most n stored_part_at u).rest ≡ [] → key_of (at_most n stored_part_at u).items ≡ u)
        → key_of (continued r (at_most n stored_part_at) t).items ≡ t
    at nothing w e ih = sym e
    at (found p u) w e ih = rw (ih u e) w

empty : (t : List ℕ) → is_empty t ≡ true → t ≡ []
unfolding is_empty
empty [] e = refl
empty (c ∷ t) e = absurd (not_both e refl)

-- what a key is
pub record Parts (key : List ℕ) (ps : List Part) : Type 0 where
  pub written : key_of ps ≡ key
  pub legal : all is_legal ps ≡ true
  pub few : length ps ≤ most_parts
  pub named : ends_in_name ps ≡ true

pub parts_of : (key : List ℕ) → is_key key ≡ true → Parts key (key_parts key)
unfolding is_key many
parts_of key h =
    let a = and_true (is_empty (many stored_part_at key).rest && leb (length (key_parts key)) most_parts) (ends_in_name (key_parts key)) h in
    let b = and_true (is_empty (many stored_part_at key).rest) (leb (length (key_parts key)) most_parts) a.0 in
    record {
      written = at_most_writes (length key) key (empty (many stored_part_at key).rest b.0);
      legal = stored_parts_legal key;
      few = leb-true (length (key_parts key)) most_parts b.1;
      named = a.1;
    }

pub component_some : (c : Component) → is_legal_component c ≡ true → 0 < length (component_bytes c)
unfolding is_legal_component is_empty
component_some wildcard h = omega arith
component_some (name []) h = absurd (not_both h refl)
component_some (name (c ∷ n)) h = omega arith
