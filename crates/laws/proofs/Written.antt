-- A text that is written out reads back: its lines are the entries. Assumes nothing.
use Rattle.std.specs.Prelude.{if◌then◌else◌}
use mathlib.Core.Bool.{Bool, true, false}
use mathlib.Core.List.{List, [], ◌∷◌, ◌++◌, flatten, map, append_assoc}
use mathlib.Core.Option.{some, none}
use mathlib.Core.Path.{◌≡◌, refl, ap, ◌∙◌}
use Prim.Native.Nat.{ℕ}
use native.Mathlib.Omega.{arith}
use lib.Dec.{eqb}
use lib.ListN.{drop}
use borrow.Author.Tests.{eqb-true, eqb-false, ne_eqb}
use Rattle.definition.specs.Lists.{ascii, all, any, take_while, drop_while, is_empty}
use Rattle.definition.specs.Parsing.{found, Parsed, parsed, many, after}
use Rattle.definition.specs.Bytes.{newline, space, colon, backslash, letter_n, is_digit, is_name, is_blank, is_space, is_binding}
use Rattle.definition.specs.Text.{
  Binding,
  tight,
  loose,
  Component,
  wildcard,
  name,
  Part,
  Entry,
  binding_of,
  component_at,
  part_at,
  ends_in_name,
  escape_at,
  piece_at,
  after_blanks,
  pieces,
  assigned,
  resource_of,
  Line,
  entry,
  line_at,
  lines_of,
}
use Rattle.definition.specs.Image.{binding_byte, component_bytes, key_of}
use Rattle.definition.specs.Writing.{escaped, begins_blank, value_text, entry_text, text_of}
use Rattle.laws.proofs.Lists.{not_both, and_true}
use Rattle.laws.proofs.Parsing.{many_stop, many_more}
use Rattle.laws.proofs.Keys.{
  is_legal_component,
  is_legal,
  is_legal_line,
  part_shrinks,
  piece_shrinks,
  line_shrinks,
  passes_not,
  component_reads,
  key_takes,
  key_drops,
  name_no_binding,
}

-- ---- The key

-- no byte of a component is a binding, so just one stands before it
component_takes : (c : Component) (t : List ℕ) → is_legal_component c ≡ true → take_while is_binding (component_bytes c ++ t) ≡ []
unfolding take_while is_binding is_legal_component is_empty all
component_takes wildcard t h = refl
component_takes (name []) t h = absurd (not_both h refl)
component_takes (name (c ∷ n)) t h = rw (name_no_binding c (and_true (is_name c) (all is_name n) h).0) refl

component_drops : (c : Component) (t : List ℕ) → is_legal_component c ≡ true → drop_while is_binding (component_bytes c ++ t) ≡ component_bytes c ++ t
unfolding drop_while is_binding is_legal_component is_empty all
component_drops wildcard t h = refl
component_drops (name []) t h = absurd (not_both h refl)
component_drops (name (c ∷ n)) t h = rw (name_no_binding c (and_true (is_name c) (all is_name n) h).0) refl

-- a part, and what follows it
part_reads : (b : Binding) (c : Component) (t : List ℕ) → is_legal_component c ≡ true → take_while is_name t ≡ [] → drop_while is_name t ≡ t
    → part_at (binding_byte b ∷ component_bytes c ++ t) ≡ found (record { binding = b; component = c }) t
unfolding part_at take_while drop_while is_binding binding_of any
part_reads tight c t h k l = rw (component_takes c t h, component_drops c t h) (component_reads tight c t h k l)
part_reads loose c t h k l = rw (component_drops c t h) (component_reads loose c t h k l)

parts_read : (ps : List Part) (w : List ℕ) → all is_legal ps ≡ true → many part_at (key_of ps ++ colon ∷ w) ≡ parsed ps (colon ∷ w)
unfolding all key_of is_legal
parts_read [] w h = many_stop part_at part_shrinks (colon ∷ w) (unfold part_at is_binding take_while drop_while component_at is_name is_digit in refl)
parts_read (p ∷ ps) w h =
    let a = and_true (is_legal p) (all is_legal ps) h in
    let t = key_of ps ++ colon ∷ w in
    let e : key_of (p ∷ ps) ++ colon ∷ w ≡ binding_byte p.binding ∷ component_bytes p.component ++ t =
    ap (λ (u : List ℕ). binding_byte p.binding ∷ u) (append_assoc (component_bytes p.component) (key_of ps) (colon ∷ w)) in
    let f : take_while is_name (colon ∷ w) ≡ [] = unfold take_while is_name is_digit in refl in
    let g : drop_while is_name (colon ∷ w) ≡ colon ∷ w = unfold drop_while is_name is_digit in refl in
    let r = part_reads p.binding p.component t a.0 (key_takes (colon ∷ w) ps f) (key_drops (colon ∷ w) ps g) in
    let q : many part_at t ≡ parsed ps (colon ∷ w) = parts_read ps w a.1 in
    ap (many part_at) e ∙ many_more part_at part_shrinks _ p t r ∙ (λ i. parsed (p ∷ (q i).items) (q i).rest)

-- ---- The value

-- an escaped byte, and what follows it
piece_reads : (c : ℕ) (t : List ℕ) → piece_at (escaped c ++ t) ≡ found (c ∷ []) t
unfolding piece_at escaped escape_at is_blank
piece_reads c t = at (eqb c backslash) (eqb c newline) refl refl
  where
    at : (a b : Bool) → eqb c backslash ≡ a → eqb c newline ≡ b
        → piece_at ((if a then ascii "\\\\" else if b then ascii "\\n" else c ∷ []) ++ t) ≡ found (c ∷ []) t
    at true b p q = rw (eqb-true c backslash p) refl
    at false true p q = rw (eqb-true c newline q) refl
    at false false p q = rw (q, p) refl

-- a blank with a backslash before it
blank_reads : (c : ℕ) (t : List ℕ) → is_blank c ≡ true → piece_at (backslash ∷ c ∷ t) ≡ found (c ∷ []) t
unfolding piece_at escape_at
blank_reads c t h = rw h refl

-- each byte of a value is a piece
abbrev single : ℕ → List ℕ
single c = c ∷ []

escapes_read : (v u : List ℕ) → many piece_at (flatten (map escaped v) ++ newline ∷ u) ≡ parsed (map single v) (newline ∷ u)
unfolding flatten
escapes_read [] u = many_stop piece_at piece_shrinks (newline ∷ u) (unfold piece_at in refl)
escapes_read (c ∷ v) u =
    let t = flatten (map escaped v) ++ newline ∷ u in
    let q : many piece_at t ≡ parsed (map single v) (newline ∷ u) = escapes_read v u in
    ap (many piece_at) (append_assoc (escaped c) (flatten (map escaped v)) (newline ∷ u))
    ∙ many_more piece_at piece_shrinks _ (single c) t (piece_reads c t)
    ∙ (λ i. parsed (single c ∷ (q i).items) (q i).rest)

-- a blank is plain
pub blank_plain : (c : ℕ) → is_blank c ≡ true → escaped c ≡ c ∷ []
unfolding escaped is_blank
blank_plain c h = rw (passes_not is_blank c backslash h refl, passes_not is_blank c newline h refl) refl

value_pieces : (v u : List ℕ) → many piece_at (value_text v ++ newline ∷ u) ≡ parsed (map single v) (newline ∷ u)
unfolding value_text begins_blank flatten
value_pieces [] u = escapes_read [] u
value_pieces (c ∷ v) u = at (is_blank c) refl
  where
    at : (b : Bool) → is_blank c ≡ b
        → many piece_at ((if b then backslash ∷ [] else []) ++ flatten (map escaped (c ∷ v)) ++ newline ∷ u) ≡ parsed (map single (c ∷ v)) (newline ∷ u)
    at true h =
        let t = flatten (map escaped v) ++ newline ∷ u in
        let q : many piece_at t ≡ parsed (map single v) (newline ∷ u) = escapes_read v u in
        rw (blank_plain c h)
        (many_more piece_at piece_shrinks _ (single c) t (blank_reads c t h)
        ∙ (λ i. parsed (single c ∷ (q i).items) (q i).rest))
    at false h = escapes_read (c ∷ v) u

flatten_single : (v : List ℕ) → flatten (map single v) ≡ v
unfolding flatten
flatten_single [] = refl
flatten_single (c ∷ v) = ap (λ (l : List ℕ). c ∷ l) (flatten_single v)

-- ---- The blanks after `:`

pub blank_first : (c : ℕ) (t : List ℕ) → is_blank c ≡ true → after_blanks (c ∷ t) ≡ after_blanks t
unfolding after_blanks
blank_first c [] e = rw e refl
blank_first c (d ∷ t) e = rw e refl

-- no blank and no backslash before a newline: nothing is dropped
pub other_first : (c : ℕ) (t : List ℕ) → is_blank c ≡ false → (c ≡ backslash → ⊥) → after_blanks (c ∷ t) ≡ c ∷ t
unfolding after_blanks
other_first c [] e h = rw e refl
other_first c (d ∷ t) e h = rw (e, ne_eqb c backslash h) refl

escape_first : (d : ℕ) (t : List ℕ) → eqb d newline ≡ false → after_blanks (backslash ∷ d ∷ t) ≡ backslash ∷ d ∷ t
unfolding after_blanks is_blank
escape_first d t e = rw e refl

escaped_first : (c : ℕ) (t : List ℕ) → is_blank c ≡ false → after_blanks (escaped c ++ t) ≡ escaped c ++ t
unfolding escaped
escaped_first c t h = at (eqb c backslash) (eqb c newline) refl
  where
    at : (a b : Bool) → eqb c backslash ≡ a
        → let e = if a then ascii "\\\\" else if b then ascii "\\n" else c ∷ [] in after_blanks (e ++ t) ≡ e ++ t
    at true b p = escape_first backslash t refl
    at false true p = escape_first letter_n t refl
    at false false p = other_first c t h (eqb-false c backslash p)

-- of a value's text nothing is dropped
value_first : (v u : List ℕ) → after_blanks (value_text v ++ newline ∷ u) ≡ value_text v ++ newline ∷ u
unfolding value_text begins_blank flatten
value_first [] u = other_first newline u (unfold is_blank in refl) (λ e. omega arith)
value_first (c ∷ v) u = at (is_blank c) refl
  where
    at : (b : Bool) → is_blank c ≡ b
        → let x = (if b then backslash ∷ [] else []) ++ (escaped c ++ flatten (map escaped v)) ++ newline ∷ u in after_blanks x ≡ x
    at true h = rw (blank_plain c h) (escape_first c (flatten (map escaped v) ++ newline ∷ u) (passes_not is_blank c newline h (unfold is_blank in refl)))
    at false h = rw (append_assoc (escaped c)) (escaped_first c (flatten (map escaped v) ++ newline ∷ u) h)

-- ---- The lines

-- after `:`, the value and what follows its line
value_reads : (v u : List ℕ) → pieces (space ∷ value_text v ++ newline ∷ u) ≡ parsed (map single v) (newline ∷ u)
value_reads v u =
    ap (many piece_at) (blank_first space (value_text v ++ newline ∷ u) (unfold is_blank in refl) ∙ value_first v u) ∙ value_pieces v u

assigned_reads : (ps : List Part) (w : List ℕ) → all is_legal ps ≡ true → ends_in_name ps ≡ true → assigned (key_of ps ++ colon ∷ w) ≡ some w
unfolding assigned after drop_while is_space
assigned_reads ps w h n =
    ap (λ (r : Parsed Part). if ends_in_name r.items then after (ascii ":") (drop_while is_space r.rest) else none) (parts_read ps w h)
    ∙ rw n refl

-- an entry's line is no blank line, no comment and no directive
line_kind : (ps : List Part) (t : List ℕ) → ends_in_name ps ≡ true → line_at (key_of ps ++ t) ≡ resource_of (key_of ps ++ t) (assigned (key_of ps ++ t))
unfolding ends_in_name key_of line_at
line_kind [] t n = absurd (not_both n refl)
line_kind (p ∷ ps) t n = at p.binding
  where
    at : (b : Binding) → let k = binding_byte b ∷ component_bytes p.component ++ key_of ps ++ t in line_at k ≡ resource_of k (assigned k)
    at tight = refl
    at loose = refl

entry_line : (e : Entry) (u : List ℕ) → entry_text e ++ u ≡ key_of e.parts ++ (colon ∷ space ∷ value_text e.value ++ newline ∷ u)
unfolding entry_text
entry_line e u = simp append_assoc

line_reads : (e : Entry) (u : List ℕ) → is_legal_line (entry e) ≡ true → line_at (entry_text e ++ u) ≡ found (entry e) u
unfolding is_legal_line resource_of
line_reads e u h =
    let a = and_true (all is_legal e.parts) (ends_in_name e.parts) h in
    let w = space ∷ value_text e.value ++ newline ∷ u in
    let t = key_of e.parts ++ colon ∷ w in
    let p : many part_at t ≡ parsed e.parts (colon ∷ w) = parts_read e.parts w a.0 in
    let v : pieces w ≡ parsed (map single e.value) (newline ∷ u) = value_reads e.value u in
    let f : flatten (map single e.value) ≡ e.value = flatten_single e.value in
    ap line_at (entry_line e u)
    ∙ line_kind e.parts (colon ∷ w) a.1
    ∙ ap (resource_of t) (assigned_reads e.parts w a.0 a.1)
    ∙ (λ i. found (entry (record { parts = (p i).items; value = flatten (v i).items })) (drop 1 (v i).rest))
    ∙ (λ i. found (entry (record { parts = e.parts; value = f i })) u)

lines_read : (es : List Entry) → all (λ e. is_legal_line (entry e)) es ≡ true → many line_at (text_of es) ≡ parsed (map entry es) []
unfolding all text_of flatten
lines_read [] h = many_stop line_at line_shrinks [] (unfold line_at in refl)
lines_read (e ∷ es) h =
    let a = and_true (is_legal_line (entry e)) (all (λ e. is_legal_line (entry e)) es) h in
    let q : many line_at (text_of es) ≡ parsed (map entry es) [] = lines_read es a.1 in
    many_more line_at line_shrinks _ (entry e) (text_of es) (line_reads e (text_of es) a.0)
    ∙ (λ i. parsed (entry e ∷ (q i).items) (q i).rest)

-- the lines of the text of legal entries are the entries
pub text_lines : (es : List Entry) → all (λ e. is_legal_line (entry e)) es ≡ true → lines_of (text_of es) ≡ map entry es
unfolding lines_of
text_lines es h = ap (λ (r : Parsed Line). r.items) (lines_read es h)
