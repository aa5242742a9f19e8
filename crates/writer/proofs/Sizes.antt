-- How long a text is: by the bytes that its entries need, all at once. Assumes nothing.
use mathlib.Core.Bool.{true, not}
use mathlib.Core.List.{List, [], ◌∷◌, ◌++◌, flatten}
use mathlib.Core.Path.{◌≡◌, refl, ap}
use Prim.Native.Nat.{ℕ, ◌+◌, ◌*◌}
use native.Mathlib.Omega.{arith}
use lib.ListN.{length, take, length-append}
use Rattle.definition.specs.Lists.{is_empty, ascii, all}
use Rattle.definition.specs.Bytes.{newline, backslash, is_digit, is_name}
use Rattle.definition.specs.Text.{Binding, tight, loose, Component, wildcard, name, Part, Entry}
use Rattle.definition.specs.Image.{binding_byte, component_bytes, key_of, store_of, count_of, used_of, rows_in, entries_in, is_image}
use Rattle.definition.specs.Writing.{escaped, begins_blank, value_text, entry_text, text_of, image_text}
use Rattle.laws.proofs.Lists.{and_true}
use Rattle.laws.proofs.Keys.{is_legal, is_legal_component, passes_not}
use Rattle.laws.proofs.Image.{is_storable, storable, store_is, image_holds, image_sizes, image_held}
use mir.Val.{bool_byte}
use Rattle.entry_text.specs.Lines.{bytes_of}
use Rattle.entry_text.proofs.Texts.{leading_escape_long, value_long}

-- ---- Bytes that are escaped

bytes_append : (xs ys : List ℕ) → length (bytes_of (xs ++ ys)) ≡ length (bytes_of xs) + length (bytes_of ys)
unfolding bytes_of flatten
bytes_append [] ys = omega arith
bytes_append (c ∷ xs) ys =
    omega (
      arith,
      bytes_append xs ys,
      length-append (escaped c) (bytes_of (xs ++ ys)),
      length-append (escaped c) (bytes_of xs),
    )

name_plain : (n : List ℕ) → all is_name n ≡ true → length (bytes_of n) ≡ length n
unfolding bytes_of flatten all escaped is_name is_digit
name_plain [] h = refl
name_plain (c ∷ n) h =
    let a = and_true (is_name c) (all is_name n) h in
    rw (passes_not is_name c backslash a.0 refl, passes_not is_name c newline a.0 refl) (omega (arith, name_plain n a.1))

component_plain : (c : Component) → is_legal_component c ≡ true → length (bytes_of (component_bytes c)) ≡ length (component_bytes c)
unfolding bytes_of flatten escaped is_legal_component
component_plain wildcard h = refl
component_plain (name n) h = name_plain n (and_true (not (is_empty n)) (all is_name n) h).1

binding_plain : (b : Binding) (t : List ℕ) → length (bytes_of (binding_byte b ∷ t)) ≡ 1 + length (bytes_of t)
unfolding bytes_of flatten escaped
binding_plain tight t = omega arith
binding_plain loose t = omega arith

-- nothing of a key is escaped
key_plain : (ps : List Part) → all is_legal ps ≡ true → length (bytes_of (key_of ps)) ≡ length (key_of ps)
unfolding key_of all is_legal
key_plain [] h = unfold bytes_of flatten in refl
key_plain (p ∷ ps) h =
    let a = and_true (is_legal p) (all is_legal ps) h in
    let c = component_bytes p.component in
    omega (
      arith,
      binding_plain p.binding (c ++ key_of ps),
      bytes_append c (key_of ps),
      component_plain p.component a.0,
      key_plain ps a.1,
      length-append c (key_of ps),
    )

-- ---- The text of entries

-- how many values begin with a blank
unfoldable pub leading_escapes_in : List Entry → ℕ
leading_escapes_in [] = 0
leading_escapes_in (e ∷ es) = bool_byte (begins_blank e.value) + leading_escapes_in es

text_size : (es : List Entry) → all is_storable es ≡ true → length (text_of es) ≡ 3 * length es + length (bytes_of (store_of es)) + leading_escapes_in es
unfolding all text_of flatten store_of leading_escapes_in entry_text
text_size [] h = unfold bytes_of in refl
text_size (e ∷ es) h =
    let a = and_true (is_storable e) (all is_storable es) h in
    let k = key_of e.parts in
    let t = value_text e.value in
    omega (
      arith,
      text_size es a.1,
      length-append (entry_text e) (text_of es),
      length-append (k ++ ascii ": " ++ t) (newline ∷ []),
      length-append (k ++ ascii ": ") t,
      length-append k (ascii ": "),
      value_long e.value,
      leading_escape_long e.value,
      bytes_append (k ++ e.value) (store_of es),
      bytes_append k e.value,
      key_plain e.parts (storable a.0).legal,
    )

-- ---- The text of an image

-- by the image's own numbers, its bytes used and its values
pub image_text_size : (contents bodies : List ℕ) → is_image contents bodies ≡ true
    → length (image_text contents bodies)
    ≡ 3 * count_of contents + length (bytes_of (take (used_of contents) bodies)) + leading_escapes_in (entries_in (rows_in contents) bodies)
image_text_size contents bodies e =
    let i = image_holds contents bodies e in
    let rows = rows_in contents in
    omega (
      arith,
      text_size (entries_in rows bodies) (image_held contents bodies e).fit,
      (image_sizes contents bodies e).0,
      ap (λ (l : List ℕ). length (bytes_of l)) (store_is 0 rows (used_of contents) bodies i.is_packed i.are_keys),
    )
