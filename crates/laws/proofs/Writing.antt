-- Document 02 (iv): a text that is written out reads back, tells images apart, and is never longer than the bound; and the same of the running
-- calls, by their contracts' equations. Assumes nothing.
use Rattle.std.specs.Prelude.{if◌then◌else◌}
use mathlib.Core.Bool.{Bool, true, false, ◌&&◌, not}
use mathlib.Core.List.{List, [], ◌∷◌, ◌++◌, flatten, map, append-nil}
use mathlib.Core.Logic.{◌↔◌}
use mathlib.Core.Path.{◌≡◌, refl, sym, ap, ◌∙◌}
use Prim.Native.Nat.{ℕ, zero, suc, ◌+◌, ◌*◌, ◌≤◌}
use native.Mathlib.Omega.{arith}
use lib.Dec.{eqb, leb, ltb}
use lib.ListN.{length, take, drop, replicate, length-append, length-replicate}
use lib.Seq.{take-append_seam, length-take-le}
use borrow.Author.Tests.{le-ltb, not-false}
use Rattle.definition.specs.Lists.{ascii, all, any, is_empty, zeroes}
use Rattle.definition.specs.Limits.{text_bytes, contents_words, body_bytes, most_entries, most_parts, written_bytes}
use Rattle.definition.specs.Bytes.{backslash, newline, is_name, is_blank}
use Rattle.definition.specs.Archive.{File, laid_out, files_of}
use Rattle.definition.specs.Text.{tight, name, Part, Entry, entry, is_named, ends_in_name}
use Rattle.definition.specs.Including.{Event, entered, events_of, events, events_of_all, entries_of, origin_of, opens_of}
use Rattle.definition.specs.Image.{component_bytes, key_of, Sourced, all_from, store_of, is_origin, image_contents, image_bodies, count_of, used_of, too_short, is_image}
use Rattle.definition.specs.Reading.{outcome, accepted, met, read_entries, plain, sourced, start, too_long, too_deep, reading}
use Rattle.definition.specs.Writing.{
  escaped,
  begins_blank,
  value_text,
  entry_text,
  text_of,
  entries_of_image,
  SameEntries,
  image_text,
  written,
  refused,
  Filled,
  filled,
  put_into,
  writing_by,
  writing,
  RoundTrip,
  SameText,
  LongestText,
}
use Rattle.laws.proofs.Lists.{not_both, and_true, and_both}
use Rattle.laws.proofs.Keys.{is_legal_component, is_legal, is_legal_line, component_some}
use Rattle.laws.proofs.Limits.{InLimits, FewParts, used_store}
use Rattle.laws.proofs.Reading.{Reads, reads_outcome}
use Rattle.laws.proofs.Image.{is_storable, Storable, storable, length_zeroes, all_from_lem, image_holds, image_sizes, Held, image_held, image_is, image_entries}
use Rattle.laws.proofs.Written.{blank_plain, text_lines}

-- ---- What a reading of a text of entries meets

-- the entries, each in a text of the reading
abbrev entered_all : List Entry → List Event
entered_all es = map (entered []) es

storable_lines : (es : List Entry) → all is_storable es ≡ true → all (λ e. is_legal_line (entry e)) es ≡ true
unfolding all is_storable is_legal_line
storable_lines [] h = refl
storable_lines (e ∷ es) h =
    let a = and_true (is_storable e) (all is_storable es) h in
    let b = and_true (all is_legal e.parts && ends_in_name e.parts) (leb (length e.parts) most_parts) a.0 in
    and_both b.0 (storable_lines es a.1)

entered_lines : (inc : List ℕ → List Event) (es : List Entry) → events_of inc [] (map entry es) ≡ entered_all es
unfolding events_of
entered_lines inc [] = refl
entered_lines inc (e ∷ es) = ap (λ (l : List Event). entered [] e ∷ l) (entered_lines inc es)

text_met : (depth : ℕ) (es : List Entry) (archive : List ℕ) → all is_storable es ≡ true → met depth (text_of es ∷ []) archive ≡ entered_all es
unfolding events_of_all events
text_met depth es archive h =
    append-nil _ ∙ ap (events_of _ []) (text_lines es (storable_lines es h)) ∙ entered_lines _ es

entered_plain : (es : List Entry) → plain (entries_of (entered_all es)) ≡ es
unfolding entries_of
entered_plain [] = refl
entered_plain (e ∷ es) = ap (λ (l : List Entry). e ∷ l) (entered_plain es)

-- their lines stand in the main text
entered_sourced : (fs : List File) (es : List Entry) → sourced fs (entries_of (entered_all es)) ≡ all_from 0 es
unfolding entries_of origin_of
entered_sourced fs [] = refl
entered_sourced fs (e ∷ es) = ap (λ (l : List Sourced). record { entry = e; origin = 0 } ∷ l) (entered_sourced fs es)

entered_opens : (es : List Entry) → opens_of (entered_all es) ≡ 0
unfolding opens_of
entered_opens [] = refl
entered_opens (e ∷ es) = entered_opens es

entered_count : (es : List Entry) → length (entries_of (entered_all es)) ≡ length es
unfolding entries_of
entered_count [] = refl
entered_count (e ∷ es) = ap suc (entered_count es)

entered_few : (es : List Entry) → all is_storable es ≡ true → FewParts (entered_all es)
unfolding FewParts all
entered_few [] h = tt
entered_few (e ∷ es) h = let a = and_true (is_storable e) (all is_storable es) h in ((storable a.0).few, entered_few es a.1)

entered_limits : (es : List Entry) → Held es → InLimits start (entered_all es)
entered_limits es h = record {
  opens_most = omega (arith, entered_opens es);
  entries_most = omega (arith, entered_count es, h.few);
  used_most = omega (arith, used_store (entered_all es), ap (λ (l : List Entry). length (store_of l)) (entered_plain es), h.small);
  parts_most = entered_few es h.fit;
}

-- the entries of a text of entries are the same
text_entries : (depth : ℕ) (es : List Entry) (archive : List ℕ) → all is_storable es ≡ true → plain (read_entries depth (text_of es ∷ []) archive) ≡ es
text_entries depth es archive h = ap (λ (l : List Event). plain (entries_of l)) (text_met depth es archive h) ∙ entered_plain es

text_reads : (depth : ℕ) (es : List Entry) (archive contents bodies : List ℕ) → Held es → too_long (text_of es) ≡ false → laid_out archive ≡ true
    → too_deep depth ≡ false → too_short contents bodies ≡ false
    → reading depth (text_of es ∷ []) archive contents bodies ≡ outcome (accepted (length es) 0) (image_contents (all_from 0 es) contents) (image_bodies es bodies)
unfolding any
text_reads depth es archive contents bodies h t a d l =
    let m = text_met depth es archive h.fit in
    let limits : InLimits start (met depth (text_of es ∷ []) archive) = rw m (entered_limits es h) in
    let r : Reads depth (text_of es ∷ []) archive contents bodies = record { long = l; fit = rw t refl; is_laid_out = a; shallow = d; limits = limits } in
    let n : 0 + length (read_entries depth (text_of es ∷ []) archive) ≡ length es = rw m (omega (arith, entered_count es)) in
    let o : 0 + opens_of (met depth (text_of es ∷ []) archive) ≡ 0 = rw m (omega (arith, entered_opens es)) in
    let p : plain (read_entries depth (text_of es ∷ []) archive) ≡ es = text_entries depth es archive h.fit in
    let q : sourced (files_of archive) (read_entries depth (text_of es ∷ []) archive) ≡ all_from 0 es =
    ap (λ (l : List Event). sourced (files_of archive) (entries_of l)) m ∙ entered_sourced (files_of archive) es in
    reads_outcome depth (text_of es ∷ []) archive contents bodies r
    ∙ (λ i. outcome (accepted (n i) (o i)) (image_contents (q i) contents) (image_bodies (p i) bodies))

-- ---- The round trip, and which texts are the same

main_text : is_origin 0 ≡ true
unfolding is_origin
main_text = refl

pub round_trip : RoundTrip
round_trip depth contents bodies archive lentContents lentBodies e t a d l =
    let es = entries_of_image contents bodies in
    let h = image_held contents bodies e in
    let from = all_from_lem 0 main_text es in (
      text_reads depth es archive lentContents lentBodies h t a d l,
      image_is (all_from 0 es) es lentContents lentBodies from h.fit h.few h.small l,
      image_entries (all_from 0 es) es lentContents lentBodies from h.fit h.few h.small l,
    )

pub same_text : SameText
same_text contents bodies contents' bodies' e e' =
    let p = text_entries 0 (entries_of_image contents bodies) [] (image_held contents bodies e).fit in
    let q = text_entries 0 (entries_of_image contents' bodies') [] (image_held contents' bodies' e').fit in
    (λ same. sym p ∙ ap (λ (t : List ℕ). plain (read_entries 0 (t ∷ []) [])) same ∙ q, ap text_of)

-- ---- The longest text

escaped_long : (c : ℕ) → length (escaped c) ≤ 2
unfolding escaped
escaped_long c = at (eqb c backslash) (eqb c newline)
  where
    at : (a b : Bool) → length (if a then ascii "\\\\" else if b then ascii "\\n" else c ∷ []) ≤ 2
    at true b = omega arith
    at false true = omega arith
    at false false = omega arith

escapes_long : (v : List ℕ) → length (flatten (map escaped v)) ≤ 2 * length v
unfolding flatten
escapes_long [] = omega arith
escapes_long (c ∷ v) = omega (arith, length-append (escaped c) (flatten (map escaped v)), escaped_long c, escapes_long v)

-- a blank that begins the value takes two bytes too
pub value_long : (v : List ℕ) → length (value_text v) ≤ 2 * length v
unfolding value_text begins_blank flatten
value_long [] = omega arith
value_long (c ∷ v) = at (is_blank c) refl
  where
    at : (b : Bool) → is_blank c ≡ b → length ((if b then backslash ∷ [] else []) ++ flatten (map escaped (c ∷ v))) ≤ 2 * suc (length v)
    at true h = rw (blank_plain c h) (omega (arith, escapes_long v))
    at false h = escapes_long (c ∷ v)

-- a key has a binding and a byte or more of a component
key_long : (ps : List Part) → all is_legal ps ≡ true → ends_in_name ps ≡ true → 2 ≤ length (key_of ps)
unfolding key_of all is_legal ends_in_name
key_long [] h n = absurd (not_both n refl)
key_long (p ∷ ps) h n =
    let k = component_some p.component (and_true (is_legal p) (all is_legal ps) h).0 in
    omega (arith, length-append (component_bytes p.component) (key_of ps))

entry_long : (e : Entry) → Storable e → length (entry_text e) ≤ 2 * (length (key_of e.parts) + length e.value) + 1
unfolding entry_text
entry_long e s =
    let k = key_of e.parts in
    let v = value_text e.value in
    omega (
      arith,
      key_long e.parts s.legal s.named,
      value_long e.value,
      length-append (k ++ ascii ": " ++ v) (newline ∷ []),
      length-append (k ++ ascii ": ") v,
      length-append k (ascii ": "),
    )

text_long : (es : List Entry) → all is_storable es ≡ true → length (text_of es) ≤ 2 * length (store_of es) + length es
unfolding all text_of flatten store_of
text_long [] h = omega arith
text_long (e ∷ es) h =
    let a = and_true (is_storable e) (all is_storable es) h in
    let k = key_of e.parts in
    omega (
      arith,
      entry_long e (storable a.0),
      text_long es a.1,
      length-append (entry_text e) (text_of es),
      length-append (k ++ e.value) (store_of es),
      length-append k e.value,
    )

-- by the image's own numbers, and by the limits
pub image_text_most : (contents bodies : List ℕ) → is_image contents bodies ≡ true → length (image_text contents bodies) ≤ 2 * used_of contents + count_of contents
image_text_most contents bodies e =
    let s = image_sizes contents bodies e in
    omega (arith, text_long (entries_of_image contents bodies) (image_held contents bodies e).fit, s.0, s.1)

pub image_text_long : (contents bodies : List ℕ) → is_image contents bodies ≡ true → length (image_text contents bodies) ≤ written_bytes
image_text_long contents bodies e =
    let i = image_holds contents bodies e in
    omega (arith, image_text_most contents bodies e, i.count_most, i.used_most)

-- the entry of a longest text: a key of two bytes, and 62 backslashes
unfoldable longest : Entry
longest = record { parts = record { binding = tight; component = name (ascii "a") } ∷ []; value = replicate 62 backslash }

-- n of it
longest_text_times : (n : ℕ) → length (text_of (replicate n longest)) ≡ 129 * n
unfolding text_of flatten
longest_text_times zero = refl
longest_text_times (suc n) =
    let e : length (entry_text longest) ≡ 129 = unfold entry_text key_of value_text begins_blank is_blank escaped flatten longest in refl in
    omega (arith, length-append (entry_text longest) (text_of (replicate n longest)), e, longest_text_times n)

longest_times : (n : ℕ) → length (store_of (replicate n longest)) ≡ 64 * n
unfolding store_of key_of longest
longest_times zero = refl
longest_times (suc n) = omega (arith, longest_times n)

longest_fit : (n : ℕ) → all is_storable (replicate n longest) ≡ true
unfolding all
longest_fit zero = refl
longest_fit (suc n) =
    let e : is_storable longest ≡ true = unfold is_storable is_legal is_legal_component is_name is_empty ends_in_name is_named all longest in refl in
    and_both e (longest_fit n)

-- an image with a text of that length
record Image (n : ℕ) : Type 0 where
  contents : List ℕ
  bodies : List ℕ
  is : is_image contents bodies ≡ true
  long : length (image_text contents bodies) ≡ n

longest_image : (n : ℕ) → n ≤ most_entries → Image (129 * n)
longest_image n h =
    let es = replicate n longest in
    let c = zeroes contents_words in
    let b = zeroes body_bytes in
    let from = all_from_lem 0 main_text es in
    let small : length (store_of es) ≤ body_bytes = omega (arith, longest_times n) in
    let few : length es ≤ most_entries = omega (arith, length-replicate n longest) in
    let long : too_short c b ≡ false = rw (length_zeroes contents_words, length_zeroes body_bytes) refl in
    record {
      contents = image_contents (all_from 0 es) c;
      bodies = image_bodies es b;
      is = image_is (all_from 0 es) es c b from (longest_fit n) few small long;
      long = ap (λ (l : List Entry). length (text_of l)) (image_entries (all_from 0 es) es c b from (longest_fit n) few small long) ∙ longest_text_times n;
    }

pub longest_text : LongestText
longest_text = let i = longest_image most_entries (omega arith) in (image_text_long, (i.contents, i.bodies, i.is, i.long))

-- ---- The calls

-- what `write` leaves where it answers n: t is the buffer afterwards
pub record Wrote (contents bodies : List ℕ) (n : ℕ) (t : List ℕ) : Type 0 where
  pub is_image_lem : is_image contents bodies ≡ true
  pub inside : n ≤ length t
  pub text : take n t ≡ image_text contents bodies

module _ (n : ℕ) (t : List ℕ) where
  no_refusal : (k : ℕ) (b : List ℕ) → filled (written n) t ≡ filled (refused k) b → ⊥
  no_refusal k b e =
      let f : written n ≡ refused k = ap (λ (x : Filled). x.answer) e in
      let z : ◌≡◌ {A = ℕ} 0 1 = cc in
      omega arith

  not_refused : (b : Bool) (k : ℕ) (l : List ℕ) (f : Filled) → filled (written n) t ≡ (if b then filled (refused k) l else f)
      → (b ≡ false) × (filled (written n) t ≡ f)
  not_refused true k l f e = absurd (no_refusal k l e)
  not_refused false k l f e = (refl, e)

  module _ (contents bodies buffer : List ℕ) (answered : filled (written n) t ≡ writing contents bodies buffer) where
    pub written_text : Wrote contents bodies n t
    unfolding writing_by put_into
    written_text =
        let text = image_text contents bodies in
        let p = not_refused (not (is_image contents bodies)) 8 buffer _ answered in
        let q = not_refused (ltb (length buffer) (length text)) 11 buffer _ p.1 in
        let f : written n ≡ written (length text) = ap (λ (x : Filled). x.answer) q.1 in
        let g : n ≡ length text = cc in
        let h : t ≡ text ++ drop (length text) buffer = ap (λ (x : Filled). x.buffer) q.1 in
        record {
          is_image_lem = not-false (is_image contents bodies) p.0;
          inside = rw h (omega (arith, length-append text (drop (length text) buffer)));
          text = rw (g, h) (take-append_seam text (drop (length text) buffer));
        }

    -- and what a reading of it leaves, if it is within limit 2
    pub written_reads : (depth : ℕ) (archive lentContents lentBodies : List ℕ) → n ≤ text_bytes → laid_out archive ≡ true → too_deep depth ≡ false → too_short lentContents lentBodies ≡ false
        → let es = entries_of_image contents bodies in
        let c = image_contents (all_from 0 es) lentContents in
        let b = image_bodies es lentBodies in
        (reading depth (take n t ∷ []) archive lentContents lentBodies ≡ outcome (accepted (length es) 0) c b)
        × (is_image c b ≡ true)
        × SameEntries c b contents bodies
    written_reads depth archive lentContents lentBodies h a d l =
        let w = written_text in
        let m : length (image_text contents bodies) ≡ n = ap length (sym w.text) ∙ length-take-le n t w.inside in
        let long : too_long (image_text contents bodies) ≡ false = rw m (le-ltb text_bytes n h) in
        rw w.text (round_trip depth contents bodies archive lentContents lentBodies w.is_image_lem long a d l)

-- two calls wrote the same text exactly when their images hold the same entries
pub written_same : (n n' : ℕ) (t t' contents bodies buffer contents' bodies' buffer' : List ℕ)
    → filled (written n) t ≡ writing contents bodies buffer
    → filled (written n') t' ≡ writing contents' bodies' buffer'
    → (take n t ≡ take n' t') ↔ SameEntries contents bodies contents' bodies'
written_same n n' t t' contents bodies buffer contents' bodies' buffer' p q =
    let w = written_text n t contents bodies buffer p in
    let w' = written_text n' t' contents' bodies' buffer' q in
    rw (w.text, w'.text) (same_text contents bodies contents' bodies' w.is_image_lem w'.is_image_lem)

-- a buffer of the bound's length is long enough for any image
pub bound_suffices : (contents bodies buffer : List ℕ) → is_image contents bodies ≡ true → written_bytes ≤ length buffer
    → let text = image_text contents bodies in
    writing contents bodies buffer ≡ filled (written (length text)) (text ++ drop (length text) buffer)
unfolding writing_by put_into
bound_suffices contents bodies buffer e h =
    let text = image_text contents bodies in
    let most : length text ≤ length buffer = omega (arith, image_text_long contents bodies e) in
    rw (e, le-ltb (length buffer) (length text) most) refl
