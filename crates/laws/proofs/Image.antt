-- Laws of the image: written from entries, it is an image and gives the entries back; and the entries of any image may be stored. Assumes nothing.
use mathlib.Core.Bool.{Bool, true, false, ◌&&◌, ◌||◌, not}
use mathlib.Core.List.{List, [], ◌∷◌, ◌++◌, map, append_assoc}
use mathlib.Core.Path.{◌≡◌, refl, sym, ap, ◌∙◌}
use Prim.Native.Nat.{ℕ, zero, suc, ◌+◌, ◌*◌, ◌-◌, ◌≤◌}
use native.Mathlib.Omega.{arith}
use lib.Dec.{eqb, leb, ltb}
use lib.ListN.{length, drop, length-append, length-drop, length-replicate}
use lib.Seq.{slice, slice_empty, length-slice}
use borrow.Author.Tests.{ltb-false, leb-true, le-leb, eqb-true, eq-eqb, not-true}
use Rattle.definition.specs.Lists.{all, zeroes, beyond}
use Rattle.definition.specs.Parsing.{Parsed}
use Rattle.definition.specs.Limits.{contents_words, body_bytes, row_words, most_entries, most_parts}
use Rattle.definition.specs.Text.{Part, Entry, ends_in_name}
use Rattle.definition.specs.Image.{
  key_of,
  Sourced,
  bare,
  all_from,
  rows_of,
  store_of,
  contents_of,
  written_over,
  image_contents,
  image_bodies,
  Row,
  rows_from,
  origins_from,
  used_of,
  count_of,
  rows_by,
  rows_in,
  origins_by,
  origins_in,
  key_end,
  value_end,
  key_at,
  value_at,
  key_parts,
  entries_in,
  is_key,
  packed,
  is_origin,
  too_short_by,
  too_short,
  is_image_by,
  is_image,
}
use Rattle.laws.proofs.Lists.{not_both, and_true, and_both, slice_at, slice_join}
use Rattle.laws.proofs.Keys.{is_legal, key_parts_lem, is_key_lem, parts_of}

-- what a reading may store
unfoldable pub is_storable : Entry → Bool
is_storable e = all is_legal e.parts && ends_in_name e.parts && leb (length e.parts) most_parts

pub record Storable (e : Entry) : Type 0 where
  pub legal : all is_legal e.parts ≡ true
  pub named : ends_in_name e.parts ≡ true
  pub few : length e.parts ≤ most_parts

pub storable : {e : Entry} → is_storable e ≡ true → Storable e
unfolding is_storable
storable {e} h =
    let p = and_true (all is_legal e.parts && ends_in_name e.parts) (leb (length e.parts) most_parts) h in
    let q = and_true (all is_legal e.parts) (ends_in_name e.parts) p.0 in
    record { legal = q.0; named = q.1; few = leb-true (length e.parts) most_parts p.1 }

-- ---- The buffers

pub length_zeroes : (n : ℕ) → length (zeroes n) ≡ n
unfolding zeroes
length_zeroes n = length-replicate n 0

pub length_beyond : (n : ℕ) (xs : List ℕ) → length (beyond n xs) ≡ length xs - n
unfolding beyond
length_beyond n xs = length-drop n xs

pub written_long : (n : ℕ) (lent xs : List ℕ) → length xs ≤ n → n ≤ length lent → length (written_over n lent xs) ≡ length lent
unfolding written_over
written_long n lent xs h k = simp (length-append, length_zeroes, length_beyond) (omega arith)

pub length_rows : (at : ℕ) (xs : List Sourced) → length (rows_of at xs) ≡ row_words * length xs
unfolding rows_of
length_rows at [] = refl
length_rows at (x ∷ xs) = omega (arith, length_rows (at + length (key_of x.entry.parts) + length x.entry.value) xs)

-- ---- Entries with their origins

pub length_bare : (xs : List Sourced) → length (bare xs) ≡ length xs
length_bare [] = refl
length_bare (x ∷ xs) = ap suc (length_bare xs)

-- the entries that stand there, and origins that an image may have
pub record Sources (xs : List Sourced) (es : List Entry) : Type 0 where
  pub entries : bare xs ≡ es
  pub known : all is_origin (map (λ x. x.origin) xs) ≡ true

pub sources_long : {xs : List Sourced} {es : List Entry} → Sources xs es → length xs ≡ length es
sources_long {xs} s = sym (length_bare xs) ∙ ap length s.entries

pub all_from_lem : (origin : ℕ) → is_origin origin ≡ true → (es : List Entry) → Sources (all_from origin es) es
unfolding all
all_from_lem origin h [] = record { entries = refl; known = refl }
all_from_lem origin h (e ∷ es) =
    let ih = all_from_lem origin h es in
    record { entries = ap (λ (l : List Entry). e ∷ l) ih.entries; known = and_both h ih.known }

-- ---- The rows

-- the rows of entries packed from `at` on
unfoldable pub rows_at : ℕ → List Entry → List Row
rows_at at [] = []
rows_at at (e ∷ es) =
    record { start = at; key_length = length (key_of e.parts); value_length = length e.value }
    ∷ rows_at (at + length (key_of e.parts) + length e.value) es

rows_read : (at : ℕ) (xs : List Sourced) (rest : List ℕ) → rows_from row_words (length xs) (rows_of at xs ++ rest) ≡ rows_at at (bare xs)
unfolding rows_from rows_of rows_at
rows_read at [] rest = refl
rows_read at (x ∷ xs) rest = rw (rows_read (at + length (key_of x.entry.parts) + length x.entry.value) xs rest) refl

origins_read : (at : ℕ) (xs : List Sourced) (rest : List ℕ) → origins_from row_words (length xs) (rows_of at xs ++ rest) ≡ map (λ x. x.origin) xs
unfolding origins_from rows_of
origins_read at [] rest = refl
origins_read at (x ∷ xs) rest = rw (origins_read (at + length (key_of x.entry.parts) + length x.entry.value) xs rest) refl

pub image_rows : (xs : List Sourced) (lent : List ℕ) → rows_in (image_contents xs lent) ≡ rows_at 0 (bare xs)
unfolding written_over contents_of
image_rows xs lent = rw (append_assoc (rows_of 0 xs)) (rows_read 0 xs _)

pub image_origins : (xs : List Sourced) (lent : List ℕ) → origins_in (image_contents xs lent) ≡ map (λ x. x.origin) xs
unfolding written_over contents_of
image_origins xs lent = rw (append_assoc (rows_of 0 xs)) (origins_read 0 xs _)

pub image_count : (xs : List Sourced) (lent : List ℕ) → count_of (image_contents xs lent) ≡ length xs
unfolding written_over contents_of
image_count xs lent = refl

pub image_used : (xs : List Sourced) (lent : List ℕ) → used_of (image_contents xs lent) ≡ length (store_of (bare xs))
unfolding written_over contents_of
image_used xs lent = refl

packed_rows : (at : ℕ) (es : List Entry) (used : ℕ) → at + length (store_of es) ≡ used → packed at (rows_at at es) used ≡ true
unfolding packed rows_at store_of
packed_rows at [] used h = eq-eqb at used (omega arith)
packed_rows at (e ∷ es) used h =
    let k = key_of e.parts in
    let v = e.value in
    let on = packed_rows (at + length k + length v) es used (omega (arith, length-append (k ++ v) (store_of es), length-append k v)) in
    and_both (eq-eqb at at refl) on

-- ---- The bodies

-- the rows give the entries, and each row's key is one
record Reads (rows : List Row) (bodies : List ℕ) (es : List Entry) : Type 0 where
  entries : entries_in rows bodies ≡ es
  keys : all (λ r. is_key (key_at bodies r)) rows ≡ true

store_reads : (at : ℕ) (es : List Entry) (before rest bodies : List ℕ) → length before ≡ at → bodies ≡ before ++ (store_of es ++ rest)
    → all is_storable es ≡ true → Reads (rows_at at es) bodies es
unfolding store_of rows_at entries_in all
store_reads at [] before rest bodies h b s = record { entries = refl; keys = refl }
store_reads at (e ∷ es) before rest bodies h b s =
    let ps = e.parts in
    let k = key_of ps in
    let v = e.value in
    let more = store_of es ++ rest in
    let ok = and_true (is_storable e) (all is_storable es) s in
    let fit = storable ok.0 in
    let r : Row = record { start = at; key_length = length k; value_length = length v } in
    let b₁ : bodies ≡ before ++ (k ++ (v ++ more)) = b ∙ simp append_assoc in
    let b₂ : bodies ≡ (before ++ k) ++ (v ++ more) = b ∙ simp append_assoc in
    let b₃ : bodies ≡ ((before ++ k) ++ v) ++ more = b ∙ simp append_assoc in
    let long : length (before ++ k) ≡ at + length k = omega (arith, length-append before k) in
    let key : key_at bodies r ≡ k = rw b₁ (slice_at before k (v ++ more) at (at + length k) h refl) in
    let value : value_at bodies r ≡ v = rw b₂ (slice_at (before ++ k) v more (at + length k) (at + length k + length v) long refl) in
    let parts : key_parts (key_at bodies r) ≡ ps = ap key_parts key ∙ ap (λ (q : Parsed Part). q.items) (key_parts_lem ps fit.legal) in
    let ih = store_reads (at + length k + length v) es ((before ++ k) ++ v) rest bodies (omega (arith, length-append (before ++ k) v)) b₃ ok.1 in
    record {
      entries = λ i. record { parts = parts i; value = value i } ∷ ih.entries i;
      keys = and_both (ap is_key key ∙ is_key_lem ps fit.legal fit.few fit.named) ih.keys;
    }

-- ---- The image

image_reads : (es : List Entry) (lent : List ℕ) → all is_storable es ≡ true → Reads (rows_at 0 es) (image_bodies es lent) es
unfolding written_over
image_reads es lent s =
    let pad = zeroes (body_bytes - length (store_of es)) in
    store_reads 0 es [] (pad ++ beyond body_bytes lent) (image_bodies es lent) refl
    (append_assoc (store_of es) pad (beyond body_bytes lent)) s

pub contents_fit : (xs : List Sourced) → length xs ≤ most_entries → length (contents_of xs) ≤ contents_words
unfolding contents_of
contents_fit xs h = omega (arith, length_rows 0 xs)

-- lent buffers that are not too short have all that is written
pub long_by : (width : ℕ) (contents bodies : List ℕ) → too_short_by width contents bodies ≡ false
    → (2 + width * most_entries ≤ length contents) × (body_bytes ≤ length bodies)
long_by width contents bodies e = at (ltb (length contents) (2 + width * most_entries)) (ltb (length bodies) body_bytes) refl refl e
  where
    at : (a b : Bool) → ltb (length contents) (2 + width * most_entries) ≡ a → ltb (length bodies) body_bytes ≡ b → (a || b) ≡ false
        → (2 + width * most_entries ≤ length contents) × (body_bytes ≤ length bodies)
    at true b p q h = absurd (not_both refl h)
    at false true p q h = absurd (not_both refl h)
    at false false p q h = (ltb-false (length contents) (2 + width * most_entries) p, ltb-false (length bodies) body_bytes q)

pub long_enough : (contents bodies : List ℕ) → too_short contents bodies ≡ false → (contents_words ≤ length contents) × (body_bytes ≤ length bodies)
long_enough contents bodies e = long_by row_words contents bodies e

module _ (xs : List Sourced) (es : List Entry) (lent_c lentB : List ℕ) (from : Sources xs es) (fit : all is_storable es ≡ true)
    (few : length es ≤ most_entries) (small : length (store_of es) ≤ body_bytes) (long : too_short lent_c lentB ≡ false) where
  pub contents_long : length (image_contents xs lent_c) ≡ length lent_c
  contents_long =
      written_long contents_words lent_c (contents_of xs) (contents_fit xs (omega (arith, sources_long from, few))) (long_enough lent_c lentB long).0

  rows_are : rows_in (image_contents xs lent_c) ≡ rows_at 0 es
  rows_are = image_rows xs lent_c ∙ ap (rows_at 0) from.entries

  pub bodies_long : length (image_bodies es lentB) ≡ length lentB
  bodies_long = written_long body_bytes lentB (store_of es) small (long_enough lent_c lentB long).1

  pub image_entries : entries_in (rows_in (image_contents xs lent_c)) (image_bodies es lentB) ≡ es
  image_entries = ap (λ (rs : List Row). entries_in rs (image_bodies es lentB)) rows_are ∙ (image_reads es lentB fit).entries

  pub image_long : too_short (image_contents xs lent_c) (image_bodies es lentB) ≡ false
  image_long =
      ap (λ (n : ℕ). ltb n contents_words || ltb (length (image_bodies es lentB)) body_bytes) contents_long
      ∙ ap (λ (n : ℕ). ltb (length lent_c) contents_words || ltb n body_bytes) bodies_long ∙ long

  pub image_is : is_image (image_contents xs lent_c) (image_bodies es lentB) ≡ true
  unfolding is_image_by
  image_is =
      let c = image_contents xs lent_c in
      let b = image_bodies es lentB in
      let rows : rows_in c ≡ rows_at 0 es = rows_are in
      let used : used_of c ≡ length (store_of es) = image_used xs lent_c ∙ ap (λ (l : List Entry). length (store_of l)) from.entries in
      let l : not (too_short c b) ≡ true = rw image_long in
      let n : leb (count_of c) most_entries ≡ true = rw (image_count xs lent_c, sources_long from) (le-leb (length es) most_entries few) in
      let u : leb (used_of c) body_bytes ≡ true = rw used (le-leb (length (store_of es)) body_bytes small) in
      let p : packed 0 (rows_in c) (used_of c) ≡ true = rw (rows, used) (packed_rows 0 es (length (store_of es)) (omega arith)) in
      let k : all (λ r. is_key (key_at b r)) (rows_in c) ≡ true = rw rows (image_reads es lentB fit).keys in
      let o : all is_origin (origins_in c) ≡ true = rw (image_origins xs lent_c) from.known in
      and_both (and_both (and_both (and_both (and_both l n) u) p) k) o

-- ---- What an image is

pub rows_count : (width n : ℕ) (ws : List ℕ) → length (rows_from width n ws) ≡ n
unfolding rows_from
rows_count width zero ws = refl
rows_count width (suc n) ws = ap suc (rows_count width n (drop width ws))

pub count_rows : (contents : List ℕ) → length (rows_in contents) ≡ count_of contents
count_rows contents = rows_count row_words (count_of contents) (drop 2 contents)

-- what is packed up to `used` begins no later
pub packed_most : (at : ℕ) (rows : List Row) (used : ℕ) → packed at rows used ≡ true → at ≤ used
unfolding packed
packed_most at [] used e = omega (arith, eqb-true at used e)
packed_most at (r ∷ rows) used e =
    let p = and_true (eqb r.start at) (packed (value_end r) rows used) e in
    omega (arith, eqb-true r.start at p.0, packed_most (value_end r) rows used p.1)

-- with rows of any width
pub record HoldsBy (width : ℕ) (contents bodies : List ℕ) : Type 0 where
  pub contents_long : 2 + width * most_entries ≤ length contents
  pub bodies_long : body_bytes ≤ length bodies
  pub count_most : count_of contents ≤ most_entries
  pub used_most : used_of contents ≤ body_bytes
  pub is_packed : packed 0 (rows_by width contents) (used_of contents) ≡ true
  pub are_keys : all (λ r. is_key (key_at bodies r)) (rows_by width contents) ≡ true
  pub are_origins : all is_origin (origins_by width contents) ≡ true

abbrev pub Holds : List ℕ → List ℕ → Type 0
Holds contents bodies = HoldsBy row_words contents bodies

pub holds_by : (width : ℕ) (contents bodies : List ℕ) → is_image_by width contents bodies ≡ true → HoldsBy width contents bodies
unfolding is_image_by
holds_by width contents bodies e =
    let long = not (too_short_by width contents bodies) in
    let few = leb (count_of contents) most_entries in
    let small = leb (used_of contents) body_bytes in
    let rows = rows_by width contents in
    let keys = all (λ r. is_key (key_at bodies r)) rows in
    let o = and_true (long && few && small && packed 0 rows (used_of contents) && keys) (all is_origin (origins_by width contents)) e in
    let p = and_true (long && few && small && packed 0 rows (used_of contents)) keys o.0 in
    let q = and_true (long && few && small) (packed 0 rows (used_of contents)) p.0 in
    let r = and_true (long && few) small q.0 in
    let s = and_true long few r.0 in
    let lengths = long_by width contents bodies (not-true (too_short_by width contents bodies) s.0) in
    record {
      contents_long = lengths.0;
      bodies_long = lengths.1;
      count_most = leb-true (count_of contents) most_entries s.1;
      used_most = leb-true (used_of contents) body_bytes r.1;
      is_packed = q.1;
      are_keys = p.1;
      are_origins = o.1;
    }

pub image_holds : (contents bodies : List ℕ) → is_image contents bodies ≡ true → Holds contents bodies
image_holds contents bodies e = holds_by row_words contents bodies e

-- ---- The entries of an image

entries_count : (rows : List Row) (bodies : List ℕ) → length (entries_in rows bodies) ≡ length rows
unfolding entries_in
entries_count [] bodies = refl
entries_count (r ∷ rows) bodies = ap suc (entries_count rows bodies)

entries_storable : (rows : List Row) (bodies : List ℕ) → all (λ r. is_key (key_at bodies r)) rows ≡ true → all is_storable (entries_in rows bodies) ≡ true
unfolding entries_in all is_storable
entries_storable [] bodies h = refl
entries_storable (r ∷ rows) bodies h =
    let a = and_true (is_key (key_at bodies r)) (all (λ r. is_key (key_at bodies r)) rows) h in
    let k = parts_of (key_at bodies r) a.0 in
    let few = le-leb (length (key_parts (key_at bodies r))) most_parts k.few in
    and_both (and_both (and_both k.legal k.named) few) (entries_storable rows bodies a.1)

-- together they are the bytes used
pub store_is : (at : ℕ) (rows : List Row) (used : ℕ) (bodies : List ℕ) → packed at rows used ≡ true
    → all (λ r. is_key (key_at bodies r)) rows ≡ true → store_of (entries_in rows bodies) ≡ slice at used bodies
unfolding packed entries_in all store_of
store_is at [] used bodies p h = sym (slice_empty at bodies) ∙ ap (λ (n : ℕ). slice at n bodies) (eqb-true at used p)
store_is at (r ∷ rows) used bodies p h =
    let a = and_true (is_key (key_at bodies r)) (all (λ r. is_key (key_at bodies r)) rows) h in
    let q = and_true (eqb r.start at) (packed (value_end r) rows used) p in
    let most = packed_most (value_end r) rows used q.1 in
    rw ((parts_of (key_at bodies r) a.0).written, store_is (value_end r) rows used bodies q.1 a.1, ← eqb-true r.start at q.0)
    (ap (λ (l : List ℕ). l ++ slice (value_end r) used bodies) (slice_join bodies r.start (key_end r) (value_end r) (omega arith) (omega arith))
    ∙ slice_join bodies r.start (value_end r) used (omega arith) most)

-- they are as many as the image says, and need the bytes that it says
pub sizes_by : (width : ℕ) (contents bodies : List ℕ) → is_image_by width contents bodies ≡ true
    → let es = entries_in (rows_by width contents) bodies in (length es ≡ count_of contents) × (length (store_of es) ≡ used_of contents)
sizes_by width contents bodies e =
    let i = holds_by width contents bodies e in
    let rows = rows_by width contents in
    let bytes = ap length (store_is 0 rows (used_of contents) bodies i.is_packed i.are_keys) in
    let long = length-slice 0 (used_of contents) bodies (omega (arith, i.used_most, i.bodies_long)) in
    (entries_count rows bodies ∙ rows_count width (count_of contents) (drop 2 contents), omega (arith, bytes, long))

pub image_sizes : (contents bodies : List ℕ) → is_image contents bodies ≡ true
    → let es = entries_in (rows_in contents) bodies in (length es ≡ count_of contents) × (length (store_of es) ≡ used_of contents)
image_sizes contents bodies e = sizes_by row_words contents bodies e

-- entries that an image may hold
pub record Held (es : List Entry) : Type 0 where
  pub fit : all is_storable es ≡ true
  pub few : length es ≤ most_entries
  pub small : length (store_of es) ≤ body_bytes

pub held_by : (width : ℕ) (contents bodies : List ℕ) → is_image_by width contents bodies ≡ true → Held (entries_in (rows_by width contents) bodies)
held_by width contents bodies e =
    let i = holds_by width contents bodies e in
    let s = sizes_by width contents bodies e in
    record {
      fit = entries_storable (rows_by width contents) bodies i.are_keys;
      few = omega (arith, s.0, i.count_most);
      small = omega (arith, s.1, i.used_most);
    }

pub image_held : (contents bodies : List ℕ) → is_image contents bodies ≡ true → Held (entries_in (rows_in contents) bodies)
image_held contents bodies e = held_by row_words contents bodies e
