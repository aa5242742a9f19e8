-- Laws of lookups: the bytes that a lookup in an image answers are those that its entries give. Assumes nothing.
use mathlib.Core.Bool.{true, false}
use mathlib.Core.List.{List, [], ◌∷◌}
use mathlib.Core.Option.{some}
use mathlib.Core.Path.{◌≡◌, refl, ap, ◌∙◌}
use Prim.Native.Nat.{ℕ, zero, suc, ◌≤◌}
use lib.ListN.{length, get_or}
use Rattle.definition.specs.Lists.{all}
use Rattle.definition.specs.Limits.{body_bytes, most_entries}
use Rattle.definition.specs.Text.{Entry}
use Rattle.definition.specs.Image.{Sourced, store_of, image_contents, image_bodies, Row, rows_in, value_at, entries_in, too_short, is_image}
use Rattle.definition.specs.Query.{Query, positions, malformed, past_limit, Bounds, query_within}
use Rattle.definition.specs.Ranking.{Best, no_entry, best, best_of}
use Rattle.definition.specs.Lookup.{keys_of, value_of, answer_of, place_of, lookup, get_bytes_by, get_bytes_within, answer_in}
use Rattle.laws.proofs.Image.{is_storable, Sources, image_entries, image_is}

-- also past the last row, where both are empty
value_there : (rows : List Row) (bodies : List ℕ) (i : ℕ)
    → value_at bodies (get_or rows i (record { start = 0; key_length = 0; value_length = 0 }))
    ≡ (get_or (entries_in rows bodies) i (record { parts = []; value = [] })).value
unfolding entries_in
value_there [] bodies i = refl
value_there (r ∷ rs) bodies zero = refl
value_there (r ∷ rs) bodies (suc i) = value_there rs bodies i

best_answer : (rows : List Row) (bodies : List ℕ) (b : Best) → answer_in bodies (place_of rows b) ≡ value_of (entries_in rows bodies) b
unfolding answer_in place_of value_of
best_answer rows bodies no_entry = refl
best_answer rows bodies (best i row) = ap (λ (v : List ℕ). some v) (value_there rows bodies i)

pub lookup_answer : (rows : List Row) (bodies : List ℕ) (q : Query) → answer_in bodies (lookup rows bodies q) ≡ answer_of (entries_in rows bodies) q
unfolding lookup answer_of answer_in
lookup_answer rows bodies (positions qs) = best_answer rows bodies (best_of (keys_of (entries_in rows bodies)) qs)
lookup_answer rows bodies malformed = refl
lookup_answer rows bodies (past_limit k) = refl

pub answer_entries : (most : Bounds) (contents bodies name class : List ℕ) → is_image contents bodies ≡ true
    → answer_in bodies (get_bytes_within most contents bodies name class) ≡ answer_of (entries_in (rows_in contents) bodies) (query_within most name class)
unfolding get_bytes_by
answer_entries most contents bodies name class h = rw h (lookup_answer (rows_in contents) bodies (query_within most name class))

module _ (xs : List Sourced) (es : List Entry) (lent_c lentB : List ℕ) (from : Sources xs es) (fit : all is_storable es ≡ true)
    (few : length es ≤ most_entries) (small : length (store_of es) ≤ body_bytes) (long : too_short lent_c lentB ≡ false) where
  pub answer_image : (most : Bounds) (name class : List ℕ)
      → answer_in (image_bodies es lentB) (get_bytes_within most (image_contents xs lent_c) (image_bodies es lentB) name class) ≡ answer_of es (query_within most name class)
  answer_image most name class =
      answer_entries most (image_contents xs lent_c) (image_bodies es lentB) name class (image_is xs es lent_c lentB from fit few small long)
      ∙ ap (λ (l : List Entry). answer_of l (query_within most name class)) (image_entries xs es lent_c lentB from fit few small long)
