-- The third term, of the definition. Assumes nothing.
use mathlib.Core.Bool.{Bool, true, ◌&&◌}
use mathlib.Core.List.{List, [], ◌∷◌}
use mathlib.Core.Path.{◌≡◌, refl, ap, ◌∙◌}
use Prim.Native.Nat.{ℕ, ◌≤◌}
use native.Mathlib.Omega.{arith}
use lib.Dec.{leb}
use lib.ListN.{length, length-map}
use Rattle.definition.specs.Lists.{all}
use Rattle.definition.specs.Limits.{most_parts, most_entries, body_bytes}
use Rattle.definition.specs.Archive.{files_of, laid_out, struck_off}
use Rattle.definition.specs.Text.{Entry, entry}
use Rattle.definition.specs.Including.{Entered, entries_of}
use Rattle.definition.specs.Image.{Sourced, store_of, Row, rows_in, entries_in, image_contents, image_bodies, is_image}
use Rattle.definition.specs.Reading.{accepted, outcome, reading, read_entries, plain, sourced, met, start}
use Rattle.definition.specs.Writing.{entries_of_image, sources_of_image}
use Rattle.definition.specs.Query.{Query, positions, malformed, past_limit, Bounds, query_within}
use Rattle.definition.specs.Ranking.{Best, no_entry, best, best_of}
use Rattle.definition.specs.Lookup.{keys_of, answer_of, refused, place_of, lookup, get_bytes_by, get_bytes_within, answer_in}
use Rattle.definition.specs.ThirdTerm.{through_file, left_out, Case, query, file_name, Given, ThirdTerm}
use Rattle.laws.proofs.Lists.{and_true, and_both}
use Rattle.laws.proofs.Archive.{laid_out_says, files_struck, struck_laid_out, removed_gone, removed_other}
use Rattle.laws.proofs.Struck.{Lacks, events_without, apart, events_of_all_struck, entries_without}
use Rattle.laws.proofs.Limits.{limits_fewer, used_store}
use Rattle.laws.proofs.Reading.{Reads, accepted_reads, reads_outcome, events_of_all_good, few_parts}
use Rattle.laws.proofs.Keys.{is_legal_line, lines_legal}
use Rattle.laws.proofs.Image.{is_storable, Sources, image_is, image_entries}
use Rattle.laws.proofs.Origins.{image_sources, read_sources}
use Rattle.laws.proofs.Lookup.{answer_image}
use Rattle.laws.proofs.Striking.{striking_off}

-- ---- What an accepted reading leaves, looked up

all_both : {A : Type 0} (p q : A → Bool) (xs : List A) → all p xs ≡ true → all q xs ≡ true → all (λ x. p x && q x) xs ≡ true
unfolding all
all_both p q [] h k = refl
all_both p q (x ∷ xs) h k =
    let a = and_true (p x) (all p xs) h in
    let b = and_true (q x) (all q xs) k in
    and_both (and_both a.0 b.0) (all_both p q xs a.1 b.1)

-- a query within its limits gets a value or none
replies : (rows : List Row) (bodies : List ℕ) (q : Query) → ((k : ℕ) → q ≡ past_limit k → ⊥) → (k : ℕ) → lookup rows bodies q ≡ refused k → ⊥
unfolding lookup place_of
replies rows bodies (positions qs) h k = at (best_of (keys_of (entries_in rows bodies)) qs)
  where
    at : (b : Best) → place_of rows b ≡ refused k → ⊥
    at no_entry e = let z : ◌≡◌ {A = ℕ} 0 1 = cc in omega arith
    at (best i row) e = let z : ◌≡◌ {A = ℕ} 0 1 = cc in omega arith
replies rows bodies malformed h k = λ e. let z : ◌≡◌ {A = ℕ} 0 1 = cc in omega arith
replies rows bodies (past_limit j) h k = λ e. absurd (h j refl)

module _ (depth : ℕ) (texts : List (List ℕ)) (archive contents bodies : List ℕ) (r : Reads depth texts archive contents bodies) where
  abbrev es : List Entry
  es = plain (read_entries depth texts archive)

  -- with their origins
  abbrev xs : List Sourced
  xs = sourced (files_of archive) (read_entries depth texts archive)

  from : Sources xs es
  from = read_sources depth texts archive r.is_laid_out

  storable : all is_storable es ≡ true
  unfolding is_storable is_legal_line
  storable =
      all_both _ (λ (e : Entry). leb (length e.parts) most_parts) es
      (events_of_all_good _ is_legal_line (λ e. refl) lines_legal depth (files_of archive) texts)
      (few_parts (met depth texts archive) r.limits.parts_most)

  few : length es ≤ most_entries
  few = omega (arith, r.limits.entries_most, length-map (read_entries depth texts archive) (λ (x : Entered). x.entry))

  small : length (store_of es) ≤ body_bytes
  small = omega (arith, r.limits.used_most, used_store (met depth texts archive))

  -- it leaves an image of its entries
  pub reading_image : is_image (reading depth texts archive contents bodies).contents (reading depth texts archive contents bodies).bodies ≡ true
  reading_image = rw (reads_outcome depth texts archive contents bodies r) (image_is xs es contents bodies from storable few small r.long)

  pub reading_entries : entries_in (rows_in (reading depth texts archive contents bodies).contents) (reading depth texts archive contents bodies).bodies ≡ es
  reading_entries = rw (reads_outcome depth texts archive contents bodies r) (image_entries xs es contents bodies from storable few small r.long)

  -- and of their origins
  pub reading_sources : sources_of_image (reading depth texts archive contents bodies).contents (reading depth texts archive contents bodies).bodies ≡ xs
  reading_sources = rw (reads_outcome depth texts archive contents bodies r) (image_sources xs es contents bodies from storable few small r.long)

  pub reading_answers : (most : Bounds) (name class : List ℕ)
      → answer_in (reading depth texts archive contents bodies).bodies
      (get_bytes_within most (reading depth texts archive contents bodies).contents (reading depth texts archive contents bodies).bodies name class)
      ≡ answer_of es (query_within most name class)
  reading_answers most name class =
      rw (reads_outcome depth texts archive contents bodies r)
      (answer_image xs es contents bodies from storable few small r.long most name class)

  -- and the lookup is not refused
  pub reading_replies : (most : Bounds) (name class : List ℕ) → ((k : ℕ) → query_within most name class ≡ past_limit k → ⊥)
      → (k : ℕ) → get_bytes_within most (reading depth texts archive contents bodies).contents (reading depth texts archive contents bodies).bodies name class ≡ refused k → ⊥
  unfolding get_bytes_by
  reading_replies most name class limits k =
      rw (reads_outcome depth texts archive contents bodies r, image_is xs es contents bodies from storable few small r.long)
      (replies (rows_in (image_contents xs contents)) (image_bodies es bodies) (query_within most name class) limits k)

-- an accepted reading, by what its call leaves
pub read_holds : (depth : ℕ) (texts : List (List ℕ)) (archive contents bodies c b : List ℕ) (n o : ℕ) → outcome (accepted n o) c b ≡ reading depth texts archive contents bodies
    → (is_image c b ≡ true) × (entries_of_image c b ≡ plain (read_entries depth texts archive))
read_holds depth texts archive contents bodies c b n o e =
    let r = accepted_reads depth texts archive contents bodies (rw (← e) refl) in
    (rw (← e) at (reading_image depth texts archive contents bodies r), rw (← e) at (reading_entries depth texts archive contents bodies r))

pub read_sourced : (depth : ℕ) (texts : List (List ℕ)) (archive contents bodies c b : List ℕ) (n o : ℕ) → outcome (accepted n o) c b ≡ reading depth texts archive contents bodies
    → (laid_out archive ≡ true) × (sources_of_image c b ≡ sourced (files_of archive) (read_entries depth texts archive))
read_sourced depth texts archive contents bodies c b n o e =
    let r = accepted_reads depth texts archive contents bodies (rw (← e) refl) in
    (r.is_laid_out, rw (← e) at (reading_sources depth texts archive contents bodies r))

-- ---- The term

module _ (c : Case) (g : Given c) where
  abbrev struck : List ℕ
  struck = struck_off c.file c.archive

  first : Reads c.depth c.texts c.archive c.contents c.bodies
  first = accepted_reads c.depth c.texts c.archive c.contents c.bodies g.is_read

  lacks : Lacks (files_of c.archive) (files_of struck) (file_name c)
  lacks =
      rw (files_struck c.file c.archive) (record {
        gone = removed_gone c.file (files_of c.archive) (laid_out_says c.archive first.is_laid_out).rises g.file_on_it;
        others = λ n h. removed_other c.file (files_of c.archive) n g.file_on_it h;
      })

  met_struck : met c.depth c.texts struck ≡ events_without (file_name c) (met c.depth c.texts c.archive)
  met_struck = events_of_all_struck (file_name c) (files_of c.archive) (files_of struck) lacks c.depth c.texts

  second : Reads c.depth c.texts struck c.contents' c.bodies'
  second = record {
    long = g.long_enough';
    fit = first.fit;
    is_laid_out = struck_laid_out c.file c.archive first.is_laid_out g.file_on_it;
    shallow = first.shallow;
    limits = rw met_struck (limits_fewer (apart (file_name c)) start (met c.depth c.texts c.archive) first.limits);
  }

  entries_struck : read_entries c.depth c.texts struck ≡ left_out (through_file (file_name c)) (read_entries c.depth c.texts c.archive)
  entries_struck = ap entries_of met_struck ∙ entries_without (file_name c) (met c.depth c.texts c.archive)

  pub third_term : ThirdTerm c
  third_term =
      let a = reading_answers c.depth c.texts c.archive c.contents c.bodies first c.bounds c.name c.class in
      let b = reading_answers c.depth c.texts struck c.contents' c.bodies' second c.bounds c.name c.class in
      record {
        is_read_too = rw (reads_outcome c.depth c.texts struck c.contents' c.bodies' second) refl;
        first_answers = reading_replies c.depth c.texts c.archive c.contents c.bodies first c.bounds c.name c.class g.within_limits;
        second_answers = reading_replies c.depth c.texts struck c.contents' c.bodies' second c.bounds c.name c.class g.within_limits;
        first_answer = a;
        second_answer = b;
        equal_just_when = rw (a, b, entries_struck) (striking_off Entered (through_file (file_name c)) (read_entries c.depth c.texts c.archive) (query c));
      }
