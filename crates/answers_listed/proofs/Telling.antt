-- What is told of the entries that align, and of what was read. Assumes nothing.
use mathlib.Core.Bool.{true, false}
use mathlib.Core.List.{List, [], ◌∷◌, ◌++◌}
use mathlib.Core.Path.{◌≡◌, refl, sym, ap, ◌∙◌}
use Prim.Native.Nat.{ℕ, ◌+◌, ◌≤◌, ◌<◌}
use native.Mathlib.Omega.{arith}
use lib.ListN.{length, get_or, length-append}
use Rattle.definition.specs.Lists.{ascii, zeroes}
use Rattle.definition.specs.Limits.{contents_words, body_bytes}
use Rattle.definition.specs.Text.{Entry}
use Rattle.definition.specs.Archive.{File, files_of, laid_out}
use Rattle.definition.specs.Image.{key_of, Sourced, bare, store_of, count_of, origins_in, is_image}
use Rattle.definition.specs.Query.{Query, positions, malformed, past_limit, query_of}
use Rattle.definition.specs.Reading.{accepted, refused, Outcome, outcome, reading, sourced, read_entries}
use Rattle.definition.specs.Lookup.{given, refused as refusedStart}
use Rattle.definition.specs.Writing.{entries_of_image, sources_of_image}
use Rattle.definition.specs.Walking.{walk, begun, walk_start_by, walk_start}
use Rattle.definition.specs.Adding.{numbers_of}
use Rattle.laws.proofs.Image.{length_bare, image_held}
use Rattle.laws.proofs.Origins.{bare_with}
use Rattle.laws.proofs.Adding.{Asked, starts}
use Rattle.laws.proofs.ThirdTerm.{read_holds, read_sourced}
use Rattle.std.proofs.lemmas.List.{nil_from_length}
use Rattle.printing.specs.Putting.{Appends, written}
use Rattle.printing.specs.declared.Lines.{Lines}
use Rattle.printing.proofs.Pieces.{piece_of, then_piece}
use Rattle.reports.specs.declared.Report.{Report}
use Rattle.reports.specs.Telling.{output, trouble, refused as refusalTold, Reports}
use Rattle.reports.specs.declared.Status.TheVariants.{Yes, No}
use Rattle.reports.proofs.Telling.{reports_of}
use Rattle.places.specs.Places.{file_told}
use Rattle.walk_lines.specs.Lines.{blank, line_at, lines_at, walk_lines}
use Rattle.walk_lines.proofs.Lines.{listed_long, walk_most}
use Rattle.answers_listed.specs.Listed.{listed_bytes, numbers_told, query_told, read_told, list_told}

-- ---- Numbers

module _ (fs : List File) (xs : List Sourced) where
  line_some : (i : ℕ) → 0 < length (line_at fs xs i)
  unfolding line_at
  line_some i = let x = get_or xs i blank in omega (arith, listed_long i (file_told fs x.origin) (key_of x.entry.parts) x.entry.value)

  none_told : (is : List ℕ) → length (lines_at fs xs is) ≡ 0 → trouble 1 (ascii "getres: no entry\n") ≡ numbers_told fs is xs
  unfolding lines_at numbers_told
  none_told [] h = refl
  none_told (i ∷ is) h = absurd (omega (arith, line_some i, length-append (line_at fs xs i) (lines_at fs xs is)))

  some_told : (is : List ℕ) → 0 < length (lines_at fs xs is) → output 0 (lines_at fs xs is) ≡ numbers_told fs is xs
  unfolding lines_at numbers_told
  some_told [] h = absurd (omega arith)
  some_told (i ∷ is) h = refl

  query_told_lem : (q : Query) → Asked q → numbers_told fs (numbers_of q (bare xs)) xs ≡ query_told fs q xs
  unfolding query_told
  query_told_lem (positions qs) f = refl
  query_told_lem malformed f = refl
  query_told_lem (past_limit k) f = absurd (f k refl)

-- ---- An image

module _ (contents bodies archive name class : List ℕ) where
  abbrev q : Query
  q = query_of name class

  abbrev fs : List File
  fs = files_of archive

  abbrev xs : List Sourced
  xs = sources_of_image contents bodies

  module _ (count : ℕ) (start : given (walk 0 count) ≡ walk_start contents bodies name class) where
    asked : Asked q
    asked = (starts contents bodies name class (walk 0 count) (sym start)).asked

    -- room for the lines
    pub lines_room : (left : List ℕ) → laid_out archive ≡ true → listed_bytes ≤ length left → length (walk_lines fs q xs) ≤ length left
    lines_room left l h =
        let i = image_held contents bodies (starts contents bodies name class (walk 0 count) (sym start)).is_image_lem in
        let b = bare_with (entries_of_image contents bodies) (origins_in contents) in
        omega (arith, walk_most archive l q xs, i.few, i.small, length_bare xs, ap length b, ap (λ (es : List Entry). length (store_of es)) b)

    -- nothing was put, and then that there is none; or the lines
    module _ {w w' : Lines} (p : Appends (walk_lines fs q xs) w w') where
      put_bytes : length (written w') ≡ length (written w) + length (walk_lines fs q xs)
      put_bytes = ap length p.puts ∙ length-append (written w) (walk_lines fs q xs)

      pub told_none : {w'' : Lines} → length (written w') ≡ length (written w) → Appends (ascii "getres: no entry\n") w' w''
          → Reports (query_told fs q xs) w w'' (record { status = No; wrong = true })
      told_none {w''} z t =
          let n : length (walk_lines fs q xs) ≡ 0 = omega (arith, put_bytes) in
          let none : walk_lines fs q xs ≡ [] = nil_from_length _ n in
          reports_of (none_told fs xs (numbers_of q (bare xs)) n ∙ query_told_lem fs xs q asked)
          (record { puts = piece_of (ap (λ (l : List ℕ). l ++ ascii "getres: no entry\n") none) (then_piece p t); status = refl; wrong = refl })

      pub told_some : (length (written w') ≡ length (written w) → ⊥) → Reports (query_told fs q xs) w w' (record { status = Yes; wrong = false })
      told_some h =
          let n : 0 < length (walk_lines fs q xs) = omega (arith, h, put_bytes) in
          reports_of (some_told fs xs (numbers_of q (bare xs)) n ∙ query_told_lem fs xs q asked) (record { puts = p; status = refl; wrong = refl })

  pub told_refused : is_image contents bodies ≡ true → (k : ℕ) → refusedStart k ≡ walk_start contents bodies name class → {w w' : Lines} {r : Report}
      → Reports (refusalTold k) w w' r → Reports (query_told fs q xs) w w' r
  unfolding walk_start_by begun query_told
  told_refused e k h p = reports_of (at q refl (h ∙ rw e refl)) p
    where
      at : (x : Query) → q ≡ x → refusedStart k ≡ begun (count_of contents) x → refusalTold k ≡ query_told fs x xs
      at (positions qs) f g = let z : ◌≡◌ {A = ℕ} 0 1 = cc in absurd (omega arith)
      at malformed f g = let z : ◌≡◌ {A = ℕ} 0 1 = cc in absurd (omega arith)
      at (past_limit j) f g = let n : k ≡ j = cc in ap refusalTold n

-- ---- What was read

module _ (depth : ℕ) (texts : List (List ℕ)) (archive name class : List ℕ) where
  abbrev read : Outcome
  read = reading depth texts archive (zeroes contents_words) (zeroes body_bytes)

  module _ {c b : List ℕ} (n o : ℕ) (e : outcome (accepted n o) c b ≡ read) where
    holds : (laid_out archive ≡ true) × (sources_of_image c b ≡ sourced (files_of archive) (read_entries depth texts archive))
    holds = read_sourced depth texts archive (zeroes contents_words) (zeroes body_bytes) c b n o e

    pub read_image : (is_image c b ≡ true) × (laid_out archive ≡ true)
    read_image = ((read_holds depth texts archive (zeroes contents_words) (zeroes body_bytes) c b n o e).0, holds.0)

    pub list_told_lem : {w w' : Lines} {r : Report} → Reports (query_told (files_of archive) (query_of name class) (sources_of_image c b)) w w' r → Reports (list_told depth texts archive name class) w w' r
    unfolding list_told read_told
    list_told_lem p = reports_of (ap (query_told (files_of archive) (query_of name class)) holds.1 ∙ rw (← e) refl) p

  pub refused_told : {c b : List ℕ} (k : ℕ) → outcome (refused k) c b ≡ read → {w w' : Lines} {r : Report} → Reports (refusalTold k) w w' r
      → Reports (list_told depth texts archive name class) w w' r
  unfolding list_told read_told
  refused_told k e p = reports_of (ap (λ (x : Outcome). read_told x.answer (query_told (files_of archive) (query_of name class) (sourced (files_of archive) (read_entries depth texts archive)))) e) p
