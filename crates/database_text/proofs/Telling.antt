-- What is told of what was read. Assumes nothing.
use mathlib.Core.Bool.{true, false}
use mathlib.Core.List.{List, ◌++◌}
use mathlib.Core.Path.{◌≡◌, refl, ap, ◌∙◌}
use Prim.Native.Nat.{ℕ, ◌≤◌}
use native.Mathlib.Omega.{arith}
use lib.ListN.{length, take, drop, length-append}
use lib.Seq.{take-length}
use Rattle.definition.specs.Lists.{zeroes}
use Rattle.definition.specs.Limits.{contents_words, body_bytes, written_bytes}
use Rattle.definition.specs.Text.{Entry}
use Rattle.definition.specs.Image.{is_image}
use Rattle.definition.specs.Reading.{accepted, refused, Outcome, outcome, reading, plain, read_entries}
use Rattle.definition.specs.Writing.{text_of, image_text, written, refused as refusedWriting, Filled, filled, writing}
use Rattle.laws.proofs.ThirdTerm.{read_holds}
use Rattle.laws.proofs.Writing.{bound_suffices}
use Rattle.std.proofs.lemmas.List.{take-append-le}
use Rattle.printing.specs.Putting.{Appends}
use Rattle.printing.specs.declared.Lines.{Lines}
use Rattle.printing.proofs.Pieces.{piece_of}
use Rattle.reports.specs.declared.Report.{Report}
use Rattle.reports.specs.Telling.{output, refused as refusalTold, Reports}
use Rattle.reports.specs.declared.Status.TheVariants.{Yes}
use Rattle.reports.proofs.Telling.{reports_of}
use Rattle.database_text.specs.Database.{entries_told, database_told}

-- ---- An image, written

module _ (contents bodies out : List ℕ) (i : is_image contents bodies ≡ true) (room : written_bytes ≤ length out) where
  pub image_written : {n : ℕ} {out' : List ℕ} → filled (written n) out' ≡ writing contents bodies out → (n ≤ length out') × (take n out' ≡ image_text contents bodies)
  image_written {n} {out'} e =
      let t = image_text contents bodies in
      let f : filled (written n) out' ≡ filled (written (length t)) (t ++ drop (length t) out) = e ∙ bound_suffices contents bodies out i room in
      let g : written n ≡ written (length t) = ap (λ (x : Filled). x.answer) f in
      let ends : n ≡ length t = cc in
      let leaves : out' ≡ t ++ drop (length t) out = ap (λ (x : Filled). x.buffer) f in
      let h : length t ≤ length t = omega arith in
      (omega (arith, ends, ap length leaves, length-append t (drop (length t) out)), rw (ends, leaves, take-append-le) (take-length t))

  pub image_told : {n : ℕ} {out' : List ℕ} {w w' : Lines} → filled (written n) out' ≡ writing contents bodies out → Appends (take n out') w w'
      → Reports (output 0 (image_text contents bodies)) w w' (record { status = Yes; wrong = false })
  image_told e p = record { puts = piece_of (image_written e).1 p; status = refl; wrong = refl }

  -- none is refused
  pub image_writes : {k : ℕ} {out' : List ℕ} → filled (refusedWriting k) out' ≡ writing contents bodies out → ⊥
  image_writes {k} e =
      let f : refusedWriting k ≡ written (length (image_text contents bodies)) = ap (λ (x : Filled). x.answer) (e ∙ bound_suffices contents bodies out i room) in
      let z : ◌≡◌ {A = ℕ} 0 1 = cc in
      omega arith

-- ---- What was read

module _ (depth : ℕ) (texts : List (List ℕ)) (archive : List ℕ) where
  abbrev read : Outcome
  read = reading depth texts archive (zeroes contents_words) (zeroes body_bytes)

  module _ {c b : List ℕ} (n o : ℕ) (e : outcome (accepted n o) c b ≡ read) where
    pub read_image : is_image c b ≡ true
    read_image = (read_holds depth texts archive (zeroes contents_words) (zeroes body_bytes) c b n o e).0

    pub text_told : {w w' : Lines} {r : Report} → Reports (output 0 (image_text c b)) w w' r → Reports (database_told depth texts archive) w w' r
    unfolding database_told entries_told
    text_told p = reports_of (ap (λ (es : List Entry). output 0 (text_of es)) (read_holds depth texts archive (zeroes contents_words) (zeroes body_bytes) c b n o e).1 ∙ rw (← e) refl) p

  pub refused_told : {c b : List ℕ} (k : ℕ) → outcome (refused k) c b ≡ read → {w w' : Lines} {r : Report} → Reports (refusalTold k) w w' r
      → Reports (database_told depth texts archive) w w' r
  unfolding database_told entries_told
  refused_told k e p = reports_of (ap (λ (x : Outcome). entries_told x.answer (plain (read_entries depth texts archive))) e) p
