-- What a run leaves is what the definition says: its verdict and the image of its entries. Assumes nothing.
use Rattle.std.specs.Prelude.{if◌then◌else◌}
use mathlib.Core.Bool.{Bool, true, false}
use mathlib.Core.List.{List, [], ◌∷◌, ◌++◌, append_assoc, append-nil}
use mathlib.Core.Path.{◌≡◌, refl, sym, ap, ◌∙◌}
use Prim.Native.Nat.{ℕ, zero, suc, ◌+◌, ◌-◌, ◌*◌, ◌≤◌, ◌<◌}
use native.Mathlib.Omega.{arith}
use lib.Dec.{leb, ltb}
use native.Mathlib.Nat.{sub-zero}
use lib.ListN.{length, take, drop, set, length-append, take-append-drop, drop_of_length-le}
use lib.Seq.{paste, set_at, append_snoc, take-append_seam, take-length, drop-append-add, drop-drop, take_at, length-take-le}
use Rattle.definition.specs.Lists.{zeroes, beyond}
use Rattle.definition.specs.Limits.{most_opens, most_entries, most_parts, body_bytes, contents_words, row_words}
use Rattle.definition.specs.Archive.{File}
use Rattle.definition.specs.Text.{Entry}
use Rattle.definition.specs.Including.{Event, opened, entered, entries_of, origin_of}
use Rattle.definition.specs.Image.{key_of, Sourced, bare, rows_of, store_of, contents_of, written_over, image_contents, image_bodies}
use Rattle.definition.specs.Reading as definition
use Rattle.definition.specs.Reading.{Verdict, within, past, size_of, judge, plain, sourced, start, left}
use Rattle.laws.proofs.Reading.{bare_sourced}
use Rattle.laws.proofs.Image.{length_rows}
use Rattle.image.specs.Running.{begun, World, world, Ran, went, stopped, stored, put, counted, open_one, and_then, run, closed_words, closed_bytes, finished}
use Rattle.image.specs.Rows.{row_start}
use Rattle.image.specs.declared.Totals.{Totals}
use Rattle.image.proofs.Runs.{RoomIn, then_went, put_went, open_went, step_room, run_room, size_is}

-- ---- The verdict

abbrev pub totals_of : Totals → definition.Totals
totals_of s = record { opens = s.opens; entries = s.entries; used = s.used }

unfoldable pub verdict_of : Ran → Verdict
verdict_of (went w) = within (totals_of w.totals)
verdict_of (stopped k c b) = past k

judged : (h : Bool) (k : ℕ) (c b : List ℕ) (r : Ran) (next : World → Ran) (j : Verdict) → verdict_of (and_then r next) ≡ j
    → verdict_of (and_then (if h then stopped k c b else r) next) ≡ (if h then past k else j)
unfolding verdict_of and_then
judged true k c b r next j e = refl
judged false k c b r next j e = e

pub run_judge : (fs : List File) (es : List Event) (w : World) → verdict_of (run fs w es) ≡ judge (totals_of w.totals) es
unfolding verdict_of and_then run judge put open_one
run_judge fs [] w = refl
run_judge fs (opened ch ∷ es) w =
    judged (leb most_opens w.totals.opens) 4 _ _ (went (world (counted w.totals) w.words w.bytes)) (λ v. run fs v es) _
    (run_judge fs es (world (counted w.totals) w.words w.bytes))
run_judge fs (entered ch e ∷ es) w =
    judged (ltb most_parts (length e.parts)) 5 _ _ _ (λ v. run fs v es) _
    (judged (leb most_entries w.totals.entries) 6 _ _ _ (λ v. run fs v es) _
    (judged (ltb body_bytes (w.totals.used + size_of e)) 7 _ _ (went (stored (origin_of fs ch) w e)) (λ v. run fs v es) _ (run_judge fs es (stored (origin_of fs ch) w e))))

-- ---- The buffers

four_sets : (p rest : List ℕ) (i u v x y : ℕ) → length p ≡ i → 4 ≤ length rest
    → set (set (set (set (p ++ rest) i u) (i + 1) v) (i + 2) x) (i + 3) y ≡ (p ++ u ∷ v ∷ x ∷ y ∷ []) ++ drop 4 rest
four_sets p [] i u v x y e h = absurd (omega arith)
four_sets p (a ∷ []) i u v x y e h = absurd (omega arith)
four_sets p (a ∷ b ∷ []) i u v x y e h = absurd (omega arith)
four_sets p (a ∷ b ∷ c ∷ []) i u v x y e h = absurd (omega arith)
four_sets p (a ∷ b ∷ c ∷ d ∷ rest) i u v x y e h =
    ap (λ (l : List ℕ). set (set (set l (i + 1) v) (i + 2) x) (i + 3) y) (set_at p a (b ∷ c ∷ d ∷ rest) u i e ∙ sym (append_snoc p u (b ∷ c ∷ d ∷ rest)))
    ∙ ap (λ (l : List ℕ). set (set l (i + 2) x) (i + 3) y)
    (set_at (p ++ u ∷ []) b (c ∷ d ∷ rest) v (i + 1) (simp length-append (omega arith)) ∙ sym (append_snoc (p ++ u ∷ []) v (c ∷ d ∷ rest)))
    ∙ ap (λ (l : List ℕ). set l (i + 3) y)
    (set_at ((p ++ u ∷ []) ++ v ∷ []) c (d ∷ rest) x (i + 2) (simp length-append (omega arith)) ∙ sym (append_snoc ((p ++ u ∷ []) ++ v ∷ []) x (d ∷ rest)))
    ∙ set_at (((p ++ u ∷ []) ++ v ∷ []) ++ x ∷ []) d rest y (i + 3) (simp length-append (omega arith))
    ∙ simp append_assoc

one_paste : (q rest b : List ℕ) (u n : ℕ) → length q ≡ u → length b ≡ n → paste (q ++ rest) u b n ≡ (q ++ b) ++ drop n rest
one_paste q rest b u n e f = rw (← e, ← f, take-append_seam q rest, take-length b, drop-append-add q rest (length b)) refl

-- what is written, p and q, stands before the rest of each buffer
pub record Laid (w : World) (p q restWords restBytes : List ℕ) : Type 0 where
  pub words_are : w.words ≡ p ++ restWords
  pub bytes_are : w.bytes ≡ q ++ restBytes
  pub p_long : length p ≡ row_start w.totals.entries
  pub q_long : length q ≡ w.totals.used

laid_is : {w : World} {p p' q q' r r' s s' : List ℕ} → p ≡ p' → q ≡ q' → r ≡ r' → s ≡ s' → Laid w p q r s → Laid w p' q' r' s'
laid_is e f g h l = rw (← e, ← f, ← g, ← h) l

laid_put : (origin : ℕ) (w : World) (e : Entry) (p q r s : List ℕ) → RoomIn w → w.totals.entries < most_entries → Laid w p q r s
    → Laid (stored origin w e) (p ++ w.totals.used ∷ length (key_of e.parts) ∷ length e.value ∷ origin ∷ []) (q ++ (key_of e.parts ++ e.value))
    (drop row_words r) (drop (size_of e) s)
laid_put origin w e p q r s room few l =
    let long = ap length l.words_are in
    record {
      words_are =
          rw l.words_are
          (four_sets p r (row_start w.totals.entries) w.totals.used (length (key_of e.parts)) (length e.value) origin l.p_long
          (omega (arith, room.words_long, long, length-append p r, l.p_long)));
      bytes_are = rw l.bytes_are (one_paste q s (key_of e.parts ++ e.value) w.totals.used (size_of e) l.q_long (size_is e));
      p_long = simp length-append (omega (arith, l.p_long));
      q_long = simp length-append (omega (arith, l.q_long));
    }

pub run_laid : (fs : List File) (es : List Event) (w v : World) (p q r s : List ℕ) → RoomIn w → Laid w p q r s → run fs w es ≡ went v
    → Laid v (p ++ rows_of w.totals.used (sourced fs (entries_of es))) (q ++ store_of (plain (entries_of es)))
    (drop (row_words * length (sourced fs (entries_of es))) r) (drop (length (store_of (plain (entries_of es)))) s)
unfolding run entries_of rows_of store_of
run_laid fs [] w v p q r s room l h =
    let e : w ≡ v = cc in
    rw (← e, append-nil p, append-nil q) l
run_laid fs (opened ch ∷ es) w v p q r s room l h =
    let a = then_went (open_one w) (λ u. run fs u es) v h in
    let o = open_went w a.0 a.1 in
    let w' = world (counted w.totals) w.words w.bytes in
    let l' : Laid w' p q r s = record { words_are = l.words_are; bytes_are = l.bytes_are; p_long = l.p_long; q_long = l.q_long } in
    run_laid fs es w' v p q r s (rw (← o.0) at (step_room fs w (opened ch) a.0 room a.1)) l' (rw (← o.0) at a.2)
run_laid fs (entered ch e ∷ es) w v p q r s room l h =
    let origin = origin_of fs ch in
    let a = then_went (put origin w e) (λ u. run fs u es) v h in
    let o = put_went origin w e a.0 a.1 in
    let xs = sourced fs (entries_of es) in
    let bs = store_of (plain (entries_of es)) in
    let k = key_of e.parts in
    let n : row_words + row_words * length xs ≡ row_words * suc (length xs) = omega arith in
    let used : w.totals.used + size_of e ≡ w.totals.used + length k + length e.value = omega arith in
    let size : size_of e + length bs ≡ length (k ++ e.value ++ bs) = sym (length-append (k ++ e.value) bs ∙ ap (λ (m : ℕ). m + length bs) (size_is e)) in
    laid_is
    (append_assoc p (w.totals.used ∷ length k ∷ length e.value ∷ origin ∷ []) (rows_of (w.totals.used + size_of e) xs)
    ∙ ap (λ (m : ℕ). p ++ (w.totals.used ∷ length k ∷ length e.value ∷ origin ∷ rows_of m xs)) used)
    (append_assoc q (k ++ e.value) bs)
    (drop-drop (row_words * length xs) row_words r ∙ ap (λ (m : ℕ). drop m r) n)
    (drop-drop (length bs) (size_of e) s ∙ ap (λ (m : ℕ). drop m s) size)
    (run_laid fs es (stored origin w e) v _ _ (drop row_words r) (drop (size_of e) s)
    (rw (← o.is) at (step_room fs w (entered ch e) a.0 room a.1))
    (laid_put origin w e p q r s room o.entries_less l)
    (rw (← o.is) at a.2))

-- ---- The end of a reading, in buffers that are just as long as an image

none_beyond : (n : ℕ) (xs : List ℕ) → length xs ≡ n → beyond n xs ≡ []
unfolding beyond
none_beyond n xs e = let h : length xs ≤ n = omega arith in drop_of_length-le xs h

-- k of n elements written, and the rest zeroed
pub zeroed : (n k : ℕ) (lent xs rest : List ℕ) → length lent ≡ n → length xs ≡ k → take k (xs ++ rest) ++ zeroes (n - k) ≡ written_over n lent xs
unfolding written_over
zeroed n k lent xs rest e f =
    rw (take_at xs rest k f, none_beyond n lent e, append-nil (xs ++ zeroes (n - length xs)), f) refl

pub headed : (c r rest : List ℕ) (a b : ℕ) → 2 ≤ length c → set (set ((take 2 c ++ r) ++ rest) 0 a) 1 b ≡ (a ∷ b ∷ r) ++ rest
headed [] r rest a b h = absurd (omega arith)
headed (x ∷ []) r rest a b h = absurd (omega arith)
headed (x ∷ y ∷ c) r rest a b h = refl

two_zeroes : (n : ℕ) → 2 ≤ n → zeroes n ≡ 0 ∷ 0 ∷ zeroes (n - 2)
unfolding zeroes
two_zeroes zero h = absurd (omega arith)
two_zeroes (suc zero) h = absurd (omega arith)
two_zeroes (suc (suc n)) h = let e : suc (suc n) - 2 ≡ n = omega arith in rw e refl

module _ (c b : List ℕ) (hc : length c ≡ contents_words) (hb : length b ≡ body_bytes) where
  pub room_first : RoomIn (world begun c b)
  room_first = record { opens_most = omega arith; entries_most = omega arith; used_most = omega arith; words_long = hc; bytes_long = hb }

  laid_first : Laid (world begun c b) (take 2 c) [] (drop 2 c) b
  laid_first = record {
    words_are = sym (take-append-drop 2 c);
    bytes_are = refl;
    p_long = length-take-le 2 c (omega arith);
    q_long = refl;
  }

  module _ (fs : List File) (es : List Event) (v : World) (e : run fs (world begun c b) es ≡ went v) where
    abbrev xs : List Sourced
    xs = sourced fs (entries_of es)

    abbrev bs : List ℕ
    bs = store_of (plain (entries_of es))

    laid : Laid v (take 2 c ++ rows_of 0 xs) bs (drop (row_words * length xs) (drop 2 c)) (drop (length bs) b)
    laid = run_laid fs es (world begun c b) v (take 2 c) [] (drop 2 c) b room_first laid_first e

    pub room_after : RoomIn v
    room_after = run_room fs es (world begun c b) v room_first e

    rows_long : length (take 2 c ++ rows_of 0 xs) ≡ 2 + row_words * length xs
    rows_long = rw (length-append (take 2 c) (rows_of 0 xs), length-take-le 2 c (omega arith), length_rows 0 xs) refl

    pub entries_are : length xs ≡ v.totals.entries
    entries_are = omega (arith, rows_long, laid.p_long)

    bytes_are : store_of (bare xs) ≡ bs
    bytes_are = ap store_of (bare_sourced fs (entries_of es))

    pub used_is : length bs ≡ v.totals.used
    used_is = laid.q_long

    contents_long : length (contents_of xs) ≡ row_start v.totals.entries
    unfolding contents_of
    contents_long = omega (arith, length_rows 0 xs, entries_are)

    words_closed : closed_words v.totals v.words ≡ image_contents xs c
    unfolding contents_of
    words_closed =
        rw (
          room_after.words_long,
          laid.words_are,
          headed c (rows_of 0 xs) (drop (row_words * length xs) (drop 2 c)) v.totals.entries v.totals.used (omega arith),
          ← entries_are,
          ← used_is,
          ← bytes_are,
        )
        (zeroed contents_words (2 + row_words * length xs) c (contents_of xs) (drop (row_words * length xs) (drop 2 c)) hc (omega (arith, length_rows 0 xs)))

    bytes_closed : closed_bytes v.totals v.bytes ≡ image_bodies (bare xs) b
    bytes_closed =
        rw (room_after.bytes_long, laid.bytes_are, bytes_are) (zeroed body_bytes v.totals.used b bs (drop (length bs) b) hb used_is)

  -- 4 to 7 leave the image of no entries
  no_words : zeroes contents_words ≡ image_contents [] c
  unfolding written_over contents_of rows_of store_of
  no_words = rw (none_beyond contents_words c hc, append-nil (0 ∷ 0 ∷ zeroes (contents_words - 2))) (two_zeroes contents_words (omega arith))

  no_bytes : zeroes body_bytes ≡ image_bodies [] b
  unfolding written_over store_of
  no_bytes = rw (none_beyond body_bytes b hb, append-nil (zeroes (body_bytes - 0)), sub-zero body_bytes) refl

  -- a run from the start, whatever it meets, comes to what the definition leaves
  pub finished_left : (fs : List File) (es : List Event) → finished (run fs (world begun c b) es) ≡ left (judge start es) (sourced fs (entries_of es)) c b
  unfolding finished left verdict_of
  finished_left fs es = at (run fs (world begun c b) es) refl
    where
      at : (r : Ran) → run fs (world begun c b) es ≡ r → finished r ≡ left (judge start es) (sourced fs (entries_of es)) c b
      at (went v) e = rw (← run_judge fs es (world begun c b), e, words_closed fs es v e, bytes_closed fs es v e) refl
      at (stopped k c' b') e = rw (← run_judge fs es (world begun c b), e, no_words, no_bytes) refl
