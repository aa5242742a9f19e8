-- Packs in any order: two readings of rearranged include lines, and the lookups in what they leave. Assumes nothing.
use mathlib.Core.Bool.{Bool, true, false, ◌||◌}
use mathlib.Core.List.{List, [], ◌∷◌, ◌++◌, map, flatten, append_assoc}
use mathlib.Core.Logic.{◌⊎◌, inl, inr}
use mathlib.Core.Path.{◌≡◌, refl, sym, ap, ◌∙◌}
use Prim.Native.Nat.{ℕ, ◌+◌}
use native.Mathlib.Omega.{arith}
use lib.Dec.{ltb}
use lib.ListN.{length, get_or, length-append, length-map, get_or-map}
use Rattle.definition.specs.Lists.{all, any}
use Rattle.definition.specs.Limits.{text_bytes}
use Rattle.definition.specs.Bytes.{newline}
use Rattle.definition.specs.Archive.{files_of}
use Rattle.definition.specs.Text.{Part, Entry}
use Rattle.definition.specs.Including.{Event, opened, entered, Entered, entries_of, opens_of}
use Rattle.definition.specs.Image.{too_short}
use Rattle.definition.specs.Reading.{accepted, Outcome, met, read_entries, plain, start, reading}
use Rattle.definition.specs.Lookup.{answer_of}
use Rattle.definition.specs.ThirdTerm.{entry_number}
use Rattle.definition.specs.Orders.{Rearranged, blank, values_under, are_includes, text_of_lines, OneFile, PacksInAnyOrder, last_of, Decides, OnlyWherePacksMeet}
use Rattle.laws.proofs.Lists.{and_true, and_both}
use Rattle.laws.proofs.Limits.{total, used_by, FewParts, InLimits}
use Rattle.laws.proofs.Reading.{Reads, accepted_reads, reads_outcome}
use Rattle.laws.proofs.ThirdTerm.{reading_image, reading_entries}
use Rattle.orders.proofs.Drawing.{Drawn, all_drawn}
use Rattle.orders.proofs.Agreeing.{under, under_reordered}
use Rattle.orders.proofs.Calls.{images_alike}
use Rattle.orders.proofs.IncludeLines.{line_adds, lines_met}
use Rattle.orders.proofs.Joined.{Each, each_get_d, each_at, each_drawn, joined, sum_drawn, each_joined}
use Rattle.orders.proofs.Meeting.{Stands, StandIn, decided}
use Rattle.orders.proofs.Packs.{entries_append, Agrees, line_gives, entries_joined}
use Rattle.orders.proofs.OnePack.{under_drawn}

-- ---- A rearrangement the other way round

pub turned : {A : Type 0} {d : A} {xs ys : List A} → Rearranged d xs ys → Rearranged d ys xs
turned {d} {ys} r = record {
  place = r.back;
  back = r.place;
  inside = r.inside_back;
  inside_back = r.inside;
  undone = r.undone_back;
  undone_back = r.undone;
  element = λ j h. sym (r.element (r.back j) (r.inside_back j h)) ∙ ap (λ (n : ℕ). get_or ys n d) (r.undone_back j h);
}

-- ---- What adds up

opens_append : (xs ys : List Event) → opens_of (xs ++ ys) ≡ opens_of xs + opens_of ys
unfolding opens_of
opens_append [] ys = omega arith
opens_append (opened ch ∷ xs) ys = omega (arith, opens_append xs ys)
opens_append (entered ch e ∷ xs) ys = opens_append xs ys

count_append : (xs ys : List Event) → length (entries_of (xs ++ ys)) ≡ length (entries_of xs) + length (entries_of ys)
count_append xs ys = ap length (entries_append xs ys) ∙ length-append (entries_of xs) (entries_of ys)

used_append : (xs ys : List Event) → used_by (xs ++ ys) ≡ used_by xs + used_by ys
unfolding total
used_append [] ys = omega arith
used_append (e ∷ xs) ys = omega (arith, used_append xs ys)

-- an event with few enough parts
abbrev Few : Event → Type 0
Few e = FewParts (e ∷ [])

few_each : (es : List Event) → FewParts es → Each Few es
unfolding FewParts Each
few_each [] h = tt
few_each (opened ch ∷ es) h = (tt, few_each es h)
few_each (entered ch e ∷ es) h = ((h.0, tt), few_each es h.1)

each_few : (es : List Event) → Each Few es → FewParts es
unfolding FewParts Each
each_few [] h = tt
each_few (opened ch ∷ es) h = each_few es h.1
each_few (entered ch e ∷ es) h = (h.0.0, each_few es h.1)

-- the text, line by line
text_joined : (ls : List (List ℕ)) → text_of_lines ls ≡ joined (λ l. l ++ newline ∷ []) ls
unfolding text_of_lines flatten
text_joined [] = refl
text_joined (l ∷ ls) =
    ap (λ (t : List ℕ). l ++ newline ∷ t) (text_joined ls) ∙ sym (append_assoc l (newline ∷ []) (joined (λ l. l ++ newline ∷ []) ls))

all_each : {A : Type 0} (p : A → Bool) (xs : List A) → all p xs ≡ true → Each (λ x. p x ≡ true) xs
unfolding all Each
all_each p [] h = tt
all_each p (x ∷ xs) h = let a = and_true (p x) (all p xs) h in (a.0, all_each p xs a.1)

each_all : {A : Type 0} (p : A → Bool) (xs : List A) → Each (λ x. p x ≡ true) xs → all p xs ≡ true
unfolding all Each
each_all p [] h = refl
each_all p (x ∷ xs) h = and_both h.0 (each_all p xs h.1)

-- ---- Two readings

module _ (depth : ℕ) (lines lines' : List (List ℕ)) (archive : List ℕ) (r : Rearranged [] lines lines') (h : are_includes lines ≡ true) where
  drawing : Drawn lines lines'
  drawing = all_drawn [] lines lines' r

  pub are_includes_lem : are_includes lines' ≡ true
  are_includes_lem = each_all _ lines' (each_drawn _ drawing (all_each _ lines h))

  abbrev text : List (List ℕ)
  text = text_of_lines lines ∷ []

  abbrev text' : List (List ℕ)
  text' = text_of_lines lines' ∷ []

  abbrev adds : List ℕ → List Event
  adds l = line_adds depth (files_of archive) l

  met_first : met depth text archive ≡ joined adds lines
  met_first = lines_met depth lines archive h

  met_second : met depth text' archive ≡ joined adds lines'
  met_second = lines_met depth lines' archive are_includes_lem

  sums : (w : List Event → ℕ) → ((xs ys : List Event) → w (xs ++ ys) ≡ w xs + w ys) → w (met depth text archive) ≡ w (met depth text' archive)
  sums w append = ap w met_first ∙ sum_drawn adds w append drawing ∙ ap w (sym met_second)

  limits_same : InLimits start (met depth text archive) → InLimits start (met depth text' archive)
  limits_same l = record {
    opens_most = omega (arith, l.opens_most, sums opens_of opens_append);
    entries_most = omega (arith, l.entries_most, sums (λ es. length (entries_of es)) count_append);
    used_most = omega (arith, l.used_most, sums used_by used_append);
    parts_most = each_few (met depth text' archive)
        (rw met_second (each_joined adds Few drawing (rw met_first at (few_each (met depth text archive) l.parts_most))));
  }

  long_same : length (text_of_lines lines) ≡ length (text_of_lines lines')
  long_same =
      ap length (text_joined lines) ∙ sum_drawn (λ l. l ++ newline ∷ []) length length-append drawing ∙ ap length (sym (text_joined lines'))

  module _ (contents bodies contents' bodies' : List ℕ) (long' : too_short contents' bodies' ≡ false) where
    abbrev first : Outcome
    first = reading depth text archive contents bodies

    abbrev second : Outcome
    second = reading depth text' archive contents' bodies'

    reads_same : Reads depth text archive contents bodies → Reads depth text' archive contents' bodies'
    unfolding any
    reads_same k = record {
      long = long';
      fit = ap (λ (n : ℕ). ltb text_bytes n || false) (sym long_same) ∙ k.fit;
      is_laid_out = k.is_laid_out;
      shallow = k.shallow;
      limits = limits_same k.limits;
    }

    pub accepted_same : (n m : ℕ) → first.answer ≡ accepted n m → second.answer ≡ accepted n m
    accepted_same n m e =
        let k = accepted_reads depth text archive contents bodies (rw e refl) in
        let entries : 0 + length (read_entries depth text archive) ≡ 0 + length (read_entries depth text' archive) =
        ap (λ (c : ℕ). 0 + c) (sums (λ es. length (entries_of es)) count_append) in
        let opens : 0 + opens_of (met depth text archive) ≡ 0 + opens_of (met depth text' archive) = ap (λ (c : ℕ). 0 + c) (sums opens_of opens_append) in
        ap (λ (o : Outcome). o.answer) (reads_outcome depth text' archive contents' bodies' (reads_same k))
        ∙ sym (λ i. accepted (entries i) (opens i))
        ∙ sym (ap (λ (o : Outcome). o.answer) (reads_outcome depth text archive contents bodies k))
        ∙ e

  gives : List ℕ → List Entered
  gives l = line_gives depth (files_of archive) l

  entries_first : read_entries depth text archive ≡ joined gives lines
  unfolding gives
  entries_first = ap entries_of met_first ∙ entries_joined depth (files_of archive) lines

  entries_second : read_entries depth text' archive ≡ joined gives lines'
  unfolding gives
  entries_second = ap entries_of met_second ∙ entries_joined depth (files_of archive) lines'

  -- each entry of the second stands in the first
  pub second_stands : StandIn (plain (read_entries depth text' archive)) (plain (read_entries depth text archive))
  second_stands j h =
      rw (plain_number (read_entries depth text' archive) j)
      (each_at Found (read_entries depth text' archive) nothing all_found j (rw (length-map (read_entries depth text' archive) (λ (x : Entered). x.entry)) at h))
    where
      nothing : Entered
      nothing = entry_number [] 0

      plain_number : (xs : List Entered) (i : ℕ) → get_or (plain xs) i blank ≡ (get_or xs i nothing).entry
      plain_number xs i = get_or-map (λ (x : Entered). x.entry) xs i nothing

      Found : Entered → Type 0
      Found x = Stands x.entry (plain (read_entries depth text archive))

      here : Each Found (read_entries depth text archive)
      here =
          each_get_d Found (read_entries depth text archive) nothing (λ i k.
          record {
            number = i;
            inside = rw (length-map (read_entries depth text archive) (λ (x : Entered). x.entry)) k;
            is = plain_number (read_entries depth text archive) i;
          })

      all_found : Each Found (read_entries depth text' archive)
      all_found = rw entries_second (each_joined gives Found drawing (rw entries_first at here))

  -- what stands under a key that comes through one file alone is the same
  pub under_same : (key : List Part) → OneFile key (read_entries depth text archive)
      → under key (plain (read_entries depth text archive)) ≡ under key (plain (read_entries depth text' archive))
  unfolding gives
  under_same key one =
      ap (λ (xs : List Entered). under key (plain xs)) entries_first
      ∙ under_drawn depth (files_of archive) key drawing (rw entries_first at agreeing)
      ∙ ap (λ (xs : List Entered). under key (plain xs)) (sym entries_second)
    where
      agreeing : Each (λ x. Each (Agrees key x) (read_entries depth text archive)) (read_entries depth text archive)
      agreeing =
          let d = entry_number [] 0 in
          each_get_d _ (read_entries depth text archive) d (λ i hi. each_get_d _ (read_entries depth text archive) d (λ j hj e f. one i j hi hj e f))

-- ---- The claims

pub packs_in_any_order : PacksInAnyOrder
packs_in_any_order depth lines lines' archive contents bodies contents' bodies' h r one long long' =
    let back = turned r in
    let h' = are_includes_lem depth lines lines' archive r h in
    let text = text_of_lines lines ∷ [] in
    let text' = text_of_lines lines' ∷ [] in (
      λ n m. (
        accepted_same depth lines lines' archive r h contents bodies contents' bodies' long' n m,
        accepted_same depth lines' lines archive back h' contents' bodies' contents bodies long n m,
      ),
      λ a most name class.
          let k = accepted_reads depth text archive contents bodies a in
          let k' = reads_same depth lines lines' archive r h contents bodies contents' bodies' long' k in
          images_alike _ _ _ _ (reading_image depth text archive contents bodies k) (reading_image depth text' archive contents' bodies' k')
          (rw (reading_entries depth text archive contents bodies k, reading_entries depth text' archive contents' bodies' k')
          (under_reordered _ _ (λ key. under_same depth lines lines' archive r h key (one key)))) most name class,
    )

pub only_where_packs_meet : OnlyWherePacksMeet
unfolding values_under
only_where_packs_meet depth lines lines' archive h r q ones =
    at (decided (plain xs) (plain ys) (second_stands depth lines' lines archive (turned r) h') (second_stands depth lines lines' archive r h) q)
  where
    xs : List Entered
    xs = read_entries depth (text_of_lines lines ∷ []) archive

    ys : List Entered
    ys = read_entries depth (text_of_lines lines' ∷ []) archive

    h' : are_includes lines' ≡ true
    h' = are_includes_lem depth lines lines' archive r h

    at : (answer_of (plain xs) q ≡ answer_of (plain ys) q) ⊎ ((key : List Part) × Decides key (plain xs) (plain ys) q)
        → answer_of (plain xs) q ≡ answer_of (plain ys) q
    at (inl e) = e
    at (inr d) =
        d.1.first
        ∙ ap (λ (es : List Entry). last_of (map (λ e. e.value) es)) (under_same depth lines lines' archive r h d.0 (ones d.0 d.1))
        ∙ sym d.1.second
