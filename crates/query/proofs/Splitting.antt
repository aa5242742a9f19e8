-- The invariant of `split_names`: the parts found so far, before those of the rest, are the text's. Assumes nothing.
use mathlib.Core.Bool.{false}
use mathlib.Core.List.{List, [], ◌∷◌, ◌++◌, map, map-append, append_assoc, append-nil}
use mathlib.Core.Option.{some, none}
use mathlib.Core.Path.{◌≡◌, refl, sym, ap, subst, ◌∙◌}
use Prim.Native.Nat.{ℕ, zero, suc, ◌+◌, ◌-◌, ◌≤◌, ◌<◌}
use native.Mathlib.Omega.{arith}
use lib.Dec.{eqb}
use lib.ListN.{length, take, drop, set, length-append, length-drop, length-map}
use lib.Seq.{take-append_seam}
use Rattle.definition.specs.Lists.{take_while, drop_while}
use Rattle.definition.specs.Bytes.{dot, is_name}
use Rattle.definition.specs.Query.{names_of}
use Rattle.laws.proofs.Lists.{drop_while_le, length_take_while_le, drop_run, part_rest, Suffix, suffix_whole, suffix_run}
use Rattle.query.specs.Splits.{part_starts, name_from, length_from}
use Rattle.query.specs.Shapes.{kept_over}
use Rattle.query.proofs.Splits.{kept_long, kept_more, kept_full}
use Rattle.query.proofs.Taken.{before, before_none_yet, before_one_more, names_end, names_stop, names_more, items_of, items_stop, items_more}
use Rattle.query.proofs.Starts.{starts_left, starts_more, starts_end}

-- ---- Parts that are found

-- the parts that begin at `found`, and then those of the rest
pub record PartsFound (text found rest : List ℕ) : Type 0 where
  pub suffix : Suffix rest text
  pub names : names_of text ≡ before (map (name_from text) found) (names_of rest)
  pub items : items_of text ≡ map (name_from text) found ++ items_of rest
  pub starts : part_starts text ≡ found ++ starts_left (length text) false rest

pub none_found : (text : List ℕ) → PartsFound text [] text
none_found text = record {
  suffix = suffix_whole text;
  names = before_none_yet (names_of text);
  items = refl;
  starts = let z : length text - length text ≡ 0 = omega arith in rw z refl;
}

-- what follows a part and its dots
abbrev pub after_part : List ℕ → List ℕ
after_part t = drop_while (eqb dot) (drop_while is_name t)

module _ {text found rest : List ℕ} (F : PartsFound text found rest) where
  pub found_more : 0 < length (take_while is_name rest) → PartsFound text (found ++ ((length text - length rest) ∷ [])) (after_part rest)
  found_more h = record {
    suffix = suffix_run (suffix_run F.suffix is_name) (eqb dot);
    names =
        let e : name_from text (length text - length rest) ≡ take_while is_name rest = ap (take_while is_name) F.suffix.same in
        F.names ∙ ap (before (map (name_from text) found)) (names_more rest h)
        ∙ before_one_more (map (name_from text) found) (take_while is_name rest) (names_of (after_part rest))
        ∙ rw (map-append (name_from text) found ((length text - length rest) ∷ []), e) refl;
    items =
        let e : name_from text (length text - length rest) ≡ take_while is_name rest = ap (take_while is_name) F.suffix.same in
        F.items ∙ rw (items_more rest h, map-append (name_from text) found ((length text - length rest) ∷ []), e, append_assoc) refl;
    starts = F.starts ∙ rw (starts_more (length text) rest F.suffix.most h, append_assoc) refl;
  }

  -- no more are found
  pub found_starts_lem : length (take_while is_name rest) ≡ 0 → take (length (items_of text)) (part_starts text) ≡ found
  found_starts_lem e =
      let n : length (items_of text) ≡ length found = rw (F.items, items_stop rest e, append-nil (map (name_from text) found)) (length-map found (name_from text)) in
      rw (n, F.starts) (take-append_seam found (starts_left (length text) false rest))

  pub found_stop : 0 < length rest → length (take_while is_name rest) ≡ 0 → names_of text ≡ none
  unfolding before
  found_stop h e = F.names ∙ ap (before (map (name_from text) found)) (names_stop rest h e)

  module _ (h : length rest ≤ 0) where
    pub found_all : part_starts text ≡ found
    found_all = F.starts ∙ rw (starts_end false (length text - length rest) rest h) (append-nil found)

    pub found_names : names_of text ≡ some (map (name_from text) (part_starts text))
    unfolding before
    found_names = rw found_all (F.names ∙ ap (before (map (name_from text) found)) (names_end rest h) ∙ ap some (append-nil (map (name_from text) found)))

pub part_shorter : (t : List ℕ) → length (after_part t) + length (take_while is_name t) ≤ length t
part_shorter t =
    omega (
      arith,
      drop_while_le (eqb dot) (drop_while is_name t),
      ap length (drop_run is_name t),
      length-drop (length (take_while is_name t)) t,
      length_take_while_le is_name t,
    )

-- a well-formed text has the names that begin at its parts
pub names_parts : (text : List ℕ) (ns : List (List ℕ)) → names_of text ≡ some ns → ns ≡ map (name_from text) (part_starts text)
names_parts text ns e = go (suc (length text)) [] text (omega arith) (none_found text)
  where
    ends : (found rest : List ℕ) → PartsFound text found rest → length (take_while is_name rest) ≡ 0 → ns ≡ map (name_from text) (part_starts text)
    ends found [] F z = let f = found_names F (omega arith) in cc
    ends found (c ∷ rest) F z = let f = found_stop F (omega arith) z in absurd (let y : ◌≡◌ {A = ℕ} 0 1 = cc in omega arith)

    go : (k : ℕ) (found rest : List ℕ) → length rest < k → PartsFound text found rest → ns ≡ map (name_from text) (part_starts text)
    go zero found rest h F = absurd (omega arith)
    go (suc k) found rest h F = by (length (take_while is_name rest)) refl (go k (found ++ ((length text - length rest) ∷ [])) (after_part rest))
      where
        by : (n : ℕ) → length (take_while is_name rest) ≡ n
            → (length (after_part rest) < k → PartsFound text (found ++ ((length text - length rest) ∷ [])) (after_part rest) → ns ≡ map (name_from text) (part_starts text))
            → ns ≡ map (name_from text) (part_starts text)
        by zero z ih = ends found rest F z
        by (suc n) z ih = ih (omega (arith, part_shorter rest)) (found_more F (omega arith))

-- ---- The loop

-- `starts` and `lengths` have the parts that are found, as many as there is room for, in the place of what was held
pub record Splitting (text held held-lengths starts lengths : List ℕ) (count : ℕ) (rest : List ℕ) : Type 0 where
  pub found : List ℕ
  pub parts_found : PartsFound text found rest
  pub counted : length found ≡ count
  pub most : count + length rest ≤ length text
  pub kept : starts ≡ kept_over found held
  pub kept_lengths_lem : lengths ≡ kept_over (map (length_from text) found) held-lengths

pub begun : (text held held-lengths : List ℕ) → Splitting text held held-lengths held held-lengths 0 text
unfolding kept_over
begun text held held-lengths = record { found = []; parts_found = none_found text; counted = refl; most = omega arith; kept = refl; kept_lengths_lem = refl }

module _ {text held held-lengths starts lengths : List ℕ} {count : ℕ} {rest : List ℕ} (S : Splitting text held held-lengths starts lengths count rest) where
  pub as_long : length starts ≡ length held
  as_long = ap length S.kept ∙ kept_long S.found held

  pub lengths_as_long : length lengths ≡ length held-lengths
  lengths_as_long = ap length S.kept_lengths_lem ∙ kept_long (map (length_from text) S.found) held-lengths

  -- a turn: n bytes of a name, and what is left after its dots
  module _ {n : ℕ} (e : n ≡ length (take_while is_name rest)) (z : (n ≡ 0 → ⊥)) {left : List ℕ} (d : left ≡ drop_while (eqb dot) (take (length rest - n) (drop n rest))) where
    left_is : left ≡ after_part rest
    left_is = d ∙ rw (part_rest rest n, e, drop_run is_name rest) refl

    pub shorter : length left + n ≤ length rest
    shorter = omega (arith, ap length left_is, part_shorter rest)

    abbrev start : ℕ
    start = length text - length rest

    -- the lengths with that of the part that is found
    with_length : map (length_from text) (S.found ++ (start ∷ [])) ≡ map (length_from text) S.found ++ n ∷ []
    with_length =
        let f : n ≡ length_from text start = e ∙ sym (ap (λ (u : List ℕ). length (take_while is_name u)) S.parts_found.suffix.same) in
        map-append (length_from text) S.found (start ∷ []) ∙ rw (← f) refl

    counts : length (map (length_from text) S.found) ≡ count
    counts = length-map S.found (length_from text) ∙ S.counted

    next : (starts' lengths' : List ℕ) → starts' ≡ kept_over (S.found ++ start ∷ []) held → lengths' ≡ kept_over (map (length_from text) S.found ++ n ∷ []) held-lengths
        → Splitting text held held-lengths starts' lengths' (count + 1) left
    next starts' lengths' k l = record {
      found = S.found ++ (start ∷ []);
      parts_found = subst (PartsFound text (S.found ++ (start ∷ []))) (sym left_is) (found_more S.parts_found (omega (arith, z)));
      counted = length-append S.found (start ∷ []) ∙ omega (arith, S.counted);
      most = omega (arith, S.most, shorter);
      kept = k;
      kept_lengths_lem = l ∙ ap (λ (m : List ℕ). kept_over m held-lengths) (sym with_length);
    }

    module _ (same : length held-lengths ≡ length held) where
      pub past : length held ≤ count → Splitting text held held-lengths starts lengths (count + 1) left
      past h = next starts lengths (S.kept ∙ sym (kept_full S.found held start (omega (arith, S.counted))))
          (S.kept_lengths_lem ∙ sym (kept_full (map (length_from text) S.found) held-lengths n (omega (arith, counts))))

      pub more : count < length held → Splitting text held held-lengths (set starts count start) (set lengths count n) (count + 1) left
      more h = next _ _ (rw (S.kept, ← S.counted) (sym (kept_more S.found held start (omega (arith, S.counted)))))
          (rw (S.kept_lengths_lem, ← counts) (sym (kept_more (map (length_from text) S.found) held-lengths n (omega (arith, counts)))))
