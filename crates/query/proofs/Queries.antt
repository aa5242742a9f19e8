-- What the parses of name and class say of the query. Assumes nothing.
use Rattle.std.specs.Prelude as std
use Rattle.std.specs.Prelude.{if◌then◌else◌, Result, Ok, Err, Some, None}
use mathlib.Core.Bool.{Bool, true, false, ◌||◌}
use mathlib.Core.List.{List, [], map}
use mathlib.Core.Option.{Option, some, none}
use mathlib.Core.Path.{◌≡◌, refl, sym, ap, subst, ◌∙◌}
use Prim.Native.Nat.{ℕ, ◌≤◌, ◌<◌}
use native.Mathlib.Omega.{arith}
use lib.Dec.{ltb}
use lib.ListN.{length, take, length-map}
use lib.Seq.{take_all}
use borrow.Author.Tests.{lt-ltb, le-ltb, ltb-false}
use Rattle.definition.specs.Lists.{take_while, zeroes}
use Rattle.definition.specs.Limits.{query_parts}
use Rattle.definition.specs.Bytes.{is_name}
use Rattle.laws.proofs.Image.{length_zeroes}
use Rattle.definition.specs.Query.{Position, positions, malformed, past_limit, positions_of, names_of, Bounds, counted_query, query_within}
use Rattle.query.specs.Splits.{part_starts, name_from, length_from, names_in, Inside, starts_of, lengths_of, SplitIn}
use Rattle.query.specs.Shapes.{bounds_of, counted_fault, fault_within, parsed_as, fault_of, parsed_names, kept_over, found_starts, kept_starts, kept_lengths, no_parts, counted_as, split_over, split_of, split_names, lent_both, worse, both_faults, told_of, both_of, by_fault, asked, BothIn}
use Rattle.refusal.specs.declared.Refusal.{Refusal}
use Rattle.query.specs.declared.Fault.{Fault}
use Rattle.query.specs.declared.Fault.TheVariants.{Malformed, Many, Long}
use Rattle.query.specs.declared.Split.{Split}
use Rattle.query.proofs.Taken.{items_of, items_all}
use Rattle.query.proofs.Splits.{names_from, parts_inside, kept_long, kept_front}
use Rattle.query.proofs.Starts.{starts_inside, part_some}
use Rattle.query.proofs.Splitting.{found_stop, found_all, found_names, found_starts_lem, names_parts, Splitting}

-- ---- What is wrong with a text, at any bounds

module _ (most : Bounds) (t : List ℕ) where
  fault_long : most.bytes < length t → fault_within most t ≡ some Long
  unfolding fault_within
  fault_long h = rw (lt-ltb most.bytes (length t) h) refl

  module _ (h : length t ≤ most.bytes) where
    fault_counted : fault_within most t ≡ counted_fault most.parts (names_of t)
    unfolding fault_within
    fault_counted = rw (le-ltb most.bytes (length t) h) refl

    fault_malformed : names_of t ≡ none → fault_within most t ≡ some Malformed
    unfolding counted_fault
    fault_malformed e = fault_counted ∙ rw e refl

    module _ (ns : List (List ℕ)) (e : names_of t ≡ some ns) where
      fault_many : most.parts < length ns → fault_within most t ≡ some Many
      unfolding counted_fault
      fault_many k = fault_counted ∙ rw (e, lt-ltb most.parts (length ns) k) refl

      fault_none : length ns ≤ most.parts → fault_within most t ≡ none
      unfolding counted_fault
      fault_none k = fault_counted ∙ rw (e, le-ltb most.parts (length ns) k) refl

-- ---- A text's parse

parsed_is : (most : Bounds) (t : List ℕ) (s : Option Fault) → fault_within most t ≡ s → parsed_as s (length (part_starts t)) ≡ parsed_names most t
unfolding parsed_names
parsed_is most t s e = rw e refl

-- what is parsed with that fault, or to that count
pub fault_parsed : (most : Bounds) (t : List ℕ) (f : Fault) → Err f ≡ parsed_names most t → fault_within most t ≡ some f
unfolding parsed_names
fault_parsed most t f = at (fault_within most t)
  where
    at : (s : Option Fault) → Err f ≡ parsed_as s (length (part_starts t)) → s ≡ some f
    at none e = absurd (let z : ◌≡◌ {A = ℕ} 0 1 = cc in omega arith)
    at (some g) e = let z : g ≡ f = cc in ap some z

pub count_parsed : (most : Bounds) (t : List ℕ) (n : ℕ) → Ok n ≡ parsed_names most t → (fault_within most t ≡ none) × (n ≡ length (part_starts t))
unfolding parsed_names
count_parsed most t n = at (fault_within most t)
  where
    at : (s : Option Fault) → Ok n ≡ parsed_as s (length (part_starts t)) → (s ≡ none) × (n ≡ length (part_starts t))
    at none e = (refl, cc)
    at (some g) e = absurd (let z : ◌≡◌ {A = ℕ} 0 1 = cc in omega arith)

module _ (bytes : ℕ) (t held : List ℕ) (h : bytes < length t) where
  pub parsed_long : Err Long ≡ parsed_names (bounds_of bytes held) t
  parsed_long = parsed_is (bounds_of bytes held) t (some Long) (fault_long (bounds_of bytes held) t h)

  pub kept_none : held ≡ kept_starts bytes t held
  unfolding kept_starts
  kept_none = rw (lt-ltb bytes (length t) h) refl

  pub lengths_none : held ≡ kept_lengths bytes t held
  unfolding kept_lengths
  lengths_none = rw (lt-ltb bytes (length t) h) refl

-- where the loop of `split_names` ends
module _ (bytes : ℕ) {t held held-lengths starts lengths : List ℕ} {count : ℕ} {rest : List ℕ} (S : Splitting t held held-lengths starts lengths count rest)
    (h : length t ≤ bytes) where
  module _ (e : length (take_while is_name rest) ≡ 0) where
    pub kept_found : starts ≡ kept_starts bytes t held
    unfolding kept_starts found_starts
    kept_found = S.kept ∙ rw (le-ltb bytes (length t) h, found_starts_lem S.parts_found e) refl

    pub lengths_found : lengths ≡ kept_lengths bytes t held-lengths
    unfolding kept_lengths found_starts
    lengths_found = S.kept_lengths_lem ∙ rw (le-ltb bytes (length t) h, found_starts_lem S.parts_found e) refl

  pub parsed_malformed : 0 < length rest → length (take_while is_name rest) ≡ 0 → Err Malformed ≡ parsed_names (bounds_of bytes held) t
  parsed_malformed k e = parsed_is (bounds_of bytes held) t (some Malformed) (fault_malformed (bounds_of bytes held) t h (found_stop S.parts_found k e))

  module _ (k : length rest ≤ 0) where
    count_starts : length (part_starts t) ≡ count
    count_starts = ap length (found_all S.parts_found k) ∙ S.counted

    count_names : length (map (name_from t) (part_starts t)) ≡ count
    count_names = length-map (part_starts t) (name_from t) ∙ count_starts

    pub parsed_many : length held < count → Err Many ≡ parsed_names (bounds_of bytes held) t
    parsed_many m = parsed_is (bounds_of bytes held) t (some Many) (fault_many (bounds_of bytes held) t h _ (found_names S.parts_found k) (omega (arith, count_names)))

    pub parsed_good : count ≤ length held → Ok count ≡ parsed_names (bounds_of bytes held) t
    parsed_good m =
        ap (λ (c : ℕ). Ok c) (sym count_starts)
        ∙ parsed_is (bounds_of bytes held) t none (fault_none (bounds_of bytes held) t h _ (found_names S.parts_found k) (omega (arith, count_names)))

kept_as_long : (bytes : ℕ) (t held : List ℕ) → length (kept_starts bytes t held) ≡ length held
unfolding kept_starts
kept_as_long bytes t held = at (ltb bytes (length t))
  where
    at : (b : Bool) → length (if b then held else kept_over (found_starts t) held) ≡ length held
    at true = refl
    at false = kept_long (found_starts t) held

lengths_as_long : (bytes : ℕ) (t held : List ℕ) → length (kept_lengths bytes t held) ≡ length held
unfolding kept_lengths
lengths_as_long bytes t held = at (ltb bytes (length t))
  where
    at : (b : Bool) → length (if b then held else kept_over (map (length_from t) (found_starts t)) held) ≡ length held
    at true = refl
    at false = kept_long (map (length_from t) (found_starts t)) held

-- ---- What a parse tells, at any bounds

-- a text has that fault, or none and these parts
pub record Told (most : Bounds) (t : List ℕ) (s : Option Fault) (starts lengths : List ℕ) : Type 0 where
  pub fault : s ≡ fault_within most t
  pub names : s ≡ none → names_of t ≡ some (names_in t starts lengths)
  pub inside : s ≡ none → most.parts ≤ query_parts → Inside t starts lengths

-- a good text: its parts, and what is kept of them
record GoodText (bytes : ℕ) (t held held-lengths : List ℕ) : Type 0 where
  pub names : names_of t ≡ some (names_in t (part_starts t) (map (length_from t) (part_starts t)))
  pub few : length (part_starts t) ≤ length held
  pub kept : take (length (part_starts t)) (kept_starts bytes t held) ≡ part_starts t
  pub kept_lengths_lem : take (length (part_starts t)) (kept_lengths bytes t held-lengths) ≡ map (length_from t) (part_starts t)

module _ (bytes : ℕ) (t held held-lengths : List ℕ) (same : length held-lengths ≡ length held) where
  good_text : length t ≤ bytes → (ns : List (List ℕ)) → names_of t ≡ some ns → length ns ≤ length held → GoodText bytes t held held-lengths
  unfolding kept_starts kept_lengths found_starts
  good_text h ns e w = record {
    names = e ∙ ap some (parts ∙ sym (names_from t (part_starts t)));
    few = few;
    kept = rw (le-ltb bytes (length t) h, all) (kept_front (part_starts t) held few);
    kept_lengths_lem =
        let n = length-map (part_starts t) (length_from t) in
        rw (le-ltb bytes (length t) h, all, ← n) (kept_front (map (length_from t) (part_starts t)) held-lengths (omega (arith, few)));
  }
    where
      parts : ns ≡ map (name_from t) (part_starts t)
      parts = names_parts t ns e

      count : length ns ≡ length (part_starts t)
      count = ap length parts ∙ length-map (part_starts t) (name_from t)

      few : length (part_starts t) ≤ length held
      few = omega (arith, count)

      all : take (length (items_of t)) (part_starts t) ≡ part_starts t
      all = take_all (length (items_of t)) (part_starts t) (omega (arith, ap length (items_all t ns e), count))

  -- a text of that shape
  good_within : fault_within (bounds_of bytes held) t ≡ none → GoodText bytes t held held-lengths
  unfolding fault_within counted_fault
  good_within = at (ltb bytes (length t)) refl (names_of t) refl
    where
      few : (ns : List (List ℕ)) → length t ≤ bytes → names_of t ≡ some ns → (c : Bool) → ltb (length held) (length ns) ≡ c → (if c then some Many else none) ≡ none → GoodText bytes t held held-lengths
      few ns h f true k e = absurd (let z : ◌≡◌ {A = ℕ} 0 1 = cc in omega arith)
      few ns h f false k e = good_text h ns f (ltb-false (length held) (length ns) k)

      at : (c : Bool) → ltb bytes (length t) ≡ c → (o : Option (List (List ℕ))) → names_of t ≡ o → (if c then some Long else counted_fault (length held) o) ≡ none → GoodText bytes t held held-lengths
      at true h o f e = absurd (let z : ◌≡◌ {A = ℕ} 0 1 = cc in omega arith)
      at false h none f e = absurd (let z : ◌≡◌ {A = ℕ} 0 1 = cc in omega arith)
      at false h (some ns) f e = few ns (ltb-false bytes (length t) h) f (ltb (length held) (length ns)) refl e

-- ---- A text's parts by value

-- a parse's parts; none where it finds a fault
abbrev pub starts_in : {n : ℕ} → Result (Split n) Fault → List ℕ
starts_in (Ok s) = starts_of s
starts_in (Err f) = []

abbrev pub lengths_in : {n : ℕ} → Result (Split n) Fault → List ℕ
lengths_in (Ok s) = lengths_of s
lengths_in (Err f) = []

module _ (bytes parts : ℕ) (t : List ℕ) where
  abbrev most : Bounds
  most = record { bytes = bytes; parts = parts }

  lent : bounds_of bytes (zeroes parts) ≡ most
  lent = ap (λ (n : ℕ). record { bytes = bytes; parts = n }) (length_zeroes parts)

  -- its text
  good : fault_within most t ≡ none → GoodText bytes t (zeroes parts) (zeroes parts)
  good e = good_within bytes t (zeroes parts) (zeroes parts) refl (rw lent e)

  module _ (n : Result (Split parts) Fault) (e : n ≡ split_names bytes parts t) where
    pub told : Told most t (fault_of n) (starts_in n) (lengths_in n)
    unfolding split_names split_of
    told = rw e (at (fault_within most t) refl)
      where
        made : Option Fault → Result (Split parts) Fault
        made s = parsed_as s (split_of bytes parts t)

        at : (s : Option Fault) → fault_within most t ≡ s → Told most t (fault_of (made s)) (starts_in (made s)) (lengths_in (made s))
        at none f = record {
          fault = sym f;
          names = λ g. rw ((good f).kept, (good f).kept_lengths_lem) (good f).names;
          inside = λ g w. rw ((good f).kept, (good f).kept_lengths_lem)
              (parts_inside t (part_starts t) (omega (arith, (good f).few, length_zeroes parts)) (λ i h. omega (arith, starts_inside false 0 t i h)) (part_some t));
        }
        at (some x) f = record {
          fault = sym f;
          names = λ g. absurd (let z : ◌≡◌ {A = ℕ} 0 1 = cc in omega arith);
          inside = λ g w. absurd (let z : ◌≡◌ {A = ℕ} 0 1 = cc in omega arith);
        }

    -- there is room for the parts that are counted
    pub counted_within : (s : Split parts) → n ≡ Ok s → (s.count ≤ length s.starts) × (s.count ≤ length s.lengths)
    unfolding split_names split_of
    counted_within s k = at (fault_within most t) refl (sym k ∙ e)
      where
        at : (x : Option Fault) → fault_within most t ≡ x → Ok s ≡ parsed_as x (split_of bytes parts t) → (s.count ≤ length s.starts) × (s.count ≤ length s.lengths)
        at none f g =
            let same : s ≡ split_of bytes parts t = cc in
            rw same (omega (arith, (good f).few, kept_as_long bytes t (zeroes parts)), omega (arith, (good f).few, lengths_as_long bytes t (zeroes parts)))
        at (some x) f g = absurd (let z : ◌≡◌ {A = ℕ} 0 1 = cc in omega arith)

-- ---- Name and class

first_long : (b : Option Fault) → both_faults (some Long) b ≡ some Long
first_long none = refl
first_long (some g) = refl

second_long : (a : Option Fault) → both_faults a (some Long) ≡ some Long
second_long none = refl
second_long (some Malformed) = refl
second_long (some Many) = refl
second_long (some Long) = refl

-- by what the parses of the two tell
module _ (most : Bounds) (name class : List ℕ) {a b : Option Fault} {ns nl cs cl : List ℕ} (N : Told most name a ns nl) (C : Told most class b cs cl) where
  abbrev ps : List Position
  ps = positions_of (names_in name ns nl) (names_in class cs cl)

  -- neither is too long
  counted_is : (o p : Option (List (List ℕ))) → (counted_fault most.parts o ≡ none → o ≡ some (names_in name ns nl)) → (counted_fault most.parts p ≡ none → p ≡ some (names_in class cs cl))
      → counted_query most o p ≡ by_fault (both_faults (counted_fault most.parts o) (counted_fault most.parts p)) ps
  unfolding counted_query counted_fault by_fault
  counted_is none none f g = refl
  counted_is none (some cs) f g = at (ltb most.parts (length cs))
    where
      at : (b : Bool) → malformed ≡ by_fault (both_faults (some Malformed) (if b then some Many else none)) ps
      at true = refl
      at false = refl
  counted_is (some ns) none f g = at (ltb most.parts (length ns))
    where
      at : (b : Bool) → malformed ≡ by_fault (both_faults (if b then some Many else none) (some Malformed)) ps
      at true = refl
      at false = refl
  counted_is (some ms) (some ds) f g = at (ltb most.parts (length ms)) f (ltb most.parts (length ds)) g
    where
      at : (a : Bool) → ((if a then some Many else none) ≡ none → some ms ≡ some (names_in name ns nl)) → (d : Bool) → ((if d then some Many else none) ≡ none → some ds ≡ some (names_in class cs cl))
          → (if a || d then past_limit 10 else positions (positions_of ms ds)) ≡ by_fault (both_faults (if a then some Many else none) (if d then some Many else none)) ps
      at true h true k = refl
      at true h false k = refl
      at false h true k = refl
      at false h false k =
          let n = h refl in
          let c = k refl in
          let n' : ms ≡ names_in name ns nl = cc in
          let c' : ds ≡ names_in class cs cl = cc in
          rw (n', c') refl

  query_faults : query_within most name class ≡ by_fault (both_faults (fault_within most name) (fault_within most class)) ps
  unfolding query_within fault_within by_fault
  query_faults = at (ltb most.bytes (length name)) refl (ltb most.bytes (length class)) refl
    where
      at : (l : Bool) → ltb most.bytes (length name) ≡ l → (m : Bool) → ltb most.bytes (length class) ≡ m
          → (if l || m then past_limit 9 else counted_query most (names_of name) (names_of class))
          ≡ by_fault (both_faults (if l then some Long else counted_fault most.parts (names_of name)) (if m then some Long else counted_fault most.parts (names_of class))) ps
      at true h m k = rw (first_long (if m then some Long else counted_fault most.parts (names_of class))) refl
      at false h true k = rw (second_long (counted_fault most.parts (names_of name))) refl
      at false h false k =
          counted_is (names_of name) (names_of class)
          (λ g. N.names (N.fault ∙ rw h g)) (λ g. C.names (C.fault ∙ rw k g))

  pub query_is : query_within most name class ≡ by_fault (both_faults a b) ps
  query_is = query_faults ∙ rw (N.fault, C.fault) refl

-- ---- A query

module _ (bytes parts : ℕ) (name class : List ℕ) (w : parts ≤ query_parts) where
  -- what is said of a query with that fault
  told_fault : (f : Fault) (qs : List Position) → asked {n = parts} name class (told_of f) ≡ by_fault (some f) qs
  unfolding by_fault
  told_fault Malformed qs = refl
  told_fault Many qs = refl
  told_fault Long qs = refl

  pub query_asked : (a b : Result (Split parts) Fault) → a ≡ split_names bytes parts name → b ≡ split_names bytes parts class
      → asked name class (both_of a b) ≡ query_within (record { bytes = bytes; parts = parts }) name class
  query_asked a b e k =
      by a b ∙ sym (query_is (record { bytes = bytes; parts = parts }) name class (told bytes parts name a e) (told bytes parts class b k))
    where
      by : (a b : Result (Split parts) Fault)
          → asked name class (both_of a b) ≡ by_fault (both_faults (fault_of a) (fault_of b)) (positions_of (names_in name (starts_in a) (lengths_in a)) (names_in class (starts_in b) (lengths_in b)))
      by (Ok s) (Ok u) = unfold by_fault in refl
      by (Ok s) (Err g) = told_fault g _
      by (Err f) (Ok u) = told_fault f _
      by (Err f) (Err g) = told_fault (worse f g) _

  split_in : (t : List ℕ) (a : Result (Split parts) Fault) → a ≡ split_names bytes parts t → (s : Split parts) → a ≡ Ok s → SplitIn t s
  split_in t a e s k = record {
    inside = (rw k at (told bytes parts t a e)).inside refl w;
    starts_held = (counted_within bytes parts t a e s k).0;
    lengths_held = (counted_within bytes parts t a e s k).1;
  }

  none_in : (f : Fault) → BothIn {n = parts} name class (told_of f)
  none_in Malformed = tt
  none_in Many = tt
  none_in Long = tt

  pub both_in : (a b : Result (Split parts) Fault) → a ≡ split_names bytes parts name → b ≡ split_names bytes parts class → BothIn name class (both_of a b)
  both_in (Ok s) (Ok u) e k = (split_in name (Ok s) e s refl, split_in class (Ok u) k u refl)
  both_in (Ok s) (Err g) e k = none_in g
  both_in (Err f) (Ok u) e k = none_in f
  both_in (Err f) (Err g) e k = none_in (worse f g)

-- ---- Parts in structs that are lent

-- what a parse gives, by value
abbrev by_value : {n : ℕ} → Result (Unit {0}) Fault → Split n → Result (Split n) Fault
by_value (Ok u) s = Ok s
by_value (Err f) s = Err f

lent_told : {n : ℕ} (s u : Split n) (f : Fault) → lent_both (told_of f) s u ≡ told_of f
lent_told s u Malformed = refl
lent_told s u Many = refl
lent_told s u Long = refl

both_by_value : {n : ℕ} (a b : Result (Unit {0}) Fault) (s u : Split n) → lent_both (both_of a b) s u ≡ both_of (by_value a s) (by_value b u)
both_by_value (Ok x) (Ok y) s u = refl
both_by_value (Ok x) (Err g) s u = lent_told s u g
both_by_value (Err f) (Ok y) s u = lent_told s u f
both_by_value (Err f) (Err g) s u = lent_told s u (worse f g)

module _ (bytes parts : ℕ) where
  -- what `parse_query` says of a text, over no parts
  abbrev Lent : (t : List ℕ) (a : Result (Unit {0}) Fault) (s : Split parts) → Type 0
  Lent t a s = (a ≡ parsed_as (fault_within (bounds_of bytes (zeroes parts)) t) tt) × (s ≡ split_over bytes t (no_parts parts))

  lent_is : (t : List ℕ) {a : Result (Unit {0}) Fault} {s : Split parts} → Lent t a s → by_value a s ≡ split_names bytes parts t
  unfolding split_names split_of split_over
  lent_is t e = rw (e.0, e.1, ← lent bytes parts t) (at (fault_within (bounds_of bytes (zeroes parts)) t))
    where
      at : (f : Option Fault)
          → by_value {n = parts} (parsed_as f tt) (record { starts = kept_starts bytes t (zeroes parts); lengths = kept_lengths bytes t (zeroes parts); count = counted_as f (length (part_starts t)) })
          ≡ parsed_as f (record { starts = kept_starts bytes t (zeroes parts); lengths = kept_lengths bytes t (zeroes parts); count = length (part_starts t) })
      at none = refl
      at (some f) = refl

  -- a good text's parts lie in it
  pub lent_in : (t : List ℕ) {a : Result (Unit {0}) Fault} {s : Split parts} → a ≡ parsed_as (fault_within (bounds_of bytes (zeroes parts)) t) tt → s ≡ split_over bytes t (no_parts parts)
      → parts ≤ query_parts → a ≡ Ok tt → SplitIn t s
  lent_in t {a} {s} e k w z = split_in bytes parts t t w t (by_value a s) (lent_is t (e, k)) s (rw z refl)

  module _ (name class : List ℕ) {a b : Result (Unit {0}) Fault} {s u : Split parts}
      (name-fault : a ≡ parsed_as (fault_within (bounds_of bytes (zeroes parts)) name) tt) (name-split : s ≡ split_over bytes name (no_parts parts))
      (class-fault : b ≡ parsed_as (fault_within (bounds_of bytes (zeroes parts)) class) tt) (class-split : u ≡ split_over bytes class (no_parts parts))
      {r : Result (std.Option (Unit {0} × Unit {0})) Refusal} (e : r ≡ both_of a b) where
    by_values : lent_both r s u ≡ both_of (by_value a s) (by_value b u)
    by_values = ap (λ (x : Result (std.Option (Unit {0} × Unit {0})) Refusal). lent_both x s u) e ∙ both_by_value a b s u

    pub lent_said : lent_both r s u ≡ both_of (split_names bytes parts name) (split_names bytes parts class)
    lent_said = by_values ∙ rw (lent_is name (name-fault, name-split), lent_is class (class-fault, class-split)) refl

    pub lent_asked : parts ≤ query_parts → asked name class (lent_both r s u) ≡ query_within (record { bytes = bytes; parts = parts }) name class
    lent_asked w = ap (asked name class) by_values ∙ query_asked bytes parts name class w _ _ (lent_is name (name-fault, name-split)) (lent_is class (class-fault, class-split))

    pub lent_inside : parts ≤ query_parts → BothIn name class (lent_both r s u)
    lent_inside w = subst (BothIn name class) (sym by_values) (both_in bytes parts name class w _ _ (lent_is name (name-fault, name-split)) (lent_is class (class-fault, class-split)))

never_told : (f : Fault) (p : Unit {0} × Unit {0}) → told_of {A = Unit {0} × Unit {0}} f ≡ Ok (Some p) → ⊥
never_told Malformed p e = let z : ◌≡◌ {A = ℕ} 0 1 = cc in omega arith
never_told Many p e = let z : ◌≡◌ {A = ℕ} 0 1 = cc in omega arith
never_told Long p e = let z : ◌≡◌ {A = ℕ} 0 1 = cc in omega arith

-- where both are good, so is each
pub both_good : (a b : Result (Unit {0}) Fault) (p : Unit {0} × Unit {0}) → both_of a b ≡ Ok (Some p) → (a ≡ Ok tt) × (b ≡ Ok tt)
both_good (Ok x) (Ok y) p e = (refl, refl)
both_good (Ok x) (Err g) p e = absurd (never_told g p e)
both_good (Err f) (Ok y) p e = absurd (never_told f p e)
both_good (Err f) (Err g) p e = absurd (never_told (worse f g) p e)
