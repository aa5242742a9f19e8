-- A key's last part is a name, stands at the key's end, and must meet the last position. Assumes nothing.
use mathlib.Core.Bool.{Bool, true, false, ◌&&◌, ◌||◌}
use mathlib.Core.List.{List, [], ◌∷◌, ◌++◌, append_assoc, append-nil}
use mathlib.Core.Option.{none}
use mathlib.Core.Path.{◌≡◌, refl, sym, ap, ◌∙◌}
use Prim.Native.Nat.{ℕ, suc, ◌+◌, ◌-◌, ◌≤◌, ◌<◌, max}
use native.Mathlib.Omega.{arith}
use native.Mathlib.Decide.{dec_lt}
use lib.Dec.{eqb}
use lib.ListN.{length, get_or, take, drop, length-append, length-drop}
use lib.Seq.{get_or-append_seam, drop-append-add, get_or-drop}
use borrow.Author.Tests.{lt-ltb, le-ltb, ne_eqb}
use Rattle.definition.specs.Lists.{same}
use Rattle.definition.specs.Bytes.{dot, star, is_binding}
use Rattle.definition.specs.Text.{Binding, tight, loose, Component, wildcard, name, Part, is_named, ends_in_name}
use Rattle.definition.specs.Query.{Position}
use Rattle.definition.specs.Matching.{equals, match_at, mark_at}
use Rattle.definition.specs.Ranking.{rank_of}
use Rattle.definition.specs.Image.{binding_byte, key_of, key_parts, is_key}
use Rattle.laws.proofs.Lists.{not_both, same_eq, same_refl, same_from_equal, same_from_end}
use Rattle.laws.proofs.Keys.{parts_of}
use Rattle.key.proofs.Keys.{some_part}
use Rattle.query.specs.Splits.{Inside}
use Rattle.positions.specs.Parts.{part_at, part_of, position_of, queried}
use Rattle.laws.proofs.Ranks.{rank_last, rank_short}
use Rattle.positions.proofs.Positions.{length_queried, queried_ends}
use Rattle.key_end.specs.Ends.{ends_in, may_match}

-- ---- What the code compares, from the last byte on

module _ (key n : List ℕ) where
  abbrev last : List ℕ
  last = drop (length key - length n) key

  -- from byte i on the two are equal
  abbrev pub Ends : ℕ → Type 0
  Ends i = same (drop i last) (drop i n) ≡ true

  pub short_end : length key ≤ length n → ends_in key n ≡ false
  unfolding ends_in
  short_end h = rw (le-ltb (length n) (length key) h) refl

  module _ (h : length n < length key) where
    long : length last ≡ length n
    long = length-drop (length key - length n) key ∙ (omega arith)

    at_last : (i : ℕ) → get_or last i 0 ≡ get_or key (length key - length n + i) 0
    at_last i = get_or-drop (length key - length n) key i 0

    pub ends_first : Ends (length n)
    ends_first = same_from_end last n (length n) (omega (arith, long)) (omega arith)

    pub ends_more : (i : ℕ) → i < length n → Ends (i + 1) → get_or key (length key - length n + i) 0 ≡ get_or n i 0 → Ends i
    ends_more i k e z = same_from_equal last n i (omega (arith, long)) k (at_last i ∙ z) ∙ e

    pub other_end : (i : ℕ) → (get_or key (length key - length n + i) 0 ≡ get_or n i 0 → ⊥) → ends_in key n ≡ false
    unfolding ends_in
    other_end i k = rw (lt-ltb (length n) (length key) h) (at (same last n) refl)
      where
        at : (b : Bool) → same last n ≡ b → (b && is_binding (get_or key (length key - length n - 1) 0)) ≡ false
        at true e = absurd (k (sym (at_last i) ∙ ap (λ (l : List ℕ). get_or l i 0) (same_eq last n e)))
        at false e = refl

    pub ends_binding : (i : ℕ) → i ≤ 0 → Ends i → ends_in key n ≡ is_binding (get_or key (length key - length n - 1) 0)
    unfolding ends_in
    ends_binding i z e =
        let f : i ≡ 0 = omega arith in
        rw (lt-ltb (length n) (length key) h, rw f at e) refl

pub dot_binds : (c : ℕ) → c ≡ dot → is_binding c ≡ true
unfolding is_binding
dot_binds c e = rw e refl

pub star_binds : (c : ℕ) → (c ≡ dot → ⊥) → is_binding c ≡ eqb c star
unfolding is_binding
star_binds c h = rw (ne_eqb c dot h) refl

-- ---- The key's end

-- the last part, which is a name
pub record Ending (ps : List Part) : Type 0 where
  pub front : List Part
  pub binding : Binding
  pub last : List ℕ
  pub parts : ps ≡ front ++ (record { binding = binding; component = name last } ∷ [])
  pub bytes : key_of ps ≡ key_of front ++ binding_byte binding ∷ last

ending : (ps : List Part) → ends_in_name ps ≡ true → Ending ps
unfolding ends_in_name is_named key_of
ending [] h = absurd (not_both h refl)
ending (p ∷ []) h = at p.component refl h
  where
    at : (c : Component) → p.component ≡ c → is_named c ≡ true → Ending (p ∷ [])
    at wildcard e h = absurd (not_both h refl)
    at (name n) e h = record {
      front = [];
      binding = p.binding;
      last = n;
      parts = rw (← e) refl;
      bytes = rw (e, append-nil n) refl;
    }
ending (p ∷ q ∷ ps) h =
    let e = ending (q ∷ ps) h in
    record {
      front = p ∷ e.front;
      binding = e.binding;
      last = e.last;
      parts = ap (λ (l : List Part). p ∷ l) e.parts;
      bytes = rw (e.bytes, append_assoc) refl;
    }

byte_binds : (b : Binding) → is_binding (binding_byte b) ≡ true
unfolding is_binding
byte_binds tight = refl
byte_binds loose = refl

-- a key that ends in a binding and the name
key_ends : (key front : List ℕ) (b : Binding) (n : List ℕ) → key ≡ front ++ binding_byte b ∷ n → ends_in key n ≡ true
unfolding ends_in
key_ends key front b n e =
    let l : length key ≡ length front + suc (length n) = ap length e ∙ length-append front (binding_byte b ∷ n) in
    let before : length key - length n ≡ length front + 1 = omega (arith, l) in
    let z : length front + 1 - 1 ≡ length front = omega arith in
    rw (lt-ltb (length n) (length key) (omega (arith, l)), before, z, e, drop-append-add front (binding_byte b ∷ n) 1, same_refl n, get_or-append_seam front (binding_byte b) n 0) (byte_binds b)

-- ---- No match at the end

module _ (key : List ℕ) (h : is_key key ≡ true) (n c : List ℕ) (f : may_match key n c ≡ false) where
  misses : (x : List ℕ) → ends_in key x ≡ true → (t : List ℕ) → ends_in key t ≡ false → equals x (part_of t) ≡ false
  misses x e [] g = unfold equals part_of in refl
  misses x e (b ∷ t) g = unfold equals part_of in at (same x (b ∷ t)) refl
    where
      at : (s : Bool) → same x (b ∷ t) ≡ s → s ≡ false
      at true s = absurd (not_both e (ap (ends_in key) (same_eq x (b ∷ t) s) ∙ g))
      at false s = refl

  neither : (ends_in key n ≡ false) × (ends_in key c ≡ false)
  neither = at (ends_in key n) (ends_in key c) (unfold may_match in f)
    where
      at : (a b : Bool) → (a || b) ≡ false → (a ≡ false) × (b ≡ false)
      at true b e = absurd (not_both refl e)
      at false b e = (refl, e)

  unmatched : (b : Binding) (x : List ℕ) → ends_in key x ≡ true → mark_at (record { binding = b; component = name x }) (position_of n c) ≡ none
  unmatched b x e = unfold mark_at match_at in rw (misses x e n neither.0, misses x e c neither.1) refl

  -- a position that the key's last part does not meet
  pub may_not : (qs : List Position) → rank_of (key_parts key) (qs ++ (position_of n c ∷ [])) ≡ none
  may_not qs =
      let K = parts_of key h in
      let E = ending (key_parts key) K.named in
      let p : Part = record { binding = E.binding; component = name E.last } in
      let e = key_ends key (key_of E.front) E.binding E.last (sym K.written ∙ E.bytes) in
      ap (λ (l : List Part). rank_of l (qs ++ (position_of n c ∷ []))) E.parts ∙ rank_last E.front p qs (position_of n c) (unmatched E.binding E.last e)

  -- of the last position's parts
  module _ (t ns nl u cs cl : List ℕ) (I : Inside t ns nl) (J : Inside u cs cl) where
    abbrev end : ℕ
    end = max (length ns) (length cs) - 1

    pub refused : n ≡ part_at t ns nl end → c ≡ part_at u cs cl end → rank_of (key_parts key) (queried t ns nl u cs cl) ≡ none
    refused d e = at (dec_lt 0 (max (length ns) (length cs)))
      where
        at : Dec (0 < max (length ns) (length cs)) → rank_of (key_parts key) (queried t ns nl u cs cl) ≡ none
        at (yes z) =
            let k : end + 1 ≡ max (length ns) (length cs) = omega arith in
            ap (rank_of (key_parts key)) (queried_ends t ns nl u cs cl I J end k n c d e) ∙ may_not (take end (queried t ns nl u cs cl))
        at (no z) =
            rank_short (key_parts key) (queried t ns nl u cs cl)
            (omega (arith, length_queried t ns nl u cs cl, some_part key (parts_of key h)))
