-- Keys of the common form: as the code reads them, they are the definition's. Assumes nothing.
use Rattle.std.specs.Prelude.{⊤, Option, Some, None, if◌then◌else◌}
use mathlib.Core.Bool.{Bool, true, false, ◌||◌}
use mathlib.Core.List.{List, [], ◌∷◌, ◌++◌, append_assoc, append-nil}
use mathlib.Core.Path.{◌≡◌, refl, sym, ap, ◌∙◌}
use Prim.Native.Nat.{ℕ, zero, suc, ◌+◌, ◌-◌, ◌≤◌, ◌<◌}
use native.Mathlib.Numerals.{one-add}
use native.Mathlib.Omega.{arith}
use lib.Dec.{eqb, leb}
use lib.ListN.{length, get_or, take, drop, length-drop}
use lib.Seq.{take-add, drop-drop, drop-cons}
use borrow.Author.Tests.{eqb-true, lt-leb, le-leb, leb-false, eq-eqb, ne_eqb}
use Rattle.definition.specs.Lists.{any, take_while, drop_while, is_empty}
use Rattle.definition.specs.Parsing.{nothing, found, Parsed, many}
use Rattle.definition.specs.Bytes.{colon, dot, star, is_digit, is_name, is_binding}
use Rattle.definition.specs.Text.{Binding, tight, name, Part, binding_of, component_at, part_at, is_named, ends_in_name}
use Rattle.definition.specs.Image.{binding_byte, key_of}
use Rattle.laws.proofs.Lists.{not_both, part_rest}
use Rattle.laws.proofs.Parsing.{many_stop, many_more}
use Rattle.laws.proofs.Keys.{part_shrinks}
use Rattle.components.specs.Parts.{parts_of, key_first, component_if}
use Rattle.components.proofs.Names.{name_there}
use Rattle.plain_keys.specs.Ended.{Ended}
use Rattle.plain_keys.specs.Keys.{name_end, first_start, FirstName, key_from, plain_key}
use Rattle.plain_keys.specs.declared.First.{First}
use Rattle.plain_keys.specs.declared.Key.{Key}
use Rattle.plain_keys.proofs.Ends.{binding_on, ended_rest, name_ends}

-- the first i bytes of t are `count` parts of its key as the key has them, behind `extra` dots that are not in the text; more may follow
record KeyUpTo (t : List ℕ) (extra count i : ℕ) : Type 0 where
  pub key : key_first t ≡ take extra (dot ∷ []) ++ (take i t ++ key_first (drop i t))
  pub parts : length (parts_of t) ≡ count + length (parts_of (drop i t))
  pub named : ends_in_name (parts_of t) ≡ (is_empty (parts_of (drop i t)) || ends_in_name (parts_of (drop i t)))
  pub rest : (many part_at t).rest ≡ (many part_at (drop i t)).rest

-- the key of t is its first `end` bytes, behind `extra` dots, and a `:` follows it
pub record KeyIs (t : List ℕ) (end count extra : ℕ) : Type 0 where
  pub key : key_first t ≡ take extra (dot ∷ []) ++ take end t
  pub parts : length (parts_of t) ≡ count
  pub named : ends_in_name (parts_of t) ≡ true
  pub rest : (many part_at t).rest ≡ drop end t
  pub colon : get_or t end 0 ≡ colon
  pub inside : end < length t
  pub some : 0 < end
  pub extra_most : extra ≤ 1

-- nothing is said of another form
abbrev pub PlainKey : List ℕ → Option Key → Type 0
PlainKey t (Some r) = KeyIs t r.end r.count r.extra
PlainKey t None = ⊤

-- ---- Bytes

-- a name's byte binds nothing
name_free : (c : ℕ) → is_name c ≡ true → is_binding c ≡ false
unfolding is_binding
name_free c h = at (eqb c dot) refl (eqb c star) refl
  where
    at : (x : Bool) → eqb c dot ≡ x → (y : Bool) → eqb c star ≡ y → (eqb c dot || eqb c star) ≡ false
    at true e y f = absurd (not_both h (ap is_name (eqb-true c dot e) ∙ unfold is_name is_digit in refl))
    at false e true f = absurd (not_both h (ap is_name (eqb-true c star f) ∙ unfold is_name is_digit in refl))
    at false e false f = rw (e, f) refl

-- a binding is its own byte in a key
own_byte : (c : ℕ) → is_binding c ≡ true → binding_byte (binding_of (c ∷ [])) ≡ c
unfolding is_binding binding_of any
own_byte c h = at (eqb c dot) refl (eqb c star) refl h
  where
    at : (x : Bool) → eqb c dot ≡ x → (y : Bool) → eqb c star ≡ y → (x || y) ≡ true → binding_byte (if eqb star c || false then Rattle.definition.specs.Text.loose else tight) ≡ c
    at true e y f g = rw (eqb-true c dot e) refl
    at false e true f g = rw (eqb-true c star f) refl
    at false e false f g = absurd (not_both g refl)

name_first : (u : List ℕ) → 0 < length (take_while is_name u) → is_name (get_or u 0 0) ≡ true
unfolding take_while
name_first [] h = absurd (omega arith)
name_first (c ∷ u) h = at (is_name c) refl h
  where
    at : (x : Bool) → is_name c ≡ x → 0 < length (if x then c ∷ take_while is_name u else []) → is_name c ≡ true
    at true e g = e
    at false e g = absurd (omega arith)

-- ---- A part at the front of a text

name_at : (b : Binding) (u : List ℕ) (n : ℕ) → n ≡ length (take_while is_name u) → 0 < n
    → component_at b u ≡ found (record { binding = b; component = name (take n u) }) (drop n u)
unfolding component_if
name_at b u n g h = (name_there u n g h).is b

-- a name with no binding
part_free : (t : List ℕ) (n : ℕ) → n ≡ length (take_while is_name t) → 0 < n → part_at t ≡ found (record { binding = tight; component = name (take n t) }) (drop n t)
unfolding part_at binding_of take_while drop_while any
part_free [] n g h = absurd (omega arith)
part_free (c ∷ t) n g h = rw (name_free c (name_first (c ∷ t) (omega (arith, g)))) (name_at tight (c ∷ t) n g h)

-- a name with one
part_bound : (c : ℕ) (u : List ℕ) (n : ℕ) → is_binding c ≡ true → n ≡ length (take_while is_name u) → 0 < n
    → part_at (c ∷ u) ≡ found (record { binding = binding_of (c ∷ []); component = name (take n u) }) (drop n u)
unfolding part_at take_while drop_while
part_bound c [] n b g h = absurd (omega arith)
part_bound c (d ∷ u) n b g h = rw (b, name_free d (name_first (d ∷ u) (omega (arith, g)))) (name_at (binding_of (c ∷ [])) (d ∷ u) n g h)

-- none
part_none : (u : List ℕ) → part_at (colon ∷ u) ≡ nothing
unfolding part_at take_while drop_while is_binding component_at is_name is_digit
part_none u = refl

-- ---- Parts

ends_named : (b : Binding) (w : List ℕ) (ps : List Part) → ends_in_name (record { binding = b; component = name w } ∷ ps) ≡ (is_empty ps || ends_in_name ps)
unfolding ends_in_name is_named is_empty
ends_named b w [] = refl
ends_named b w (q ∷ ps) = refl

-- a part, whose name is w, and what follows it
module _ (t : List ℕ) (b : Binding) (w : List ℕ) (n : ℕ) (e : part_at t ≡ found (record { binding = b; component = name w }) (drop n t)) where
  turn : many part_at t ≡ record { items = record { binding = b; component = name w } ∷ parts_of (drop n t); rest = (many part_at (drop n t)).rest }
  turn = many_more part_at part_shrinks t (record { binding = b; component = name w }) (drop n t) e

  one_part : (extra : ℕ) → take extra (dot ∷ []) ++ take n t ≡ binding_byte b ∷ w → KeyUpTo t extra 1 n
  unfolding key_of
  one_part extra k = record {
    key =
        ap (λ (m : Parsed Part). key_of m.items) turn
        ∙ ap (λ (l : List ℕ). l ++ key_first (drop n t)) (sym k)
        ∙ append_assoc (take extra (dot ∷ [])) (take n t) (key_first (drop n t));
    parts = ap (λ (m : Parsed Part). length m.items) turn ∙ omega arith;
    named = ap (λ (m : Parsed Part). ends_in_name m.items) turn ∙ ends_named b w (parts_of (drop n t));
    rest = ap (λ (m : Parsed Part). m.rest) turn;
  }

free_up : (t : List ℕ) (n : ℕ) → n ≡ length (take_while is_name t) → 0 < n → KeyUpTo t 1 1 n
free_up t n g h = one_part t tight (take n t) n (part_free t n g h) 1 refl

bound_up : (t : List ℕ) (n : ℕ) → 0 < length t → is_binding (get_or t 0 0) ≡ true → n ≡ length (take_while is_name (drop 1 t)) → 0 < n → KeyUpTo t 0 1 (1 + n)
bound_up [] n s b g h = absurd (omega arith)
bound_up (c ∷ u) n s b g h =
    rw one-add (one_part (c ∷ u) (binding_of (c ∷ [])) (take n u) (suc n) (part_bound c u n b g h) 0
    (ap (λ (x : ℕ). x ∷ take n u) (sym (own_byte c b))))

-- ---- One part after another

some_parts : (ps : List Part) (n : ℕ) → length ps ≡ 1 + n → is_empty ps ≡ false
unfolding is_empty
some_parts [] n e = absurd (omega arith)
some_parts (p ∷ ps) n e = refl

-- one part more
up_more : {t : List ℕ} {extra count i k : ℕ} → KeyUpTo t extra count i → KeyUpTo (drop i t) 0 1 k → KeyUpTo t extra (count + 1) (i + k)
up_more {t} {extra} {count} {i} {k} u v =
    let d : drop k (drop i t) ≡ drop (i + k) t = drop-drop k i t in
    record {
      key =
          u.key
          ∙ ap (λ (l : List ℕ). take extra (dot ∷ []) ++ (take i t ++ l)) (v.key ∙ ap (λ (l : List ℕ). take k (drop i t) ++ key_first l) d)
          ∙ ap (λ (l : List ℕ). take extra (dot ∷ []) ++ l)
          (sym (append_assoc (take i t) (take k (drop i t)) (key_first (drop (i + k) t))) ∙ ap (λ (l : List ℕ). l ++ key_first (drop (i + k) t)) (sym (take-add i k t)));
      parts = omega (arith, u.parts, v.parts, ap (λ (l : List ℕ). length (parts_of l)) d);
      named =
          u.named ∙ rw (some_parts (parts_of (drop i t)) _ v.parts) v.named
          ∙ ap (λ (l : List ℕ). is_empty (parts_of l) || ends_in_name (parts_of l)) d;
      rest = u.rest ∙ v.rest ∙ ap (λ (l : List ℕ). (many part_at l).rest) d;
    }

-- where a `:` follows, the key is over
up_over : {t : List ℕ} {extra count i : ℕ} → KeyUpTo t extra count i → 0 < i → i < length t → get_or t i 0 ≡ colon → extra ≤ 1 → KeyIs t i count extra
unfolding key_of is_empty
up_over {t} {extra} {count} {i} u s h c x =
    let d : drop i t ≡ colon ∷ drop (suc i) t = drop-cons t i 0 h ∙ ap (λ (x : ℕ). x ∷ drop (suc i) t) c in
    let m : many part_at (drop i t) ≡ record { items = []; rest = drop i t } = many_stop part_at part_shrinks (drop i t) (ap part_at d ∙ part_none (drop (suc i) t)) in
    record {
      key =
          u.key
          ∙ ap (λ (m : Parsed Part). take extra (dot ∷ []) ++ (take i t ++ key_of m.items)) m
          ∙ ap (λ (l : List ℕ). take extra (dot ∷ []) ++ l) (append-nil (take i t));
      parts = omega (arith, u.parts, ap (λ (m : Parsed Part). length m.items) m);
      named = u.named ∙ ap (λ (m : Parsed Part). is_empty m.items || ends_in_name m.items) m;
      rest = u.rest ∙ ap (λ (m : Parsed Part). m.rest) m;
      colon = c;
      inside = h;
      some = s;
      extra_most = x;
    }

-- ---- The key as the code reads it

name_inside : {t : List ℕ} → Ended t → (start : ℕ) → start < length t → name_end t start < length t
name_inside {t} e start h = omega (arith, name_ends (drop start t) (rw (part_rest t start) at (ended_rest e start h)), length-drop start t)

-- a name in t from `start` to i, empty or not, and the parts before it
record Keyed (t : List ℕ) (extra count start i : ℕ) : Type 0 where
  pub is : start < i → KeyUpTo t extra count i
  pub inside : i < length t
  pub extra_most : extra ≤ 1

module _ {t : List ℕ} (e : Ended t) where
  first_inside : first_start t < length t
  first_inside = at (is_binding (get_or t 0 0)) refl
    where
      at : (b : Bool) → is_binding (get_or t 0 0) ≡ b → first_start t < length t
      at true f = unfold first_start in rw f (omega (arith, binding_on e 0 e.some f))
      at false f = unfold first_start in rw f e.some

  keyed_first : Keyed t (1 - first_start t) 1 (first_start t) (name_end t (first_start t))
  unfolding first_start
  keyed_first = record { is = at (is_binding (get_or t 0 0)) refl; inside = name_inside e (first_start t) first_inside; extra_most = omega arith }
    where
      at : (b : Bool) → is_binding (get_or t 0 0) ≡ b → (let n : ℕ = if b then 1 else 0 in n < name_end t n → KeyUpTo t (1 - n) 1 (name_end t n))
      at true f h = bound_up t (length (take_while is_name (drop 1 t))) e.some f refl (omega arith)
      at false f h =
          let z : 0 + length (take_while is_name t) ≡ length (take_while is_name t) = omega arith in
          rw z (free_up t (length (take_while is_name t)) refl (omega arith))

  keyed_more : {extra count start i : ℕ} → Keyed t extra count start i → start < i → is_binding (get_or t i 0) ≡ true → Keyed t extra (count + 1) (i + 1) (name_end t (i + 1))
  keyed_more {extra} {count} {start} {i} k some b =
      let n = length (take_while is_name (drop (i + 1) t)) in
      let z : i + (1 + n) ≡ i + 1 + n = omega arith in
      let u : drop 1 (drop i t) ≡ drop (i + 1) t = drop-drop 1 i t in
      let first : get_or (drop i t) 0 0 ≡ get_or t i 0 = ap (λ (l : List ℕ). get_or l 0 0) (drop-cons t i 0 k.inside) in
      record {
        is = λ q. rw z at (up_more (k.is some) (bound_up (drop i t) n (omega (arith, k.inside, length-drop i t)) (ap is_binding first ∙ b) (rw u refl) (omega arith)));
        inside = name_inside e (i + 1) (binding_on e i k.inside b);
        extra_most = k.extra_most;
      }

  key_from_lem : (n : ℕ) {extra count start i : ℕ} → Keyed t extra count start i → PlainKey t (key_from n t extra count start i)
  unfolding key_from
  key_from_lem zero k = tt
  key_from_lem (suc n) {extra} {count} {start} {i} k =
      at (leb i start) refl (eqb (get_or t i 0) colon) refl (is_binding (get_or t i 0)) refl (λ some b. key_from_lem n (keyed_more k some b))
    where
      at : (x : Bool) → leb i start ≡ x → (y : Bool) → eqb (get_or t i 0) colon ≡ y → (z : Bool) → is_binding (get_or t i 0) ≡ z
          → (start < i → is_binding (get_or t i 0) ≡ true → PlainKey t (key_from n t extra (count + 1) (i + 1) (name_end t (i + 1))))
          → PlainKey t (if x then None else if y then Some (record { end = i; count = count; extra = extra }) else if z then key_from n t extra (count + 1) (i + 1) (name_end t (i + 1)) else None)
      at false f true g z h ih = let some = leb-false i start f in up_over (k.is some) (omega arith) k.inside (eqb-true (get_or t i 0) colon g) k.extra_most
      at false f false g true h ih = ih (leb-false i start f) h
      at false f false g false h ih = tt
      at true f y g z h ih = tt

  pub plain_key_lem : PlainKey t (plain_key t)
  unfolding plain_key
  plain_key_lem = key_from_lem (length t) keyed_first

-- ---- The first name, as the code measures it

pub bound_first : {t : List ℕ} → is_binding (get_or t 0 0) ≡ true → (n : ℕ) → n ≡ length (take_while is_name (take (length t - 1) (drop 1 t))) → FirstName t (record { start = 1; end = 1 + n })
bound_first {t} b n g = record { start = unfold first_start in rw b refl; end = ap (λ (k : ℕ). 1 + k) (rw (part_rest t 1) at g) }

pub free_first : {t : List ℕ} → is_binding (get_or t 0 0) ≡ false → (n : ℕ) → n ≡ length (take_while is_name t) → FirstName t (record { start = 0; end = n })
free_first b n g = record { start = unfold first_start in rw b refl; end = omega (arith, g) }

pub first_most : {t : List ℕ} {r : First} → FirstName t r → r.start ≤ 1
unfolding first_start
first_most {t} f = rw f.start (at (is_binding (get_or t 0 0)))
  where
    at : (b : Bool) → (if b then 1 else 0) ≤ 1
    at true = omega arith
    at false = omega arith

-- ---- The loop

-- the key from here on is the text's
pub record Keying (t : List ℕ) (extra count start i : ℕ) : Type 0 where
  pub left : ℕ
  pub enough : length t ≤ i + left
  pub same : plain_key t ≡ key_from left t extra count start i
  pub inside : i < length t
  pub count_most : count ≤ i + 1

pub keying_first : {t : List ℕ} {r : First} → Ended t → FirstName t r → Keying t (1 - r.start) 1 r.start r.end
keying_first {t} e f = rw (f.end, f.start) (record {
  left = length t;
  enough = omega arith;
  same = unfold plain_key in refl;
  inside = name_inside e (first_start t) (first_inside e);
  count_most = omega arith;
})

key_turn : (n : ℕ) (t : List ℕ) (extra count start i : ℕ) → 0 < n
    → key_from n t extra count start i ≡ (if leb i start then None else if eqb (get_or t i 0) colon then Some (record { end = i; count = count; extra = extra }) else if is_binding (get_or t i 0) then key_from (n - 1) t extra (count + 1) (i + 1) (name_end t (i + 1)) else None)
unfolding key_from
key_turn zero t extra count start i h = absurd (omega arith)
key_turn (suc n) t extra count start i h = let z : suc n - 1 ≡ n = omega arith in rw z refl

module _ {t : List ℕ} {extra count start i : ℕ} (k : Keying t extra count start i) where
  turned : plain_key t ≡ (if leb i start then None else if eqb (get_or t i 0) colon then Some (record { end = i; count = count; extra = extra }) else if is_binding (get_or t i 0) then key_from (k.left - 1) t extra (count + 1) (i + 1) (name_end t (i + 1)) else None)
  turned = k.same ∙ key_turn k.left t extra count start i (omega (arith, k.enough, k.inside))

  pub keying_none : i ≤ start → None ≡ plain_key t
  keying_none h = sym (turned ∙ rw (le-leb i start h) refl)

  module _ (some : start < i) where
    pub keying_over : get_or t i 0 ≡ colon → Some (record { end = i; count = count; extra = extra }) ≡ plain_key t
    keying_over c = sym (turned ∙ rw (lt-leb i start some, eq-eqb (get_or t i 0) colon c) refl)

    module _ (n : get_or t i 0 ≡ colon → ⊥) where
      pub keying_other : is_binding (get_or t i 0) ≡ false → None ≡ plain_key t
      keying_other b = sym (turned ∙ rw (lt-leb i start some, ne_eqb (get_or t i 0) colon n, b) refl)

      module _ (e : Ended t) (b : is_binding (get_or t i 0) ≡ true) where
        -- the name behind the binding, as the code measures it
        pub keying_more : (m : ℕ) → m ≡ length (take_while is_name (take (length t - (i + 1)) (drop (i + 1) t))) → Keying t extra (count + 1) (i + 1) (i + 1 + m)
        keying_more m g =
            let on : m ≡ length (take_while is_name (drop (i + 1) t)) = rw (part_rest t (i + 1)) at g in
            rw on (record {
              left = k.left - 1;
              enough = omega (arith, k.enough);
              same = turned ∙ rw (lt-leb i start some, ne_eqb (get_or t i 0) colon n, b) refl;
              inside = name_inside e (i + 1) (binding_on e i k.inside b);
              count_most = omega (arith, k.count_most);
            })
