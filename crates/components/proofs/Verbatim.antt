-- Where the key of a text is the text itself: part by part, and what follows of the key. Assumes nothing.
use Rattle.std.specs.Prelude.{if◌then◌else◌}
use mathlib.Core.Bool.{Bool, true, false, ◌&&◌, ◌||◌, and-true as and-true-right, and-false, and_assoc, or-false}
use mathlib.Core.List.{List, [], ◌∷◌, ◌++◌, append_assoc}
use mathlib.Core.Path.{◌≡◌, refl, sym, ap, ◌∙◌}
use Prim.Native.Nat.{ℕ, zero, suc, ◌+◌, ◌-◌, ◌≤◌, ◌<◌}
use native.Mathlib.Numerals.{add-one}
use native.Mathlib.Omega.{arith}
use lib.Dec.{eqb, leb}
use lib.ListN.{length, get_or, take, drop, length-append, take-append-drop, get_or-append}
use lib.Seq.{take-append_seam, drop-drop}
use borrow.Author.Tests.{ne_eqb, eqb-true, lt-leb}
use Rattle.definition.specs.Lists.{all, any, take_while, drop_while, is_empty, same}
use Rattle.definition.specs.Parsing.{nothing, Parsed, many}
use Rattle.definition.specs.Bytes.{dot, star, is_binding}
use Rattle.definition.specs.Text.{Part, part_at}
use Rattle.definition.specs.Image.{binding_byte, key_of}
use Rattle.laws.proofs.Lists.{not_both, eqb_sym, and_true, and_both, same_refl, same_eq, same_append, take_while_drop_while, all_take_while, drop_run, part_rest}
use Rattle.components.specs.Parts.{parts_of, key_first, binding_if, component_text, FirstPart, bound_first, is_verbatim}
use Rattle.components.specs.declared.Next.{Next}
use Rattle.components.proofs.Turns.{past, parts_over, parts_turn, key_turn, bytes_length}

-- the key of the parts at the front of t, and what follows the parts
abbrev pub written : List ℕ → List ℕ
written t = key_first t ++ (many part_at t).rest

-- ---- A part, on lists alone

-- a byte that binds is none that does not
binds_not : (b c : ℕ) → is_binding b ≡ true → is_binding c ≡ false → eqb b c ≡ false
binds_not b c p q = ne_eqb b c (λ e. not_both p (ap is_binding e ∙ q))

byte_binds : (l : Bool) → is_binding (binding_byte (binding_if l)) ≡ true
unfolding is_binding
byte_binds true = refl
byte_binds false = refl

-- one binding is its own byte
own_byte : (b : ℕ) → is_binding b ≡ true → eqb (binding_byte (binding_if (any (eqb star) (b ∷ [])))) b ≡ true
unfolding is_binding any
own_byte b h = at (eqb b dot) refl (eqb b star) refl h
  where
    at : (x : Bool) → eqb b dot ≡ x → (y : Bool) → eqb b star ≡ y → (x || y) ≡ true → eqb (binding_byte (binding_if (eqb star b || false))) b ≡ true
    at true e y f g = rw (eqb-true b dot e) refl
    at false e true f g = rw (eqb-true b star f) refl
    at false e false f g = absurd (not_both g refl)

after_part : (w k v : List ℕ) → same (w ++ k) (w ++ v) ≡ same k v
after_part w k v = same_append w w k v refl ∙ ap (λ (b : Bool). b && same k v) (same_refl w)

-- a part whose bindings are bs, and whose component is w: the key's byte for the bindings, and the component
step : (bs w k v : List ℕ) → all is_binding bs ≡ true → 0 < length w → is_binding (get_or w 0 0) ≡ false
    → same (binding_byte (binding_if (any (eqb star) bs)) ∷ w ++ k) (bs ++ (w ++ v)) ≡ (eqb (length bs) 1 && same k v)
unfolding same all
step bs [] k v h s f = absurd (omega arith)
step [] (c ∷ w) k v h s f = rw (binds_not (binding_byte (binding_if (any (eqb star) []))) c (byte_binds (any (eqb star) [])) f) refl
step (b ∷ []) (c ∷ w) k v h s f = rw (own_byte b (and_true (is_binding b) true h).0) (after_part (c ∷ w) k v)
step (b ∷ d ∷ bs) (c ∷ w) k v h s f =
    let d-binds = (and_true (is_binding d) (all is_binding bs) (and_true (is_binding b) (is_binding d && all is_binding bs) h).1).0 in
    rw (eqb_sym c d, binds_not d c d-binds f, ne_eqb (suc (suc (length bs))) 1 (λ e. omega arith)) (and-false (eqb _ b))

one_or_more : (n : ℕ) → 0 < n → eqb n 1 ≡ leb n 1
one_or_more zero h = absurd (omega arith)
one_or_more (suc zero) h = refl
one_or_more (suc (suc n)) h = ne_eqb (suc (suc n)) 1 (λ e. omega arith) ∙ sym (lt-leb (suc (suc n)) 1 (omega arith))

-- the first part of a text u may have none
first_step : (u w k v : List ℕ) → drop_while is_binding u ≡ w ++ v → 0 < length w → is_binding (get_or w 0 0) ≡ false
    → same (binding_byte (binding_if (any (eqb star) (take_while is_binding u))) ∷ w ++ k) (bound_first u)
    ≡ (leb (length (take_while is_binding u)) 1 && same k v)
unfolding bound_first drop_while take_while same all any
first_step [] w k v e s f = absurd (omega (arith, ap length e, length-append w v))
first_step (c ∷ t) w k v e s f = at (is_binding c) refl
  where
    at : (b : Bool) → is_binding c ≡ b
        → same (binding_byte (binding_if (any (eqb star) (take_while is_binding (c ∷ t)))) ∷ w ++ k) (bound_first (c ∷ t))
        ≡ (leb (length (take_while is_binding (c ∷ t))) 1 && same k v)
    at true g =
        let bs = c ∷ take_while is_binding t in
        let split : c ∷ t ≡ bs ++ (w ++ v) =
        ap (λ (l : List ℕ). c ∷ l) (sym (take_while_drop_while is_binding t) ∙ ap (λ (l : List ℕ). take_while is_binding t ++ l) (rw g at e)) in
        rw g
        (ap (same (binding_byte (binding_if (any (eqb star) bs)) ∷ w ++ k)) split
        ∙ step bs w k v (and_both g (all_take_while is_binding t)) s f
        ∙ ap (λ (b : Bool). b && same k v) (one_or_more (length bs) (omega arith)))
    at false g = rw g (ap (same (w ++ k)) (rw g at e) ∙ after_part w k v)

-- ---- The part at the front of a text

stops : (p : ℕ → Bool) (xs : List ℕ) → 0 < length (drop_while p xs) → p (get_or (drop_while p xs) 0 0) ≡ false
unfolding drop_while
stops p [] h = absurd (omega arith)
stops p (x ∷ xs) h = at (p x) refl h (stops p xs)
  where
    at : (b : Bool) → p x ≡ b → 0 < length (if b then drop_while p xs else x ∷ xs)
        → (0 < length (drop_while p xs) → p (get_or (drop_while p xs) 0 0) ≡ false)
        → p (get_or (if b then drop_while p xs else x ∷ xs) 0 0) ≡ false
    at true e g ih = ih g
    at false e g ih = e

module _ {u : List ℕ} {r : Next} (p : FirstPart u r) where
  written_turn : written u ≡ binding_byte (binding_if (any (eqb star) (take_while is_binding u))) ∷ component_text u r ++ written (past u r)
  written_turn =
      ap (λ (l : List ℕ). l ++ (many part_at u).rest) (key_turn p)
      ∙ ap (λ (m : Parsed Part). (binding_byte (binding_if r.loose) ∷ component_text u r ++ key_first (past u r)) ++ m.rest) (parts_turn p)
      ∙ rw p.loose (ap (λ (l : List ℕ). binding_byte (binding_if (any (eqb star) (take_while is_binding u))) ∷ l)
      (append_assoc (component_text u r) (key_first (past u r)) (many part_at (past u r)).rest))

  after_bindings : drop_while is_binding u ≡ component_text u r ++ past u r
  after_bindings =
      let e : r.start + (r.end - r.start) ≡ r.end = omega arith in
      let left : drop (r.end - r.start) (drop r.start u) ≡ past u r =
      drop-drop (r.end - r.start) r.start u ∙ ap (λ (n : ℕ). drop n u) e ∙ sym (part_rest u r.end) in
      sym (drop_run is_binding u)
      ∙ ap (λ (n : ℕ). drop n u) (sym p.bindings)
      ∙ sym (take-append-drop (r.end - r.start) (drop r.start u))
      ∙ ap (λ (l : List ℕ). component_text u r ++ l) left

  component_some : 0 < length (component_text u r)
  component_some = omega (arith, bytes_length p)

  component_first : is_binding (get_or (component_text u r) 0 0) ≡ false
  component_first =
      let long : 0 < length (drop_while is_binding u) = omega (arith, component_some, ap length after_bindings, length-append (component_text u r) (past u r)) in
      sym (ap is_binding (get_or-append (component_text u r) (past u r) 0 0 component_some))
      ∙ ap (λ (l : List ℕ). is_binding (get_or l 0 0)) (sym after_bindings)
      ∙ stops is_binding u long

  pub same_turn : same (written u) u ≡ (eqb r.start 1 && same (written (past u r)) (past u r))
  same_turn =
      let bs = take_while is_binding u in
      let split : u ≡ bs ++ (component_text u r ++ past u r) =
      sym (take_while_drop_while is_binding u) ∙ ap (λ (l : List ℕ). bs ++ l) after_bindings in
      ap (λ (l : List ℕ). same l u) written_turn
      ∙ ap (same (binding_byte (binding_if (any (eqb star) bs)) ∷ component_text u r ++ written (past u r))) split
      ∙ step bs (component_text u r) (written (past u r)) (past u r) (all_take_while is_binding u) component_some component_first
      ∙ ap (λ (n : ℕ). eqb n 1 && same (written (past u r)) (past u r)) (sym p.bindings)

  -- the first part may have no binding
  pub first_turn : is_verbatim u ≡ (leb r.start 1 && same (written (past u r)) (past u r))
  unfolding is_verbatim is_empty
  first_turn =
      ap (λ (m : Parsed Part). is_empty m.items || same (written u) (bound_first u)) (parts_turn p)
      ∙ ap (λ (l : List ℕ). same l (bound_first u)) written_turn
      ∙ first_step u (component_text u r) (written (past u r)) (past u r) after_bindings component_some component_first
      ∙ ap (λ (n : ℕ). leb n 1 && same (written (past u r)) (past u r)) (sym p.bindings)

-- ---- The loop over the parts

-- may a part have so many bindings, with so many parts before it?
abbrev pub passes : ℕ → ℕ → Bool
passes count start = eqb start 1 || (eqb start 0 && eqb count 0)

-- is the rest of the key the rest of the text, with so many parts before it?
unfoldable pub verbatim_from : ℕ → List ℕ → Bool
verbatim_from zero u = is_verbatim u
verbatim_from (suc n) u = same (written u) u

few : (n : ℕ) → leb n 1 ≡ passes 0 n
few zero = refl
few (suc zero) = refl
few (suc (suc n)) =
    lt-leb (suc (suc n)) 1 (omega arith)
    ∙ sym (rw (ne_eqb (suc (suc n)) 1 (λ e. omega arith), ne_eqb (suc (suc n)) 0 (λ e. omega arith)) refl)

module _ {u : List ℕ} {r : Next} (p : FirstPart u r) where
  pub verbatim_turn : (count : ℕ) → verbatim_from count u ≡ (passes count r.start && verbatim_from (count + 1) (past u r))
  unfolding verbatim_from
  verbatim_turn zero = first_turn p ∙ ap (λ (b : Bool). b && same (written (past u r)) (past u r)) (few r.start)
  verbatim_turn (suc n) =
      same_turn p
      ∙ rw (add-one (suc n), ne_eqb (suc n) 0 (λ e. omega arith), and-false, or-false) refl

pub verbatim_over : (u : List ℕ) → part_at u ≡ nothing → (count : ℕ) → verbatim_from count u ≡ true
unfolding verbatim_from is_verbatim is_empty key_of
verbatim_over u e zero = ap (λ (m : Parsed Part). is_empty m.items || same (key_of m.items ++ m.rest) (bound_first u)) (parts_over u e)
verbatim_over u e (suc n) = ap (λ (m : Parsed Part). same (key_of m.items ++ m.rest) u) (parts_over u e) ∙ same_refl u

-- what the loop makes of its flag
pub flag_odd : (verbatim : Bool) (count start : ℕ) → (start ≡ 1 → ⊥) → (verbatim && eqb start 0 && eqb count 0) ≡ (verbatim && passes count start)
flag_odd verbatim count start h = rw (ne_eqb start 1 h) (and_assoc verbatim (eqb start 0) (eqb count 0))

pub flag_one : (verbatim : Bool) (count start : ℕ) → start ≡ 1 → verbatim ≡ (verbatim && passes count start)
flag_one verbatim count start h = rw h (sym (and-true-right verbatim))

-- ---- The key

module _ (t : List ℕ) (h : is_verbatim t ≡ true) (k : 0 < length (key_first t)) where
  same_text : written t ≡ bound_first t
  unfolding is_verbatim is_empty key_of
  same_text = same_eq (written t) (bound_first t) (at (parts_of t) refl h)
    where
      at : (ps : List Part) → parts_of t ≡ ps → (is_empty ps || same (written t) (bound_first t)) ≡ true → same (written t) (bound_first t) ≡ true
      at [] e g = absurd (omega (arith, ap (λ (ps : List Part). length (key_of ps)) e))
      at (p ∷ ps) e g = g

  key_taken : key_first t ≡ take (length (key_first t)) (bound_first t)
  key_taken = sym (take-append_seam (key_first t) (many part_at t).rest) ∙ ap (take (length (key_first t))) same_text

  key_long : length (key_first t) ≤ length (bound_first t)
  key_long = omega (arith, length-append (key_first t) (many part_at t).rest, ap length same_text)

-- a text that begins with a binding
pub bound_key : (t : List ℕ) → is_verbatim t ≡ true → 0 < length (key_first t) → is_binding (get_or t 0 0) ≡ true
    → (key_first t ≡ take (length (key_first t)) t) × (length (key_first t) ≤ length t)
unfolding bound_first
bound_key [] h k e = absurd (omega (arith, key_long [] h k))
bound_key (c ∷ t) h k e = (rw e at (key_taken (c ∷ t) h k), rw e at (key_long (c ∷ t) h k))

take_first : (x n : ℕ) (xs : List ℕ) → 0 < n → take n (x ∷ xs) ≡ x ∷ take (n - 1) xs
take_first x zero xs h = absurd (omega arith)
take_first x (suc n) xs h =
    let e : suc n - 1 ≡ n = omega arith in
    rw e refl

-- one that begins with none
pub free_key : (t : List ℕ) → is_verbatim t ≡ true → 0 < length (key_first t) → is_binding (get_or t 0 0) ≡ false
    → (key_first t ≡ dot ∷ take (length (key_first t) - 1) t) × (length (key_first t) - 1 ≤ length t)
unfolding bound_first
free_key [] h k e = absurd (omega (arith, key_long [] h k))
free_key (c ∷ t) h k e =
    (rw e at (key_taken (c ∷ t) h k) ∙ take_first dot (length (key_first (c ∷ t))) (c ∷ t) k, omega (arith, rw e at (key_long (c ∷ t) h k)))

-- there is a text if there is a key
pub key_some : (t : List ℕ) → is_verbatim t ≡ true → 0 < length (key_first t) → 0 < length t
unfolding bound_first
key_some [] h k = absurd (omega (arith, key_long [] h k))
key_some (c ∷ t) h k = omega arith
