-- Octal digits and escapes, as the code tells them apart. Assumes nothing.
use Rattle.std.proofs.Common.{◌≡◌, ℕ, suc, ◌+◌, ◌-◌, min, ◌*◌, ◌%◌, ◌<◌, ◌≤◌, Bool, true, false, ◌||◌, eqb, leb, ◌⊎◌, List, [], ◌∷◌, length, get_or, take, drop, sym, refl, ◌∙◌, inl, inr, ⊎_elim, mod-eq_of_lt, zero-add, arith, drop_of_length-le, length-take, drop-cons, take-take, eq-eqb, ne_eqb, leb-true}
use native.Mathlib.Nat.{mod-add-mod}
use lib.Seq.{take-length}
use Rattle.definition.specs.Lists.{all, take_while}
use Rattle.definition.specs.Bytes.{tab, space, newline, backslash, letter_n, is_blank, is_octal}
use Rattle.definition.specs.Text.{positional, line_ends}
use Rattle.laws.proofs.Lists.{and_true, all_take_while, take_run, length_take_while_le}
use Rattle.escapes.specs.Pieces.{piece_of, no_byte, digits, octal_in, escape_in}

-- ---- A number of three digits

pub octal_range : (c : ℕ) → is_octal c ≡ true → (48 ≤ c) × (c ≤ 55)
unfolding is_octal
octal_range c e =
    let p = and_true (leb 48 c) (leb c 55) e in
    (leb-true 48 c p.0, leb-true c 55 p.1)

-- eight times a number leaves room for a digit
pub room_for_digit : (n y d : ℕ) → y ≡ (n * 8) % 256 → d ≤ 7 → y + d < 256
room_for_digit n y d e h = omega arith

pub octal_number : (a b c x y : ℕ) → is_octal a ≡ true → is_octal b ≡ true → is_octal c ≡ true
    → x ≡ ((a - 48) * 8) % 256 → y ≡ ((x + (b - 48)) * 8) % 256 → y + (c - 48) ≡ positional 8 0 (a ∷ b ∷ c ∷ []) % 256
unfolding positional
octal_number a b c x y ha hb hc e f =
    let p = octal_range a ha in
    let q = octal_range b hb in
    let r = octal_range c hc in
    let n = x + (b - 48) in
    let g : x ≡ (a - 48) * 8 = omega arith in
    let k : (y + (c - 48)) % 256 ≡ (n * 8 + (c - 48)) % 256 = rw f (mod-add-mod (n * 8) 256 (c - 48)) in
    sym (mod-eq_of_lt (room_for_digit n y (c - 48) f (omega arith))) ∙ k ∙ rw (g, zero-add (a - 48)) refl

-- ---- Octal digits at the front of a text

-- three bytes at most, as the code takes them
pub three_most : (t : List ℕ) → take (min (length t) 3) t ≡ take 3 t
three_most t =
    let n = min (length t) 3 in
    let e : n ≡ length (take 3 t) = omega (arith, length-take 3 t) in
    sym (take-take n 3 t (omega arith)) ∙ rw e (take-length (take 3 t))

module _ (t : List ℕ) where
  pub digits_few : length (digits t) ≤ 3
  digits_few = omega (arith, length_take_while_le is_octal (take 3 t), length-take 3 t)

  pub digits_inside : length (digits t) ≤ length t
  digits_inside = omega (arith, length_take_while_le is_octal (take 3 t), length-take 3 t)

  pub digits_take : digits t ≡ take (length (digits t)) t
  digits_take = sym (take_run is_octal (take 3 t)) ∙ take-take (length (digits t)) 3 t digits_few

pub three_digits : (t : List ℕ) (n : ℕ) → n ≡ length (digits t) → n ≡ 3 → digits t ≡ get_or t 0 0 ∷ get_or t 1 0 ∷ get_or t 2 0 ∷ []
three_digits [] n e f = absurd (omega (arith, digits_inside []))
three_digits (a ∷ []) n e f = absurd (omega (arith, digits_inside (a ∷ [])))
three_digits (a ∷ b ∷ []) n e f = absurd (omega (arith, digits_inside (a ∷ b ∷ [])))
three_digits (a ∷ b ∷ c ∷ t) n e f = digits_take (a ∷ b ∷ c ∷ t) ∙ rw (← e, f) refl

pub three_octal : (t : List ℕ) (n : ℕ) → n ≡ length (digits t) → n ≡ 3
    → (is_octal (get_or t 0 0) ≡ true) × (is_octal (get_or t 1 0) ≡ true) × (is_octal (get_or t 2 0) ≡ true)
unfolding all
three_octal t n e f =
    let h = rw (three_digits t n e f) at (all_take_while is_octal (take 3 t)) in
    let p = and_true (is_octal (get_or t 0 0)) _ h in
    let q = and_true (is_octal (get_or t 1 0)) _ p.1 in
    let r = and_true (is_octal (get_or t 2 0)) _ q.1 in
    (p.0, q.0, r.0)

-- ---- Escapes: t follows the backslash

pub escape_end : (t : List ℕ) → length t ≡ 0 → piece_of backslash 1 ≡ escape_in t
unfolding escape_in
escape_end [] h = refl
escape_end (c ∷ t) h = absurd (omega arith)

-- what a backslash keeps from being special
abbrev pub Escaped : ℕ → Type 0
Escaped c = (c ≡ tab) ⊎ ((c ≡ space) ⊎ (c ≡ backslash))

escaped_test : (c : ℕ) → Escaped c → (is_blank c || eqb c backslash) ≡ true
unfolding is_blank
escaped_test c (inl e) = rw e refl
escaped_test c (inr (inl e)) = rw e refl
escaped_test c (inr (inr e)) = rw e refl

not_escaped_test : (c : ℕ) → (Escaped c → ⊥) → (is_blank c || eqb c backslash) ≡ false
unfolding is_blank
not_escaped_test c h =
    rw (ne_eqb c space (λ e. h (inr (inl e))), ne_eqb c tab (λ e. h (inl e)), ne_eqb c backslash (λ e. h (inr (inr e)))) refl

pub escape_itself : (t : List ℕ) → 0 < length t → Escaped (get_or t 0 0) → piece_of (get_or t 0 0) 2 ≡ escape_in t
unfolding escape_in
escape_itself [] h e = absurd (omega arith)
escape_itself (c ∷ t) h e = rw (escaped_test c e) refl

pub escape_newline : (t : List ℕ) → 0 < length t → get_or t 0 0 ≡ letter_n → piece_of newline 2 ≡ escape_in t
unfolding escape_in is_blank
escape_newline [] h e = absurd (omega arith)
escape_newline (c ∷ t) h e = rw e refl

pub escape_joined : (t : List ℕ) → 0 < length t → get_or t 0 0 ≡ newline → no_byte 2 ≡ escape_in t
unfolding escape_in is_blank
escape_joined [] h e = absurd (omega arith)
escape_joined (c ∷ t) h e = rw e refl

pub escape_other : (t : List ℕ) (n : ℕ) → 0 < length t → (Escaped (get_or t 0 0) → ⊥) → (get_or t 0 0 ≡ letter_n → ⊥)
    → (get_or t 0 0 ≡ newline → ⊥) → n ≡ length (digits t) → n ≡ 0 → piece_of backslash 1 ≡ escape_in t
unfolding escape_in take_while
escape_other [] n h e f g d z = absurd (omega arith)
escape_other (c ∷ t) n h e f g d z = at (is_octal c) refl
  where
    at : (o : Bool) → is_octal c ≡ o → piece_of backslash 1 ≡ escape_in (c ∷ t)
    at true k = absurd (let m : n ≡ suc (length (take_while is_octal (take 2 t))) = d ∙ rw k refl in omega arith)
    at false k = rw (not_escaped_test c e, ne_eqb c letter_n f, ne_eqb c newline g, k) refl

-- one digit or more: it is what octal_in says
escape_octals : (t : List ℕ) (n : ℕ) → n ≡ length (digits t) → (n ≡ 0 → ⊥) → escape_in t ≡ octal_in (digits t) (drop n t)
unfolding escape_in take_while
escape_octals [] n e h = absurd (h e)
escape_octals (c ∷ t) n e h = at (is_octal c) refl
  where
    at : (o : Bool) → is_octal c ≡ o → escape_in (c ∷ t) ≡ octal_in (digits (c ∷ t)) (drop n (c ∷ t))
    at true k =
        let r = octal_range c k in
        let x : Escaped c → ⊥ = ⊎_elim (λ e. omega arith) (⊎_elim (λ e. omega arith) (λ e. omega arith)) in
        rw (e, not_escaped_test c x, ne_eqb c letter_n (omega arith), ne_eqb c newline (omega arith), k) refl
    at false k = absurd (h (e ∙ rw k refl))

module _ (t : List ℕ) (n : ℕ) (e : n ≡ length (digits t)) where
  pub escape_octal : (b : ℕ) → n ≡ 3 → b ≡ positional 8 0 (get_or t 0 0 ∷ get_or t 1 0 ∷ get_or t 2 0 ∷ []) % 256 → piece_of b 4 ≡ escape_in t
  unfolding octal_in
  escape_octal b f g = rw (escape_octals t n e (omega arith), three_digits t n e f, g) refl

  module _ (h : n ≡ 0 → ⊥) (k : n ≡ 3 → ⊥) where
    pub escape_dropped : line_ends (drop n t) ≡ true → no_byte (1 + n) ≡ escape_in t
    unfolding octal_in
    escape_dropped l = rw (escape_octals t n e h, ← e, ne_eqb n 3 k, l) refl

    -- the backslash stands for itself, and so do the digits
    pub escape_kept : line_ends (drop n t) ≡ false → piece_of backslash 1 ≡ escape_in t
    unfolding octal_in
    escape_kept l = rw (escape_octals t n e h, ← e, ne_eqb n 3 k, l) refl

-- ---- A line's end

pub line_over : (t : List ℕ) (n : ℕ) → n ≡ length t → line_ends (drop n t) ≡ true
unfolding line_ends
line_over t n e = rw (drop_of_length-le t {i = n} (omega arith)) refl

module _ (t : List ℕ) (n : ℕ) (h : n < length t) where
  pub line_newline : get_or t n 0 ≡ newline → line_ends (drop n t) ≡ true
  unfolding line_ends
  line_newline e = rw (drop-cons t n 0 h) (eq-eqb (get_or t n 0) newline e)

  pub line_goes_on : (get_or t n 0 ≡ newline → ⊥) → line_ends (drop n t) ≡ false
  unfolding line_ends
  line_goes_on e = rw (drop-cons t n 0 h) (ne_eqb (get_or t n 0) newline e)
