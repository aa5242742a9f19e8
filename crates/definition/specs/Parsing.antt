-- Taking things off the front of a text. They say nothing of resources.
use Rattle.std.specs.Prelude.{List, [], ◌∷◌, ℕ, zero, suc, eqb, length, if◌then◌else◌}
use Rattle.std.proofs.Math.Option.{Option, some, none}

-- what stands at the front of a text and the text after it, or nothing
pub data Parse (A : Type 0) : Type 0 where
  nothing : Parse A
  found : A → List ℕ → Parse A

-- what was taken off a text, in order, and what is left of it
pub record Parsed (A : Type 0) : Type 0 where
  pub items : List A
  pub rest : List ℕ

module _ {A : Type 0} where
  abbrev pub parsed : List A → List ℕ → Parsed A
  parsed xs t = record { items = xs; rest = t }

  unfoldable pub continued : Parse A → (List ℕ → Parsed A) → List ℕ → Parsed A
  continued nothing next t = parsed [] t
  continued (found a u) next t = parsed (a ∷ (next u).items) (next u).rest

  -- as many as n, one after another
  unfoldable pub at_most : ℕ → (List ℕ → Parse A) → List ℕ → Parsed A
  at_most zero p t = parsed [] t
  at_most (suc n) p t = continued (p t) (at_most n p) t

  -- the braces of Xlib 15.1's grammar: as many as stand there. Each takes a byte or more, so the text's length is turns enough
  unfoldable pub many : (List ℕ → Parse A) → List ℕ → Parsed A
  many p t = at_most (length t) p t

infixl 20 ◌>>=◌
abbrev pub ◌>>=◌ : {A B : Type 0} → Option A → (A → Option B) → Option B
none >>= f = none
some a >>= f = f a

-- the text after the given beginning, if it begins so
unfoldable pub after : List ℕ → List ℕ → Option (List ℕ)
after [] t = some t
after (b ∷ bs) [] = none
after (b ∷ bs) (c ∷ t) = if eqb b c then after bs t else none
