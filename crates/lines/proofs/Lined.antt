-- What the code's answer on a line says of the definition's line. Assumes nothing.
use Rattle.std.specs.Prelude as rattle
use Rattle.std.specs.Prelude.{Some, None, if◌then◌else◌}
use mathlib.Core.Bool.{Bool, true, false}
use mathlib.Core.List.{List, [], ◌∷◌}
use mathlib.Core.Option.{Option, some, none}
use mathlib.Core.Path.{◌≡◌, refl, sym, ap, ◌∙◌}
use Prim.Native.Nat.{ℕ, ◌+◌, ◌≤◌, ◌<◌}
use native.Mathlib.Numerals.{one-add}
use native.Mathlib.Omega.{arith}
use lib.Dec.{eqb}
use lib.ListN.{length, take, drop}
use Rattle.definition.specs.Lists.{ascii, drop_while}
use Rattle.definition.specs.Parsing.{Parse, found, many, after}
use Rattle.definition.specs.Bytes.{newline, exclamation, hash, is_space, not_newline}
use Rattle.definition.specs.Text.{Part, part_at, ends_in_name, skipped, include, include_of, directive_of, assigned, resource_of, line_end, line_at}
use Rattle.definition.specs.Text as text
use Rattle.definition.specs.Image.{key_of}
use Rattle.laws.proofs.Lists.{not_both, Suffix, suffix_run, drop_run, length_take_while_le}
use Rattle.directives.specs.Directives.{include_at}
use Rattle.directives.specs.declared.Named.{Named}
use Rattle.scan.proofs.Beginnings.{after_suffix}
use Rattle.directives.proofs.Includes.{included_name, IncludeFound, include_found}
use Rattle.components.specs.Parts.{parts_of, is_verbatim}
use Rattle.components.proofs.Rests.{parts_suffix}
use Rattle.lines.specs.Places.{line_length, directive_in, resource_in, line_in}
use Rattle.lines.specs.declared.Directive.{Directive}
use Rattle.lines.specs.declared.Resource.{Resource}
use Rattle.lines.specs.declared.Line.{Line}
use Rattle.lines.specs.declared.Line.TheVariants.{Skip, Include, Entry}

-- p is what stands at the front of t: a line that is passed over, in n bytes
pub record Skips (t : List ℕ) (p : Parse text.Line) (n : ℕ) : Type 0 where
  pub is : p ≡ found skipped (drop n t)
  pub inside : n ≤ length t

-- an include
pub record Includes (t : List ℕ) (p : Parse text.Line) (d : Directive) : Type 0 where
  pub is : p ≡ found (include (take d.size (drop d.start t))) (drop d.end t)
  pub named : d.start + d.size ≤ length t
  pub inside : d.end ≤ length t

-- an entry
pub record Enters (t : List ℕ) (p : Parse text.Line) (r : Resource) : Type 0 where
  pub is : p ≡ resource_of t (some (drop r.value t))
  pub inside : r.value ≤ length t
  pub parts : r.count ≡ length (parts_of t)
  pub key : r.size ≡ length (key_of (parts_of t))
  pub some_key : 0 < r.size
  pub is_text : r.verbatim ≡ is_verbatim t

abbrev pub Lined : List ℕ → Parse text.Line → Line → Type 0
Lined t p (Skip n) = Skips t p n
Lined t p (Include d) = Includes t p d
Lined t p (Entry r) = Enters t p r

-- ---- Where a line ends

end_inside : (t : List ℕ) → line_length t ≤ length t
end_inside t = length_take_while_le not_newline t

end_is : (t : List ℕ) → drop (line_length t) t ≡ line_end t
unfolding line_end
end_is t = drop_run not_newline t

-- a line goes on after a byte that is no newline
end_after : (c : ℕ) (t : List ℕ) → eqb c newline ≡ false → drop (line_length (c ∷ t)) (c ∷ t) ≡ line_end t
unfolding line_end not_newline drop_while
end_after c t e = end_is (c ∷ t) ∙ rw e refl

-- ---- Each kind of line

directive_lined : (c : ℕ) (t : List ℕ) (end : ℕ) → end ≤ length (c ∷ t) → (r : rattle.Option Named) → IncludeFound t r
    → Lined (c ∷ t) (found (directive_of (include_of t)) (drop end (c ∷ t))) (directive_in end r)
unfolding directive_in directive_of included_name
directive_lined c t end h None i = record { is = rw (← i.name) refl; inside = h }
directive_lined c t end h (Some n) i = record {
  is = rw (← i.name, one-add) refl;
  named = omega (arith, i.inside);
  inside = h;
}

-- parts of which the last is a name have a key
key_some : (ps : List Part) → ends_in_name ps ≡ true → 0 < length (key_of ps)
unfolding ends_in_name key_of
key_some [] e = absurd (not_both e refl)
key_some (p ∷ ps) e = omega arith

resource_lined : (t : List ℕ) (o : Option (List ℕ)) → assigned t ≡ o → Lined t (resource_of t o) (resource_in t o)
unfolding resource_in resource_of assigned
resource_lined t none e = record { is = rw (end_is t) refl; inside = end_inside t }
resource_lined t (some u) e =
    let s = at (ends_in_name (parts_of t)) refl e in
    record {
      is = ap (λ (v : List ℕ). resource_of t (some v)) (sym s.0.same);
      inside = omega (arith, s.0.most);
      parts = refl;
      key = refl;
      some_key = key_some (parts_of t) s.1;
      is_text = refl;
    }
  where
    at : (b : Bool) → ends_in_name (parts_of t) ≡ b → (if b then after (ascii ":") (drop_while is_space (many part_at t).rest) else none) ≡ some u
        → Suffix u t × (ends_in_name (parts_of t) ≡ true)
    at true f k = (after_suffix (ascii ":") (suffix_run (parts_suffix t) is_space) u k, f)
    at false f k = absurd (let z : ◌≡◌ {A = ℕ} 0 1 = cc in omega arith)

line_lined : (t : List ℕ) → 0 < length t → Lined t (line_at t) (line_in t)
unfolding line_at line_in
line_lined [] h = absurd (omega arith)
line_lined (c ∷ t) h = at (eqb c newline) (eqb c exclamation) (eqb c hash) refl
  where
    at : (n x k : Bool) → eqb c newline ≡ n
        → Lined (c ∷ t)
        (if n then found skipped t else if x then found skipped (line_end t) else if k then found (directive_of (include_of t)) (line_end t) else resource_of (c ∷ t) (assigned (c ∷ t)))
        (if n then Skip 1 else if x then Skip (line_length (c ∷ t)) else if k then directive_in (line_length (c ∷ t)) (include_at t) else resource_in (c ∷ t) (assigned (c ∷ t)))
    at true x k e = record { is = refl; inside = omega arith }
    at false true k e = record { is = rw (end_after c t e) refl; inside = end_inside (c ∷ t) }
    at false false true e = rw (← end_after c t e) (directive_lined c t (line_length (c ∷ t)) (end_inside (c ∷ t)) (include_at t) (include_found t))
    at false false false e = resource_lined (c ∷ t) (assigned (c ∷ t)) refl

-- r is what `parse_line` answers
pub lined : (t : List ℕ) → 0 < length t → {r : Line} → r ≡ line_in t → Lined t (line_at t) r
lined t h e = rw e (line_lined t h)
