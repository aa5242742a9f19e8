-- What getres shows is what the definition answers. Assumes nothing.
use mathlib.Core.List.{List}
use mathlib.Core.Option.{Option, none}
use mathlib.Core.Path.{◌≡◌, refl, sym, ap, ◌∙◌}
use Prim.Native.Nat.{ℕ}
use native.Mathlib.Omega.{arith}
use lib.ListN.{length}
use Rattle.definition.specs.Text.{Entry}
use Rattle.definition.specs.Query.{Query, positions, malformed, past_limit, shell, query_of}
use Rattle.definition.specs.Reading.{Answer, accepted, refused as refusedReading, Outcome, outcome, reading, plain, read_entries}
use Rattle.definition.specs.Lookup.{refused, get_bytes, answer_in, answer_of}
use Rattle.laws.proofs.Reading.{Reads, accepted_reads}
use Rattle.laws.proofs.ThirdTerm.{reading_image, reading_answers, reading_replies}
use Rattle.std.specs.Prelude.{Result, Ok, Err, Some, None, Option as Optional}
use Rattle.refusal.specs.declared.Refusal.{Refusal}
use Rattle.refusal.specs.Numbers.{number}
use Rattle.lookup.specs.declared.Place.{Place}
use Rattle.lookup.specs.Replies.{replied, LiesIn}
use Rattle.lookup.proofs.Looking.{past, bytes_within}
use Rattle.showing.specs.Showing.{refused_by, shown_of}
use Rattle.answers.specs.Answering.{of_bytes, of_query, of_reading, after_reading, LooksUp, answer_shown}

-- ---- A lookup's answer

abbrev Looked : Type 0
Looked = Result (Optional Place) Refusal

shown_refused : (b : List ℕ) (x : Looked) (k : ℕ) → replied x ≡ refused k → shown_of b x ≡ refused_by k
shown_refused b (Ok (Some p)) k e = absurd (let z : ◌≡◌ {A = ℕ} 0 1 = cc in omega arith)
shown_refused b (Ok None) k e = absurd (let z : ◌≡◌ {A = ℕ} 0 1 = cc in omega arith)
shown_refused b (Err j) k e = let i : number j ≡ k = cc in ap refused_by i

shown_bytes : (b : List ℕ) (x : Looked) (o : Option (List ℕ)) → answer_in b (replied x) ≡ o → ((k : ℕ) → replied x ≡ refused k → ⊥) → shown_of b x ≡ of_bytes o
unfolding answer_in
shown_bytes b (Ok (Some p)) o e h = ap of_bytes e
shown_bytes b (Ok None) o e h = ap of_bytes e
shown_bytes b (Err j) o e h = absurd (h (number j) refl)

inside_refused : (b : List ℕ) (x : Looked) (k : ℕ) → replied x ≡ refused k → LiesIn x (length b)
inside_refused b (Ok (Some p)) k e = absurd (let z : ◌≡◌ {A = ℕ} 0 1 = cc in omega arith)
inside_refused b (Ok None) k e = tt
inside_refused b (Err j) k e = tt

module _ (depth : ℕ) (texts : List (List ℕ)) (archive contents bodies : List ℕ) (r : Reads depth texts archive contents bodies) where
  abbrev es : List Entry
  es = plain (read_entries depth texts archive)

  abbrev c : List ℕ
  c = (reading depth texts archive contents bodies).contents

  abbrev b : List ℕ
  b = (reading depth texts archive contents bodies).bodies

  module _ (name class : List ℕ) (x : Looked) (h : replied x ≡ get_bytes c b name class) where
    bytes_are : answer_in b (replied x) ≡ answer_of es (query_of name class)
    bytes_are = ap (answer_in b) h ∙ reading_answers depth texts archive contents bodies r shell name class

    apart : ((k : ℕ) → query_of name class ≡ past_limit k → ⊥) → (k : ℕ) → replied x ≡ refused k → ⊥
    apart g k e = reading_replies depth texts archive contents bodies r shell name class g k (sym h ∙ e)

    shown_is : shown_of b x ≡ of_query es (query_of name class)
    unfolding of_query answer_of
    shown_is = at (query_of name class) refl
      where
        at : (q : Query) → query_of name class ≡ q → shown_of b x ≡ of_query es q
        at (positions qs) e =
            shown_bytes b x (answer_of es (positions qs)) (bytes_are ∙ ap (answer_of es) e) (apart (λ k f. let z : ◌≡◌ {A = ℕ} 0 1 = cc in omega arith))
        at malformed e = shown_bytes b x none (bytes_are ∙ ap (answer_of es) e) (apart (λ k f. let z : ◌≡◌ {A = ℕ} 0 1 = cc in omega arith))
        at (past_limit k) e = shown_refused b x k (h ∙ sym (past shell c b name class (reading_image depth texts archive contents bodies r) k e))

module _ (depth : ℕ) (texts : List (List ℕ)) (archive name class contents bodies c b : List ℕ) where
  refused_shown : (x : Looked) (k : ℕ) → (reading depth texts archive contents bodies).answer ≡ refusedReading k → replied x ≡ refused k
      → (shown_of b x ≡ answer_shown depth texts archive name class contents bodies) × LiesIn x (length b)
  unfolding answer_shown of_reading
  refused_shown x k e h = (shown_refused b x k h ∙ rw e refl, inside_refused b x k h)

  accepted_shown : (x : Looked) (n o : ℕ) → (reading depth texts archive contents bodies).answer ≡ accepted n o → c ≡ (reading depth texts archive contents bodies).contents
      → b ≡ (reading depth texts archive contents bodies).bodies → replied x ≡ get_bytes c b name class
      → (shown_of b x ≡ answer_shown depth texts archive name class contents bodies) × LiesIn x (length b)
  unfolding answer_shown of_reading
  accepted_shown x n o e ec eb h =
      let reads : Reads depth texts archive contents bodies = accepted_reads depth texts archive contents bodies (rw e refl) in
      let h' : replied x ≡ get_bytes (reading depth texts archive contents bodies).contents (reading depth texts archive contents bodies).bodies name class =
      h ∙ ap (λ (y : List ℕ). get_bytes y b name class) ec ∙ ap (λ (y : List ℕ). get_bytes (reading depth texts archive contents bodies).contents y name class) eb in
      (ap (λ (y : List ℕ). shown_of y x) eb ∙ shown_is depth texts archive contents bodies reads name class x h' ∙ rw e refl, bytes_within shell c b name class x h)

  -- what was looked up shows what the definition answers, and lies in the bodies
  pub looked : (x : Looked) → LooksUp depth texts archive name class contents bodies c b x → (shown_of b x ≡ answer_shown depth texts archive name class contents bodies) × LiesIn x (length b)
  unfolding after_reading
  looked x l = at (reading depth texts archive contents bodies).answer refl
    where
      at : (a : Answer) → (reading depth texts archive contents bodies).answer ≡ a → (shown_of b x ≡ answer_shown depth texts archive name class contents bodies) × LiesIn x (length b)
      at (accepted n o) e = accepted_shown x n o e l.contents_left l.bodies_left (l.answers ∙ ap (λ (a : Answer). after_reading a (get_bytes c b name class)) e)
      at (refusedReading k) e = refused_shown x k e (l.answers ∙ ap (λ (a : Answer). after_reading a (get_bytes c b name class)) e)

  pub refused_looks : (k : Refusal) → outcome (refusedReading (number k)) c b ≡ reading depth texts archive contents bodies → LooksUp depth texts archive name class contents bodies c b (Err k)
  unfolding after_reading
  refused_looks k e = record {
    answers = ap (λ (o : Outcome). after_reading o.answer (get_bytes c b name class)) e;
    contents_left = ap (λ (o : Outcome). o.contents) e;
    bodies_left = ap (λ (o : Outcome). o.bodies) e;
  }

  pub accepted_looks : (n o : ℕ) (x : Looked) → outcome (accepted n o) c b ≡ reading depth texts archive contents bodies → replied x ≡ get_bytes c b name class
      → LooksUp depth texts archive name class contents bodies c b x
  unfolding after_reading
  accepted_looks n o x e h = record {
    answers = h ∙ ap (λ (p : Outcome). after_reading p.answer (get_bytes c b name class)) e;
    contents_left = ap (λ (p : Outcome). p.contents) e;
    bodies_left = ap (λ (p : Outcome). p.bodies) e;
  }
