-- The place that a lookup finds, the number of a step or of an added entry and the length of a text are small enough for their codes; and what
-- the boundary makes of each answer. Assumes nothing.
use mathlib.Core.List.{List}
use mathlib.Core.Path.{◌≡◌, refl, sym, ap, ◌∙◌}
use Prim.Native.Nat.{ℕ}
use native.Mathlib.Omega.{arith}
use lib.ListN.{length}
use lib.Seq.{length-take-le}
use Rattle.definition.specs.Reading.{Outcome, outcome, reading}
use Rattle.laws.proofs.Reading.{accepted_small}
use Rattle.laws.proofs.Walking.{step_small}
use Rattle.laws.proofs.Writing.{image_text_long, written_text}
use Rattle.laws.proofs.Adding.{adding_small}
use Rattle.definition.specs.Query.{Bounds}
use Rattle.definition.specs.Lookup.{get_bytes_within}
use Rattle.definition.specs.Value.{get_string_by, get_string_within}
use Rattle.definition.specs.Walking.{Walk, walk_step}
use Rattle.definition.specs.Writing.{Filled, filled, writing}
use Rattle.definition.specs.Adding.{Addition, addition, adding}
use Rattle.definition.specs.Migration.{migrating}
use Rattle.definition.specs.ThirdTerm.{Case, with_file, without_file}
use Rattle.std.specs.Prelude.{Option, Some, None, Result, Ok, Err}
use Rattle.comparison.specs.declared.Both.{Both}
use Rattle.comparison.specs.Answering.{Comparison, compared}
use Rattle.compare.specs.Comparing.{Left, comparing, Promise, leaving}
use Rattle.compare.proofs.Comparing.{answered_both}
use Rattle.lookup.specs.Replies.{replied}
use Rattle.lookup.proofs.Looking.{found_placed}
use Rattle.lookup.specs.declared.Place as code
use Rattle.refusal.specs.declared.Refusal.{Refusal}
use Rattle.reader.specs.declared.Accepted.{Accepted}
use Rattle.reader.specs.Said.{said}
use Rattle.migration.proofs.Carried.{migrated_small}
use Rattle.readings.proofs.Readings.{string_found}
use Rattle.walk.specs.Replies.{step_replied}
use Rattle.writer.specs.Extents.{extent_of}
use Rattle.adding.specs.Appending.{replied as addReplied}
use Rattle.codes.specs.Codes.{read_code, Few, Small, Numbered, Numbers, comparison_numbers, SmallBoth, write_code, Bounded, add_code, Addable}
use Rattle.resource_manager.specs.Boundary.{crossed, crossing, filling, fill_code, add_crossed, compares, carried, Crosses}

-- ---- Readings, lookups and steps, once the answer is told

module _ (depth : ℕ) (texts : List (List ℕ)) (archive contents bodies c b : List ℕ) where
  pub read_few : (r : Result Accepted Refusal) → outcome (said r) c b ≡ reading depth texts archive contents bodies → Few r
  read_few (Ok a) e = accepted_small depth texts archive contents bodies c b a.entries a.opens e
  read_few (Err k) e = tt

module _ (old old_bytes contents bodies c b : List ℕ) where
  pub migrate_few : (r : Result Accepted Refusal) → outcome (said r) c b ≡ migrating old old_bytes contents bodies → Few r
  migrate_few (Ok a) e = migrated_small old old_bytes contents bodies c b a.entries a.opens e
  migrate_few (Err k) e = tt

pub read_crosses : (r : Result Accepted Refusal) (n : ℕ) (c b : List ℕ) (o : Outcome) → outcome (said r) c b ≡ o → n ≡ read_code (said r) → crossing n c b ≡ crossed o
read_crosses r n c b o e f = rw (← e, f) refl

module _ (most : Bounds) (contents bodies name class : List ℕ) where
  pub bytes_small : (r : Result (Option code.Place) Refusal) → replied r ≡ get_bytes_within most contents bodies name class → Small r
  bytes_small (Ok (Some p)) e = (found_placed most contents bodies name class p.start p.size e).0
  bytes_small (Ok None) e = tt
  bytes_small (Err k) e = tt

  pub string_small : (r : Result (Option code.Place) Refusal) → replied r ≡ get_string_within most contents bodies name class → Small r
  unfolding get_string_by
  string_small (Ok (Some p)) e = (found_placed most contents bodies name class p.start p.size (string_found bodies (record { start = p.start; length = p.size }) _ e)).0
  string_small (Ok None) e = tt
  string_small (Err k) e = tt

module _ (contents bodies name class : List ℕ) where
  pub step_numbered : (w : Walk) (r : Result (Option ℕ) Refusal) → step_replied r ≡ walk_step contents bodies name class w → Numbered r
  step_numbered w (Ok (Some i)) e = step_small contents bodies name class w i (sym e)
  step_numbered w (Ok None) e = tt
  step_numbered w (Err k) e = tt

-- ---- A writing

module _ (contents bodies buffer t : List ℕ) where
  pub write_bounded : (r : Result ℕ Refusal) → filled (extent_of r) t ≡ writing contents bodies buffer → Bounded r
  write_bounded (Ok n) e =
      let w = written_text n t contents bodies buffer e in
      omega (arith, image_text_long contents bodies w.is_image_lem, ap length w.text, length-take-le n t w.inside)
  write_bounded (Err k) e = tt

pub write_fills : (r : Result ℕ Refusal) (n : ℕ) (t : List ℕ) (f : Filled) → filled (extent_of r) t ≡ f → n ≡ write_code (extent_of r) → filling n t ≡ fill_code f
write_fills r n t f e g = rw (← e, g) refl

-- ---- An addition

module _ (contents bodies text c b : List ℕ) where
  pub add_numbered : (r : Result ℕ Refusal) → addition (addReplied r) c b ≡ adding contents bodies text → Addable r
  add_numbered (Ok i) e = omega (arith, adding_small contents bodies text i (ap (λ (a : Addition). a.answer) (sym e)))
  add_numbered (Err k) e = tt

pub add_crosses : (r : Result ℕ Refusal) (n : ℕ) (c b : List ℕ) (a : Addition) → addition (addReplied r) c b ≡ a → n ≡ add_code (addReplied r) → crossing n c b ≡ add_crossed a
add_crosses r n c b a e f = rw (← e, f) refl

-- ---- A comparing call

module _ (c : Case) (struck : List ℕ) where
  pub both_small : (r : Result (Option Both) Refusal) (s c₁ b₁ c₂ b₂ : List ℕ) → leaving r s c₁ b₁ c₂ b₂ ≡ comparing c struck → SmallBoth r
  both_small (Ok (Some b)) s c₁ b₁ c₂ b₂ e =
      let m = answered_both c struck _ (replied (Ok b.with_it)) (replied b.without) (said b.second) refl e in (
        bytes_small c.bounds (with_file c).contents (with_file c).bodies c.name c.class (Ok b.with_it) m.first_looked,
        bytes_small c.bounds (without_file c).contents (without_file c).bodies c.name c.class b.without m.second_looked,
      )
  both_small (Ok None) s c₁ b₁ c₂ b₂ e = tt
  both_small (Err k) s c₁ b₁ c₂ b₂ e = tt

  pub crosses : (r : Result (Option Both) Refusal) (n : Numbers) (w o : ℕ) (s c₁ b₁ c₂ b₂ : List ℕ) → Promise c struck (leaving r s c₁ b₁ c₂ b₂) → n ≡ comparison_numbers (compared r) w o
      → Crosses c struck w o (compares n s c₁ b₁ c₂ b₂)
  crosses r n w o s c₁ b₁ c₂ b₂ p e = record {
    equals = rw e (ap (λ (l : Left). carried l w o) p.equals);
    third_term = λ g room.
        let t = p.third_term g room in
        record {
          made = rw e (ap (λ (l : Left). carried l w o) t.made);
          both = e ∙ ap (λ (a : Comparison). comparison_numbers a w o) t.answers;
          term = t.term;
        };
  }
