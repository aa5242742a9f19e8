-- What the comparing call leaves, case by case, and the third term of it. Assumes nothing.
use Rattle.std.specs.Prelude.{if◌then◌else◌, Option, Result, Ok, Err}
use mathlib.Core.Bool.{Bool, true, false}
use mathlib.Core.List.{List}
use mathlib.Core.Path.{◌≡◌, refl, sym, ap, ◌∙◌}
use Prim.Native.Nat.{ℕ, ◌≤◌, ◌<◌}
use native.Mathlib.Omega.{arith}
use lib.Dec.{ltb}
use lib.ListN.{length}
use borrow.Author.Tests.{lt-ltb, le-ltb}
use Rattle.definition.specs.Limits.{contents_words, body_bytes}
use Rattle.definition.specs.Archive.{laid_out, files_of}
use Rattle.definition.specs.Image.{too_short}
use Rattle.definition.specs.Reading.{Answer, accepted, refused, Outcome, outcome, reading}
use Rattle.definition.specs.Lookup.{Reply, Place, get_bytes_within}
use Rattle.definition.specs.ThirdTerm.{Case, with_file, without_file, lookup, is_accepted, Given}
use Rattle.laws.proofs.Lists.{not_both}
use Rattle.laws.proofs.Reading.{accepted_reads}
use Rattle.laws.proofs.ThirdTerm.{third_term}
use Rattle.reader.specs.Said.{said}
use Rattle.refusal.specs.Numbers.{number}
use Rattle.refusal.specs.declared.Refusal.{Refusal}
use Rattle.reader.specs.declared.Accepted.{Accepted}
use Rattle.reader_without.specs.Second.{SecondOf}
use Rattle.comparison.specs.declared.Both.{Both}
use Rattle.comparison.specs.Answering.{Comparison, both, no_file, refused_by, answering, compared}
use Rattle.comparison.proofs.Answered.{answering_both, answers_both}
use Rattle.compare.specs.Comparing.{Left, no_room, only_first, both_read, after_first, comparing, Promise, leaving}

-- an archive that was read with is laid out
pub read_laid_out : (depth : ℕ) (texts : List (List ℕ)) (archive contents bodies c b : List ℕ) (n o : ℕ) → outcome (accepted n o) c b ≡ reading depth texts archive contents bodies → laid_out archive ≡ true
read_laid_out depth texts archive contents bodies c b n o e = (accepted_reads depth texts archive contents bodies (rw (← e) refl)).is_laid_out

module _ (c : Case) (struck : List ℕ) where
  pub short_struck : length struck < length c.archive → no_room c struck ≡ comparing c struck
  unfolding comparing
  short_struck h = rw (lt-ltb (length struck) (length c.archive) h) refl

  pub short_contents : length c.archive ≤ length struck → length c.contents' < contents_words → no_room c struck ≡ comparing c struck
  unfolding comparing
  short_contents room h = rw (le-ltb (length struck) (length c.archive) room, lt-ltb (length c.contents') contents_words h) refl

  pub short_bodies : length c.archive ≤ length struck → contents_words ≤ length c.contents' → length c.bodies' < body_bytes → no_room c struck ≡ comparing c struck
  unfolding comparing
  short_bodies room long h =
      rw (le-ltb (length struck) (length c.archive) room, le-ltb (length c.contents') contents_words long, lt-ltb (length c.bodies') body_bytes h) refl

  -- there is room for the archive and for the second reading
  pub record Room : Type 0 where
    pub archive : length c.archive ≤ length struck
    pub contents : contents_words ≤ length c.contents'
    pub bodies : body_bytes ≤ length c.bodies'

  module _ (room : Room) where
    first_done : after_first c struck (with_file c).answer ≡ comparing c struck
    unfolding comparing
    first_done =
        rw (le-ltb (length struck) (length c.archive) room.archive, le-ltb (length c.contents') contents_words room.contents, le-ltb (length c.bodies') body_bytes room.bodies) refl

    pub first_refused : (k : ℕ) (c₁ b₁ : List ℕ) → outcome (refused k) c₁ b₁ ≡ with_file c
        → record { answer = refused_by k; struck = struck; contents = c₁; bodies = b₁; contents' = c.contents'; bodies' = c.bodies' } ≡ comparing c struck
    unfolding after_first
    first_refused k c₁ b₁ e =
        rw (ap (λ (x : Outcome). x.contents) e, ap (λ (x : Outcome). x.bodies) e, ← first_done, ← ap (λ (x : Outcome). x.answer) e) refl

    module _ (n o : ℕ) (c₁ b₁ : List ℕ) (e : outcome (accepted n o) c₁ b₁ ≡ with_file c) where
      pub no_file_lem : length (files_of c.archive) ≤ c.file
          → record { answer = no_file; struck = struck; contents = c₁; bodies = b₁; contents' = c.contents'; bodies' = c.bodies' } ≡ comparing c struck
      unfolding after_first
      no_file_lem h =
          rw (ap (λ (x : Outcome). x.contents) e, ap (λ (x : Outcome). x.bodies) e, ← first_done, ← ap (λ (x : Outcome). x.answer) e, le-ltb c.file (length (files_of c.archive)) h) refl

      pub both_left : c.file < length (files_of c.archive)
          → (r : Result (Option Both) Refusal) (second : Result Accepted Refusal) (s₂ c₂ b₂ : List ℕ)
          → SecondOf second c.depth c.texts c.archive c.file struck c.contents' c.bodies' s₂ c₂ b₂
          → compared r ≡ answering (get_bytes_within c.bounds c₁ b₁ c.name c.class) (get_bytes_within c.bounds c₂ b₂ c.name c.class) (said second)
          → leaving r s₂ c₁ b₁ c₂ b₂ ≡ comparing c struck
      unfolding after_first
      both_left h r second s₂ c₂ b₂ made d =
          rw (d, ap (λ (x : Outcome). x.contents) e, ap (λ (x : Outcome). x.bodies) e, made.struck_off_left, ap (λ (x : Outcome). x.answer) made.read, ap (λ (x : Outcome). x.contents) made.read, ap (λ (x : Outcome). x.bodies) made.read, ← first_done, ← ap (λ (x : Outcome). x.answer) e, lt-ltb c.file (length (files_of c.archive)) h) refl

  -- ---- A call that answers both has made both readings and both lookups

  module _ (after : Left) (a b : Reply Place) (second : Answer) (e : after.answer ≡ both a b second) where
    pub record Made : Type 0 where
      pub made : after ≡ both_read c struck
      pub first_looked : a ≡ lookup c (with_file c)
      pub second_looked : b ≡ lookup c (without_file c)
      pub second_read : second ≡ (without_file c).answer

    -- a call that leaves `other` answers something else
    other : (l : Left) (d : Comparison) → after ≡ l → l.answer ≡ d → (both a b second ≡ d → ⊥) → Made
    other l d f g differs = absurd (differs (sym e ∙ ap (λ (x : Left). x.answer) f ∙ g))

    not_refused : (k : ℕ) → both a b second ≡ refused_by k → ⊥
    not_refused k f = let z : ◌≡◌ {A = ℕ} 0 1 = cc in omega arith

    not_none : both a b second ≡ no_file → ⊥
    not_none f = let z : ◌≡◌ {A = ℕ} 0 1 = cc in omega arith

    both_made : after ≡ both_read c struck → Made
    both_made f =
        let d = answering_both _ _ _ (sym e ∙ ap (λ (l : Left). l.answer) f) in
        record { made = f; first_looked = d.0; second_looked = d.1; second_read = d.2 }

    after_both : (r : Answer) → after ≡ after_first c struck r → Made
    unfolding after_first
    after_both (refused k) f = other _ _ f refl (not_refused k)
    after_both (accepted n o) f = at (ltb c.file (length (files_of c.archive))) f
      where
        at : (t : Bool) → after ≡ (if t then both_read c struck else only_first c struck no_file) → Made
        at true f = both_made f
        at false f = other _ _ f refl not_none

    pub answered_both : after ≡ comparing c struck → Made
    unfolding comparing
    answered_both = at (ltb (length struck) (length c.archive)) (too_short c.contents' c.bodies')
      where
        at : (t u : Bool) → after ≡ (if t then no_room c struck else if u then no_room c struck else after_first c struck (with_file c).answer) → Made
        at true u f = other _ _ f refl (not_refused 1)
        at false true f = other _ _ f refl (not_refused 1)
        at false false f = after_both (with_file c).answer f

  -- ---- The third term

  accepted_both : (a : Answer) → is_accepted a ≡ true → c.file < length (files_of c.archive) → after_first c struck a ≡ both_read c struck
  unfolding after_first
  accepted_both (accepted n o) e h = rw (lt-ltb c.file (length (files_of c.archive)) h) refl
  accepted_both (refused k) e h = absurd (not_both e refl)

  given_both : Given c → length c.archive ≤ length struck → comparing c struck ≡ both_read c struck
  unfolding comparing
  given_both g room =
      rw (le-ltb (length struck) (length c.archive) room, g.long_enough') (accepted_both (with_file c).answer g.is_read g.file_on_it)

  pub promised : (after : Left) → after ≡ comparing c struck → Promise c struck after
  promised after e = record {
    equals = e;
    third_term = λ g room.
        let m = e ∙ given_both g room in
        let t = third_term c g in
        record {
          made = m;
          answers = ap (λ (l : Left). l.answer) m ∙ answers_both _ _ _ t.first_answers;
          term = t;
        };
  }
