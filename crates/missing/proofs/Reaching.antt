-- Files that are reached stand where the archive has them. Assumes nothing.
use Rattle.std.specs.Prelude.{if◌then◌else◌}
use mathlib.Core.Bool.{Bool, true, false, ◌&&◌}
use mathlib.Core.List.{List, [], ◌∷◌}
use mathlib.Core.Path.{◌≡◌, refl, ◌∙◌}
use Prim.Native.Nat.{ℕ, zero, suc, ◌+◌, ◌-◌, ◌<◌}
use native.Mathlib.Omega.{arith}
use lib.Dec.{eqb, leb}
use lib.ListN.{take, drop, get_or, set, replicate, length-set, length-replicate}
use borrow.Author.Tests.{le-leb, leb-true, leb-false}
use Rattle.definition.specs.Lists.{all}
use Rattle.definition.specs.Limits.{archive_files}
use Rattle.laws.proofs.Lists.{and_true, and_both, all_get_d}
use Rattle.definition.specs.Archive.{path_of}
use Rattle.archive.specs.declared.Member.{Member}
use Rattle.include_lines.specs.Includes.{includes_of}
use Rattle.missing.specs.Looking.{look_in}
use Rattle.missing.specs.declared.Look.{Look}
use Rattle.missing.specs.declared.Look.TheVariants.{File, Absent, Nowhere}
use Rattle.missing.specs.declared.Reached.{Reached}
use Rattle.missing.specs.Reaching.{reached, no_member, none_reached, reaching, reaching_look, reaching_all, member_at, stands_in, Within, Waiting}

pub stands_in_lem : (n : ℕ) (m : Member) → Within n m → stands_in n m ≡ true
unfolding stands_in
stands_in_lem n m h = rw (le-leb m.start m.body h.0, le-leb m.body m.end h.1, le-leb m.end n h.2) refl

pub in_stands : (n : ℕ) (m : Member) → stands_in n m ≡ true → Within n m
unfolding stands_in
in_stands n m h =
    let a = and_true (leb m.start m.body && leb m.body m.end) (leb m.end n) h in
    let b = and_true (leb m.start m.body) (leb m.body m.end) a.0 in
    (leb-true m.start m.body b.0, leb-true m.body m.end b.1, leb-true m.end n a.1)

all_replicate : {A : Type 0} (p : A → Bool) (k : ℕ) (x : A) → p x ≡ true → all p (replicate k x) ≡ true
unfolding all
all_replicate p zero x h = refl
all_replicate p (suc k) x h = and_both h (all_replicate p k x h)

all_set : {A : Type 0} (p : A → Bool) (xs : List A) (i : ℕ) (x : A) → all p xs ≡ true → p x ≡ true → all p (set xs i x) ≡ true
unfolding all
all_set p [] i x h g = refl
all_set p (y ∷ xs) zero x h g = and_both g (and_true (p y) (all p xs) h).1
all_set p (y ∷ xs) (suc i) x h g = let a = and_true (p y) (all p xs) h in and_both a.0 (all_set p xs i x a.1 g)

pub waiting_none : (n : ℕ) → Waiting n none_reached
waiting_none n =
    record { stand = all_replicate (stands_in n) archive_files no_member (stands_in_lem n no_member (omega arith, omega arith, omega arith)); long = length-replicate archive_files no_member; few = omega arith }

pub waiting_more : (n : ℕ) (r : Reached) (m : Member) → Waiting n r → stands_in n m ≡ true → Waiting n (reaching r m)
unfolding reaching
waiting_more n r m w h = at (leb archive_files m.number) (leb archive_files r.count) refl (eqb (get_or r.seen m.number 0) 0)
  where
    more : Reached
    more = reached (set r.files r.count m) (set r.seen m.number 1) (r.count + 1)

    at : (a b : Bool) → leb archive_files r.count ≡ b → (c : Bool) → Waiting n (if a then r else if b then r else if c then more else r)
    at true b e c = w
    at false true e c = w
    at false false e false = w
    at false false e true = record { stand = all_set (stands_in n) r.files r.count m w.stand h; long = length-set r.files r.count m ∙ w.long; few = omega (arith, leb-false archive_files r.count e) }

-- file i of those that are reached stands in the archive
pub waiting_in : (n : ℕ) (r : Reached) (i : ℕ) → Waiting n r → i < r.count → Within n (member_at r i)
waiting_in n r i w h = in_stands n (member_at r i) (all_get_d (stands_in n) r.files i no_member w.stand (omega (arith, h, w.few, w.long)))

-- ---- An include at a time

-- what a look adds
pub reaching_file : (r : Reached) {m : Member} {l : Look} → l ≡ File m → reaching r m ≡ reaching_look r l
unfolding reaching_look
reaching_file r e = rw e refl

pub reaching_absent : (r : Reached) {n : ℕ} {l : Look} → l ≡ Absent n → r ≡ reaching_look r l
unfolding reaching_look
reaching_absent r e = rw e refl

pub reaching_nowhere : (r : Reached) {l : Look} → l ≡ Nowhere → r ≡ reaching_look r l
unfolding reaching_look
reaching_nowhere r e = rw e refl

module _ (s folder : List ℕ) (r : Reached) where
  pub reaching_end : {names : List (List ℕ)} {whole : Reached} → names ≡ [] → reaching_all s folder r names ≡ whole → r ≡ whole
  unfolding reaching_all
  reaching_end e h = rw e at h

  -- what is still to be reached, after an include more
  pub reaching_next : (t : List ℕ) (a size e : ℕ) {s' : List ℕ} {names : List (List ℕ)} {r' whole : Reached} {l : Look} → s' ≡ s → names ≡ take size (drop a t) ∷ includes_of (drop e t)
      → l ≡ look_in s' (path_of folder (take (a + size - a) (drop a t))) → r' ≡ reaching_look r l → reaching_all s folder r names ≡ whole
      → reaching_all s folder r' (includes_of (drop e t)) ≡ whole
  unfolding reaching_all
  reaching_next t a size e same n q k h =
      let z : a + size - a ≡ size = omega arith in
      rw (k, q, z, same) (rw n at h)
