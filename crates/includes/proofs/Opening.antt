-- An include, by what the search of the archive answers. Assumes nothing.
use Rattle.std.specs.Prelude.{Option, Some, None, Result, Ok, Err}
use mathlib.Core.Bool.{true}
use mathlib.Core.List.{List, [], ◌∷◌, ◌++◌}
use mathlib.Core.Option.{some}
use mathlib.Core.Path.{◌≡◌, ◌∙◌}
use Prim.Native.Nat.{ℕ, ◌+◌, ◌-◌, ◌≤◌, ◌<◌}
use native.Mathlib.Omega.{arith}
use Rattle.definition.specs.Limits.{most_opens, archive_files}
use Rattle.definition.specs.Archive.{laid_out, files_of, folder_of, path_of}
use Rattle.definition.specs.Including.{Chain, including, origin_of}
use Rattle.laws.proofs.Archive.{laid_out_says}
use Rattle.laws.proofs.Origins.{origin_last, there_inside}
use Rattle.archive.specs.declared.Member.{Member}
use Rattle.archive.specs.Walk.{file_in}
use Rattle.archive_find.specs.Finding.{sought_in}
use Rattle.archive_find.proofs.Finding.{FoundAt, found_none, found_at, include_number}
use Rattle.image.specs.Running.{world, Room, counted, run, answered}
use Rattle.refusal.specs.declared.Refusal.{Refusal}
use Rattle.refusal.specs.declared.Refusal.TheVariants.{ManyOpens}
use Rattle.image.specs.declared.Totals.{Totals}
use Rattle.includes.specs.Texts.{text_events}
use Rattle.includes.proofs.Lines.{include_deep, include_absent, include_full, include_reads}

-- what `include` ensures
abbrev pub Included : (archive folder name : List ℕ) (d : ℕ) (s : Totals) (c b : List ℕ) → Result Totals Refusal → List ℕ → List ℕ → Type 0
Included archive folder name d s c b r c' b' =
    (ch : Chain) → answered r c' b' ≡ run (files_of archive) (world s c b) (including d (files_of archive) folder ch name)

-- no depth is left
pub no_depth : (archive folder name : List ℕ) (d : ℕ) (s : Totals) (c b : List ℕ) → d ≡ 0 → Included archive folder name d s c b (Ok s) c b
unfolding answered
no_depth archive folder name d s c b e ch = rw e (include_deep (files_of archive) folder ch name (world s c b))

-- the archive is searched, with a depth left, for the file that an include of `name` from `folder` asks for
pub record Sought (archive folder name : List ℕ) (d : ℕ) (s : Totals) (c b : List ℕ) (r : Option Member) : Type 0 where
  pub deep : 0 < d
  pub room : Room s c b
  pub laid : laid_out archive ≡ true
  pub found : r ≡ sought_in archive (path_of folder name)

module _ {archive folder name : List ℕ} {d : ℕ} {s : Totals} {c b : List ℕ} {r : Option Member} (f : Sought archive folder name d s c b r) where
  pub not_found : r ≡ None → Included archive folder name d s c b (Ok s) c b
  unfolding answered
  not_found e ch = include_absent (files_of archive) folder ch name (world s c b) d f.deep (found_none archive (path_of folder name) f.laid f.found e)

  module _ {m : Member} (e : r ≡ Some m) where
    pub is_found : (path : List ℕ) × (path_of folder name ≡ some path) × FoundAt archive (files_of archive) path m
    is_found = found_at archive (path_of folder name) f.laid f.found e

    pub is_at : FoundAt archive (files_of archive) is_found.0 m
    is_at = is_found.2

    -- its place, from 1, is no large number, and where its lines stand
    pub small_number : m.number < archive_files
    small_number =
        omega (arith, include_number archive f.found is_found.1 e, there_inside (files_of archive) is_found.0 (file_in archive m).body is_at.body, (laid_out_says archive f.laid).few)

    stands_in_lem : (ch : Chain) → origin_of (files_of archive) (ch ++ is_found.0 ∷ []) ≡ m.number + 1
    stands_in_lem ch = origin_last (files_of archive) ch is_found.0 ∙ omega (arith, include_number archive f.found is_found.1 e)

    pub all_opened : most_opens ≤ s.opens → Included archive folder name d s c b (Err ManyOpens) c b
    unfolding answered
    all_opened k ch =
        include_full (files_of archive) folder ch name (world s c b) d f.deep is_found.0 is_found.1 (file_in archive m).body is_at.body k

    module _ (k : s.opens < most_opens) where
      pub room_on : Room (counted s) c b
      room_on = record {
        opens_most = omega arith;
        entries_most = f.room.entries_most;
        used_most = f.room.used_most;
        words_long = f.room.words_long;
        bytes_long = f.room.bytes_long;
      }

      pub opened : {below : List ℕ} → below ≡ folder_of (file_in archive m).name → (g : Result Totals Refusal) (c' b' : List ℕ)
          → ((ch : Chain) → origin_of (files_of archive) ch ≡ m.number + 1 → answered g c' b' ≡ run (files_of archive) (world (counted s) c b) (text_events (d - 1) (files_of archive) below ch (file_in archive m).body))
          → Included archive folder name d s c b g c' b'
      opened is g c' b' after ch =
          after (ch ++ is_found.0 ∷ []) (stands_in_lem ch)
          ∙ rw (is, is_at.name) (include_reads (files_of archive) folder ch name (world s c b) d f.deep is_found.0 is_found.1 (file_in archive m).body is_at.body k)
