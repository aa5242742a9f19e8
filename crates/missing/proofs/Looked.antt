-- What an include finds, by the code's steps. Assumes nothing.
use mathlib.Core.Bool.{true}
use mathlib.Core.List.{List}
use mathlib.Core.Option.{some, none}
use mathlib.Core.Path.{◌≡◌, refl, sym, ap}
use Prim.Native.Nat.{ℕ, ◌≤◌}
use native.Mathlib.Omega.{arith}
use lib.ListN.{length, take}
use lib.Seq.{length-take-le}
use Rattle.definition.specs.Limits.{file_name_bytes}
use Rattle.definition.specs.Archive.{files_of, laid_out, path_of}
use Rattle.archive.specs.declared.Member.{Member}
use Rattle.archive_find.specs.Finding.{find_in}
use Rattle.std.specs.Prelude.{Option, Some, None}
use Rattle.archive_find.proofs.Finding.{FoundAt, Finds, find_finds}
use Rattle.include_paths.specs.Sought.{sought_bytes}
use Rattle.missing.specs.Missing.{seen, seen_at, seen_body}
use Rattle.missing.specs.Looking.{looked_up, look_in, Looks}
use Rattle.missing.specs.declared.Look.TheVariants.{File, Absent, Nowhere}

module _ (s folder name path path' : List ℕ) (leaves : path' ≡ sought_bytes folder name path) where
  pub looks_nowhere : none ≡ path_of folder name → Looks s folder name path path' Nowhere
  unfolding look_in seen seen_at
  looks_nowhere e = record { is = rw (← e) refl; says = rw (← e) refl; stands = tt; leaves = leaves }

  module _ {n : ℕ} (laid : laid_out s ≡ true) (most : n ≤ file_name_bytes) (long : n ≤ length path') (e : some (take n path') ≡ path_of folder name) {r : Option Member} (f : r ≡ find_in s (take n path')) where
    finds : Finds s (files_of s) (take n path') r
    finds = rw f (find_finds s (take n path') laid)

    pub looks_file : {m : Member} → r ≡ Some m → Looks s folder name path path' (File m)
    unfolding look_in looked_up seen seen_at seen_body
    looks_file {m} q =
        let g : FoundAt s (files_of s) (take n path') m = rw q at finds in
        record {
          is = rw (← e, ← f, q) refl;
          says = rw (← e, g.body, g.name) refl;
          stands = (omega (arith, g.inside.name_in), g.inside.body_in, g.inside.end_in);
          leaves = leaves;
        }

    pub looks_absent : r ≡ None → Looks s folder name path path' (Absent n)
    unfolding look_in looked_up seen seen_at seen_body
    looks_absent q = record {
      is = rw (← e, ← f, q) (ap Absent (sym (length-take-le n path' long)));
      says = rw (← e, rw q at finds) refl;
      stands = most;
      leaves = leaves;
    }
