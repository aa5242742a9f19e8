-- What is told of a lookup. Assumes nothing.
use mathlib.Core.List.{List}
use mathlib.Core.Path.{◌≡◌, ap, ◌∙◌}
use Prim.Native.Nat.{ℕ}
use Rattle.std.specs.Prelude.{Result, Option}
use Rattle.definition.specs.Lists.{zeroes}
use Rattle.definition.specs.Limits.{contents_words, body_bytes}
use Rattle.refusal.specs.declared.Refusal.{Refusal}
use Rattle.lookup.specs.declared.Place.{Place}
use Rattle.printing.specs.declared.Lines.{Lines}
use Rattle.reports.specs.declared.Report.{Report}
use Rattle.showing.specs.Showing.{Shown, shown_of}
use Rattle.reports.specs.Telling.{told, Reports}
use Rattle.reports.proofs.Telling.{reports_of}
use Rattle.answers.specs.Answering.{LooksUp, answer_told}
use Rattle.answers.proofs.Showing.{looked}

pub answer_told_lem : (depth : ℕ) (texts : List (List ℕ)) (archive name class : List ℕ) {c b : List ℕ} {w w' : Lines} {x : Result (Option Place) Refusal} {s : Shown} {r : Report}
    → LooksUp depth texts archive name class (zeroes contents_words) (zeroes body_bytes) c b x → s ≡ shown_of b x → Reports (told s) w w' r
    → Reports (answer_told depth texts archive name class) w w' r
unfolding answer_told
answer_told_lem depth texts archive name class {c} {b} {x = x} l e p =
    reports_of (ap told (e ∙ (looked depth texts archive name class (zeroes contents_words) (zeroes body_bytes) c b x l).0)) p
