-- What is told of the comparing call's answer. Assumes nothing.
use mathlib.Core.List.{List}
use mathlib.Core.Path.{◌≡◌, refl, ap}
use Prim.Native.Nat.{ℕ}
use lib.ListN.{length}
use Rattle.definition.specs.Lists.{zeroes}
use Rattle.definition.specs.Limits.{archive_bytes, contents_words, body_bytes}
use Rattle.definition.specs.ThirdTerm.{Case, with_file, without_file}
use Rattle.std.specs.Prelude.{Ok, Err, Some, None}
use Rattle.refusal.specs.declared.Refusal.{Refusal}
use Rattle.refusal.specs.Numbers.{number as number_of}
use Rattle.printing.specs.declared.Lines.{Lines}
use Rattle.lookup.specs.Replies.{replied, LiesIn}
use Rattle.lookup.proofs.Looking.{bytes_within}
use Rattle.reader.specs.Said.{said}
use Rattle.comparison.specs.declared.Both.{Both}
use Rattle.compare.specs.Comparing.{Left, asked, comparing, leaving}
use Rattle.compare.proofs.Comparing.{answered_both}
use Rattle.reports.specs.declared.Report.{Report}
use Rattle.showing.specs.Showing.{Shown, shown_of}
use Rattle.reports.specs.Telling.{refused, both_told, not_among, Reports}
use Rattle.reports.proofs.Telling.{reports_of}
use Rattle.answers_without.specs.Twice.{compared_told, twice_told}

-- the call's two lookups lie in what was read
pub both_inside : (c : Case) (struck s c₁ b₁ c₂ b₂ : List ℕ) (both : Both) → leaving (Ok (Some both)) s c₁ b₁ c₂ b₂ ≡ comparing c struck
    → LiesIn (Ok both.with_it) (length b₁) × LiesIn both.without (length b₂)
both_inside c struck s c₁ b₁ c₂ b₂ both e =
    let m = answered_both c struck (leaving (Ok (Some both)) s c₁ b₁ c₂ b₂) (replied (Ok both.with_it)) (replied both.without) (said both.second) refl e in (
      rw (ap (λ (l : Left). l.bodies) m.made) (bytes_within c.bounds (with_file c).contents (with_file c).bodies c.name c.class (Ok both.with_it) m.first_looked),
      rw (ap (λ (l : Left). l.bodies') m.made) (bytes_within c.bounds (without_file c).contents (without_file c).bodies c.name c.class both.without m.second_looked),
    )

module _ (depth : ℕ) (texts : List (List ℕ)) (archive : List ℕ) (number : ℕ) (file name class : List ℕ) where
  abbrev left : Left
  left = comparing (asked depth texts archive number name class (zeroes contents_words) (zeroes body_bytes) (zeroes contents_words) (zeroes body_bytes)) (zeroes archive_bytes)

  module _ {s c₁ b₁ c₂ b₂ : List ℕ} {w w' : Lines} {r : Report} where
    pub both_told_lem : (both : Both) → leaving (Ok (Some both)) s c₁ b₁ c₂ b₂ ≡ left → {x y : Shown} → x ≡ shown_of b₁ (Ok both.with_it) → y ≡ shown_of b₂ both.without
        → Reports (both_told file x y) w w' r → Reports (twice_told depth texts archive number file name class) w w' r
    unfolding twice_told compared_told
    both_told_lem both e f g p = reports_of (ap (λ (l : Left). compared_told file l l.answer) e) (rw (f, g) at p)

    pub none_told : leaving (Ok None) s c₁ b₁ c₂ b₂ ≡ left → Reports (not_among file) w w' r → Reports (twice_told depth texts archive number file name class) w w' r
    unfolding twice_told compared_told
    none_told e p = reports_of (ap (λ (l : Left). compared_told file l l.answer) e) p

    pub refused_told : (k : Refusal) → leaving (Err k) s c₁ b₁ c₂ b₂ ≡ left → Reports (refused (number_of k)) w w' r → Reports (twice_told depth texts archive number file name class) w w' r
    unfolding twice_told compared_told
    refused_told k e p = reports_of (ap (λ (l : Left). compared_told file l l.answer) e) p
