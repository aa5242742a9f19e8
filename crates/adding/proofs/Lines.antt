-- The entries of a text that is read with an empty archive are those of its own lines; and the loop over these. Assumes nothing.
use mathlib.Core.List.{List, [], ◌∷◌, append-nil}
use mathlib.Core.Option.{Option, some, none}
use mathlib.Core.Path.{◌≡◌, refl, ap, ◌∙◌}
use Prim.Native.Nat.{ℕ, zero, suc, ◌+◌, ◌-◌, ◌≤◌, ◌<◌}
use native.Mathlib.Omega.{arith}
use lib.ListN.{length, take, drop, drop_of_length-le}
use lib.Seq.{drop-drop}
use Rattle.definition.specs.Limits.{default_depth}
use Rattle.definition.specs.Archive.{archive_of, files_of, files_from, lengths_of, bodies_of, body_of, path_of}
use Rattle.definition.specs.Text.{skipped, include, entry, lines_of}
use Rattle.definition.specs.Text as text
use Rattle.definition.specs.Including.{Event, events_of, opening, seeking, including, events, events_of_all, entries_of}
use Rattle.definition.specs.Reading.{plain}
use Rattle.definition.specs.Adding.{entries_added}
use Rattle.parser.specs.Putting.{entry_from, line_after}
use Rattle.laws.proofs.Lists.{part_rest}
use Rattle.lines.specs.Places.{line_in}
use Rattle.lines.specs.declared.Directive.{Directive}
use Rattle.lines.specs.declared.Resource.{Resource}
use Rattle.lines.specs.declared.Line.TheVariants.{Skip, Include, Entry}
use Rattle.include_lines.specs.Includes.{taken}
use Rattle.include_lines.proofs.Passing.{entry_found, line_is, line_takes, line_inside}
use Rattle.include_lines.proofs.Named.{lines_end, lines_step}
use Rattle.adding.specs.Only.{entered_by, Counted, only_of}

-- ---- An empty archive

seeks_none : (read : List ℕ → List Event) → ((file : List ℕ) → read file ≡ []) → (p : Option (List ℕ)) → seeking read p ≡ []
unfolding seeking
seeks_none read f none = refl
seeks_none read f (some p) = f p

-- an include finds nothing there
includes_none : (d : ℕ) (folder : List ℕ) (n : List ℕ) → including d [] folder [] n ≡ []
unfolding including seeking opening body_of
includes_none zero folder n = refl
includes_none (suc d) folder n = seeks_none _ (λ file. refl) (path_of folder n)

events_entered : (inc : List ℕ → List Event) → ((n : List ℕ) → inc n ≡ []) → (ls : List text.Line) → plain (entries_of (events_of inc [] ls)) ≡ entered_by ls
unfolding events_of entries_of entered_by
events_entered inc f [] = refl
events_entered inc f (skipped ∷ ls) = events_entered inc f ls
events_entered inc f (include n ∷ ls) = rw (f n) (events_entered inc f ls)
events_entered inc f (entry e ∷ ls) = ap (λ (es : List text.Entry). e ∷ es) (events_entered inc f ls)

pub added_entered : (t : List ℕ) → entries_added t ≡ entered_by (lines_of t)
unfolding entries_added events events_of_all archive_of files_of files_from lengths_of bodies_of
added_entered t =
    ap (λ es. plain (entries_of es)) (append-nil (events default_depth [] t))
    ∙ events_entered (including default_depth [] [] []) (includes_none default_depth []) (lines_of t)

-- ---- The loop over lines

-- the entries from `from` on are those from `at` on
pub record Seeking (t : List ℕ) (from at : ℕ) : Type 0 where
  pub same : entered_by (lines_of (drop from t)) ≡ entered_by (lines_of (drop at t))

pub seeking_first : (t : List ℕ) (from : ℕ) → Seeking t from from
seeking_first t from = record { same = refl }

module _ {t : List ℕ} {from at : ℕ} (s : Seeking t from at) where
  pub seeking_done : length t ≤ at → entered_by (lines_of (drop from t)) ≡ []
  unfolding entered_by
  seeking_done h = s.same ∙ rw (drop_of_length-le t h, lines_end) refl

  module _ (h : at < length t) where
    module _ {n : ℕ} (e : Skip n ≡ line_in (take (length t - at) (drop at t))) where
      pub skip_inside : at + n ≤ length t
      unfolding taken
      skip_inside = line_inside t at h e

      pub skip_less : 1 ≤ n
      unfolding taken
      skip_less = (line_takes t at h e).some

      pub seeking_skip : Seeking t from (at + n)
      unfolding entered_by
      seeking_skip = record { same = s.same ∙ rw (lines_step (drop at t) skipped (drop n (drop at t)) (line_is t at h e).is, drop-drop n at t) refl }

    module _ {d : Directive} (e : Include d ≡ line_in (take (length t - at) (drop at t))) where
      pub include_inside : at + d.end ≤ length t
      unfolding taken
      include_inside = line_inside t at h e

      pub include_less : 1 ≤ d.end
      unfolding taken
      include_less = (line_takes t at h e).some

      pub seeking_include : Seeking t from (at + d.end)
      unfolding entered_by
      seeking_include = record { same = s.same ∙ rw (lines_step (drop at t) (include (take d.size (drop d.start (drop at t)))) (drop d.end (drop at t)) (line_is t at h e).is, drop-drop d.end at t) refl }

    module _ {r : Resource} (e : Entry r ≡ line_in (take (length t - at) (drop at t))) where
      pub value_in : r.value ≤ length (take (length t - at) (drop at t))
      value_in = rw (part_rest t at) (line_is t at h e).inside

      pub stands : (at ≤ length t) × Counted (drop at t) r
      stands =
          let l = line_is t at h e in
          (omega arith, record { inside = l.inside; parts = l.parts; key = l.key; some_key = l.some_key; is_text = l.is_text })

      module _ {n : ℕ} (f : n ≡ line_after (take (length t - at) (drop at t)) r.value) where
        after_here : n ≡ line_after (drop at t) r.value
        after_here = f ∙ ap (λ (u : List ℕ). line_after u r.value) (part_rest t at)

        pub entry_inside : at + n ≤ length t
        unfolding taken
        entry_inside = rw (← after_here) at (line_inside t at h e)

        pub seeking_found : entered_by (lines_of (drop from t)) ≡ entry_from (drop at t) r.value ∷ entered_by (lines_of (drop (at + n) t))
        unfolding entered_by
        seeking_found =
            let g = entry_found (drop at t) (line_is t at h e) in
            s.same
            ∙ rw (lines_step (drop at t) (entry (entry_from (drop at t) r.value)) (drop (line_after (drop at t) r.value) (drop at t)) g, ← after_here, drop-drop n at t) refl

-- ---- One, or another number of them

module _ (t : List ℕ) where
  pub none_only : entered_by (lines_of t) ≡ [] → only_of (entries_added t) ≡ none
  unfolding only_of
  none_only e = rw (added_entered t, e) refl

  module _ {x : text.Entry} {es : List text.Entry} (e : entered_by (lines_of t) ≡ x ∷ es) where
    pub one_only : es ≡ [] → only_of (entries_added t) ≡ some x
    unfolding only_of
    one_only f = rw (added_entered t, e, f) refl

    pub many_only : {y : text.Entry} {fs : List text.Entry} → es ≡ y ∷ fs → only_of (entries_added t) ≡ none
    unfolding only_of
    many_only f = rw (added_entered t, e, f) refl
