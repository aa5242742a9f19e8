-- What reading the texts of a start-up, as the code hands them on, comes to. Assumes nothing.
use mathlib.Core.List.{List, [], ◌∷◌, ◌++◌}
use mathlib.Core.Option.{Option, some, none}
use mathlib.Core.Path.{◌≡◌, refl}
use Prim.Native.Nat.{ℕ}
use Rattle.definition.specs.Lists.{any}
use Rattle.definition.specs.Including.{events_of, events, events_of_all}
use Rattle.definition.specs.Reading.{met, too_long, reading}
use Rattle.definition.specs.StartUp.{StartUp, first_text, second_text, added, texts_used, starting}
use Rattle.includes.proofs.Lines.{lines_end}
use Rattle.sources.specs.Lending.{or_empty}

-- a text that could not be read is handed on as an empty one, which adds nothing
module _ (first second : Option (List ℕ)) where
  abbrev handed : List (List ℕ)
  handed = or_empty first ∷ or_empty second ∷ []

met_handed : (depth : ℕ) (a b : Option (List ℕ)) (archive : List ℕ) → met depth (handed a b) archive ≡ met depth (added a ++ added b) archive
unfolding added events_of_all events events_of
met_handed depth none none archive = rw lines_end refl
met_handed depth none (some t) archive = rw lines_end refl
met_handed depth (some t) none archive = rw lines_end refl
met_handed depth (some t) (some u) archive = refl

long_handed : (a b : Option (List ℕ)) → any too_long (handed a b) ≡ any too_long (added a ++ added b)
unfolding added any
long_handed none none = refl
long_handed none (some t) = refl
long_handed (some t) none = refl
long_handed (some t) (some u) = refl

module _ (s : StartUp) where
  abbrev first : Option (List ℕ)
  first = first_text s.format s.property s.xresources s.xdefaults

  abbrev second : Option (List ℕ)
  second = second_text s.is_set s.xenvironment s.host

  pub reads_start : (depth : ℕ) (texts : List (List ℕ)) → texts ≡ handed first second
      → (archive contents bodies : List ℕ) → reading depth texts archive contents bodies ≡ starting depth s archive contents bodies
  unfolding reading texts_used
  reads_start depth texts e archive contents bodies = rw (e, met_handed depth first second archive, long_handed first second) refl
