-- The comparing call's promise, carried from the texts that the code hands on to those of the definition. Assumes nothing.
use mathlib.Core.List.{List, [], ◌∷◌}
use mathlib.Core.Path.{◌≡◌, refl, ◌∙◌}
use Prim.Native.Nat.{ℕ}
use Rattle.definition.specs.Archive.{struck_off}
use Rattle.definition.specs.Reading.{Answer, accepted, refused, reading}
use Rattle.definition.specs.StartUp.{StartUp, first_text, second_text, texts_used}
use Rattle.definition.specs.ThirdTerm.{Case}
use Rattle.sources.specs.Lending.{or_empty}
use Rattle.startup.proofs.Starting.{reads_start}
use Rattle.compare.specs.Comparing.{Left, after_first, comparing, Promise, asked}
use Rattle.compare.proofs.Comparing.{promised}

module _ (depth : ℕ) (archive : List ℕ) (file : ℕ) (name class contents bodies contents' bodies' struck : List ℕ) where
  abbrev over : List (List ℕ) → Case
  over texts = asked depth texts archive file name class contents bodies contents' bodies'

  -- what is left depends on the texts only by what is read of them
  module _ (ts us : List (List ℕ)) (e : (archive contents bodies : List ℕ) → reading depth ts archive contents bodies ≡ reading depth us archive contents bodies) where
    same_after : (a : Answer) → after_first (over ts) struck a ≡ after_first (over us) struck a
    unfolding after_first
    same_after (accepted n o) = rw (e archive contents bodies, e (struck_off file archive) contents' bodies') refl
    same_after (refused k) = rw (e archive contents bodies) refl

    same_left : comparing (over ts) struck ≡ comparing (over us) struck
    unfolding comparing
    same_left = rw (e archive contents bodies, same_after (reading depth us archive contents bodies).answer) refl

  pub started : (s : StartUp) (texts : List (List ℕ)) → texts ≡ or_empty (first_text s.format s.property s.xresources s.xdefaults) ∷ or_empty (second_text s.is_set s.xenvironment s.host) ∷ []
      → (after : Left) → Promise (over texts) struck after → Promise (over (texts_used s)) struck after
  started s texts e after p = promised (over (texts_used s)) struck after (p.equals ∙ same_left texts (texts_used s) (reads_start s depth texts e))
