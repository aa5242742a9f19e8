-- All that reading a text meets, with d depths left below it, in a folder and under a chain.
use Rattle.std.specs.Prelude.{List, ℕ}
use Rattle.definition.specs.Archive.{File}
use Rattle.definition.specs.Text.{lines_of}
use Rattle.definition.specs.Including.{Chain, Event, events_of, including}

unfoldable pub text_events : ℕ → List File → List ℕ → Chain → List ℕ → List Event
text_events d fs folder chain text = events_of (including d fs folder chain) chain (lines_of text)
