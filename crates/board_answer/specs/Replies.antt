-- A watched answer in document 02's numbers and values.
use Rattle.std.specs.Prelude.{Option, Some, None, Result, Ok, Err}
use Rattle.refusal.specs.declared.Refusal.{Refusal}
use Rattle.refusal.specs.Numbers.{number}
use Rattle.definition.specs.Lookup.{Reply, given, no_value, refused}
use Rattle.definition.specs.Board as board
use Rattle.lookup.specs.Replies.{place_of}
use Rattle.board_answer.specs.declared.Found.{Found}

-- pack number, and place and length
abbrev pub found_of : Found → board.Found
found_of f = record { pack = f.pack; place = place_of f.place }

-- what is found, none, or the number of a refusal
abbrev pub answered : Result (Option Found) Refusal → Reply board.Found
answered (Ok (Some f)) = given (found_of f)
answered (Ok None) = no_value
answered (Err k) = refused (number k)
