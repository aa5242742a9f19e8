-- Lookups and readings of a value, refusals among them, in whole buffers, by evaluating the definition.
use Rattle.std.specs.Prelude.{Bool, true, List, [], ◌∷◌, ◌++◌, ◌≡◌, refl, ℕ, zero, suc, ◌+◌, ◌*◌, replicate, drop, negsuc}
use Prim.Native.String.{String}
use Rattle.definition.specs.Lists.{ascii}
use Rattle.definition.specs.Limits.{default_depth}
use Rattle.definition.specs.Reading.{Outcome, reading}
use Rattle.definition.specs.Query.{window}
use Rattle.definition.specs.Lookup.{Reply, given, no_value, refused as refusedReply, Place, get_bytes_within, get_bytes}
use Rattle.definition.specs.Value.{get_string_within, get_bool_within, get_value_within, get_string, get_bool, get_value, Number, number, not_a_number, shown_within, shown}
use Rattle.definition.specs.Evaluation.{definition, no_files}

-- n copies of a text, one after another
unfoldable pub copies : ℕ → List ℕ → List ℕ
copies zero t = []
copies (suc n) t = t ++ copies n t

-- buffers that are just long enough and full of sevens, and two more words and bytes behind them
unfoldable pub contents : List ℕ
contents = replicate 2052 7

unfoldable pub bodies : List ℕ
bodies = replicate 32770 7

-- n rows of a key `.a` and no value, from `at` on, and an image of n such entries, with sevens behind
unfoldable pub rows_alike : ℕ → ℕ → List ℕ
rows_alike zero at = []
rows_alike (suc n) at = at ∷ 2 ∷ 0 ∷ 0 ∷ rows_alike n (at + 2)

unfoldable pub words_alike : ℕ → List ℕ
words_alike n = (n ∷ n * 2 ∷ rows_alike n 0) ++ contents

unfoldable pub bytes_alike : ℕ → List ℕ
bytes_alike n = copies n (ascii ".a") ++ bodies

-- a name of n parts `a`
unfoldable pub name : ℕ → List ℕ
name n = copies n (ascii "a.")

unfoldable pub include : List ℕ
include = ascii "#include \"p\"\n"

-- a lookup in the image of a text
unfoldable pub look : String → List ℕ → List ℕ → Reply Place
look t n c =
    let o = reading default_depth (ascii t ∷ []) no_files contents bodies in
    get_bytes o.contents o.bodies n c

-- an image with another entry count, another use, a start that is off, and a key of two bindings
lookups :
    (get_bytes (513 ∷ drop 1 contents) bodies (ascii "a") [] ≡ refusedReply 8)
    × (get_bytes [] bodies (ascii "a") [] ≡ refusedReply 8)
    × (get_bytes (0 ∷ 1 ∷ drop 2 contents) bodies (ascii "a") [] ≡ refusedReply 8)
    × (get_bytes (1 ∷ 2 ∷ 0 ∷ 2 ∷ 0 ∷ 0 ∷ contents) (ascii ".a" ++ bodies) (ascii "a") [] ≡ given (record { start = 2; length = 0 }))
    × (get_bytes (1 ∷ 2 ∷ 1 ∷ 2 ∷ 0 ∷ 0 ∷ contents) (ascii ".a" ++ bodies) (ascii "a") [] ≡ refusedReply 8)
    × (get_bytes (1 ∷ 3 ∷ 0 ∷ 3 ∷ 0 ∷ 0 ∷ contents) (ascii "..a" ++ bodies) (ascii "a") [] ≡ refusedReply 8)
    × (get_bytes (1 ∷ 2 ∷ 0 ∷ 2 ∷ 0 ∷ 0 ∷ contents) (ascii ".?" ++ bodies) (ascii "a") [] ≡ refusedReply 8)
    × (look "a:1" (replicate 1025 97) [] ≡ refusedReply 9)
    × (look "a:1" [] (replicate 1025 46) ≡ refusedReply 9)
    × (look "a:1" (name 33) [] ≡ refusedReply 10)
    × (look "a:1" (name 32) [] ≡ no_value)
    -- malformed is tested before 10
    × (look "a:1" (name 33) (ascii ".a") ≡ no_value)
    × (look "a:1" (ascii "a") [] ≡ given (record { start = 2; length = 1 }))
    -- none differs from an empty value
    × (look "a:" (ascii "a") [] ≡ given (record { start = 2; length = 0 }))
    × (look "a:" [] [] ≡ no_value)
unfolding definition copies contents bodies name look
lookups = (refl, refl, refl, refl, refl, refl, refl, refl, refl, refl, refl, refl, refl, refl, refl)

-- the calls that read a value, in the image of a text whose value is v
module _ (v : String) where
  image : Outcome
  image = reading default_depth ((ascii "a:" ++ ascii v) ∷ []) no_files contents bodies

  as_string : Reply Place
  as_string = get_string image.contents image.bodies (ascii "a") []

  as_bool : Reply Bool
  as_bool = get_bool image.contents image.bodies (ascii "a") []

  as_number : Reply Number
  as_number = get_value image.contents image.bodies (ascii "a") []

  showing : String → List ℕ
  showing n = shown image.contents image.bodies (ascii n) [] (ascii "default")

readings_of_a_value :
    (as_string "\\377" ≡ no_value)
    × (as_bool "\\377" ≡ no_value)
    × (as_number "\\377" ≡ no_value)
    × (as_string "ok" ≡ given (record { start = 2; length = 2 }))
    × (as_bool "yes" ≡ given true)
    × (as_bool "x" ≡ no_value)
    × (as_number "-7" ≡ given (number (negsuc 6)))
    × (as_number "x" ≡ given not_a_number)
    × (showing "x" "a" ≡ ascii "x")
    × (showing "" "a" ≡ [])
    × (showing "x" "b" ≡ ascii "default")
unfolding definition contents bodies image as_string as_bool as_number showing
readings_of_a_value = (refl, refl, refl, refl, refl, refl, refl, refl, refl, refl, refl)

-- the calls of the dictionary window (document 02 (vi)), of a name in that image
module _ (v : String) (n : List ℕ) where
  in_window : Reply Place
  in_window = get_bytes_within window (image v).contents (image v).bodies n []

  string_in_window : Reply Place
  string_in_window = get_string_within window (image v).contents (image v).bodies n []

  bool_in_window : Reply Bool
  bool_in_window = get_bool_within window (image v).contents (image v).bodies n []

  number_in_window : Reply Number
  number_in_window = get_value_within window (image v).contents (image v).bodies n []

  showing_in_window : List ℕ
  showing_in_window = shown_within window (image v).contents (image v).bodies n [] (ascii "default")

window_readings :
    (in_window "yes" (ascii "a") ≡ given (record { start = 2; length = 3 }))
    × (string_in_window "yes" (ascii "a") ≡ given (record { start = 2; length = 3 }))
    × (bool_in_window "yes" (ascii "a") ≡ given true)
    × (number_in_window "-7" (ascii "a") ≡ given (number (negsuc 6)))
    × (showing_in_window "yes" (ascii "a") ≡ ascii "yes")
    -- 8 before 9, and 9 and 10 in each
    × (get_bytes_within window [] bodies (replicate 129 97) [] ≡ refusedReply 8)
    × (in_window "yes" (replicate 129 97) ≡ refusedReply 9)
    × (string_in_window "yes" (name 9) ≡ refusedReply 10)
    × (bool_in_window "yes" (replicate 129 97) ≡ refusedReply 9)
    × (number_in_window "-7" (name 9) ≡ refusedReply 10)
    × (showing_in_window "yes" (name 9) ≡ ascii "default")
    × (in_window "no" (name 8) ≡ no_value)
unfolding definition copies contents bodies name image in_window string_in_window bool_in_window number_in_window showing_in_window
window_readings = (refl, refl, refl, refl, refl, refl, refl, refl, refl, refl, refl, refl)
