-- Plans of a few lists of arguments, by evaluating the definition.
use Rattle.std.specs.Prelude.{true, false, List, [], ◌∷◌, ◌≡◌, refl, ℕ, Option, Some, None}
use Rattle.definition.specs.Lists.{ascii}
use Rattle.definition.specs.Evaluation.{definition}
use Rattle.integers.specs.Readings.{magnitude}
use Rattle.argument_words.specs.Words.{descriptor, format_of, depth_in, depth_of, is_option}
use Rattle.options.specs.declared.Role.TheVariants.{Depth}
use Rattle.options.specs.declared.Next.TheVariants.{Any, Operand, Value}
use Rattle.options.specs.Options.{chain_option, option_of}
use Rattle.plans.specs.Plans.{plan, is_whole}
use Rattle.arguments.specs.Planning.{plan_of, plan_from}

-- text, name, class, --without, --status-fd; no depth is given, and a chain's are none
plainly : Option ℕ → Option ℕ → Option ℕ → Option ℕ → Option ℕ → List (Option ℕ)
plainly t n c w s = t ∷ n ∷ c ∷ w ∷ s ∷ None ∷ None ∷ None ∷ None ∷ None ∷ None ∷ None ∷ []

planned :
    (plan_of (ascii "text" ∷ ascii "a.b" ∷ ascii "A.B" ∷ []) ≡ plan (plainly (Some 1) (Some 2) (Some 3) None None) None Any false false false false false false)
    × (plan_of (ascii "--file" ∷ ascii "-p" ∷ ascii "-" ∷ ascii "a.b" ∷ []) ≡ plan (plainly (Some 3) (Some 4) None None None) None Any false false false false false false)
    × (plan_of (ascii "--" ∷ ascii "-t" ∷ ascii "-n" ∷ ascii "--help" ∷ []) ≡ plan (plainly (Some 2) (Some 3) (Some 4) None None) None Operand false false false false false false)
    × (plan_of (ascii "t" ∷ ascii "--without" ∷ ascii "p" ∷ ascii "n" ∷ []) ≡ plan (plainly (Some 1) (Some 4) None (Some 3) None) None Any false false false false false false)
    × (plan_of (ascii "--status-fd" ∷ ascii "3" ∷ ascii "--status-fd" ∷ ascii "4" ∷ []) ≡ plan (plainly None None None None (Some 2)) (Some 4) Any false false false false false false)
    × (plan_of (ascii "--status-fd" ∷ ascii "2" ∷ ascii "t" ∷ ascii "-n" ∷ []) ≡ plan (plainly (Some 3) None None None None) (Some 2) Any false false false false false false)
    × (plan_of (ascii "t" ∷ ascii "n" ∷ ascii "c" ∷ ascii "more" ∷ ascii "--help" ∷ []) ≡ plan (plainly (Some 1) (Some 2) (Some 3) None None) (Some 4) Any true false false false false false)
    × (plan_of (ascii "--shared" ∷ ascii "t" ∷ ascii "n" ∷ []) ≡ plan (plainly (Some 2) (Some 3) None None None) None Any false false false false true false)
    × (plan_of (ascii "--missing" ∷ ascii "t" ∷ ascii "n" ∷ ascii "--missing" ∷ []) ≡ plan (plainly (Some 2) (Some 3) None None None) None Any false true false false false false)
unfolding definition plan_of plan_from is_option option_of chain_option descriptor plainly
planned = (refl, refl, refl, refl, refl, refl, refl, refl, refl)

-- with a chain: format, property, .Xresources, .Xdefaults, XENVIRONMENT's, the host's
chained :
    (plan_of (ascii "--default" ∷ ascii "n" ∷ ascii "c" ∷ []) ≡ plan (None ∷ Some 2 ∷ Some 3 ∷ None ∷ None ∷ None ∷ None ∷ None ∷ None ∷ None ∷ None ∷ None ∷ []) None Any false false false false false true)
    × (plan_of (ascii "n" ∷ ascii "--xresources" ∷ ascii "x" ∷ ascii "--host" ∷ ascii "h" ∷ []) ≡ plan (None ∷ Some 1 ∷ None ∷ None ∷ None ∷ None ∷ None ∷ None ∷ Some 3 ∷ None ∷ None ∷ Some 5 ∷ []) None Any false false false false false true)
    × (plan_of (ascii "--property" ∷ ascii "p" ∷ ascii "--property-format" ∷ ascii "16" ∷ []) ≡ plan (None ∷ None ∷ None ∷ None ∷ None ∷ None ∷ Some 4 ∷ Some 2 ∷ None ∷ None ∷ None ∷ None ∷ []) None Any false false false false false true)
    × (plan_of (ascii "--xdefaults" ∷ ascii "d" ∷ ascii "--xenvironment" ∷ ascii "e" ∷ ascii "n" ∷ []) ≡ plan (None ∷ Some 5 ∷ None ∷ None ∷ None ∷ None ∷ None ∷ None ∷ None ∷ Some 2 ∷ Some 4 ∷ None ∷ []) None Any false false false false false true)
    × (plan_of (ascii "t" ∷ ascii "n" ∷ ascii "c" ∷ ascii "--default" ∷ []) ≡ plan (None ∷ Some 1 ∷ Some 2 ∷ None ∷ None ∷ None ∷ None ∷ None ∷ None ∷ None ∷ None ∷ None ∷ []) (Some 3) Any false false false false false true)
    × (plan_of (ascii "--property-format" ∷ ascii "7" ∷ ascii "n" ∷ []) ≡ plan (None ∷ Some 3 ∷ None ∷ None ∷ None ∷ None ∷ None ∷ None ∷ None ∷ None ∷ None ∷ None ∷ []) (Some 2) Any false false false false false true)
    × (plan_of (ascii "--missing" ∷ ascii "--default" ∷ ascii "n" ∷ []) ≡ plan (None ∷ Some 3 ∷ None ∷ None ∷ None ∷ None ∷ None ∷ None ∷ None ∷ None ∷ None ∷ None ∷ []) None Any false true false false false true)
unfolding definition plan_of plan_from is_option option_of chain_option format_of
chained = (refl, refl, refl, refl, refl, refl, refl)

-- a depth, of a text or of a chain; what is no number is not understood, and what is over 100 is for the reading to refuse
deep :
    (plan_of (ascii "--depth" ∷ ascii "3" ∷ ascii "t" ∷ ascii "n" ∷ []) ≡ plan (Some 3 ∷ Some 4 ∷ None ∷ None ∷ None ∷ Some 2 ∷ None ∷ None ∷ None ∷ None ∷ None ∷ None ∷ []) None Any false false false false false false)
    × (plan_of (ascii "--default" ∷ ascii "n" ∷ ascii "--depth" ∷ ascii "0" ∷ []) ≡ plan (None ∷ Some 2 ∷ None ∷ None ∷ None ∷ Some 4 ∷ None ∷ None ∷ None ∷ None ∷ None ∷ None ∷ []) None Any false false false false false true)
    × (plan_of (ascii "--depth" ∷ ascii "101" ∷ []) ≡ plan (None ∷ None ∷ None ∷ None ∷ None ∷ Some 2 ∷ None ∷ None ∷ None ∷ None ∷ None ∷ None ∷ []) None Any false false false false false false)
    × (plan_of (ascii "--depth" ∷ ascii "" ∷ ascii "t" ∷ []) ≡ plan (plainly (Some 3) None None None None) (Some 2) Any false false false false false false)
    × (plan_of (ascii "--depth" ∷ ascii "-1" ∷ ascii "t" ∷ []) ≡ plan (plainly (Some 3) None None None None) (Some 2) Any false false false false false false)
    × (plan_of (ascii "--depth" ∷ ascii "2x" ∷ ascii "t" ∷ []) ≡ plan (plainly (Some 3) None None None None) (Some 2) Any false false false false false false)
    × (plan_of (ascii "--depth" ∷ ascii "1" ∷ ascii "--depth" ∷ ascii "2" ∷ []) ≡ plan (None ∷ None ∷ None ∷ None ∷ None ∷ Some 2 ∷ None ∷ None ∷ None ∷ None ∷ None ∷ None ∷ []) (Some 4) Any false false false false false false)
    × (plan_of (ascii "t" ∷ ascii "n" ∷ ascii "--depth" ∷ []) ≡ plan (plainly (Some 1) (Some 2) None None None) None (Value Depth) false false false false false false)
unfolding definition plan_of plan_from is_option option_of chain_option depth_of depth_in magnitude plainly
deep = (refl, refl, refl, refl, refl, refl, refl, refl)

-- a database written out: no query is asked of it
writes :
    (plan_of (ascii "--write" ∷ ascii "t" ∷ ascii "--missing" ∷ []) ≡ plan (plainly (Some 2) None None None None) None Any false true true false false false)
    × (plan_of (ascii "t" ∷ ascii "n" ∷ ascii "--write" ∷ []) ≡ plan (plainly (Some 1) (Some 2) None None None) (Some 2) Any false false true false false false)
    × (plan_of (ascii "--without" ∷ ascii "p" ∷ ascii "--write" ∷ ascii "t" ∷ []) ≡ plan (plainly (Some 4) None None (Some 2) None) (Some 2) Any false false true false false false)
    × (plan_of (ascii "--write" ∷ ascii "--nonsense" ∷ ascii "t" ∷ ascii "n" ∷ []) ≡ plan (plainly (Some 3) (Some 4) None None None) (Some 2) Any false false true false false false)
    × (plan_of (ascii "--write" ∷ ascii "--default" ∷ []) ≡ plan (plainly None None None None None) None Any false false true false false true)
    × (plan_of (ascii "--write" ∷ ascii "--default" ∷ ascii "n" ∷ []) ≡ plan (plainly None (Some 3) None None None) (Some 3) Any false false true false false true)
unfolding definition plan_of plan_from is_option option_of chain_option plainly
writes = (refl, refl, refl, refl, refl, refl)

-- the entries that align, listed: a query is asked, of one database
lists :
    (plan_of (ascii "--list" ∷ ascii "t" ∷ ascii "n" ∷ ascii "c" ∷ []) ≡ plan (plainly (Some 2) (Some 3) (Some 4) None None) None Any false false false true false false)
    × (plan_of (ascii "--default" ∷ ascii "n" ∷ ascii "--list" ∷ []) ≡ plan (plainly None (Some 2) None None None) None Any false false false true false true)
    × (plan_of (ascii "--list" ∷ ascii "--without" ∷ ascii "p" ∷ ascii "t" ∷ ascii "n" ∷ []) ≡ plan (plainly (Some 4) (Some 5) None (Some 3) None) (Some 3) Any false false false true false false)
    × (plan_of (ascii "--list" ∷ ascii "--write" ∷ ascii "t" ∷ []) ≡ plan (plainly (Some 3) None None None None) (Some 2) Any false false false true false false)
    × (plan_of (ascii "t" ∷ ascii "--write" ∷ ascii "--list" ∷ []) ≡ plan (plainly (Some 1) None None None None) (Some 3) Any false false true false false false)
    × (plan_of (ascii "--list" ∷ ascii "--shared" ∷ ascii "t" ∷ ascii "n" ∷ []) ≡ plan (plainly (Some 3) (Some 4) None None None) None Any false false false true true false)
    × (plan_of (ascii "--list" ∷ ascii "--list" ∷ ascii "--lists" ∷ []) ≡ plan (plainly None None None None None) (Some 3) Any false false false true false false)
unfolding definition plan_of plan_from is_option option_of chain_option plainly
lists = (refl, refl, refl, refl, refl, refl, refl)

whole :
    (is_whole (plan_of (ascii "t" ∷ ascii "n" ∷ [])) ≡ true)
    × (is_whole (plan_of (ascii "t" ∷ [])) ≡ false)
    × (is_whole (plan_of (ascii "--default" ∷ ascii "n" ∷ [])) ≡ true)
    × (is_whole (plan_of (ascii "--default" ∷ [])) ≡ false)
    × (is_whole (plan_of (ascii "t" ∷ ascii "n" ∷ ascii "--file" ∷ [])) ≡ false)
    × (is_whole (plan_of (ascii "t" ∷ ascii "n" ∷ ascii "--" ∷ [])) ≡ true)
    × (is_whole (plan_of (ascii "--write" ∷ ascii "t" ∷ [])) ≡ true)
    × (is_whole (plan_of (ascii "--write" ∷ [])) ≡ false)
    × (is_whole (plan_of (ascii "--write" ∷ ascii "--default" ∷ [])) ≡ true)
    × (is_whole (plan_of (ascii "--write" ∷ ascii "t" ∷ ascii "--file" ∷ [])) ≡ false)
    × (is_whole (plan_of (ascii "--list" ∷ ascii "t" ∷ [])) ≡ false)
    × (is_whole (plan_of (ascii "--list" ∷ ascii "t" ∷ ascii "n" ∷ [])) ≡ true)
unfolding definition plan_of plan_from is_option option_of chain_option
whole = (refl, refl, refl, refl, refl, refl, refl, refl, refl, refl, refl, refl)
