-- What a list of arguments asks for: a fold over them, from the left.
use Rattle.std.specs.Prelude.{Bool, not, List, [], ◌∷◌, ◌≡◌, ℕ, ◌+◌, eqb, length, Option, Some, None, is_some, if◌then◌else◌}
use Rattle.definition.specs.Lists.{take_while}
use Rattle.io.specs.Counts.{IsPrefixLen}
use Rattle.argument_words.specs.Words.{is_option}
use Rattle.options.specs.declared.Role.{Role}
use Rattle.options.specs.declared.Role.TheVariants.{Text, Name, Class}
use Rattle.options.specs.declared.Next.{Next}
use Rattle.options.specs.declared.Next.TheVariants.{Any, Operand, File, Value}
use Rattle.options.specs.declared.Flag.{Flag}
use Rattle.options.specs.declared.Flag.TheVariants.{Help, Missing, Write, List as Listing, Shared}
use Rattle.options.specs.declared.Choice.{Choice}
use Rattle.options.specs.declared.Choice.TheVariants.{Alone, Before, Chain}
use Rattle.options.specs.Options.{takes, option_of}
use Rattle.plans.specs.declared.Plan.{Plan}
use Rattle.plans.specs.Plans.{nothing_asked, to_next, to_help, to_missing, to_write, to_list, to_shared, to_chain, given_for, misunderstood, once, settled}

-- text, name, class
abbrev pub with_operand : Plan → ℕ → Plan
with_operand p i =
    if not (is_some (given_for p Text)) then once p Text i else
    if not (is_some (given_for p Name)) then once p Name i else
    once p Class i

-- the value of the option before it
abbrev pub with_value : Plan → Role → List ℕ → ℕ → Plan
with_value p role a i = if takes role a then once (to_next p Any) role i else misunderstood (to_next p Any) (Some i)

-- an option that nothing follows; of --write and --list the second is not understood
abbrev pub with_flag : Plan → Flag → ℕ → Plan
with_flag p Help i = to_help p
with_flag p Missing i = to_missing p
with_flag p Write i = if p.list then misunderstood p (Some i) else to_write p
with_flag p Listing i = if p.write then misunderstood p (Some i) else to_list p
with_flag p Shared i = to_shared p

-- an option, by what follows it, or one that is not known; those of a chain ask for it
abbrev pub with_option : Plan → Option Choice → ℕ → Plan
with_option p (Some (Alone flag)) i = with_flag p flag i
with_option p (Some (Before next)) i = to_next p next
with_option p (Some (Chain next)) i = to_chain (to_next p next)
with_option p None i = misunderstood p (Some i)

-- one step: argument i. The value of --file changes nothing here
abbrev pub with_next : Plan → Next → List ℕ → ℕ → Plan
with_next p Any a i = if is_option a then with_option p (option_of a) i else with_operand p i
with_next p Operand a i = with_operand p i
with_next p File a i = to_next p Any
with_next p (Value role) a i = with_value p role a i

abbrev pub with_argument : Plan → List ℕ → ℕ → Plan
with_argument p a i = with_next p p.next a i

-- from argument i on
unfoldable pub plan_from : Plan → ℕ → List (List ℕ) → Plan
plan_from p i [] = p
plan_from p i (a ∷ rest) = plan_from (with_argument p a i) (i + 1) rest

-- the arguments after the program's own name
unfoldable pub plan_of : List (List ℕ) → Plan
plan_of arguments = settled (plan_from nothing_asked 1 arguments)

-- ---- The value of --file

unfoldable pub not_equals : ℕ → Bool
not_equals c = not (eqb c 61)

-- the name stands before the first `=`
pub record NameEnds (argument : List ℕ) (r : ℕ) : Type 0 where
  pub is : r ≡ length (take_while not_equals argument)
  pub counts : IsPrefixLen r argument
