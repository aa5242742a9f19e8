-- A plan: what is given for what, and what the next argument is for.
use Rattle.std.specs.Prelude.{Bool, true, false, ◌&&◌, ◌||◌, List, ℕ, get_or, set, replicate, Option, Some, None, is_some, if◌then◌else◌}
use Rattle.std.specs.Option.{option_or}
use Rattle.definition.specs.Limits.{greatest_depth, default_depth}
use Rattle.options.specs.declared.Role.{Role}
use Rattle.options.specs.declared.Role.TheVariants.{Text, Name, Class, Without, Status, Depth, Format, Property, Xresources, Xdefaults, Xenvironment, Host}
use Rattle.options.specs.declared.Next.{Next}
use Rattle.options.specs.declared.Next.TheVariants.{Any, Operand, File, Value}
use Rattle.plans.specs.declared.Plan.{Plan}

-- where a plan keeps what is given for something
abbrev pub place : Role → ℕ
place Text = 0
place Name = 1
place Class = 2
place Without = 3
place Status = 4
place Depth = 5
place Format = 6
place Property = 7
place Xresources = 8
place Xdefaults = 9
place Xenvironment = 10
place Host = 11

-- the numbers of the arguments given for each thing; the first that is not understood; what is next; is help asked for, the
-- includes that find no file, the database written out, the entries that align, the keys that two included files share, and a
-- chain?
abbrev pub plan : List (Option ℕ) → Option ℕ → Next → Bool → Bool → Bool → Bool → Bool → Bool → Plan
plan given wrong next help missing write list shared chain =
    record { given = given; wrong = wrong; next = next; help = help; missing = missing; write = write; list = list; shared = shared; chain = chain }

abbrev pub nothing_asked : Plan
nothing_asked = plan (replicate 12 None) None Any false false false false false false

-- the plan with one field more
module _ (p : Plan) where
  abbrev pub to_given : List (Option ℕ) → Plan
  to_given given = plan given p.wrong p.next p.help p.missing p.write p.list p.shared p.chain

  abbrev pub to_wrong : Option ℕ → Plan
  to_wrong i = plan p.given i p.next p.help p.missing p.write p.list p.shared p.chain

  abbrev pub to_next : Next → Plan
  to_next n = plan p.given p.wrong n p.help p.missing p.write p.list p.shared p.chain

  abbrev pub to_help : Plan
  to_help = plan p.given p.wrong p.next true p.missing p.write p.list p.shared p.chain

  abbrev pub to_missing : Plan
  to_missing = plan p.given p.wrong p.next p.help true p.write p.list p.shared p.chain

  abbrev pub to_write : Plan
  to_write = plan p.given p.wrong p.next p.help p.missing true p.list p.shared p.chain

  abbrev pub to_list : Plan
  to_list = plan p.given p.wrong p.next p.help p.missing p.write true p.shared p.chain

  abbrev pub to_shared : Plan
  to_shared = plan p.given p.wrong p.next p.help p.missing p.write p.list true p.chain

  abbrev pub to_chain : Plan
  to_chain = plan p.given p.wrong p.next p.help p.missing p.write p.list p.shared true

-- the argument that was given for something
abbrev pub given_for : Plan → Role → Option ℕ
given_for p role = get_or p.given (place role) None

-- the depth of a reading for which none is asked (document 02 (x))
abbrev pub depth_unasked : Plan → ℕ
depth_unasked p = if p.chain then greatest_depth else default_depth

-- the first argument that is not understood counts
abbrev pub misunderstood : Plan → Option ℕ → Plan
misunderstood p i = to_wrong p (option_or p.wrong i)

-- a second one is not understood
abbrev pub once : Plan → Role → ℕ → Plan
once p role i = if is_some (given_for p role) then misunderstood p (Some i) else to_given p (set p.given (place role) (Some i))

-- in a chain the first operand is the name and the second the class
abbrev pub in_chain : List (Option ℕ) → List (Option ℕ)
in_chain given = set (set (set given (place Text) None) (place Name) (get_or given (place Text) None)) (place Class) (get_or given (place Name) None)

-- and a third is not understood
abbrev pub placed : Plan → Plan
placed p = if p.chain then misunderstood (to_given p (in_chain p.given)) (given_for p Class) else p

-- what is written out or listed is one database: --without is not understood
abbrev pub uncompared : Plan → Plan
uncompared p = misunderstood p (given_for p Without)

-- a database that is written out is asked no query: a name is not understood either
abbrev pub unasked : Plan → Plan
unasked p = uncompared (misunderstood p (given_for p Name))

abbrev pub settled : Plan → Plan
settled p =
    if p.write then unasked (placed p) else
    if p.list then uncompared (placed p) else
    placed p

-- the name is there; of a database that is written out, the text or a chain
abbrev pub has_operands : Plan → Bool
has_operands p = if p.write then p.chain || is_some (given_for p Text) else is_some (given_for p Name)

-- an operand can follow
abbrev pub at_operand : Next → Bool
at_operand Any = true
at_operand Operand = true
at_operand File = false
at_operand (Value role) = false

-- and no option lacks its value
abbrev pub is_whole : Plan → Bool
is_whole p = has_operands p && at_operand p.next
