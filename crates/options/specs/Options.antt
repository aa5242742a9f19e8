-- What an argument says by itself.
use Rattle.std.specs.Prelude.{Bool, true, List, ℕ, Option, Some, None, is_some, if◌then◌else◌}
use Rattle.definition.specs.Lists.{ascii, same}
use Rattle.argument_words.specs.Words.{descriptor, format_of, depth_of}
use Rattle.options.specs.declared.Role.{Role}
use Rattle.options.specs.declared.Role.TheVariants.{Without, Status, Depth, Format, Property, Xresources, Xdefaults, Xenvironment, Host}
use Rattle.options.specs.declared.Next.TheVariants.{Any, Operand, File, Value}
use Rattle.options.specs.declared.Flag.TheVariants.{Help, Missing, Write, List as Listing, Shared}
use Rattle.options.specs.declared.Choice.{Choice}
use Rattle.options.specs.declared.Choice.TheVariants.{Alone, Before, Chain}

-- ---- Values

-- an argument is a value for that
abbrev pub takes : Role → List ℕ → Bool
takes Status a = is_some (descriptor a)
takes Format a = is_some (format_of a)
takes Depth a = is_some (depth_of a)
takes role a = true

-- ---- Options

-- an option of a chain, by what follows it
unfoldable pub chain_option : List ℕ → Option Choice
chain_option a =
    if same a (ascii "--default") then Some (Chain Any) else
    if same a (ascii "--property") then Some (Chain (Value Property)) else
    if same a (ascii "--property-format") then Some (Chain (Value Format)) else
    if same a (ascii "--xresources") then Some (Chain (Value Xresources)) else
    if same a (ascii "--xdefaults") then Some (Chain (Value Xdefaults)) else
    if same a (ascii "--xenvironment") then Some (Chain (Value Xenvironment)) else
    if same a (ascii "--host") then Some (Chain (Value Host)) else
    None

-- an option, by what follows it
unfoldable pub option_of : List ℕ → Option Choice
option_of a =
    if same a (ascii "--file") then Some (Before File) else
    if same a (ascii "--without") then Some (Before (Value Without)) else
    if same a (ascii "--status-fd") then Some (Before (Value Status)) else
    if same a (ascii "--help") then Some (Alone Help) else
    if same a (ascii "--") then Some (Before Operand) else
    if same a (ascii "--missing") then Some (Alone Missing) else
    if same a (ascii "--write") then Some (Alone Write) else
    if same a (ascii "--list") then Some (Alone Listing) else
    if same a (ascii "--shared") then Some (Alone Shared) else
    if same a (ascii "--depth") then Some (Before (Value Depth)) else
    chain_option a
