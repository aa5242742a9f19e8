-- Which text each step of a start-up chain uses, in words.
use Rattle.std.specs.Prelude.{Bool, true, false, List, ◌++◌, ℕ}
use Rattle.definition.specs.Lists.{ascii}
use Rattle.sources.specs.declared.FirstSource.{FirstSource}
use Rattle.sources.specs.declared.FirstSource.TheVariants.{Property, Xresources, Xdefaults}
use Rattle.sources.specs.declared.SecondSource.{SecondSource}
use Rattle.sources.specs.declared.SecondSource.TheVariants.{Xenvironment, Host}
use Rattle.sources.specs.Lending.{first_source, second_source}

-- the text, and why it is that one; or that there is none, and why. Could.Xdefaults be read?
unfoldable pub first_line : FirstSource → Bool → List ℕ
first_line Property read = ascii "getres: first text: the property\n"
first_line Xresources read = ascii "getres: first text: .Xresources, as the property is empty or not of format 8\n"
first_line Xdefaults true = ascii "getres: first text: .Xdefaults, as .Xresources could not be read\n"
first_line Xdefaults false = ascii "getres: first text: none, as neither .Xresources nor .Xdefaults could be read\n"

-- could what XENVIRONMENT names be read, and the host's?
unfoldable pub second_line : SecondSource → Bool → Bool → List ℕ
second_line Xenvironment true host = ascii "getres: second text: the one that XENVIRONMENT names\n"
second_line Xenvironment false host = ascii "getres: second text: none, as the one that XENVIRONMENT names could not be read\n"
second_line Host named true = ascii "getres: second text: the host's .Xdefaults, as XENVIRONMENT is not set\n"
second_line Host named false = ascii "getres: second text: none, as XENVIRONMENT is not set and the host's .Xdefaults could not be read\n"

-- of the property's format and bytes, and of what could be read or is set
unfoldable pub steps_of : ℕ → List ℕ → Bool → Bool → Bool → Bool → Bool → List ℕ
steps_of format property xresources xdefaults is_set xenvironment host =
    first_line (first_source format property xresources) xdefaults ++ second_line (second_source is_set) xenvironment host

-- room for two lines
abbrev pub steps_bytes : ℕ
steps_bytes = 200
