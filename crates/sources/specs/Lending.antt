-- A start-up as the calls lend it, and where its texts come from.
use denote.Ref.{Bor}
use Rattle.std.specs.Prelude as rattle
use Rattle.std.specs.Prelude.{Some, None, Bool, true, false, ◌&&◌, not, List, [], ℕ, eqb, if◌then◌else◌}
use Rattle.std.proofs.Math.Option.{Option, some, none}
use Rattle.definition.specs.Lists.{is_empty}
use Rattle.definition.specs.StartUp.{StartUp}
use Rattle.sources.specs.declared.StartUp as lent
use Rattle.sources.specs.declared.FirstSource.{FirstSource}
use Rattle.sources.specs.declared.FirstSource.TheVariants.{Property, Xresources, Xdefaults}
use Rattle.sources.specs.declared.SecondSource.{SecondSource}
use Rattle.sources.specs.declared.SecondSource.TheVariants.{Xenvironment, Host}

-- a text, lent with whether it could be read
abbrev pub lending : Bool → List ℕ → Option (List ℕ)
lending true text = some text
lending false text = none

abbrev pub start_up : ℕ → List ℕ → Option (List ℕ) → Option (List ℕ) → Bool → Option (List ℕ) → Option (List ℕ) → StartUp
start_up format property xresources xdefaults is_set xenvironment host = record {
  format = format;
  property = property;
  xresources = xresources;
  xdefaults = xdefaults;
  is_set = is_set;
  xenvironment = xenvironment;
  host = host;
}

-- a text as the code hands it on: one that could not be read is empty
abbrev pub or_empty : Option (List ℕ) → List ℕ
or_empty none = []
or_empty (some text) = text

unfoldable pub is_text : ℕ → List ℕ → Bool
is_text format property = eqb format 8 && not (is_empty property)

-- where the two texts come from, whether they could be read or not
unfoldable pub first_source : ℕ → List ℕ → Bool → FirstSource
first_source format property xresourcesRead =
    if is_text format property then Property else
    if xresourcesRead then Xresources else
    Xdefaults

unfoldable pub second_source : Bool → SecondSource
second_source is_set = if is_set then Xenvironment else Host

-- a text that is lent if it could be read
abbrev pub text_of : rattle.Option (Bor (List ℕ)) → Option (List ℕ)
text_of None = none
text_of (Some text) = some text.now

-- what is lent, as the definition has it
abbrev pub as_lent : lent.StartUp → StartUp
as_lent s = start_up s.format s.property.now (text_of s.xresources) (text_of s.xdefaults) s.is_set (text_of s.xenvironment) (text_of s.host)

-- the text of a source, where it is lent
abbrev pub first_at : FirstSource → lent.StartUp → rattle.Option (Bor (List ℕ))
first_at Property s = Some s.property
first_at Xresources s = s.xresources
first_at Xdefaults s = s.xdefaults

abbrev pub second_at : SecondSource → lent.StartUp → rattle.Option (Bor (List ℕ))
second_at Xenvironment s = s.xenvironment
second_at Host s = s.host

-- where a text lies, or what stands in for it if it could not be read: an address is a block of memory and an offset in it
abbrev pub lies : rattle.Option (Bor (List ℕ)) → ℕ × ℕ → ℕ × ℕ
lies None other = other
lies (Some text) other = text.ref_ptr
