-- `byte_classes::byte_classes` meets its contract: the table is right at all of its 256 entries, by one test that is computed. Assumes nothing.
use mathlib.Core.Path.{refl}
use Rattle.definition.specs.Bytes.{is_digit, is_name, is_octal, is_blank, is_binding}
use Rattle.byte_classes.specs.Classes.{bits, class_of, classes_from, byte_classes}
use Rattle.byte_classes.proofs.byte_classes.Goals as goal

pub returns : goal.returns
unfolding byte_classes classes_from class_of bits is_digit is_name is_octal is_blank is_binding
returns c = refl
