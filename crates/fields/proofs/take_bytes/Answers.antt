-- `fields::take_bytes` meets its contract. Assumes nothing.
use Rattle.std.specs.Prelude.{Some, None}
use mathlib.Core.Bool.{true}
use mathlib.Core.Path.{◌≡◌, sym, ◌∙◌}
use Prim.Native.Nat.{◌+◌, ◌*◌, ◌≤◌}
use lib.ListN.{length}
use borrow.Author.Tests.{not-true, not-false}
use Rattle.definition.specs.Lists.{ascii}
use Rattle.scan.specs.Scanned.{starts_with}
use Rattle.scan.proofs.Beginnings.{starts_yes}
use Rattle.fields.proofs.Taking.{no_field, field_inside, field_taken, end_some, end_dash, end_none}
use Rattle.fields.proofs.take_bytes.Goals as goal

pub slice_bounds-decode-count : goal.slice_bounds-decode-count
slice_bounds-decode-count c = (starts_yes (ascii " ") _ _ c.starts_with.ensures (not-false _ c.if-not-starts_with.false-raw)).1

pub returns-then-size-gt0 : goal.returns-then-size-gt0
returns-then-size-gt0 c =
    let space-in : starts_with (ascii " ") c.args.rest.now ≡ true = sym c.starts_with.ensures ∙ not-false _ c.if-not-starts_with.false-raw in
    let inside : 1 + 2 * c.decode-size.result ≤ length c.args.rest.now = field_inside _ _ _ _ space-in c.decode-size.ensures in
    field_taken _ _ _ _ space-in c.decode-size.ensures (Some _) (end_some _ _ c.if-size-gt0.true) inside

pub returns-then-starts_with : goal.returns-then-starts_with
returns-then-starts_with c =
    let space-in : starts_with (ascii " ") c.args.rest.now ≡ true = sym c.starts_with.ensures ∙ not-false _ c.if-not-starts_with.false-raw in
    field_taken _ _ _ _ space-in c.decode-size.ensures (Some _) (end_dash _ _ c.if-size-gt0.false (sym c.starts_with-2.ensures ∙ c.if-starts_with.true))
    (starts_yes (ascii " -") _ _ c.starts_with-2.ensures c.if-starts_with.true).1

pub returns : goal.returns
returns c =
    let space-in : starts_with (ascii " ") c.args.rest.now ≡ true = sym c.starts_with.ensures ∙ not-false _ c.if-not-starts_with.false-raw in
    field_taken _ _ _ _ space-in c.decode-size.ensures None (end_none _ _ c.if-size-gt0.false (sym c.starts_with-2.ensures ∙ c.if-starts_with.false)) tt

pub returns-then-not-starts_with : goal.returns-then-not-starts_with
returns-then-not-starts_with c = no_field _ _ (sym c.starts_with.ensures ∙ not-true _ c.if-not-starts_with.true-raw)

pub slice_bounds-decode-start : goal.slice_bounds-decode-start
slice_bounds-decode-start c = (starts_yes (ascii " ") _ _ c.starts_with.ensures (not-false _ c.if-not-starts_with.false-raw)).1
