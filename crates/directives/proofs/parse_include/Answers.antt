-- `directives::parse_include` meets its contract. Assumes nothing.
use Prim.Native.Nat.{◌-◌}
use lib.ListN.{length, take, drop}
use Rattle.definition.specs.Text.{in_quotes}
use Rattle.definition.specs.Lists.{ascii}
use Rattle.scan.proofs.Beginnings.{starts_yes, starts_no}
use Rattle.scan.proofs.Runs.{run_inside}
use Rattle.directives.proofs.Includes.{Worded, Opened, worded, opened, no_word, no_quote, no_end, named}
use Rattle.directives.proofs.parse_include.Goals as goal
use Rattle.directives.proofs.parse_include.Goals.{Else-not-starts_with, Else-not-starts_with-2}

-- the word stands there, and behind it a quote
word_in : (c : Else-not-starts_with) → Worded c.args.text.now (take (length c.skip_spaces-line.result.now - 7) (drop 7 c.skip_spaces-line.result.now))
word_in c = worded _ _ c.skip_spaces-line.ensures.0 (starts_yes (ascii "include") _ c.starts_with.result c.starts_with.ensures c.if-not-starts_with.false)

quote_in : (c : Else-not-starts_with-2) → Worded c.args.text.now (take (length c.skip_spaces-line.result.now - 7) (drop 7 c.skip_spaces-line.result.now)) → Opened c.args.text.now (take (length c.skip_spaces-quoted.result.now - 1) (drop 1 c.skip_spaces-quoted.result.now))
quote_in c word =
    opened word _ c.skip_spaces-quoted.ensures.0
    (starts_yes (ascii "\"") _ c.starts_with-2.result c.starts_with-2.ensures c.if-not-starts_with-2.false)

pub returns-then-not-starts_with : goal.returns-then-not-starts_with
returns-then-not-starts_with c = no_word _ _ c.skip_spaces-line.ensures.0 (starts_no (ascii "include") _ c.starts_with.result c.starts_with.ensures c.if-not-starts_with.true)

pub slice_bounds-skip_spaces-count : goal.slice_bounds-skip_spaces-count
slice_bounds-skip_spaces-count c = (starts_yes (ascii "include") _ c.starts_with.result c.starts_with.ensures c.if-not-starts_with.false).1

pub returns-then-not-starts_with-2 : goal.returns-then-not-starts_with-2
returns-then-not-starts_with-2 c =
    no_quote (word_in (goal.at.returns-then-not-starts_with-2 c).Else-not-starts_with) _ c.skip_spaces-quoted.ensures.0
    (starts_no (ascii "\"") _ c.starts_with-2.result c.starts_with-2.ensures c.if-not-starts_with-2.true)

pub slice_bounds-name-count : goal.slice_bounds-name-count
slice_bounds-name-count c = (starts_yes (ascii "\"") _ c.starts_with-2.result c.starts_with-2.ensures c.if-not-starts_with-2.false).1

pub slice_bounds-starts_with-count : goal.slice_bounds-starts_with-count
slice_bounds-starts_with-count c = run_inside in_quotes _ _ c.quoted_length-size.ensures

pub returns-then-not-starts_with-3 : goal.returns-then-not-starts_with-3
returns-then-not-starts_with-3 c =
    let at = goal.at.returns-then-not-starts_with-3 c in
    let quoted = quote_in at.Else-not-starts_with-2 (word_in at.Else-not-starts_with) in
    no_end quoted _ c.quoted_length-size.ensures
    (starts_no (ascii "\"") _ c.starts_with-3.result c.starts_with-3.ensures c.if-not-starts_with-3.true)

pub returns : goal.returns
returns c =
    let at = goal.at.returns c in
    let quoted = quote_in at.Else-not-starts_with-2 (word_in at.Else-not-starts_with) in
    named quoted _ c.quoted_length-size.ensures _
    (starts_yes (ascii "\"") _ c.starts_with-3.result c.starts_with-3.ensures c.if-not-starts_with-3.false).0

pub overflow_sub-result : goal.overflow_sub-result
overflow_sub-result c =
    let at = goal.at.overflow_sub-result c in
    let quoted = quote_in at.Else-not-starts_with-2 (word_in at.Else-not-starts_with) in
    quoted.left.most

pub slice_bounds-skip_spaces-start : goal.slice_bounds-skip_spaces-start
slice_bounds-skip_spaces-start c = (starts_yes (ascii "include") _ c.starts_with.result c.starts_with.ensures c.if-not-starts_with.false).1

pub slice_bounds-name-start : goal.slice_bounds-name-start
slice_bounds-name-start c = (starts_yes (ascii "\"") _ c.starts_with-2.result c.starts_with-2.ensures c.if-not-starts_with-2.false).1

pub slice_bounds-starts_with-start : goal.slice_bounds-starts_with-start
slice_bounds-starts_with-start c = run_inside in_quotes _ _ c.quoted_length-size.ensures
