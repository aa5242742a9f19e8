-- The line reader and the include function, which call each other, meet their contracts: the depth left falls. Assumes nothing.
use Rattle.std.proofs.lemmas.Result.{err_from_is_err_and}
use mathlib.Core.List.{List}
use Prim.Native.Nat.{ℕ, ◌-◌, ◌≤◌}
use native.Mathlib.Omega.{arith}
use lib.ListN.{length, take, drop}
use Rattle.definition.specs.Archive.{files_of}
use Rattle.definition.specs.Text.{line_at}
use Rattle.laws.proofs.Lists.{length_part_rest}
use Rattle.image.specs.Running.{world}
use Rattle.lines.proofs.Lined.{Skips, Includes, Enters, lined}
use Rattle.parser.specs.Putting.{Puts}
use Rattle.plain_lines.proofs.Lines.{ahead}
use Rattle.includes.proofs.Opening.{no_depth, Sought, not_found, is_at, all_opened, small_number, room_on, opened}
use Rattle.includes.proofs.Loop.{Reading, reading_done, plain_inside, reading_plain, reading_skip, skip_less, reading_include, include_less, include_stops, reading_entry, entry_inside, entry_less, entry_stops}
use Rattle.includes.proofs.+include_parse_database.Goals as goal
use Rattle.includes.proofs.+include_parse_database.Goals.{include-After-find_include, parse_database-After-plain_lines-plain, parse_database-In-Skip, parse_database-In-Include, parse_database-In-Entry, parse_database-In_ok-n-in-Entry}

-- ---- What is known on the way

-- the archive was searched for the file
sought : {t : ℕ} (c : include-After-find_include t) → Sought c.args.archive.bytes.now c.args.folder.now c.args.name.now c.args.depth c.args.totals c.args.words.now c.args.store.now c.find_include.result
sought c = record { deep = omega (arith, c.if-depth-eq0.false); room = c.requires; laid = c.args.archive.judged; found = c.find_include.ensures }

-- what is left of a text behind n bytes, as the code takes it
abbrev behind : List ℕ → ℕ → List ℕ
behind text n = take (length text - n) (drop n text)

-- the lines of the common form are read, and the text is shorter
here : {t : ℕ} (c : parse_database-After-plain_lines-plain t) → Reading c.args.origin c.args.depth (files_of c.args.archive.bytes.now) c.args.folder.now c.args.text.now (world c.args.totals c.args.words.now c.args.store.now) (ahead c.loop-rest.s c.plain_lines-plain.result) c.plain_lines-plain.new.words c.plain_lines-plain.new.store (behind c.loop-rest.rest.now c.plain_lines-plain.result.taken)
here c = reading_plain c.loop-rest.invariant c.plain_lines-plain.ensures c.plain_lines-plain.auto.words c.plain_lines-plain.auto.store

shrunk : {t : ℕ} (c : parse_database-After-plain_lines-plain t) → length (behind c.loop-rest.rest.now c.plain_lines-plain.result.taken) ≤ length c.loop-rest.rest.now
shrunk c = omega (arith, length_part_rest c.loop-rest.rest.now c.plain_lines-plain.result.taken)

-- the line that follows them, of each kind
skipped : {t : ℕ} (c : parse_database-In-Skip t) → let rest = behind c.loop-rest.rest.now c.plain_lines-plain.result.taken in Skips rest (line_at rest) c.in-Skip.n
skipped c = rw c.in-Skip.is at (lined _ (omega (arith, c.if-rest-eq0.false)) c.parse_line.ensures)

named : {t : ℕ} (c : parse_database-In-Include t) → let rest = behind c.loop-rest.rest.now c.plain_lines-plain.result.taken in Includes rest (line_at rest) c.in-Include.directive
named c = rw c.in-Include.is at (lined _ (omega (arith, c.if-rest-eq0.false)) c.parse_line.ensures)

entered : {t : ℕ} (c : parse_database-In-Entry t) → let rest = behind c.loop-rest.rest.now c.plain_lines-plain.result.taken in Enters rest (line_at rest) c.in-Entry.resource
entered c = rw c.in-Entry.is at (lined _ (omega (arith, c.if-rest-eq0.false)) c.parse_line.ensures)

put : {t : ℕ} (c : parse_database-In_ok-n-in-Entry t) → Puts (behind c.loop-rest.rest.now c.plain_lines-plain.result.taken) c.in-Entry.resource.value c.args.origin (world (ahead c.loop-rest.s c.plain_lines-plain.result) c.plain_lines-plain.new.words c.plain_lines-plain.new.store) c.parse_entry.new.words c.parse_entry.new.store c.in_ok-n-in-Entry.n c.in_ok-n-in-Entry.next
put c = rw c.in_ok-n-in-Entry.was at c.parse_entry.ensures

-- ---- An include

pub include-returns-then-depth-eq0 : goal.include-returns-then-depth-eq0
include-returns-then-depth-eq0 t c = no_depth c.args.archive.bytes.now c.args.folder.now c.args.name.now c.args.depth c.args.totals c.args.words.now c.args.store.now c.if-depth-eq0.true

pub include-returns-in_default : goal.include-returns-in_default
include-returns-in_default t c =
    let at = goal.at.include-returns-in_default t c in
    not_found (sought at.After-find_include) c.in_default.is

pub include-returns-then-opens-ge-MOST_OPENS : goal.include-returns-then-opens-ge-MOST_OPENS
include-returns-then-opens-ge-MOST_OPENS t c =
    let at = goal.at.include-returns-then-opens-ge-MOST_OPENS t c in
    all_opened (sought at.After-find_include) c.in-Some.is c.if-opens-ge-MOST_OPENS.true

pub include-overflow_add-origin : goal.include-overflow_add-origin
include-overflow_add-origin t c =
    let at = goal.at.include-overflow_add-origin t c in
    omega (arith, small_number (sought at.After-find_include) c.in-Some.is)

pub include-overflow_cast-origin : goal.include-overflow_cast-origin
include-overflow_cast-origin t c =
    let at = goal.at.include-overflow_cast-origin t c in
    omega (arith, small_number (sought at.After-find_include) c.in-Some.is)

pub include-slice_bounds-folder_of-count : goal.include-slice_bounds-folder_of-count
include-slice_bounds-folder_of-count t c =
    let at = goal.at.include-slice_bounds-folder_of-count t c in
    (is_at (sought at.After-find_include) c.in-Some.is).inside.name_in

pub include-slice_bounds-parse_database-count : goal.include-slice_bounds-parse_database-count
include-slice_bounds-parse_database-count t c =
    let at = goal.at.include-slice_bounds-parse_database-count t c in
    (is_at (sought at.After-find_include) c.in-Some.is).inside.body_in

pub include-slice_bounds-folder_of-start : goal.include-slice_bounds-folder_of-start
include-slice_bounds-folder_of-start t c =
    let at = goal.at.include-slice_bounds-folder_of-start t c in
    let s = (is_at (sought at.After-find_include) c.in-Some.is).inside in
    omega (arith, s.name_in, s.body_in, s.end_in)

pub include-slice_bounds-folder_of-end : goal.include-slice_bounds-folder_of-end
include-slice_bounds-folder_of-end t c =
    let at = goal.at.include-slice_bounds-folder_of-end t c in
    let s = (is_at (sought at.After-find_include) c.in-Some.is).inside in
    omega (arith, s.name_in, s.body_in, s.end_in)

pub include-slice_bounds-parse_database-start : goal.include-slice_bounds-parse_database-start
include-slice_bounds-parse_database-start t c =
    let at = goal.at.include-slice_bounds-parse_database-start t c in
    let s = (is_at (sought at.After-find_include) c.in-Some.is).inside in
    omega (arith, s.body_in, s.end_in)

pub include-slice_bounds-parse_database-end : goal.include-slice_bounds-parse_database-end
include-slice_bounds-parse_database-end t c =
    let at = goal.at.include-slice_bounds-parse_database-end t c in
    let s = (is_at (sought at.After-find_include) c.in-Some.is).inside in
    omega (arith, s.body_in, s.end_in)

pub include-parse_database-requires : goal.include-parse_database-requires
include-parse_database-requires t c =
    let at = goal.at.include-parse_database-requires t c in
    (omega (arith, c.decreases, c.if-depth-eq0.false), room_on (sought at.After-find_include) c.in-Some.is c.if-opens-ge-MOST_OPENS.false)

pub include-returns : goal.include-returns
include-returns t c =
    let at = goal.at.include-returns t c in
    opened (sought at.After-find_include) c.in-Some.is c.if-opens-ge-MOST_OPENS.false c.folder_of-below.ensures.0 _ _ _ c.parse_database.ensures

-- ---- The lines of a text

pub parse_database-slice_bounds-rest-count : goal.parse_database-slice_bounds-rest-count
parse_database-slice_bounds-rest-count t c = plain_inside c.loop-rest.invariant c.plain_lines-plain.ensures

pub parse_database-slice_bounds-rest-start : goal.parse_database-slice_bounds-rest-start
parse_database-slice_bounds-rest-start t c = plain_inside c.loop-rest.invariant c.plain_lines-plain.ensures

pub parse_database-returns-then-rest-eq0 : goal.parse_database-returns-then-rest-eq0
parse_database-returns-then-rest-eq0 t c =
    let at = goal.at.parse_database-returns-then-rest-eq0 t c in
    reading_done (here at.After-plain_lines-plain) (omega (arith, c.if-rest-eq0.true))

pub parse_database-slice_bounds-rest-count-in-Skip : goal.parse_database-slice_bounds-rest-count-in-Skip
parse_database-slice_bounds-rest-count-in-Skip t c = (skipped c).inside

pub parse_database-slice_bounds-rest-start-in-Skip : goal.parse_database-slice_bounds-rest-start-in-Skip
parse_database-slice_bounds-rest-start-in-Skip t c = (skipped c).inside

pub parse_database-loop-rest-smaller-in-Skip : goal.parse_database-loop-rest-smaller-in-Skip
parse_database-loop-rest-smaller-in-Skip t c =
    let at = goal.at.parse_database-loop-rest-smaller-in-Skip t c in
    omega (arith, skip_less (here at.After-plain_lines-plain) (skipped at.In-Skip), shrunk at.After-plain_lines-plain)

pub parse_database-loop-rest-preserved-in-Skip : goal.parse_database-loop-rest-preserved-in-Skip
parse_database-loop-rest-preserved-in-Skip t c =
    let at = goal.at.parse_database-loop-rest-preserved-in-Skip t c in
    reading_skip (here at.After-plain_lines-plain) (skipped at.In-Skip)

pub parse_database-overflow_add-name : goal.parse_database-overflow_add-name
parse_database-overflow_add-name t c =
    let at = goal.at.parse_database-overflow_add-name t c in
    omega (arith, (named at.In-Include).named, (here at.After-plain_lines-plain).rest_most)

pub parse_database-slice_bounds-name-end : goal.parse_database-slice_bounds-name-end
parse_database-slice_bounds-name-end t c =
    let at = goal.at.parse_database-slice_bounds-name-end t c in
    (named at.In-Include).named

pub parse_database-include-requires : goal.parse_database-include-requires
parse_database-include-requires t c =
    let at = goal.at.parse_database-include-requires t c in
    (omega (arith, c.decreases), (here at.After-plain_lines-plain).room)

pub parse_database-returns-in_err-s-in-Include : goal.parse_database-returns-in_err-s-in-Include
parse_database-returns-in_err-s-in-Include t c =
    let at = goal.at.parse_database-returns-in_err-s-in-Include t c in
    let p = err_from_is_err_and c.from_residual.result c.from_residual.ensures.1 in
    rw (p.1, p.2) (include_stops (here at.After-plain_lines-plain) (named at.In-Include) _ _ _ (rw c.in_err-s-in-Include.was at c.include.ensures))

pub parse_database-slice_bounds-rest-count-in-Include : goal.parse_database-slice_bounds-rest-count-in-Include
parse_database-slice_bounds-rest-count-in-Include t c =
    let at = goal.at.parse_database-slice_bounds-rest-count-in-Include t c in
    (named at.In-Include).inside

pub parse_database-slice_bounds-rest-start-in-Include : goal.parse_database-slice_bounds-rest-start-in-Include
parse_database-slice_bounds-rest-start-in-Include t c =
    let at = goal.at.parse_database-slice_bounds-rest-start-in-Include t c in
    (named at.In-Include).inside

pub parse_database-loop-rest-smaller-in-Include : goal.parse_database-loop-rest-smaller-in-Include
parse_database-loop-rest-smaller-in-Include t c =
    let at = goal.at.parse_database-loop-rest-smaller-in-Include t c in
    omega (arith, include_less (here at.After-plain_lines-plain) (named at.In-Include), shrunk at.After-plain_lines-plain)

pub parse_database-loop-rest-preserved-in-Include : goal.parse_database-loop-rest-preserved-in-Include
parse_database-loop-rest-preserved-in-Include t c =
    let at = goal.at.parse_database-loop-rest-preserved-in-Include t c in
    reading_include (here at.After-plain_lines-plain) (named at.In-Include) _ _ _ (rw c.in_ok-s-in-Include.was at c.include.ensures) c.include.auto.words c.include.auto.store

pub parse_database-parse_entry-requires : goal.parse_database-parse_entry-requires
parse_database-parse_entry-requires t c =
    let at = goal.at.parse_database-parse_entry-requires t c in
    let l = entered at.In-Entry in
    record { inside = l.inside; parts = l.parts; key = l.key; some_key = l.some_key; is_text = l.is_text; room = (here at.After-plain_lines-plain).room }

pub parse_database-returns-in_err-n-in-Entry : goal.parse_database-returns-in_err-n-in-Entry
parse_database-returns-in_err-n-in-Entry t c =
    let at = goal.at.parse_database-returns-in_err-n-in-Entry t c in
    let p = err_from_is_err_and c.from_residual-in_err-n-in-Entry.result c.from_residual-in_err-n-in-Entry.ensures.1 in
    rw (p.1, p.2) (entry_stops (here at.After-plain_lines-plain) (entered at.In-Entry) _ _ _ (rw c.in_err-n-in-Entry.was at c.parse_entry.ensures))

pub parse_database-slice_bounds-rest-count-in-Entry : goal.parse_database-slice_bounds-rest-count-in-Entry
parse_database-slice_bounds-rest-count-in-Entry t c =
    let at = goal.at.parse_database-slice_bounds-rest-count-in-Entry t c in
    entry_inside (here at.After-plain_lines-plain) (entered at.In-Entry) (put at.In_ok-n-in-Entry)

pub parse_database-slice_bounds-rest-start-in-Entry : goal.parse_database-slice_bounds-rest-start-in-Entry
parse_database-slice_bounds-rest-start-in-Entry t c =
    let at = goal.at.parse_database-slice_bounds-rest-start-in-Entry t c in
    entry_inside (here at.After-plain_lines-plain) (entered at.In-Entry) (put at.In_ok-n-in-Entry)

pub parse_database-loop-rest-smaller : goal.parse_database-loop-rest-smaller
parse_database-loop-rest-smaller t c =
    let at = goal.at.parse_database-loop-rest-smaller t c in
    omega (arith, entry_less (here at.After-plain_lines-plain) (entered at.In-Entry) (put at.In_ok-n-in-Entry), shrunk at.After-plain_lines-plain)

pub parse_database-loop-rest-preserved : goal.parse_database-loop-rest-preserved
parse_database-loop-rest-preserved t c =
    let at = goal.at.parse_database-loop-rest-preserved t c in
    reading_entry (here at.After-plain_lines-plain) (entered at.In-Entry) (put at.In_ok-n-in-Entry) c.parse_entry.auto.words c.parse_entry.auto.store

pub parse_database-returns : goal.parse_database-returns
parse_database-returns t c = reading_done c.loop-rest.invariant c.loop-rest-test.false
