-- `places::place_of` meets its contract. Assumes nothing.
use mathlib.Core.Path.{ap, sym}
use Prim.Native.Nat.{◌-◌, ◌≤◌, ◌<◌}
use native.Mathlib.Omega.{arith}
use lib.ListN.{length}
use Rattle.definition.specs.Archive.{files_of}
use Rattle.archive.proofs.Walk.{member_in}
use Rattle.places.proofs.Placing.{place_text, place_unknown, place_name}
use Rattle.places.proofs.place_of.Goals as goal

pub returns-then-origin-eq0 : goal.returns-then-origin-eq0
returns-then-origin-eq0 c = sym (place_text _ c.args.origin c.if-origin-eq0.true)

pub returns-then-count-origin : goal.returns-then-count-origin
returns-then-count-origin c =
    let past : length (files_of c.args.archive.bytes.now) < c.args.origin = omega arith in
    sym (place_unknown _ c.args.origin past)

pub slice_bounds-result-end-2 : goal.slice_bounds-result-end-2
slice_bounds-result-end-2 c =
    let there : c.args.origin - 1 < length (files_of c.args.archive.bytes.now) = omega (arith, c.if-origin-eq0.false) in
    let i = member_in c.args.archive.bytes.now c.args.archive.judged (c.args.origin - 1) there in
    omega (arith, i.body_in, i.end_in, ap (λ m. m.body) c.member-member.ensures)

pub returns : goal.returns
returns c =
    let inside : c.args.origin ≤ length (files_of c.args.archive.bytes.now) = omega arith in
    sym (place_name c.args.archive.bytes.now c.args.archive.judged c.args.origin c.if-origin-eq0.false inside c.member-member.result c.member-member.ensures)
