-- `reader_without::read_without` meets its contract. Assumes nothing.
use mathlib.Core.Path.{sym}
use Prim.Native.Nat.{◌≤◌}
use native.Mathlib.Omega.{arith}
use lib.ListN.{length}
use lib.Seq.{length-take-le}
use Rattle.definition.specs.Archive.{struck_off}
use Rattle.laws.proofs.Archive.{struck_shorter}
use Rattle.reader_without.proofs.Second.{second_read}
use Rattle.reader_without.proofs.read_without.Goals as goal

pub strike_off-n-requires : goal.strike_off-n-requires
strike_off-n-requires c =
    let fits : length (struck_off c.args.file c.args.archive.bytes.now) ≤ length c.args.struck.now = omega (arith, c.requires.1, struck_shorter c.args.file c.args.archive.bytes.now c.args.archive.judged c.requires.0) in
    (c.requires.0, fits)

pub slice_bounds-without-end : goal.slice_bounds-without-end
slice_bounds-without-end c =
    let fits : length (struck_off c.args.file c.args.archive.bytes.now) ≤ length c.args.struck.now = omega (arith, c.requires.1, struck_shorter c.args.file c.args.archive.bytes.now c.args.archive.judged c.requires.0) in
    let shorter : c.strike_off-n.result ≤ length c.strike_off-n.new.out = omega (arith, c.strike_off-n.ensures.0, c.strike_off-n.auto.out, fits) in
    shorter

pub slice_bounds-without-end-2 : goal.slice_bounds-without-end-2
slice_bounds-without-end-2 c =
    let fits : length (struck_off c.args.file c.args.archive.bytes.now) ≤ length c.args.struck.now = omega (arith, c.requires.1, struck_shorter c.args.file c.args.archive.bytes.now c.args.archive.judged c.requires.0) in
    let shorter : c.strike_off-n.result ≤ length c.strike_off-n.new.out = omega (arith, c.strike_off-n.ensures.0, c.strike_off-n.auto.out, fits) in
    sym (length-take-le _ _ shorter)

pub returns : goal.returns
returns c =
    let fits : length (struck_off c.args.file c.args.archive.bytes.now) ≤ length c.args.struck.now = omega (arith, c.requires.1, struck_shorter c.args.file c.args.archive.bytes.now c.args.archive.judged c.requires.0) in
    second_read c.read_texts.result _ _ _ _ _ _ _ _ _ _ _ fits c.strike_off-n.ensures.0 c.strike_off-n.ensures.1 c.read_texts.ensures
