-- `archive::Archive::count` meets its contract. Assumes nothing.
use native.Mathlib.Omega.{arith}
use Rattle.laws.proofs.Archive.{laid_out_says}
use Rattle.archive.proofs.Walk.{length_files, rows_room}
use Rattle.archive.proofs.Archive.count.Goals as goal

pub file_count-requires : goal.file_count-requires
file_count-requires c = omega (arith, rows_room c.args.self.bytes.now c.args.self.judged)

pub returns : goal.returns
returns c = (omega (arith, c.file_count.ensures, length_files c.args.self.bytes.now), omega (arith, c.file_count.ensures, length_files c.args.self.bytes.now, (laid_out_says c.args.self.bytes.now c.args.self.judged).few))
