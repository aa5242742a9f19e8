-- `archive::Archive::member` meets its contract. The invariant: the walk stands at file j. Assumes nothing.
use native.Mathlib.Omega.{arith}
use lib.ListN.{length}
use Rattle.definition.specs.Archive.{files_of}
use Rattle.archive.proofs.Walk.{laid_fits, counted, walking_first, walking_next, walked_to}
use Rattle.archive.proofs.Archive.member.Goals as goal

pub loop-j-init : goal.loop-j-init
loop-j-init c = rw (c.lengths_at-at.ensures, c.count.ensures.0) (walking_first c.args.self.bytes.now (length (files_of c.args.self.bytes.now)) (counted c.args.self.bytes.now (rw c.count.ensures.0 at c.count.ensures)) (laid_fits c.args.self.bytes.now c.args.self.judged))

pub loop-j-preserved : goal.loop-j-preserved
loop-j-preserved c = walking_next c.loop-j.invariant (omega (arith, c.loop-j.invariant.many, c.requires)) c.member_at-at.ensures

pub returns : goal.returns
returns c = walked_to c.loop-j.invariant (omega arith) c.member_at.ensures

pub member_at-at-requires : goal.member_at-at-requires
member_at-at-requires c = omega (arith, c.loop-j.invariant.standing, c.loop-j.invariant.many, c.requires)

pub member_at-requires : goal.member_at-requires
member_at-requires c = omega (arith, c.loop-j.invariant.standing, c.loop-j.invariant.many, c.requires)
