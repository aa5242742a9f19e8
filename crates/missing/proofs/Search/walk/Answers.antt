-- `missing::Search::walk` meets its contract: each include adds what it finds. Assumes nothing.
use mathlib.Core.Path.{ap}
use Rattle.missing.proofs.Reaching.{stands_in_lem, waiting_more, reaching_file, reaching_absent, reaching_nowhere, reaching_end, reaching_next}
use Rattle.missing.proofs.Search.walk.Goals as goal

pub invariant_of-self : goal.invariant_of-self
invariant_of-self g c =
    let l = rw c.in-File.is at c.look_for.ensures.stands in
    record { waiting = rw c.reach-self.ensures (waiting_more _ _ c.in-File.member c.loop-include.self.waiting (stands_in_lem _ c.in-File.member l)) }

pub loop-include-preserved-in-File : goal.loop-include-preserved-in-File
loop-include-preserved-in-File g c =
    let i = c.loop-include.invariant in
    let s = ap (λ a. a.bytes.now) i.0 in
    let n = rw c.in-Some.is at c.next_include.ensures.1 in
    let d = c.in-Some.include in
    (i.0, reaching_next _ _ c.loop-include.self.reached _ d.start d.size d.end s n c.look_for.ensures.is (rw c.reach-self.ensures (reaching_file _ c.in-File.is)) i.1)

pub loop-include-preserved-in-Absent : goal.loop-include-preserved-in-Absent
loop-include-preserved-in-Absent g c =
    let i = c.loop-include.invariant in
    let s = ap (λ a. a.bytes.now) i.0 in
    let n = rw c.in-Some.is at c.next_include.ensures.1 in
    let d = c.in-Some.include in
    (i.0, reaching_next _ _ c.loop-include.self.reached _ d.start d.size d.end s n c.look_for.ensures.is (reaching_absent _ c.in-Absent.is) i.1)

pub loop-include-preserved : goal.loop-include-preserved
loop-include-preserved g c =
    let i = c.loop-include.invariant in
    let s = ap (λ a. a.bytes.now) i.0 in
    let n = rw c.in-Some.is at c.next_include.ensures.1 in
    let d = c.in-Some.include in
    (i.0, reaching_next _ _ c.loop-include.self.reached _ d.start d.size d.end s n c.look_for.ensures.is (reaching_nowhere _ c.in-Nowhere.is) i.1)

pub returns : goal.returns
returns g c =
    let i = c.loop-include.invariant in
    (i.0, reaching_end _ _ c.loop-include.self.reached (rw c.in_default.is at c.next_include.ensures.1) i.1)
