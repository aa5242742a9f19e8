-- `shown_bytes::put_shown` meets its contract. The invariant: what the bytes from here on show is still to be put. Assumes nothing.
use lib.ListN.{drop}
use Rattle.printing.proofs.Pieces.{Walk}
use Rattle.shown_bytes.specs.Shown.{shown}
use Rattle.shown_bytes.proofs.put_shown.Given as goal

abbrev pub invariant-loop-c : goal.invariant-loop-c
invariant-loop-c l = Walk (shown l.bytes) l.initial.out (shown (drop l.c-index l.bytes)) l.out
