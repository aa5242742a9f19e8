-- `include_paths::path_of` meets its contract. Assumes nothing.
use Rattle.include_paths.proofs.Seeking.{seeks_nothing, seeks_dots, seeks_long, seeks_at}
use Rattle.include_paths.proofs.path_of.Goals as goal

pub returns-in_err-end : goal.returns-in_err-end
returns-in_err-end c = rw c.from_residual.ensures (seeks_nothing c.args.folder.now c.args.name.now c.args.path.now c.requires c.take_parts.ensures c.in_err-end.was)

pub returns-then-end : goal.returns-then-end
returns-then-end c =
    seeks_dots c.args.folder.now c.args.name.now c.args.path.now c.requires
    c.take_parts.ensures c.in_ok-end.was c.if-end.true

pub returns-then-end-gt0 : goal.returns-then-end-gt0
returns-then-end-gt0 c =
    seeks_long c.args.folder.now c.args.name.now c.args.path.now c.requires
    c.take_parts.ensures c.in_ok-end.was c.if-end.false c.if-end-gt0.true

pub returns : goal.returns
returns c =
    seeks_at c.args.folder.now c.args.name.now c.args.path.now c.requires
    c.take_parts.ensures c.in_ok-end.was c.if-end.false c.if-end-gt0.false
