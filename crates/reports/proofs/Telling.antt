-- A report by another name of what it tells. Assumes nothing.
use mathlib.Core.Path.{◌≡◌}
use Rattle.printing.specs.declared.Lines.{Lines}
use Rattle.reports.specs.declared.Report.{Report}
use Rattle.reports.specs.Telling.{Told, Reports}

pub reports_of : {t u : Told} {w w' : Lines} {r : Report} → t ≡ u → Reports t w w' r → Reports u w w' r
reports_of {t = t} {u} {w} {w'} {r} e p = rw e at p
