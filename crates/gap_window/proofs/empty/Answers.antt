use Rattle.calls.proofs.Windows.{stands_empty}
use Rattle.gap_window.proofs.empty.Goals as goal

pub returns-clause-arrivals : goal.returns-clause-arrivals
returns-clause-arrivals c = stands_empty
