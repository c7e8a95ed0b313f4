use Rattle.std.proofs.Common.{◌∙◌}
use Rattle.graph.proofs.View.{number}
use Rattle.graph.proofs.table.Table.count.Goals as goal

pub returns-clause-shapes : goal.returns-clause-shapes
returns-clause-shapes c = λ ss holds. let table = c.args.self.now in table.counted ∙ number table.slots ss table.sound holds
