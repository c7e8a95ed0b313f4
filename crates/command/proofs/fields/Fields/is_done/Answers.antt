use Rattle.command.proofs.Cutting.{done_is}
use Rattle.command.proofs.fields.Fields.is_done.Goals as goal

pub returns : goal.returns
returns c = done_is c.args.self.now c.is_none.result c.is_none.ensures
