use Rattle.std.proofs.Common.{arith}
use Rattle.text.proofs.Marks.{end_past, end_none, end_found}
use Rattle.text.proofs.line_end.Goals as goal

pub returns-then-from-len-clause-place : goal.returns-then-from-len-clause-place
returns-then-from-len-clause-place c = end_past c.args.bytes.now c.args.from (let h = c.if-from-len.true in omega arith)

pub returns-in-Some-clause-place : goal.returns-in-Some-clause-place
returns-in-Some-clause-place c = end_found c.args.bytes.now c.args.from c.in-Some.i c.in-Some.ensures.place

pub returns-in-None-clause-place : goal.returns-in-None-clause-place
returns-in-None-clause-place c = end_none c.args.bytes.now c.args.from c.in-None.ensures.place
