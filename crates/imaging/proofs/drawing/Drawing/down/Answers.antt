use Rattle.imaging.proofs.Going.{few_taken, goes}
use Rattle.imaging.proofs.drawing.Drawing.down.Goals as goal

pub overflow_sub-result : goal.overflow_sub-result
overflow_sub-result c =
    let d = c.args.self.now in
    few_taken d.table.now.slots d.table.now.sound d.slot d.stands d.stride.bits c.args.edge d.stride.most c.requires c.bits-bits.ensures.is c.front_of-path.ensures c.descend-spot.ensures

pub returns : goal.returns
returns c =
    let d = c.args.self.now in
    goes d.table.now.slots d.table.now.sound d.slot d.stands d.stride.bits c.args.edge d.stride.most c.requires c.bits-bits.ensures.is c.front_of-path.ensures c.descend-spot.ensures
