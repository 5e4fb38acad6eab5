use Rattle.dash_map.proofs.AloneWalks.{whole, advanced}
use Rattle.dash_map.proofs.iter.alone_mut.AloneIterMut.advance.Goals as goal

pub returns-in-Some-clause-passes : goal.returns-in-Some-clause-passes
returns-in-Some-clause-passes g c = let x = advanced c.args.self.now c.in-Some.shard_i c.in-Some.slot c.in-Some.ensures.next in (x.0, x.1)

pub returns-in-Some-clause-whole : goal.returns-in-Some-clause-whole
returns-in-Some-clause-whole g c = whole c.args.self.now.map.now.row c.args.self.now.shard_i c.args.self.now.position

pub returns-in-None-clause-whole : goal.returns-in-None-clause-whole
returns-in-None-clause-whole g c = whole c.args.self.now.map.now.row c.args.self.now.shard_i c.args.self.now.position
