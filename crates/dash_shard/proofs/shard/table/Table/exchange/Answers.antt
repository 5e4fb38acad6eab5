use Rattle.std.proofs.Common.{Some, refl, ap, set}
use Rattle.dash_shard.specs.inner.Table.{pairs_in}
use Rattle.dash_shard.proofs.Rewriting.{rewritten}
use Rattle.dash_shard.proofs.shard.table.Table.exchange.Goals as goal

pub returns-clause-new : goal.returns-clause-new
returns-clause-new g c =
    let t = c.args.self.now in
    rewritten t _ c.args.position _ (c.args.key, c.args.value) c.requires.table c.get_mut.ensures.value (ap (λ q. set (pairs_in t) c.args.position (Some q)) c.replace.ensures.after) refl refl refl refl
