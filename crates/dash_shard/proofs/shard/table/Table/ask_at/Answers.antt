use Rattle.std.proofs.Common.{refl, Some, None, get_or-set_same}
use Rattle.dash_shard.specs.inner.Table.{pairs_in}
use Rattle.dash_shard.proofs.Written.{spot-within, table-rewritten}
use Rattle.dash_shard.proofs.shard.table.Table.ask_at.Goals as goal

pub returns-clause-asks : goal.returns-clause-asks
returns-clause-asks g c =
    let after = get_or-set_same (pairs_in c.args.self.now) c.args.position (Some (c.get_mut-pair.result.now.0, c.f.new.arg3)) None (spot-within (pairs_in c.args.self.now) c.args.position c.requires.taken) in
    rw (c.get_mut-pair.ensures.value, after) (c.f.new.arg3, record { key = _; value = _; shows = (refl, refl); left = _; called = c.f.ensures; leaves = refl }, refl)

pub returns-clause-table : goal.returns-clause-table
returns-clause-table g c = table-rewritten c.args.self.now _ c.args.position _ _ c.requires.table c.get_mut-pair.ensures.value refl refl refl refl refl
