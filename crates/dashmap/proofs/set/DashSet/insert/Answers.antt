use Rattle.std.proofs.Common.{Ok, Option, Result, sym, ap, subst}
use Rattle.dash_shard.specs.Hashing.{key_hash}
use Rattle.dash_shard.specs.Held.{Inserts}
use Rattle.dash_shard.specs.declared.shard.InsertRefused.{InsertRefused}
use Rattle.dash_map.specs.Behind.{LeavesShard}
use Rattle.dashmap.proofs.Members.{stood-none}
use Rattle.dashmap.proofs.set.DashSet.insert.Goals as goal

pub returns-in-Ok : goal.returns-in-Ok
returns-in-Ok g c =
    rw (← c.self.view_is)
    (subst (λ (r : Result (Option (Unit {0})) (InsertRefused g.row.K.Denot (Unit {0}))). LeavesShard (key_hash g.K.PartialEq.eq g.K.Hash.hash_input g.S.BuildHasher g.S.Hasher.Hasher) c.self.inside.inner c.args.key (λ s t. Inserts g.K.PartialEq.eq s t c.args.key tt r))
    (ap Ok (sym (stood-none c.in-Ok.old c.is_none.result c.is_none.ensures))) c.in-Ok.ensures)

pub returns-in-Err : goal.returns-in-Err
returns-in-Err g c = rw (← c.self.view_is) c.in-Err.ensures
