use Rattle.std.proofs.Common.{List, subst}
use Rattle.dash_shard.specs.Hashing.{key_hash}
use Rattle.dash_shard.specs.Shard.{ShardState}
use Rattle.dash_map.specs.Alone.{AloneState}
use Rattle.dash_map.specs.Copies.{CopiesAlone}
use Rattle.dash_rows.specs.inner.Copies.{AreCopied}
use Rattle.dash_map.proofs.CopyingMaps.{all-copied, copied-lawful}
use Rattle.dash_map.proofs.read_only.ReadOnlyView.clone.Goals as goal

pub invariant_of-result : goal.invariant_of-result
invariant_of-result g c =
    let h = key_hash g.K.PartialEq.eq g.K.Hash.hash_input g.S.BuildHasher g.S.Hasher.Hasher in
    let a : AloneState g.row.K.Denot g.row.V.Denot g.row.S.Denot = record { hasher = c.self.inside.hasher; row = c.self.inside.shards.items } in
    let are = subst (λ (l : List (ShardState g.row.K.Denot g.row.V.Denot g.row.S.Denot)). AreCopied g.K.PartialEq.eq g.K.Kept.alike g.V.Kept.alike g.S.Clone.is_clone h l c.in_ok-shards.shards.items) c.deref.ensures.value c.in_ok-shards.ensures in
    let clone = c.in_ok-hasher.ensures.cases in
    copied-lawful g.K.PartialEq.eq g.K.Kept.alike g.V.Kept.alike g.S.Clone.is_clone h a c.in_ok-shards.shards.items are c.in_ok-hasher.hasher clone c.self.invariant (c.requires _ _ clone)

pub returns-clause-copies : goal.returns-clause-copies
returns-clause-copies g c =
    let h = key_hash g.K.PartialEq.eq g.K.Hash.hash_input g.S.BuildHasher g.S.Hasher.Hasher in
    let a : AloneState g.row.K.Denot g.row.V.Denot g.row.S.Denot = record { hasher = c.self.inside.hasher; row = c.self.inside.shards.items } in
    let are = subst (λ (l : List (ShardState g.row.K.Denot g.row.V.Denot g.row.S.Denot)). AreCopied g.K.PartialEq.eq g.K.Kept.alike g.V.Kept.alike g.S.Clone.is_clone h l c.in_ok-shards.shards.items) c.deref.ensures.value c.in_ok-shards.ensures in
    subst (λ (x : AloneState g.row.K.Denot g.row.V.Denot g.row.S.Denot). CopiesAlone g.K.PartialEq.eq g.K.Kept.alike g.V.Kept.alike g.S.Clone.is_clone x (record { hasher = c.in_ok-hasher.hasher; row = c.in_ok-shards.shards.items })) c.self.view_is
    (all-copied g.K.PartialEq.eq g.K.Kept.alike g.V.Kept.alike g.S.Clone.is_clone h a c.in_ok-shards.shards.items are c.in_ok-hasher.hasher c.in_ok-hasher.ensures.cases)

pub returns-clause-lawful : goal.returns-clause-lawful
returns-clause-lawful g c =
    let h = key_hash g.K.PartialEq.eq g.K.Hash.hash_input g.S.BuildHasher g.S.Hasher.Hasher in
    let a : AloneState g.row.K.Denot g.row.V.Denot g.row.S.Denot = record { hasher = c.self.inside.hasher; row = c.self.inside.shards.items } in
    let are = subst (λ (l : List (ShardState g.row.K.Denot g.row.V.Denot g.row.S.Denot)). AreCopied g.K.PartialEq.eq g.K.Kept.alike g.V.Kept.alike g.S.Clone.is_clone h l c.in_ok-shards.shards.items) c.deref.ensures.value c.in_ok-shards.ensures in
    let clone = c.in_ok-hasher.ensures.cases in
    copied-lawful g.K.PartialEq.eq g.K.Kept.alike g.V.Kept.alike g.S.Clone.is_clone h a c.in_ok-shards.shards.items are c.in_ok-hasher.hasher clone c.self.invariant (c.requires _ _ clone)
