use Rattle.std.proofs.Common.{None, Some}
use Rattle.dash_shard.specs.Hashing.{key_hash}
use Rattle.dash_map.specs.Extend.{MadeOf, Overfills}
use Rattle.dashmap.specs.Set.{of_members}
use Rattle.dashmap.proofs.Members.{came-inside, refused-inside}
use Rattle.dashmap.proofs.set.alone.AloneSet.from_iter.Goals as goal

pub returns-clause-made : goal.returns-clause-made
returns-clause-made g c =
    came-inside (λ m. m.keys) (of_members g.U.IntoIter.Iterator.next_gives) _ None (λ ps. MadeOf (key_hash g.K.PartialEq.eq g.K.Hash.hash_input g.S.BuildHasher g.S.Hasher.Hasher) ps c.in_ok-inner.inner) (g.U.IntoIterator.into_iter_gives c.args.iter) c.into_iter-keys.ensures.into_iter_gives
    c.in_ok-inner.ensures.made

pub returns-in_err-inner-clause-refused : goal.returns-in_err-inner-clause-refused
returns-in_err-inner-clause-refused g c =
    refused-inside _ _ c.in_err-inner.field-0.0 c.from_residual.result c.from_residual.ensures.1 c.in_err-inner.ensures.refused
    (λ e came. came-inside (λ m. m.keys) (of_members g.U.IntoIter.Iterator.next_gives) _ (Some (e.key, e.value)) (λ ps. Overfills (key_hash g.K.PartialEq.eq g.K.Hash.hash_input g.S.BuildHasher g.S.Hasher.Hasher) ps e.key) (g.U.IntoIterator.into_iter_gives c.args.iter) c.into_iter-keys.ensures.into_iter_gives came)
