use Rattle.std.proofs.Common.{[], ◌∷◌, ◌++◌, sym, ap, subst, arith}
use Rattle.dash_shard.specs.Hashing.{key_hash}
use Rattle.dash_map.specs.Alone.{IsAlone}
use Rattle.dash_map.specs.Behind.{SawShards}
use Rattle.dash_map.specs.Copies.{CopiesAlone}
use Rattle.dash_rows.specs.inner.Copies.{AreCopied, IsCopied}
use Rattle.dash_map.proofs.CopyingMaps.{more-copied, copied-map}
use Rattle.dash_map.proofs.Seeing.{at-end, seen-more}
use Rattle.dash_map.proofs.map.DashMap.copied.Given.{Over}
use Rattle.dash_map.proofs.map.DashMap.copied.Goals.{In_ok-row}
use Rattle.dash_map.proofs.map.DashMap.copied.Goals as goal

pub loop-idx-preserved : goal.loop-idx-preserved
loop-idx-preserved g c =
    let h = key_hash g.K.PartialEq.eq g.K.Hash.hash_input g.S.BuildHasher g.S.Hasher.Hasher in
    let so = c.loop-idx.invariant.seen in
    let s = c.read_shard-shard.result.value in
    let made = subst (λ x. IsCopied g.K.PartialEq.eq g.K.Kept.alike g.V.Kept.alike g.S.Clone.is_clone h x c.in_ok-copy_shard.field-0) c.deref.ensures.0 c.in_ok-copy_shard.ensures in
    let more = more-copied g.K.PartialEq.eq g.K.Kept.alike g.V.Kept.alike g.S.Clone.is_clone h so.0 c.loop-idx.copies.items so.2 s c.in_ok-copy_shard.field-0 made in
    record {
      room = omega (arith, c.loop-idx.invariant.room, c.push_reserved.ensures.capacity);
      seen = seen-more h c.args.self.now _ c.loop-idx.idx so s c.read_shard-shard.ensures.tagged (c.read_shard-shard.ensures.found, c.drop-shard-in-loop-idx.ensures.back)
          (subst (λ l. AreCopied g.K.PartialEq.eq g.K.Kept.alike g.V.Kept.alike g.S.Clone.is_clone h (so.0 ++ s ∷ []) l) (sym c.push_reserved.ensures.items) more);
    }

-- what was made at the end of the walk
made : (g : Over) (c : In_ok-row g) → SawShards (key_hash g.K.PartialEq.eq g.K.Hash.hash_input g.S.BuildHasher g.S.Hasher.Hasher) c.args.self.now (λ a. CopiesAlone g.K.PartialEq.eq g.K.Kept.alike g.V.Kept.alike g.S.Clone.is_clone a (record { hasher = c.in_ok-hasher.hasher; row = c.in_ok-row.row })) × IsAlone (key_hash g.K.PartialEq.eq g.K.Hash.hash_input g.S.BuildHasher g.S.Hasher.Hasher) (record { hasher = c.in_ok-hasher.hasher; row = c.in_ok-row.row })
made g c =
    copied-map g.K.PartialEq.eq g.K.Kept.alike g.V.Kept.alike g.S.Clone.is_clone (key_hash g.K.PartialEq.eq g.K.Hash.hash_input g.S.BuildHasher g.S.Hasher.Hasher) c.args.self.now c.loop-idx.idx c.loop-idx.copies.items c.loop-idx.invariant.seen (at-end _ _ c.self.view_is c.self.invariant.amount c.loop-idx.idx _ c.len-idx-end.ensures c.loop-idx-test.false c.loop-idx.auto.idx-end)
    c.self.inside.hasher (ap (λ m. m.hasher) c.self.view_is) c.in_ok-hasher.hasher c.in_ok-hasher.ensures.cases c.requires c.in_ok-row.row c.in_ok-row.ensures

pub invariant_of-result : goal.invariant_of-result
invariant_of-result g c = (made g (goal.at.invariant_of-result g c).In_ok-row).1

pub returns-clause-saw : goal.returns-clause-saw
returns-clause-saw g c = (made g (goal.at.returns-clause-saw g c).In_ok-row).0

pub returns-clause-lawful : goal.returns-clause-lawful
returns-clause-lawful g c = (made g (goal.at.returns-clause-lawful g c).In_ok-row).1
