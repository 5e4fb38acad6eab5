use Rattle.std.proofs.Common.{◌≡◌, ◌<◌, All, List, length, sym, ap, subst, ◌∙◌}
use Rattle.dash_shard.specs.Hashing.{key_hash}
use Rattle.dash_shard.specs.Shard.{ShardState, IsShard}
use Rattle.dash_shard.specs.inner.Rows.{with_items}
use Rattle.dash_rows.specs.Apart.{ParRan}
use Rattle.dash_rows.specs.inner.Lanes.{FitsAll}
use Rattle.dash_steps.specs.inner.Hashed.{shard_by, IsHashBy}
use Rattle.dash_steps.specs.inner.Take.{Goes}
use Rattle.dash_map.specs.Alone.{AloneState, IsAlone, KeepsRoom}
use Rattle.dash_map.specs.Map.{MapShape}
use Rattle.dash_map.specs.ParRun.{goes_to, TakesThere}
use Rattle.dash_map.proofs.ParRunning.{lent-row, fits-row, lawful-after, keeps-after}
use Rattle.dash_map.proofs.alone.Alone.run_shards.Given.{Over}
use Rattle.dash_map.proofs.alone.Alone.run_shards.Goals.{After-run_apart, After-items_mut}
use Rattle.dash_map.proofs.alone.Alone.run_shards.Goals as goal

-- what the dealer goes by
dealer : (g : Over) (c : After-items_mut g) → c.new-dealer.result ≡ record { hasher = c.self.inside.hasher; amount = length c.self.inside.row }
dealer g c = c.new-dealer.ensures ∙ ap (λ n. record { hasher = c.self.inside.hasher; amount = n }) c.len.ensures

pub run_apart-requires-clause-within : goal.run_apart-requires-clause-within
run_apart-requires-clause-within g c κs long =
    let At : Type 0 = AloneState g.row.K.Denot g.row.V.Denot g.row.S.Denot in
    let h = key_hash g.K.PartialEq.eq g.K.Hash.hash_input g.S.BuildHasher g.S.Hasher.Hasher in
    let row = c.self.inside.row in
    let within = subst (λ (a : At). All (λ t. goes_to h g.A.Action.acts a t < length a.row) c.args.steps.items) (sym c.self.view_is) c.requires.within in
    subst (λ (ps : List (ShardState g.row.K.Denot g.row.V.Denot g.row.S.Denot)). All (λ t. shard_by g.A.Action.acts h c.new-dealer.result.hasher c.new-dealer.result.amount t < length ps) c.args.steps.items) (sym c.items_mut.ensures.value)
    (subst (λ (d : MapShape g.row.S.Denot). All (λ t. shard_by g.A.Action.acts h d.hasher d.amount t < length row) c.args.steps.items) (sym (dealer g (goal.at.run_apart-requires-clause-within g c).After-items_mut)) within)

pub run_apart-requires-clause-fits : goal.run_apart-requires-clause-fits
run_apart-requires-clause-fits g c κs long =
    let h = key_hash g.K.PartialEq.eq g.K.Hash.hash_input g.S.BuildHasher g.S.Hasher.Hasher in
    let row = c.self.inside.row in
    let d = c.new-dealer.result in
    subst (λ (ps : List (ShardState g.row.K.Denot g.row.V.Denot g.row.S.Denot)). FitsAll (λ s step hash. Goes g.A.Action.acts h s step hash × IsShard h s) (shard_by g.A.Action.acts h d.hasher d.amount) (IsHashBy g.A.Action.acts h d.hasher) ps) (sym c.items_mut.ensures.value)
    (subst (λ (d : MapShape g.row.S.Denot). FitsAll (λ s step hash. Goes g.A.Action.acts h s step hash × IsShard h s) (shard_by g.A.Action.acts h d.hasher d.amount) (IsHashBy g.A.Action.acts h d.hasher) row) (sym (dealer g (goal.at.run_apart-requires-clause-fits g c).After-items_mut))
    (fits-row h g.A.Action.acts c.self.inside.hasher row c.self.invariant))

-- what the shards took of the row
ran : (g : Over) (c : After-run_apart g) → ParRan (TakesThere (key_hash g.K.PartialEq.eq g.K.Hash.hash_input g.S.BuildHasher g.S.Hasher.Hasher) g.K.Kept.alike g.V.Kept.alike g.A.Action.acts)
    (shard_by g.A.Action.acts (key_hash g.K.PartialEq.eq g.K.Hash.hash_input g.S.BuildHasher g.S.Hasher.Hasher) c.self.inside.hasher (length c.self.inside.row)) c.self.inside.row c.args.steps.items c.run_apart.new.replies.items (with_items c.self.inside.row c.run_apart.new.parts)
ran g c =
    let h = key_hash g.K.PartialEq.eq g.K.Hash.hash_input g.S.BuildHasher g.S.Hasher.Hasher in
    let takes = TakesThere h g.K.Kept.alike g.V.Kept.alike g.A.Action.acts in
    let base = c.self.inside.hasher in
    let row = c.self.inside.row in
    let Row : Type 0 = List (ShardState g.row.K.Denot g.row.V.Denot g.row.S.Denot) in
    let own = subst (λ (ps : Row). ParRan takes (shard_by g.A.Action.acts h c.new-dealer.result.hasher c.new-dealer.result.amount) ps c.args.steps.items c.run_apart.new.replies.items c.run_apart.new.parts) c.items_mut.ensures.value c.run_apart.ensures.ran in
    subst (λ (qs : Row). ParRan takes (shard_by g.A.Action.acts h base (length row)) row c.args.steps.items c.run_apart.new.replies.items qs) (sym (lent-row row c.run_apart.new.parts own.count))
    (subst (λ (d : MapShape g.row.S.Denot). ParRan takes (shard_by g.A.Action.acts h d.hasher d.amount) row c.args.steps.items c.run_apart.new.replies.items c.run_apart.new.parts) (c.new-dealer.ensures ∙ ap (λ n. record { hasher = base; amount = n }) c.len.ensures) own)

lawful : (g : Over) (c : After-run_apart g) → IsAlone (key_hash g.K.PartialEq.eq g.K.Hash.hash_input g.S.BuildHasher g.S.Hasher.Hasher) (record { hasher = c.self.inside.hasher; row = with_items c.self.inside.row c.run_apart.new.parts })
lawful g c = lawful-after _ _ _ _ c.self.inside.hasher _ c.self.inside.row _ _ _ c.self.invariant (ran g c)

pub invariant_of-self : goal.invariant_of-self
invariant_of-self g c = lawful g (goal.at.invariant_of-self g c).After-run_apart

pub returns-clause-lawful : goal.returns-clause-lawful
returns-clause-lawful g c = lawful g (goal.at.returns-clause-lawful g c).After-run_apart

pub returns-clause-stays : goal.returns-clause-stays
returns-clause-stays g c =
    let At : Type 0 = AloneState g.row.K.Denot g.row.V.Denot g.row.S.Denot in
    let new : At = record { hasher = c.self.inside.hasher; row = with_items c.self.inside.row c.run_apart.new.parts } in
    subst (λ (a : At). KeepsRoom a new) c.self.view_is (keeps-after _ _ _ _ c.self.inside.hasher _ c.self.inside.row _ _ _ c.self.invariant (ran g (goal.at.returns-clause-stays g c).After-run_apart))

pub returns-clause-ran : goal.returns-clause-ran
returns-clause-ran g c =
    let At : Type 0 = AloneState g.row.K.Denot g.row.V.Denot g.row.S.Denot in
    let h = key_hash g.K.PartialEq.eq g.K.Hash.hash_input g.S.BuildHasher g.S.Hasher.Hasher in
    subst (λ (a : At). ParRan (TakesThere h g.K.Kept.alike g.V.Kept.alike g.A.Action.acts) (goes_to h g.A.Action.acts a) a.row c.args.steps.items c.run_apart.new.replies.items (with_items c.self.inside.row c.run_apart.new.parts)) c.self.view_is (ran g (goal.at.returns-clause-ran g c).After-run_apart)
