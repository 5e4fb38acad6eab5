use Rattle.std.proofs.Common.{◌/◌, ◌%◌, ◌<◌, length, slice_set, refl, ap, subst, ◌∙◌, arith}
use Rattle.dash_shard.specs.Search.{class_of}
use Rattle.dash_shard.specs.inner.Marks.{CountsPast}
use Rattle.std.proofs.Math.ListN.{length-set}
use Rattle.dash_shard.specs.inner.Table.{groups_in, pairs_in}
use Rattle.dash_shard.proofs.Written.{written}
use Rattle.dash_shard.proofs.Placing.{table-filled}
use Rattle.dash_shard.proofs.Ways.{mod_below, step_below}
use Rattle.dash_shard.proofs.shard.table.Table.put.Goals as goal

pub count_way-requires : goal.count_way-requires
count_way-requires g c =
    let t = c.args.self.now in
    let wide = c.requires.table.marked.slots_len in
    let within : c.args.place.slot / 16 < groups_in t = (let spot = c.requires.place.0.within in omega (arith, spot, wide)) in
    let below = step_below (groups_in t) (c.args.hash % groups_in t) (c.args.place.slot / 16) (mod_below (groups_in t) c.args.hash (omega (arith, within))) within in
    let same = ap length c.deref_mut.ensures.value in
    (let steps = c.requires.place.1 in omega (arith, below, steps, same))

pub returns-clause-table : goal.returns-clause-table
returns-clause-table g c =
    let t = c.args.self.now in
    let i = c.args.place.slot in
    let now = c.count_way.new.counts in
    let counts = written t.counts.len now _ (c.count_way.ensures.len ∙ c.deref_mut.ensures.len) in
    let counted = subst (λ l. CountsPast (length l) (c.args.hash % length l) c.args.place.steps (class_of c.args.hash) l now) c.deref_mut.ensures.value c.count_way.ensures.counts in
    table-filled t _ c.requires.table i now counts (c.count_way.ensures.len ∙ ap length c.deref_mut.ensures.value) (ap length c.put.ensures.values ∙ length-set (pairs_in t) i _)
    c.args.hash (c.args.key, c.args.value) c.requires.room c.requires.place.0 c.ranges.hash.fits
    (subst (λ s. CountsPast (groups_in t) (c.args.hash % groups_in t) s (class_of c.args.hash) t.counts.items now) c.requires.place.1 counted)
    (ap (λ m. slice_set t.tags.items i m) c.tag.ensures.is)
    c.put.ensures.values
    c.put.ensures.labels
    refl
