use Rattle.std.proofs.Common.{◌≡◌, ℕ, ◌/◌, ◌%◌, ◌<◌, ◌≤◌, List, length, set, None, sym, ap, subst, ◌∙◌, arith, slice_index}
use Rattle.dash_shard.specs.Search.{class_of}
use Rattle.dash_shard.specs.inner.Marks.{count_of, goes_past, UncountsPast, IsFull, IsClean, KeepsTags}
use Rattle.std.proofs.Math.ListN.{length-set}
use Rattle.dash_shard.specs.inner.Table.{groups_in, pairs_in, hashes_in}
use Rattle.dash_shard.specs.Shard.{slot}
use Rattle.dash_shard.proofs.Marked.{counted-there}
use Rattle.dash_shard.proofs.Written.{written}
use Rattle.dash_shard.proofs.Placing.{by-way, to-way, some-of, table-some, table-group, table-taken}
use Rattle.dash_shard.proofs.shard.table.Table.take.Goals as goal

pub uncount_past-requires-clause-some : goal.uncount_past-requires-clause-some
uncount_past-requires-clause-some g c =
    let t = c.args.self.now in
    let mine : c.class.result ≡ class_of (slice_index (hashes_in t) c.args.position) = c.class.ensures.is ∙ ap (λ h. class_of h) c.requires.hash in
    let i = c.args.position in
    let p = some-of (slot (pairs_in t) i) c.requires.taken in
    let long : c.len-count.result ≡ groups_in t = omega (arith, c.len-count.ensures, t.counts.ok.0) in
    subst (λ d. (j : ℕ) → j < length c.deref_mut.result.now → goes_past (length c.deref_mut.result.now) c.home-home.result c.steps_to-steps.result j ≤ count_of (slice_index c.deref_mut.result.now j) d) (sym mine)
    (to-way (λ l a s. (j : ℕ) → j < length l → goes_past (length l) a s j ≤ count_of (slice_index l j) (class_of (slice_index (hashes_in t) i))) (slice_index (hashes_in t) i) i _ t.counts.items c.len-count.result c.home-home.result c.steps_to-steps.result c.deref_mut.ensures.value long
    (subst (λ h. c.home-home.result ≡ h % c.len-count.result) c.requires.hash c.home-home.ensures.is) c.steps_to-steps.ensures.is
    (counted-there c.requires.table.marked i p.0 p.1))

pub overflow_sub-self : goal.overflow_sub-self
overflow_sub-self g c = table-some c.args.self.now c.requires.table c.args.position c.requires.taken

pub returns-clause-len : goal.returns-clause-len
returns-clause-len g c = let some = table-some c.args.self.now c.requires.table c.args.position c.requires.taken in omega (arith, some)

pub returns-clause-table : goal.returns-clause-table
returns-clause-table g c =
    let t = c.args.self.now in
    let i = c.args.position in
    let p = some-of (slot (pairs_in t) i) c.requires.taken in
    let some = table-some t c.requires.table i c.requires.taken in
    let long : c.len-count.result ≡ groups_in t = omega (arith, c.len-count.ensures, t.counts.ok.0) in
    let u = c.uncount_past.ensures in
    let now = c.uncount_past.new.counts in
    let then = c.uncount_past.new.tags in
    let counts = written t.counts.len now _ (u.len ∙ c.deref_mut.ensures.len) in
    let tags = written t.tags.len then _ (u.tags_len ∙ c.deref_mut-2.ensures.len) in
    let seen = c.deref-2.ensures.value ∙ counts in
    let marks = c.deref.ensures.value ∙ tags in
    let whose : c.home-home.result ≡ slice_index (hashes_in t) i % c.len-count.result = subst (λ h. c.home-home.result ≡ h % c.len-count.result) c.requires.hash c.home-home.ensures.is in
    let mine : c.class.result ≡ class_of (slice_index (hashes_in t) i) = c.class.ensures.is ∙ ap (λ h. class_of h) c.requires.hash in
    let lengths = ap length c.deref_mut.ensures.value in
    table-taken t _ c.requires.table i now counts (u.len ∙ lengths) (ap length c.take.ensures.values ∙ length-set (pairs_in t) i None)
    p.0 then c.left_mark.result p.1 (u.tags_len ∙ ap length c.deref_mut-2.ensures.value)
    (by-way (λ l a s. UncountsPast (length l) a s (class_of (slice_index (hashes_in t) i)) l now) (slice_index (hashes_in t) i) i _ t.counts.items c.len-count.result c.home-home.result c.steps_to-steps.result c.deref_mut.ensures.value long whose c.steps_to-steps.ensures.is (subst (λ d. UncountsPast (length c.deref_mut.result.now) c.home-home.result c.steps_to-steps.result d c.deref_mut.result.now now) mine u.counts))
    (subst (λ l. KeepsTags now l then) c.deref_mut-2.ensures.value u.keeps)
    (subst (λ (l : List ℕ). (j : ℕ) → j < length l → slice_index now j ≡ 0 → IsClean then j) c.deref_mut.ensures.value u.clean)
    (subst (λ (l : List ℕ). slice_index l (i / 16) ≡ 0 → c.left_mark.result ≡ 128) seen c.left_mark.ensures.empty)
    (subst (λ (l : List ℕ). IsFull l (i / 16) → 0 < slice_index now (i / 16) → c.left_mark.result ≡ 129) marks (subst (λ (l : List ℕ). IsFull c.deref.result.now (i / 16) → 0 < slice_index l (i / 16) → c.left_mark.result ≡ 129) seen c.left_mark.ensures.removed))
    c.left_mark.ensures.free
    (ap (λ (l : List ℕ). set l i c.left_mark.result) tags)
    c.take.ensures.values
    c.take.ensures.labels
    (omega (arith, some))

pub home-home-requires : goal.home-home-requires
home-home-requires g c = let group = table-group c.args.self.now c.requires.table c.args.position c.requires.taken in omega (arith, group, c.len-count.ensures, c.args.self.now.counts.ok.0)

pub steps_to-steps-requires-clause-group : goal.steps_to-steps-requires-clause-group
steps_to-steps-requires-clause-group g c = let group = table-group c.args.self.now c.requires.table c.args.position c.requires.taken in omega (arith, group, c.len-count.ensures, c.args.self.now.counts.ok.0)

pub left_mark-requires-clause-group : goal.left_mark-requires-clause-group
left_mark-requires-clause-group g c = let group = table-group c.args.self.now c.requires.table c.args.position c.requires.taken in omega (arith, group, c.deref-2.ensures.len, c.args.self.now.counts.ok.0)

pub left_mark-requires-clause-tags : goal.left_mark-requires-clause-tags
left_mark-requires-clause-tags g c = let group = table-group c.args.self.now c.requires.table c.args.position c.requires.taken in omega (arith, group, c.deref.ensures.len, c.args.self.now.tags.ok.0, c.requires.table.marked.tags_len)

pub index_mut-requires : goal.index_mut-requires
index_mut-requires g c = let group = table-group c.args.self.now c.requires.table c.args.position c.requires.taken in omega (arith, group, c.args.self.now.tags.ok.0, c.requires.table.marked.tags_len)
