use Rattle.std.proofs.Common.{◌≡◌, ℕ, ◌+◌, ◌-◌, List, subst, arith, inl}
use Rattle.dash_shard.specs.inner.Table.{groups_in}
use Rattle.dash_shard.proofs.Searching.{IsRow, IsAt, at-next, searching-past, searching-more, misses-seen, full-seen, empty-seen, absent-here, absent-passed, absent-round, ends-empty, ends-passed}
use Rattle.dash_shard.proofs.shard.table.Table.search_past.Goals as goal

pub loop-visits-init : goal.loop-visits-init
loop-visits-init g c =
    let past = searching-past (g.Q.Query.names c.args.key) c.args.self.now c.args.hash c.args.first c.requires.passes in
    record { at = past.0; searching = past.1 }

pub returns-then-count_at-eq0-clause-absent : goal.returns-then-count_at-eq0-clause-absent
returns-then-count_at-eq0-clause-absent g c =
    absent-passed _ _ _ c.loop-visits.visits c.loop-visits.group _ _ _ c.loop-visits.invariant.searching c.requires.table c.loop-visits.auto.visits c.loop-visits.invariant.at c.index.ensures c.class-class.ensures.is c.count_at.ensures c.if-count_at-eq0.true

pub returns-then-count_at-eq0-clause-ended : goal.returns-then-count_at-eq0-clause-ended
returns-then-count_at-eq0-clause-ended g c =
    ends-passed _ _ c.requires.table c.loop-visits.visits c.loop-visits.group _ _ _ c.loop-visits.invariant.at c.index.ensures c.class-class.ensures.is c.count_at.ensures c.if-count_at-eq0.true

pub returns-then-seen-ne0-clause-ended : goal.returns-then-seen-ne0-clause-ended
returns-then-seen-ne0-clause-ended g c =
    let row = subst (λ (l : List ℕ). IsRow l c.next_group-group.result c.group_of.result.now) c.deref.ensures.value c.group_of.ensures in
    let long : c.len-count.result ≡ groups_in c.args.self.now = omega (arith, c.len-count.ensures, c.args.self.now.counts.ok.0) in
    let at = at-next c.args.self.now c.args.hash c.len-count.result (c.loop-visits.visits - 1) (c.loop-visits.visits + 1 - 1) c.loop-visits.group c.next_group-group.result long (omega (arith, c.loop-visits-test.true)) (omega (arith, c.loop-visits.auto.visits)) c.loop-visits.invariant.at c.next_group-group.ensures.below c.next_group-group.ensures.next in
    ends-empty _ _ c.requires.table (c.loop-visits.visits + 1) c.next_group-group.result at (empty-seen _ _ _ _ row c.probe-seen.ensures.empty c.if-seen-ne0.true c.probe-seen.ensures.fits.1)

pub returns-then-seen-ne0-clause-absent : goal.returns-then-seen-ne0-clause-absent
returns-then-seen-ne0-clause-absent g c =
    let row = subst (λ (l : List ℕ). IsRow l c.next_group-group.result c.group_of.result.now) c.deref.ensures.value c.group_of.ensures in
    let missing = misses-seen (g.Q.Query.names c.args.key) c.args.self.now c.args.hash c.requires.table c.next_group-group.result _ _ _ row c.tag-tag.ensures.is c.probe-seen.ensures.matches c.in_default.ensures.absent in
    let long : c.len-count.result ≡ groups_in c.args.self.now = omega (arith, c.len-count.ensures, c.args.self.now.counts.ok.0) in
    let at = at-next c.args.self.now c.args.hash c.len-count.result (c.loop-visits.visits - 1) c.loop-visits.visits c.loop-visits.group c.next_group-group.result long (omega (arith, c.loop-visits-test.true)) (omega (arith, c.loop-visits.auto.visits)) c.loop-visits.invariant.at c.next_group-group.ensures.below c.next_group-group.ensures.next in
    absent-here _ _ _ c.loop-visits.visits c.loop-visits.invariant.searching c.requires.table c.next_group-group.result at missing (empty-seen _ _ _ _ row c.probe-seen.ensures.empty c.if-seen-ne0.true c.probe-seen.ensures.fits.1)

pub loop-visits-preserved : goal.loop-visits-preserved
loop-visits-preserved g c =
    let row = subst (λ (l : List ℕ). IsRow l c.next_group-group.result c.group_of.result.now) c.deref.ensures.value c.group_of.ensures in
    let missing = misses-seen (g.Q.Query.names c.args.key) c.args.self.now c.args.hash c.requires.table c.next_group-group.result _ _ _ row c.tag-tag.ensures.is c.probe-seen.ensures.matches c.in_default.ensures.absent in
    let long : c.len-count.result ≡ groups_in c.args.self.now = omega (arith, c.len-count.ensures, c.args.self.now.counts.ok.0) in
    let at : (more : ℕ) → more ≡ c.loop-visits.visits - 1 + 1 → IsAt c.args.self.now c.args.hash more c.next_group-group.result = λ more is.
    at-next c.args.self.now c.args.hash c.len-count.result (c.loop-visits.visits - 1) more c.loop-visits.group c.next_group-group.result long (omega (arith, c.loop-visits-test.true)) is c.loop-visits.invariant.at c.next_group-group.ensures.below c.next_group-group.ensures.next in
    record {
      at = at (c.loop-visits.visits + 1 - 1) (omega (arith, c.loop-visits.auto.visits));
      searching = searching-more _ _ _ c.loop-visits.visits c.next_group-group.result c.loop-visits.invariant.searching (at c.loop-visits.visits (omega (arith, c.loop-visits.auto.visits))) (full-seen _ _ _ _ row c.probe-seen.ensures.empty c.if-seen-ne0.false) missing;
    }

pub returns-clause-absent : goal.returns-clause-absent
returns-clause-absent g c = absent-round _ _ _ c.loop-visits.visits c.loop-visits.invariant.searching c.requires.table (omega (arith, c.loop-visits-test.false, c.len-count.ensures, c.args.self.now.counts.ok.0))

pub returns-clause-ended : goal.returns-clause-ended
returns-clause-ended g c = inl (omega (arith, c.len-count.ensures, c.args.self.now.counts.ok.0))
