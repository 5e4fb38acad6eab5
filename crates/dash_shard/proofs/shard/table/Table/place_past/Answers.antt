use Rattle.std.proofs.Common.{◌≡◌, ℕ, ◌+◌, ◌-◌, ◌<◌, List, Option, None, sym, ap, subst, ◌∙◌, arith}
use Rattle.std.proofs.lemmas.Bool.{false≢true}
use Rattle.std.specs.Option.{is_some, unwrap_or}
use Rattle.dash_shard.specs.inner.Table.{groups_in, IsAbsent}
use Rattle.dash_shard.proofs.Searching.{IsRow, IsAt, IsFreed, at-next, searching-past, searching-more, misses-seen, full-seen, empty-seen, absent-here, absent-passed, absent-round, placing-first, placing-more, placing-empty, placing-round, placed}
use Rattle.dash_shard.proofs.shard.table.Table.place_past.Given.{Over}
use Rattle.dash_shard.proofs.shard.table.Table.place_past.Goals.{else-loop-visits-test, then-loop-visits-test+then-is_some+then-count_at-eq0, then-loop-visits-test+else-is_some+in_default+then-seen-ne0}
use Rattle.dash_shard.proofs.shard.table.Table.place_past.Goals as goal

pub loop-visits-init : goal.loop-visits-init
loop-visits-init g c =
    let t = c.args.self.now in
    let past = searching-past (λ k. g.K.PartialEq.eq k c.args.key.now) t c.args.hash c.args.first c.requires.passes in
    let row = subst (λ (l : List ℕ). IsRow l c.args.first c.group_of.result.now) c.deref.ensures.value c.group_of.ensures in
    let some : 0 < groups_in t = omega (arith, c.requires.passes.within) in
    record {
      at = past.0;
      searching = past.1;
      placing = placing-more t c.args.hash 0 c.args.first _ past.0 row c.requires.table some None c.first_free-free.result c.first_free-free.ensures (placing-first _ _);
    }

pub loop-visits-preserved : goal.loop-visits-preserved
loop-visits-preserved g c =
    let t = c.args.self.now in
    let long : c.len-count.result ≡ groups_in t = omega (arith, c.len-count.ensures, t.counts.ok.0) in
    let row = subst (λ (l : List ℕ). IsRow l c.next_group-group.result c.group_of-row.result.now) c.deref-in-loop-visits.ensures.value c.group_of-row.ensures in
    let missing = misses-seen (λ k. g.K.PartialEq.eq k c.args.key.now) t c.args.hash c.requires.table c.next_group-group.result _ _ _ row c.tag-tag.ensures.is c.probe-seen.ensures.matches c.in_default.ensures.absent in
    let at : (more : ℕ) → more ≡ c.loop-visits._visits - 1 + 1 → IsAt t c.args.hash more c.next_group-group.result = λ more is.
    at-next t c.args.hash c.len-count.result (c.loop-visits._visits - 1) more c.loop-visits.group c.next_group-group.result long (omega (arith, c.loop-visits-test.true)) is c.loop-visits.invariant.at c.next_group-group.ensures.below c.next_group-group.ensures.next in
    let here = at c.loop-visits._visits (omega (arith, c.loop-visits.auto._visits)) in
    record {
      at = at (c.loop-visits._visits + 1 - 1) (omega (arith, c.loop-visits.auto._visits));
      searching = searching-more _ _ _ c.loop-visits._visits c.next_group-group.result c.loop-visits.invariant.searching here (full-seen _ _ _ _ row c.probe-seen.ensures.empty c.if-seen-ne0.false) missing;
      placing = placing-more t c.args.hash c.loop-visits._visits c.next_group-group.result _ here row c.requires.table (omega (arith, c.loop-visits-test.true, long)) c.loop-visits.free c.first_free-free-in-loop-visits.result c.first_free-free-in-loop-visits.ensures c.loop-visits.invariant.placing;
    }

pub returns-clause-absent : goal.returns-clause-absent
returns-clause-absent g c =
    let t = c.args.self.now in
    let long : c.len-count.result ≡ groups_in t = omega (arith, c.len-count.ensures, t.counts.ok.0) in
    elim c.loop-visits-test.branch as (λ _. IsAbsent g.K.PartialEq.eq t c.args.hash c.args.key.now) [
      | else-loop-visits-test w ↦ absent-round _ _ _ c.loop-visits._visits c.loop-visits.invariant.searching c.requires.table (omega (arith, w.loop-visits-test.false, long))
      | then-loop-visits-test+else-is_some+in_default+then-seen-ne0 w ↦
          let row = subst (λ (l : List ℕ). IsRow l w.next_group-group.result w.group_of-row.result.now) w.deref-in-loop-visits.ensures.value w.group_of-row.ensures in
          let missing = misses-seen (λ k. g.K.PartialEq.eq k c.args.key.now) t c.args.hash c.requires.table w.next_group-group.result _ _ _ row c.tag-tag.ensures.is w.probe-seen.ensures.matches w.in_default.ensures.absent in
          let here = at-next t c.args.hash c.len-count.result (c.loop-visits._visits - 1) c.loop-visits._visits c.loop-visits.group w.next_group-group.result long (omega (arith, w.loop-visits-test.true)) (omega (arith, c.loop-visits.auto._visits)) c.loop-visits.invariant.at w.next_group-group.ensures.below w.next_group-group.ensures.next in
          absent-here _ _ _ c.loop-visits._visits c.loop-visits.invariant.searching c.requires.table w.next_group-group.result here missing (empty-seen _ _ _ _ row w.probe-seen.ensures.empty w.if-seen-ne0.true w.probe-seen.ensures.fits.1)
      | then-loop-visits-test+then-is_some+then-count_at-eq0 w ↦
          absent-passed _ _ _ c.loop-visits._visits c.loop-visits.group _ _ _ c.loop-visits.invariant.searching c.requires.table c.loop-visits.auto._visits c.loop-visits.invariant.at w.index.ensures c.class-class.ensures.is w.count_at.ensures w.if-count_at-eq0.true
    ]

-- the free place, or 0
freed : (g : Over) (c : goal.After-unwrap_or g) → IsFreed c.args.self.now c.args.hash c.unwrap_or.result
freed g c =
    let t = c.args.self.now in
    let long : c.len-count.result ≡ groups_in t = omega (arith, c.len-count.ensures, t.counts.ok.0) in
    let some : 0 < groups_in t = omega (arith, c.requires.passes.within) in
    let now : (o : Option ℕ) → c.loop-visits-test.free ≡ o → IsFreed t c.args.hash (unwrap_or o 0) → IsFreed t c.args.hash c.unwrap_or.result = λ o is at.
    subst (IsFreed t c.args.hash) (sym (c.unwrap_or.ensures ∙ ap (λ f. unwrap_or f 0) is)) at in
    elim c.loop-visits-test.branch as (λ _. IsFreed t c.args.hash c.unwrap_or.result) [
      | else-loop-visits-test w ↦
          let p = c.loop-visits.invariant.placing in
          now c.loop-visits.free w.free-is (placed t c.args.hash c.loop-visits.free c.requires.table some p.found (λ room. placing-round t c.args.hash c.requires.table c.loop-visits._visits c.loop-visits.free (omega (arith, w.loop-visits-test.false, long)) room p))
      | then-loop-visits-test+else-is_some+in_default+then-seen-ne0 w ↦
          let row = subst (λ (l : List ℕ). IsRow l w.next_group-group.result w.group_of-row.result.now) w.deref-in-loop-visits.ensures.value w.group_of-row.ensures in
          let here = at-next t c.args.hash c.len-count.result (c.loop-visits._visits - 1) c.loop-visits._visits c.loop-visits.group w.next_group-group.result long (omega (arith, w.loop-visits-test.true)) (omega (arith, c.loop-visits.auto._visits)) c.loop-visits.invariant.at w.next_group-group.ensures.below w.next_group-group.ensures.next in
          let free = w.first_free-free-in-loop-visits.result in
          let p = placing-more t c.args.hash c.loop-visits._visits w.next_group-group.result _ here row c.requires.table (omega (arith, w.loop-visits-test.true, long)) c.loop-visits.free free w.first_free-free-in-loop-visits.ensures c.loop-visits.invariant.placing in
          now free w.free-is (placed t c.args.hash free c.requires.table some p.found (λ _. placing-empty t c.args.hash c.loop-visits._visits w.next_group-group.result _ here row free p (empty-seen _ _ _ _ row w.probe-seen.ensures.empty w.if-seen-ne0.true w.probe-seen.ensures.fits.1)))
      | then-loop-visits-test+then-is_some+then-count_at-eq0 w ↦
          now c.loop-visits.free w.free-is (placed t c.args.hash c.loop-visits.free c.requires.table some c.loop-visits.invariant.placing.found (λ _ none. absurd (false≢true (sym (w.if-is_some.ensures ∙ ap is_some none)))))
    ]

pub returns-clause-within : goal.returns-clause-within
returns-clause-within g c = let f = freed g c in f.within

pub returns-clause-free : goal.returns-clause-free
returns-clause-free g c room = let f = freed g c in f.spot room
