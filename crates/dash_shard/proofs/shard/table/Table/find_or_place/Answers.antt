use Rattle.std.proofs.Common.{◌≡◌, ℕ, ◌+◌, ◌*◌, ◌%◌, ◌<◌, List, ap, refl, subst, ◌∙◌, arith}
use Rattle.dash_shard.specs.inner.Table.{groups_in}
use Rattle.dash_shard.proofs.Searching.{IsRow, at-first, no-steps, searching-first, misses-seen, passes-first, empty-seen, absent-here, placing-first, spot-here}
use Rattle.dash_shard.proofs.shard.table.Table.find_or_place.Goals as goal

pub returns-then-seen-ne0-clause-absent : goal.returns-then-seen-ne0-clause-absent
returns-then-seen-ne0-clause-absent g c =
    let t = c.args.self.now in
    let long : c.len-count.result ≡ groups_in t = omega (arith, c.len-count.ensures, t.counts.ok.0) in
    let at = at-first t c.args.hash c.home-first.result (omega (arith, c.home-first.ensures.below, long)) (c.home-first.ensures.is ∙ ap (λ n. c.args.hash % n) long) in
    let row = subst (λ (l : List ℕ). IsRow l c.home-first.result c.group_of.result.now) c.deref.ensures.value c.group_of.ensures in
    let missing = misses-seen (λ k. g.K.PartialEq.eq k c.args.key.now) t c.args.hash c.requires c.home-first.result _ _ _ row c.tag.ensures.is c.probe-seen.ensures.matches c.in_default.ensures.absent in
    absent-here (λ k. g.K.PartialEq.eq k c.args.key.now) t c.args.hash 0 (searching-first _ _ _) c.requires c.home-first.result at missing (empty-seen _ _ _ _ row c.probe-seen.ensures.empty c.if-seen-ne0.true c.probe-seen.ensures.fits.1)

pub returns-then-seen-ne0-clause-place : goal.returns-then-seen-ne0-clause-place
returns-then-seen-ne0-clause-place g c room =
    let t = c.args.self.now in
    let long : c.len-count.result ≡ groups_in t = omega (arith, c.len-count.ensures, t.counts.ok.0) in
    let some : 0 < groups_in t = omega (arith, c.home-first.ensures.below, long) in
    let first = c.home-first.ensures.is ∙ ap (λ n. c.args.hash % n) long in
    let row = subst (λ (l : List ℕ). IsRow l c.home-first.result c.group_of.result.now) c.deref.ensures.value c.group_of.ensures in
    let lane = ((c.probe-seen.ensures.empty c.own_or_lowest.result).0 c.own_or_lowest.ensures.set).1 in (
      spot-here t c.args.hash 0 c.home-first.result _ (at-first t c.args.hash c.home-first.result some first) row c.requires some (placing-first _ _) (16 * c.home-first.result + c.own_or_lowest.result) c.own_or_lowest.result c.own_or_lowest.ensures.bound refl (omega (arith, lane)),
      no-steps t c.args.hash c.home-first.result _ first (omega (arith, c.own_or_lowest.ensures.bound)),
    )

pub place_past-requires-clause-passes : goal.place_past-requires-clause-passes
place_past-requires-clause-passes g c =
    passes-first (λ k. g.K.PartialEq.eq k c.args.key.now) c.args.self.now c.args.hash c.requires c.len-count.result c.home-first.result _ _ c.group_of.result.now _ _ (omega (arith, c.len-count.ensures, c.args.self.now.counts.ok.0)) c.home-first.ensures.below c.home-first.ensures.is
    c.deref.ensures.value c.group_of.ensures c.tag.ensures.is c.probe-seen.ensures.matches c.in_default.ensures.absent c.probe-seen.ensures.empty c.if-seen-ne0.false
