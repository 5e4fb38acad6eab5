use Rattle.std.proofs.Common.{◌≡◌, ℕ, ◌+◌, ◌*◌, ◌%◌, ◌<◌, List, ap, refl, subst, ◌∙◌, arith}
use Rattle.dash_shard.specs.inner.Table.{groups_in}
use Rattle.dash_shard.proofs.Searching.{IsRow, at-first, no-steps, placing-first, spot-here}
use Rattle.dash_shard.proofs.shard.table.Table.place_for.Goals as goal

pub returns-then-free-ne0 : goal.returns-then-free-ne0
returns-then-free-ne0 g c =
    let t = c.args.self.now in
    let long : c.len-count.result ≡ groups_in t = omega (arith, c.len-count.ensures, t.counts.ok.0) in
    let some : 0 < groups_in t = omega (arith, c.home-first.ensures.below, long) in
    let first = c.home-first.ensures.is ∙ ap (λ n. c.args.hash % n) long in
    let row = subst (λ (l : List ℕ). IsRow l c.home-first.result c.group_of.result.now) c.deref.ensures.value c.group_of.ensures in
    let lane = ((c.free_lanes-free.ensures c.own_or_lowest.result).0 c.own_or_lowest.ensures.set).1 in (
      spot-here t c.args.hash 0 c.home-first.result _ (at-first t c.args.hash c.home-first.result some first) row c.requires.table some (placing-first _ _) (16 * c.home-first.result + c.own_or_lowest.result) c.own_or_lowest.result c.own_or_lowest.ensures.bound refl lane,
      no-steps t c.args.hash c.home-first.result _ first (omega (arith, c.own_or_lowest.ensures.bound)),
    )
