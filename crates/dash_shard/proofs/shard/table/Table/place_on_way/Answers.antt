use Rattle.std.proofs.Common.{◌≡◌, ℕ, ◌+◌, ◌%◌, ◌<◌, List, None, subst, refl, ap, ◌∙◌, arith}
use Rattle.dash_shard.specs.inner.Table.{groups_in}
use Rattle.dash_shard.proofs.Searching.{IsRow, Placing, at-first, at-next, placing-first, placing-more, placing-round}
use Rattle.dash_shard.proofs.shard.table.Table.place_on_way.Goals as goal

pub loop-step-init : goal.loop-step-init
loop-step-init g c =
    let long : c.len-count.result ≡ groups_in c.args.self.now = omega (arith, c.len-count.ensures, c.args.self.now.counts.ok.0) in
    record {
      at = at-first c.args.self.now c.args.hash c.home-group.result (omega (arith, c.home-group.ensures.below, long)) (c.home-group.ensures.is ∙ ap (λ n. c.args.hash % n) long);
      placing = placing-first _ _;
    }

pub returns-in-Some : goal.returns-in-Some
returns-in-Some g c =
    let row = subst (λ (l : List ℕ). IsRow l c.loop-step.group c.group_of.result.now) c.deref.ensures.value c.group_of.ensures in
    let less : c.loop-step._step < groups_in c.args.self.now = omega (arith, c.loop-step-test.true, c.len-count.ensures, c.args.self.now.counts.ok.0) in
    let p = placing-more c.args.self.now c.args.hash c.loop-step._step c.loop-step.group _ c.loop-step.invariant.at row c.requires.table less None c.first_free-free.result c.first_free-free.ensures c.loop-step.invariant.placing in
    p.found c.in-Some.position c.in-Some.is

pub loop-step-preserved : goal.loop-step-preserved
loop-step-preserved g c =
    let row = subst (λ (l : List ℕ). IsRow l c.loop-step.group c.group_of.result.now) c.deref.ensures.value c.group_of.ensures in
    let long : c.len-count.result ≡ groups_in c.args.self.now = omega (arith, c.len-count.ensures, c.args.self.now.counts.ok.0) in
    let p = placing-more c.args.self.now c.args.hash c.loop-step._step c.loop-step.group _ c.loop-step.invariant.at row c.requires.table (omega (arith, c.loop-step-test.true, long)) None c.first_free-free.result c.first_free-free.ensures c.loop-step.invariant.placing in
    record {
      at = at-next c.args.self.now c.args.hash c.len-count.result c.loop-step._step (c.loop-step._step + 1) c.loop-step.group c.next_group-group.result long c.loop-step-test.true refl c.loop-step.invariant.at c.next_group-group.ensures.below c.next_group-group.ensures.next;
      placing = subst (λ o. Placing c.args.self.now c.args.hash o (c.loop-step._step + 1)) c.in_default.is p;
    }

pub unreachable-requires : goal.unreachable-requires
unreachable-requires g c =
    placing-round c.args.self.now c.args.hash c.requires.table c.loop-step._step None (omega (arith, c.loop-step-test.false, c.len-count.ensures, c.args.self.now.counts.ok.0)) c.requires.room c.loop-step.invariant.placing refl
