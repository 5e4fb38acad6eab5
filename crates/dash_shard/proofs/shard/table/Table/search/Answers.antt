use Rattle.std.proofs.Common.{◌≡◌, ℕ, ◌+◌, ◌-◌, ◌/◌, ◌%◌, ◌<◌, List, sym, ap, subst, ◌∙◌, arith, rules}
use Rattle.dash_shard.specs.inner.Marks.{step_to, group_at}
use Rattle.dash_shard.specs.inner.Table.{groups_in}
use Rattle.dash_shard.proofs.Searching.{IsRow, at-first, searching-first, misses-seen, passes-first, empty-seen, absent-here, ends-empty}
use Rattle.dash_shard.proofs.Ways.{mod_below, round_step}
use Rattle.dash_shard.proofs.shard.table.Table.search.Goals as goal

pub returns-in-Some-clause-last : goal.returns-in-Some-clause-last
returns-in-Some-clause-last g c =
    let t = c.args.self.now in
    let long : c.len-count.result ≡ groups_in t = omega (arith, c.len-count.ensures, t.counts.ok.0) in
    let at = at-first t c.args.hash c.home-first.result (omega (arith, c.home-first.ensures.below, long)) (c.home-first.ensures.is ∙ ap (λ n. c.args.hash % n) long) in
    let here : c.in-Some.position / 16 ≡ c.home-first.result = omega (arith, c.in-Some.ensures.lies.0, c.in-Some.ensures.lies.1) in
    here ∙ at.here

pub returns-in-Ok-clause-last : goal.returns-in-Ok-clause-last
returns-in-Ok-clause-last g c =
    let t = c.args.self.now in
    let g-of = c.in-Ok.position / 16 in
    let long : c.len-count.result ≡ groups_in t = omega (arith, c.len-count.ensures, t.counts.ok.0) in
    let home : c.home-first.result ≡ c.args.hash % groups_in t = c.home-first.ensures.is ∙ ap (λ n. c.args.hash % n) long in
    let steps = c.steps_to.ensures.is ∙ ap (λ n. step_to n c.home-first.result g-of) long ∙ ap (λ a. step_to (groups_in t) a g-of) home in
    let all : c.steps_to.result + 1 - 1 ≡ step_to (groups_in t) (c.args.hash % groups_in t) g-of = omega (arith, steps) in
    let wide = c.requires.marked.slots_len in
    let within : g-of < groups_in t = omega (arith, c.in-Ok.ensures.found.within, wide) in
    sym (ap (λ s. group_at (groups_in t) c.args.hash s) all ∙ round_step (groups_in t) (c.args.hash % groups_in t) g-of (mod_below (groups_in t) c.args.hash (omega (arith, within))) within)

pub returns-then-seen-ne0 : goal.returns-then-seen-ne0
returns-then-seen-ne0 g c =
    let t = c.args.self.now in
    let long : c.len-count.result ≡ groups_in t = omega (arith, c.len-count.ensures, t.counts.ok.0) in
    let at = at-first t c.args.hash c.home-first.result (omega (arith, c.home-first.ensures.below, long)) (c.home-first.ensures.is ∙ ap (λ n. c.args.hash % n) long) in
    let row = subst (λ (l : List ℕ). IsRow l c.home-first.result c.group_of.result.now) c.deref.ensures.value c.group_of.ensures in
    let missing = misses-seen (g.Q.Query.names c.args.key) t c.args.hash c.requires c.home-first.result _ _ _ row c.tag.ensures.is c.probe-seen.ensures.matches c.in_default.ensures.absent in
    let empty = empty-seen _ _ _ _ row c.probe-seen.ensures.empty c.if-seen-ne0.true c.probe-seen.ensures.fits.1 in
    record {
      found = search rules;
      absent = absent-here (g.Q.Query.names c.args.key) t c.args.hash 0 (searching-first _ _ _) c.requires c.home-first.result at missing empty;
      visits = (omega (arith, c.home-first.ensures.below, long), λ _. omega arith);
      last = search rules;
      ended = ends-empty t c.args.hash c.requires 1 c.home-first.result at empty;
    }

pub search_past-requires-clause-passes : goal.search_past-requires-clause-passes
search_past-requires-clause-passes g c =
    passes-first (g.Q.Query.names c.args.key) c.args.self.now c.args.hash c.requires c.len-count.result c.home-first.result _ _ c.group_of.result.now _ _ (omega (arith, c.len-count.ensures, c.args.self.now.counts.ok.0)) c.home-first.ensures.below c.home-first.ensures.is
    c.deref.ensures.value c.group_of.ensures c.tag.ensures.is c.probe-seen.ensures.matches c.in_default.ensures.absent c.probe-seen.ensures.empty c.if-seen-ne0.false
