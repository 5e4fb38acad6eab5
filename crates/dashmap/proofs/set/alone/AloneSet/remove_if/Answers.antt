use Rattle.std.proofs.Common.{rules}
use Rattle.std.specs.Fn.{FnOnceTakesAt}
use Rattle.dash_shard.specs.Contents.{at_named}
use Rattle.dash_map.specs.Alone.{contents}
use Rattle.dashmap.specs.Set.{AnsweredKey}
use Rattle.dashmap.proofs.Members.{if-inside, by-inside}
use Rattle.dashmap.proofs.set.alone.AloneSet.remove_if.Goals as goal

pub remove_if-requires : goal.remove_if-requires
remove_if-requires g c =
    if-inside (λ (p : g.row.K.Denot × Unit {0}). FnOnceTakesAt g.F.FnOnce c.args.f p.0) _ (at_named (g.Q.Query.names c.args.key) (contents c.self.inside.inner)) (rw c.self.view_is c.requires) (λ p may k v at_key at_value. may k at_key)

pub returns-in_err-key : goal.returns-in_err-key
returns-in_err-key g c = rw (c.from_residual.ensures, ← c.self.view_is) (record {
  takes = by-inside _ (λ act p. AnsweredKey g.F.FnOnce c.args.f p (act p.0 p.1)) _ _ c.in_err-key.ensures.takes (λ act p answers. search rules);
  equal = tt;
})

pub returns : goal.returns
returns g c = rw (← c.self.view_is) (record {
  takes = by-inside _ (λ act p. AnsweredKey g.F.FnOnce c.args.f p (act p.0 p.1)) _ _ c.in_ok-key.ensures.takes (λ act p answers. search rules);
  equal = c.in_ok-key.ensures.equal;
})
