use Rattle.std.proofs.Common.{rules}
use Rattle.dashmap.specs.Set.{AnsweredKey}
use Rattle.dashmap.proofs.Members.{by-inside}
use Rattle.dashmap.proofs.set.DashSet.remove_if.Goals as goal

pub remove_if-requires : goal.remove_if-requires
remove_if-requires g c = λ p equal k v at_key at_value. let may = c.requires p.0 equal k at_key in search rules

pub returns-in_err-key : goal.returns-in_err-key
returns-in_err-key g c =
    let left = c.in_err-key.ensures in
    let removes = left.3.3 in
    rw (c.from_residual.ensures, ← c.self.view_is) (
      left.0,
      left.1,
      left.2,
      (
        left.3.0,
        left.3.1,
        left.3.2,
        record {
          takes = by-inside _ (λ act p. AnsweredKey g.F.FnOnce c.args.f p (act p.0 p.1)) _ _ removes.takes (λ act p answers. search rules);
          equal = tt;
          len = removes.len;
        },
      ),
    )

pub returns : goal.returns
returns g c =
    let left = c.in_ok-key.ensures in
    let removes = left.3.3 in
    rw (← c.self.view_is) (
      left.0,
      left.1,
      left.2,
      (
        left.3.0,
        left.3.1,
        left.3.2,
        record {
          takes = by-inside _ (λ act p. AnsweredKey g.F.FnOnce c.args.f p (act p.0 p.1)) _ _ removes.takes (λ act p answers. search rules);
          equal = removes.equal;
          len = removes.len;
        },
      ),
    )
