use Rattle.std.proofs.Common.{◌≡◌, [], length, sym, ap, subst, ◌∙◌}
use Rattle.std.specs.Iterator.{IsFinite}
use Rattle.dash_shard.specs.Hashing.{key_hash}
use Rattle.dash_map.specs.Alone.{contents}
use Rattle.dash_rows.proofs.Copying.{none-of-length}
use Rattle.dash_map.proofs.Extending.{made-of, none-in}
use Rattle.dash_map.proofs.Taken.{pair-refused}
use Rattle.dash_map.proofs.alone.Alone.from_iter.Given.{Over}
use Rattle.dash_map.proofs.alone.Alone.from_iter.Goals.{After-reserve_share}
use Rattle.dash_map.proofs.alone.Alone.from_iter.Goals as goal

empty : (g : Over) (c : After-reserve_share g) → contents c.reserve_share.new.self ≡ []
empty g c = none-of-length (contents c.reserve_share.new.self) (c.reserve_share.ensures.len ∙ ap length (none-in c.in_ok-alone.alone.row (λ i s e. (c.in_ok-alone.ensures.fresh i s e).0)))

pub extend-requires : goal.extend-requires
extend-requires g c it same =
    subst (λ (t : g.row.U-IntoIter.Denot). g.U.IntoIter.Iterator.can_next t × IsFinite (g.U.IntoIter.Iterator.remaining t)) (sym same) (c.requires.finite c.into_iter-iter.result c.into_iter-iter.ensures.into_iter_gives)

pub returns-clause-made : goal.returns-clause-made
returns-clause-made g c =
    let came = c.in_ok-extend.ensures.extends.gains in (
      came.0,
      came.1,
      came.2,
      subst (λ (t : g.row.U-IntoIter.Denot). g.U.IntoIterator.into_iter_gives c.args.iter t) (sym came.3) c.into_iter-iter.ensures.into_iter_gives,
      came.4,
      made-of (key_hash g.K.PartialEq.eq g.K.Hash.hash_input g.S.BuildHasher g.S.Hasher.Hasher) c.reserve_share.new.self came.2 c.extend.new.self (empty g (goal.at.returns-clause-made g c).After-reserve_share) came.5.steps,
    )

pub returns-in_err-extend-clause-refused : goal.returns-in_err-extend-clause-refused
returns-in_err-extend-clause-refused g c =
    let said = c.in_err-extend.ensures.extends in
    let came = said.gains in
    pair-refused _ c.in_err-extend.field-0.0 c.from_residual-in_err-extend.result c.from_residual-in_err-extend.ensures.1 (
      came.0,
      came.1,
      came.2,
      subst (λ (t : g.row.U-IntoIter.Denot). g.U.IntoIterator.into_iter_gives c.args.iter t) (sym came.3) c.into_iter-iter.ensures.into_iter_gives,
      came.4,
      (
        c.extend.new.self,
        made-of (key_hash g.K.PartialEq.eq g.K.Hash.hash_input g.S.BuildHasher g.S.Hasher.Hasher) c.reserve_share.new.self came.2 c.extend.new.self (empty g (goal.at.returns-in_err-extend-clause-refused g c).After-reserve_share) came.5.steps,
        said.refused,
      ),
    )
