use Rattle.dash_shard.proofs.Searching.{empty-seen}
use Rattle.dash_shard.proofs.shard.table.places.left_mark.Goals as goal

pub returns-then-probe-ne0-clause-removed : goal.returns-then-probe-ne0-clause-removed
returns-then-probe-ne0-clause-removed c full _ =
    let p = c.probe.ensures in
    let seen = empty-seen c.args.tags.now c.args.group _ _ c.group_of.ensures p.empty c.if-probe-ne0.true p.fits.1 in
    absurd (full seen.0 seen.1 seen.2)
