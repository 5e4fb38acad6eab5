use Rattle.std.proofs.Common.{List, length, map, subst, sym}
use Rattle.std.proofs.lemmas.Result.{IfOk-weaker}
use Rattle.dash_shard.proofs.Lawful.{lawful-of}
use Rattle.dash_shard.specs.Hashing.{key_hash}
use Rattle.dash_history.specs.History.{RecState}
use Rattle.dash_history.specs.inner.Gathering.{EachRecorded}
use Rattle.dash_history.specs.Merge.{IsMerge}
use Rattle.dash_history.specs.OneHistory.{IsOneHistory}
use Rattle.dash_steps.specs.Takes.{known_by}
use Rattle.dash_steps.proofs.Copies.{lawful-by}
use Rattle.dash_history.proofs.Whole.{one-history}
use Rattle.dash_history.proofs.alone.RecAlone.merged.Goals as goal

pub merge-requires : goal.merge-requires
merge-requires g c = subst (EachRecorded _) (sym c.items.ensures) c.self.invariant.recorded

pub returns : goal.returns
returns g c =
    let w = known_by g.K.PartialEq.eq g.K.Hash.hash_input g.K.Kept.alike g.V.Kept.alike g.A.Kept.alike g.A.Action.acts g.S.BuildHasher g.S.Hasher.Hasher in
    let base = c.self.inside.hasher in
    let row = c.self.inside.row in
    let laws = lawful-by (key_hash g.K.PartialEq.eq g.K.Hash.hash_input g.S.BuildHasher g.S.Hasher.Hasher) (lawful-of g.S.BuildHasher g.S.Hasher.Hasher g.met.K.Eq.laws g.met.K.Hash.respects_eq)
    g.K.Kept.alike g.V.Kept.alike g.met.K.Kept.alike_laws g.met.V.Kept.alike_laws g.met.K.KeptKey.alike_equal base (length row) in
    IfOk-weaker c.merge.result _ _
    (λ ats m.
    let merge = subst (λ (r : List (RecState g.row.K.Denot g.row.V.Denot g.row.A.Denot g.row.S.Denot)). IsMerge (map (λ s. s.history) r) ats.items) c.items.ensures m in
    subst (λ a. IsOneHistory w a ats.items) c.self.view_is (one-history w (record { hasher = base; callers = c.self.inside.callers; row = row }) c.self.invariant laws ats.items merge))
    c.merge.ensures
