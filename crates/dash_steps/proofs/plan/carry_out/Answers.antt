use Rattle.std.proofs.Common.{⊎_elim, true, false, sym, subst}
use Rattle.std.specs.Result.{result_ok}
use Rattle.dash_shard.specs.Contents.{at}
use Rattle.dash_shard.specs.Steps.{Act, Step, AlterAll, Retain}
use Rattle.dash_shard.specs.Shard.{pairs}
use Rattle.dash_steps.specs.inner.Plan.{IsTakenSlot, MakesAt}
use Rattle.dash_steps.specs.inner.Sweep.{keeping}
use Rattle.dash_steps.specs.Takes.{known_by}
use Rattle.dash_steps.specs.inner.Copied.{AlikeAt}
use Rattle.dash_steps.specs.inner.Kinds.{kinds_of}
use Rattle.dash_steps.proofs.Copies.{lawful-by}
use Rattle.dash_shard.specs.Hashing.{key_hash}
use Rattle.dash_steps.proofs.Finding.{found-taken, decided-at}
use Rattle.dash_steps.proofs.Sweeping.{leaves}
use Rattle.dash_steps.proofs.plan.carry_out.Goals as goal
use Rattle.dash_shard.proofs.Lawful.{lawful-of}
use Rattle.dash_shard.specs.inner.Steps.{after}

pub make_change-requires : goal.make_change-requires
make_change-requires g c = subst (IsTakenSlot c.args.shard.now) (sym c.ok.ensures.value) (found-taken (key_hash g.K.PartialEq.eq g.K.Hash.hash_input g.S.BuildHasher g.S.Hasher.Hasher) c.args.shard.now _ (result_ok c.args.found) c.requires.found)

pub make_change-requires-in-RemoveIf : goal.make_change-requires-in-RemoveIf
make_change-requires-in-RemoveIf g c = subst (IsTakenSlot c.args.shard.now) (sym c.ok-in-RemoveIf.ensures.value) (found-taken (key_hash g.K.PartialEq.eq g.K.Hash.hash_input g.S.BuildHasher g.S.Hasher.Hasher) c.args.shard.now _ (result_ok c.args.found) c.requires.found)

pub returns-in-Remove-clause-ok : goal.returns-in-Remove-clause-ok
returns-in-Remove-clause-ok g c j =
    let s = c.args.shard.now in
    let laws = lawful-by _ (lawful-of g.S.BuildHasher g.S.Hasher.Hasher g.met.K.Eq.laws g.met.K.Hash.respects_eq) _ _ g.met.K.Kept.alike_laws g.met.V.Kept.alike_laws g.met.K.KeptKey.alike_equal s.hasher s.amount in
    let is = c.in-Remove.is in
    rw is (decided-at (key_hash g.K.PartialEq.eq g.K.Hash.hash_input g.S.BuildHasher g.S.Hasher.Hasher) s c.make_change.new.shard _ _ laws _ _ (result_ok c.args.found) c.args.decided (rw is at c.requires.decides) (rw is at c.requires.found) (subst (λ o. MakesAt (key_hash g.K.PartialEq.eq g.K.Hash.hash_input g.S.BuildHasher g.S.Hasher.Hasher) s c.make_change.new.shard o c.args.decided) c.ok.ensures.value c.make_change.ensures.becomes) j)

pub returns-in-RemoveIf-clause-ok : goal.returns-in-RemoveIf-clause-ok
returns-in-RemoveIf-clause-ok g c j =
    let s = c.args.shard.now in
    let made = subst (λ o. MakesAt (key_hash g.K.PartialEq.eq g.K.Hash.hash_input g.S.BuildHasher g.S.Hasher.Hasher) s c.make_change-in-RemoveIf.new.shard o c.args.decided) c.ok-in-RemoveIf.ensures.value c.make_change-in-RemoveIf.ensures.becomes in
    let laws = lawful-by _ (lawful-of g.S.BuildHasher g.S.Hasher.Hasher g.met.K.Eq.laws g.met.K.Hash.respects_eq) _ _ g.met.K.Kept.alike_laws g.met.V.Kept.alike_laws g.met.K.KeptKey.alike_equal s.hasher s.amount in
    ⊎_elim (λ is. rw is (decided-at (key_hash g.K.PartialEq.eq g.K.Hash.hash_input g.S.BuildHasher g.S.Hasher.Hasher) s c.make_change-in-RemoveIf.new.shard _ _ laws _ _ (result_ok c.args.found) c.args.decided (rw is at c.requires.decides) (rw is at c.requires.found) made j))
    (⊎_elim (λ is. rw is (decided-at (key_hash g.K.PartialEq.eq g.K.Hash.hash_input g.S.BuildHasher g.S.Hasher.Hasher) s c.make_change-in-RemoveIf.new.shard _ _ laws _ _ (result_ok c.args.found) c.args.decided (rw is at c.requires.decides) (rw is at c.requires.found) made j))
    (λ is. rw is (decided-at (key_hash g.K.PartialEq.eq g.K.Hash.hash_input g.S.BuildHasher g.S.Hasher.Hasher) s c.make_change-in-RemoveIf.new.shard _ _ laws _ _ (result_ok c.args.found) c.args.decided (rw is at c.requires.decides) (rw is at c.requires.found) made j))) c.in-RemoveIf.is

pub returns-clause-ok : goal.returns-clause-ok
returns-clause-ok g c j =
    let s = c.args.shard.now in
    let m = kinds_of (known_by g.K.PartialEq.eq g.K.Hash.hash_input g.K.Kept.alike g.V.Kept.alike g.A.Kept.alike g.A.Action.acts g.S.BuildHasher g.S.Hasher.Hasher) s in
    let i = c.in-AlterAll._shard in
    let f = g.A.Action.acts c.in-AlterAll._action in
    let Left = λ (step : Step g.row.K.Denot g.row.V.Denot). AlikeAt m.rules (after m.rules.keys step j (at m.rules.keys.eq (pairs s) j)) (at m.rules.keys.eq (pairs c.put_each.new.shard) j) in
    let each = λ (made : Act g.row.K.Denot g.row.V.Denot). leaves m.rules s.number made (pairs s) (pairs c.put_each.new.shard) c.number.ensures.lawful.contents.routed in
    ⊎_elim (λ is. rw is (subst (λ n. Left (AlterAll n f)) (sym (rw is at c.requires.goes)) (each (keeping true f) (c.put_each.ensures.leaves (keeping true f) (rw is at c.requires.decides)) j)))
    (λ is. rw is (subst (λ n. Left (Retain n f)) (sym (rw is at c.requires.goes)) (each (keeping false f) (c.put_each.ensures.leaves (keeping false f) (rw is at c.requires.decides)) j))) c.in-AlterAll.is
