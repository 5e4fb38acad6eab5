use Rattle.std.proofs.Common.{◌∷◌, sym, subst, ◌∙◌, arith}
use Rattle.dash_shard.specs.Hashing.{key_hash}
use Rattle.dash_shard.proofs.Lawful.{lawful-of}
use Rattle.dash_rows.specs.inner.Copies.{IsCopying}
use Rattle.dash_rows.proofs.Copying.{begins, put-absent, put-route, goes-on}
use Rattle.dash_rows.proofs.copies.copy_shard.Given.{Over}
use Rattle.dash_rows.proofs.copies.copy_shard.Goals.{In-Some}
use Rattle.dash_rows.proofs.copies.copy_shard.Goals as goal

pub loop-key-init : goal.loop-key-init
loop-key-init g c =
    let h = key_hash g.K.PartialEq.eq g.K.Hash.hash_input g.S.BuildHasher g.S.Hasher.Hasher in
    let law = lawful-of g.S.BuildHasher g.S.Hasher.Hasher g.met.K.Eq.laws g.met.K.Hash.respects_eq in
    let s = c.args.shard.now in
    let new = c.in-Ok.ensures in
    let clone = subst (λ z. g.S.Clone.is_clone z c.in-Ok.copy.hasher) c.hasher.ensures (subst (λ z. g.S.Clone.is_clone c.hasher.result.now z) (sym new.hasher) c.in_ok-hasher.ensures.cases) in
    let all = begins g.K.Kept.alike g.V.Kept.alike g.met.K.Kept.alike_laws g.met.V.Kept.alike_laws h law (λ i j e. g.met.K.KeptKey.alike_equal i j e) g.S.Clone.is_clone s c.in-Ok.copy
    new.empty (omega (arith, new.capacity, c.len.ensures.len)) (new.number ∙ c.number.ensures.number) (new.amount ∙ c.amount.ensures.amount) clone (c.requires _ _ clone) c.number.ensures.lawful new.lawful in
    subst (λ ps. IsCopying g.K.PartialEq.eq g.K.Kept.alike g.V.Kept.alike g.S.Clone.is_clone h s c.in-Ok.copy ps) (sym (c.into_iter-key-iterator.ensures.into_iter_gives ∙ c.iter-key-items.ensures.pairs)) all

-- the pair that the walk gives is the first of those that are left to copy
left : (g : Over) (c : In-Some g) → IsCopying g.K.PartialEq.eq g.K.Kept.alike g.V.Kept.alike g.S.Clone.is_clone (key_hash g.K.PartialEq.eq g.K.Hash.hash_input g.S.BuildHasher g.S.Hasher.Hasher) c.args.shard.now c.loop-key.copy ((c.in-Some.key.now, c.in-Some.value.now) ∷ c.next.new.self)
left g c = subst (λ ps. IsCopying g.K.PartialEq.eq g.K.Kept.alike g.V.Kept.alike g.S.Clone.is_clone (key_hash g.K.PartialEq.eq g.K.Hash.hash_input g.S.BuildHasher g.S.Hasher.Hasher) c.args.shard.now c.loop-key.copy ps) c.in-Some.ensures.steps c.loop-key.invariant

pub put_copy-requires-clause-route : goal.put_copy-requires-clause-route
put_copy-requires-clause-route g c =
    put-route g.K.Kept.alike g.V.Kept.alike g.met.K.Kept.alike_laws g.met.V.Kept.alike_laws (key_hash g.K.PartialEq.eq g.K.Hash.hash_input g.S.BuildHasher g.S.Hasher.Hasher) (lawful-of g.S.BuildHasher g.S.Hasher.Hasher g.met.K.Eq.laws g.met.K.Hash.respects_eq) (λ i j e. g.met.K.KeptKey.alike_equal i j e) g.S.Clone.is_clone c.args.shard.now c.loop-key.copy (c.in-Some.key.now, c.in-Some.value.now) c.next.new.self (left g (goal.at.put_copy-requires-clause-route g c).In-Some)

pub put_copy-requires-clause-absent : goal.put_copy-requires-clause-absent
put_copy-requires-clause-absent g c =
    put-absent g.K.Kept.alike g.V.Kept.alike g.met.K.Kept.alike_laws g.met.V.Kept.alike_laws (key_hash g.K.PartialEq.eq g.K.Hash.hash_input g.S.BuildHasher g.S.Hasher.Hasher) (lawful-of g.S.BuildHasher g.S.Hasher.Hasher g.met.K.Eq.laws g.met.K.Hash.respects_eq) (λ i j e. g.met.K.KeptKey.alike_equal i j e) g.S.Clone.is_clone c.args.shard.now c.loop-key.copy (c.in-Some.key.now, c.in-Some.value.now) c.next.new.self (left g (goal.at.put_copy-requires-clause-absent g c).In-Some)

pub loop-key-preserved : goal.loop-key-preserved
loop-key-preserved g c =
    goes-on g.K.Kept.alike g.V.Kept.alike g.met.K.Kept.alike_laws g.met.V.Kept.alike_laws (key_hash g.K.PartialEq.eq g.K.Hash.hash_input g.S.BuildHasher g.S.Hasher.Hasher) (lawful-of g.S.BuildHasher g.S.Hasher.Hasher g.met.K.Eq.laws g.met.K.Hash.respects_eq) (λ i j e. g.met.K.KeptKey.alike_equal i j e) g.S.Clone.is_clone c.args.shard.now c.loop-key.copy (c.in-Some.key.now, c.in-Some.value.now) c.next.new.self (left g (goal.at.loop-key-preserved g c).In-Some)
    c.put_copy.new.shard c.in_ok-put_copy.ensures.puts c.in_ok-put_copy.ensures.lawful
