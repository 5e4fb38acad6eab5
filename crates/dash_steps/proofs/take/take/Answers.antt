use Rattle.std.proofs.Common.{◌≡◌, ℕ, ⊎_elim, Ok, true, IsTrue, refl, ap, subst, arith, is_some, ◌∙◌, rules}
use Rattle.std.specs.Cmp.Lexicographic.{pointwise}
use Rattle.std.specs.Map.Iter.{deref_pair}
use Rattle.dash_shard.specs.Hashing.{key_hash}
use Rattle.dash_shard.specs.Shard.{pairs}
use Rattle.dash_shard.specs.Steps as table
use Rattle.dash_shard.specs.inner.Keys.{keys_of}
use Rattle.dash_shard.proofs.Lawful.{lawful-of}
use Rattle.dash_steps.specs.Kept.{alike_pair}
use Rattle.dash_steps.specs.declared.step.Reply.TheVariants.{Pair, Found, Old, Pairs, Number}
use Rattle.dash_steps.specs.inner.Sweep.{keeping}
use Rattle.dash_steps.proofs.AlikeLaws.{reply_equiv}
use Rattle.dash_steps.proofs.Planning.{answers-found, looked}
use Rattle.dash_steps.proofs.Preparing.{answers-all, mapped}
use Rattle.dash_steps.proofs.Rooms.{grows-inserted}
use Rattle.dash_steps.proofs.Sweeping.{called-alike}
use Rattle.dash_steps.proofs.Taking.{exactly, looks, reads, counts, retains, alters, routed, laws-on}
use Rattle.dash_shard.proofs.Naming.{hash-equals}
use Rattle.dash_steps.proofs.take.take.Goals as goal

pub get_hashed-requires : goal.get_hashed-requires
get_hashed-requires g c = hash-equals _ (lawful-of g.S.BuildHasher g.S.Hasher.Hasher g.met.K.Eq.laws g.met.K.Hash.respects_eq) c.args.shard.now.hasher c.in-Get.key c.args.hash (rw c.in-Get.is at c.requires.goes.hashed)

pub get_hashed-requires-in-Contains : goal.get_hashed-requires-in-Contains
get_hashed-requires-in-Contains g c = hash-equals _ (lawful-of g.S.BuildHasher g.S.Hasher.Hasher g.met.K.Eq.laws g.met.K.Hash.respects_eq) c.args.shard.now.hasher c.in-Contains.key c.args.hash (rw c.in-Contains.is at c.requires.goes.hashed)

pub remove_hashed-requires : goal.remove_hashed-requires
remove_hashed-requires g c = hash-equals _ (lawful-of g.S.BuildHasher g.S.Hasher.Hasher g.met.K.Eq.laws g.met.K.Hash.respects_eq) c.args.shard.now.hasher c.in-Remove.key c.args.hash (rw c.in-Remove.is at c.requires.goes.hashed)

pub returns-in-Ok-clause-taken : goal.returns-in-Ok-clause-taken
returns-in-Ok-clause-taken g c =
    let s = c.args.shard.now in
    let h = key_hash g.K.PartialEq.eq g.K.Hash.hash_input g.S.BuildHasher g.S.Hasher.Hasher in
    let law = lawful-of g.S.BuildHasher g.S.Hasher.Hasher g.met.K.Eq.laws g.met.K.Hash.respects_eq in
    rw c.in-Get.is (looks h law _ _ g.met.K.Kept.alike_laws g.met.V.Kept.alike_laws g.met.K.KeptKey.alike_equal s c.requires.lawful (table.Get c.in-Get.key) (Pair c.in-Ok.pair)
    (routed h law _ _ g.met.K.Kept.alike_laws g.met.V.Kept.alike_laws g.met.K.KeptKey.alike_equal s c.requires.lawful c.in-Get.key)
    (answers-found _ (pairs s) c.in-Get.key _ _ _ _ _ (ap table.Pair c.get_hashed.ensures.pair) refl c.in-Ok.ensures.copy) (looked (keys_of h s) c.in-Get.key (pairs s)))

pub returns-in-Contains-clause-taken : goal.returns-in-Contains-clause-taken
returns-in-Contains-clause-taken g c =
    let s = c.args.shard.now in
    let h = key_hash g.K.PartialEq.eq g.K.Hash.hash_input g.S.BuildHasher g.S.Hasher.Hasher in
    let law = lawful-of g.S.BuildHasher g.S.Hasher.Hasher g.met.K.Eq.laws g.met.K.Hash.respects_eq in
    let found = c.is_some.ensures ∙ mapped deref_pair c.get_hashed-in-Contains.result ∙ ap is_some c.get_hashed-in-Contains.ensures.pair in
    rw c.in-Contains.is (looks h law _ _ g.met.K.Kept.alike_laws g.met.V.Kept.alike_laws g.met.K.KeptKey.alike_equal s c.requires.lawful (table.Contains c.in-Contains.key) (Found c.is_some.result)
    (routed h law _ _ g.met.K.Kept.alike_laws g.met.V.Kept.alike_laws g.met.K.KeptKey.alike_equal s c.requires.lawful c.in-Contains.key)
    (record { told = table.Found c.is_some.result; replies = ap table.Found found; alike = (reply_equiv g.met.K.Kept.alike_laws g.met.V.Kept.alike_laws).refl (table.Found c.is_some.result) }) (looked (keys_of h s) c.in-Contains.key (pairs s)))

pub returns-in-Ok-insert_hashed-clause-taken : goal.returns-in-Ok-insert_hashed-clause-taken
returns-in-Ok-insert_hashed-clause-taken g c =
    let s = c.args.shard.now in
    let h = key_hash g.K.PartialEq.eq g.K.Hash.hash_input g.S.BuildHasher g.S.Hasher.Hasher in
    let law = lawful-of g.S.BuildHasher g.S.Hasher.Hasher g.met.K.Eq.laws g.met.K.Hash.respects_eq in
    let i = c.in-Ok-insert_hashed.ensures.inserts in
    rw c.in-Insert.is (exactly h law _ _ g.met.K.Kept.alike_laws g.met.V.Kept.alike_laws g.met.K.KeptKey.alike_equal s c.requires.lawful c.insert_hashed.new.self (table.Insert c.in-Insert.key c.in-Insert.value) (Old c.in-Ok-insert_hashed.old)
    (routed h law _ _ g.met.K.Kept.alike_laws g.met.V.Kept.alike_laws g.met.K.KeptKey.alike_equal s c.requires.lawful c.in-Insert.key)
    (record { told = table.Old c.in-Ok-insert_hashed.old; replies = i.taken.table.replies; alike = (reply_equiv g.met.K.Kept.alike_laws g.met.V.Kept.alike_laws).refl (table.Old c.in-Ok-insert_hashed.old) })
    i.taken.table.becomes i.taken.stays (grows-inserted g.K.PartialEq.eq s c.insert_hashed.new.self c.in-Insert.key c.in-Insert.value (Ok c.in-Ok-insert_hashed.old) i).1 c.insert_hashed.ensures.lawful)

pub returns-in-Remove-clause-taken : goal.returns-in-Remove-clause-taken
returns-in-Remove-clause-taken g c =
    let s = c.args.shard.now in
    let h = key_hash g.K.PartialEq.eq g.K.Hash.hash_input g.S.BuildHasher g.S.Hasher.Hasher in
    let law = lawful-of g.S.BuildHasher g.S.Hasher.Hasher g.met.K.Eq.laws g.met.K.Hash.respects_eq in
    let r = c.remove_hashed.ensures.removes.takes.each c.in-Remove.key (g.met.K.Eq.laws.refl c.in-Remove.key) in
    rw c.in-Remove.is (exactly h law _ _ g.met.K.Kept.alike_laws g.met.V.Kept.alike_laws g.met.K.KeptKey.alike_equal s c.requires.lawful c.remove_hashed.new.self (table.Remove c.in-Remove.key) (Pair c.remove_hashed.result)
    (routed h law _ _ g.met.K.Kept.alike_laws g.met.V.Kept.alike_laws g.met.K.KeptKey.alike_equal s c.requires.lawful c.in-Remove.key)
    (record { told = table.Pair c.remove_hashed.result; replies = r.taken.table.replies; alike = (reply_equiv g.met.K.Kept.alike_laws g.met.V.Kept.alike_laws).refl (table.Pair c.remove_hashed.result) })
    r.taken.table.becomes r.taken.stays r.room c.remove_hashed.ensures.lawful)

pub returns-in-Ok-copy_pairs-clause-taken : goal.returns-in-Ok-copy_pairs-clause-taken
returns-in-Ok-copy_pairs-clause-taken g c =
    let s = c.args.shard.now in
    let h = key_hash g.K.PartialEq.eq g.K.Hash.hash_input g.S.BuildHasher g.S.Hasher.Hasher in
    let copies = c.in-Ok-copy_pairs.pairs.items in
    let taken = λ (i : ℕ) (here : i ≡ s.number). reads h (lawful-of g.S.BuildHasher g.S.Hasher.Hasher g.met.K.Eq.laws g.met.K.Hash.respects_eq) _ _ g.met.K.Kept.alike_laws g.met.V.Kept.alike_laws g.met.K.KeptKey.alike_equal s c.requires.lawful i here (Pairs c.in-Ok-copy_pairs.pairs)
    (answers-all _ _ _ g.met.K.Eq.laws s c.requires.lawful _ _ _ _ refl here (table.Pairs (pairs s)) _ refl
    (subst (λ l. IsTrue (pointwise (alike_pair g.K.Kept.alike g.V.Kept.alike) l copies)) c.iter.ensures.pairs c.in-Ok-copy_pairs.ensures)) in
    ⊎_elim (λ is. rw is.1 (taken is.0 (rw is.1 at c.requires.goes.here))) (λ is. rw is.1 (taken is.0 (rw is.1 at c.requires.goes.here))) c.in-Read.is

pub returns-in-Count-clause-taken : goal.returns-in-Count-clause-taken
returns-in-Count-clause-taken g c =
    let s = c.args.shard.now in
    let h = key_hash g.K.PartialEq.eq g.K.Hash.hash_input g.S.BuildHasher g.S.Hasher.Hasher in
    let taken = λ (i : ℕ) (here : i ≡ s.number). counts h (lawful-of g.S.BuildHasher g.S.Hasher.Hasher g.met.K.Eq.laws g.met.K.Hash.respects_eq) _ _ g.met.K.Kept.alike_laws g.met.V.Kept.alike_laws g.met.K.KeptKey.alike_equal s c.requires.lawful i here (Number c.len.result)
    (answers-all _ _ _ g.met.K.Eq.laws s c.requires.lawful _ _ _ _ refl here (table.Number c.len.result) _ (ap table.Number (omega (arith, c.len.ensures.len, c.len.type_inv)))
    ((reply_equiv g.met.K.Kept.alike_laws g.met.V.Kept.alike_laws).refl (table.Number c.len.result))) in
    ⊎_elim (λ is. rw is.1 (taken is.0 (rw is.1 at c.requires.goes.here))) (λ is. rw is.1 (taken is.0 (rw is.1 at c.requires.goes.here))) c.in-Count.is

pub returns-in-AlterAll-clause-taken : goal.returns-in-AlterAll-clause-taken
returns-in-AlterAll-clause-taken g c =
    let s = c.args.shard.now in
    let law = lawful-of g.S.BuildHasher g.S.Hasher.Hasher g.met.K.Eq.laws g.met.K.Hash.respects_eq in
    let laws = laws-on _ law _ _ g.met.K.Kept.alike_laws g.met.V.Kept.alike_laws g.met.K.KeptKey.alike_equal s c.requires.lawful in
    let f = g.A.Action.acts c.in-AlterAll.action in
    let r = c.retain.ensures.retains in
    rw c.in-AlterAll.is (alters _ law _ _ g.met.K.Kept.alike_laws g.met.V.Kept.alike_laws g.met.K.KeptKey.alike_equal s c.requires.lawful c.retain.new.self r.does.taken.stays r.does.room c.retain.ensures.lawful f _ (rw c.in-AlterAll.is at c.requires.goes.here)
    (called-alike _ laws _ (keeping true f) _ (λ k v yes new y called. search rules) s c.retain.new.self r))

pub returns-in-Retain-clause-taken : goal.returns-in-Retain-clause-taken
returns-in-Retain-clause-taken g c =
    let s = c.args.shard.now in
    let law = lawful-of g.S.BuildHasher g.S.Hasher.Hasher g.met.K.Eq.laws g.met.K.Hash.respects_eq in
    let laws = laws-on _ law _ _ g.met.K.Kept.alike_laws g.met.V.Kept.alike_laws g.met.K.KeptKey.alike_equal s c.requires.lawful in
    let f = g.A.Action.acts c.in-Retain.action in
    let r = c.retain-in-Retain.ensures.retains in
    rw c.in-Retain.is (retains _ law _ _ g.met.K.Kept.alike_laws g.met.V.Kept.alike_laws g.met.K.KeptKey.alike_equal s c.requires.lawful c.retain-in-Retain.new.self r.does.taken.stays r.does.room c.retain-in-Retain.ensures.lawful f _ (rw c.in-Retain.is at c.requires.goes.here)
    (called-alike _ laws _ f _ (λ k v yes new y called. search rules) s c.retain-in-Retain.new.self r))
