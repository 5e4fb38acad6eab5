use Rattle.dash_shard.specs.Hashing.{key_hash}
use Rattle.dash_shard.proofs.Lawful.{lawful-of}
use Rattle.dash_ref.proofs.Copies.{copy-absent, copy-there}
use Rattle.dash_ref.proofs.mapref.entry.vacant.VacantEntry.insert_entry.Goals as goal

pub insert_new_at-requires-clause-absent : goal.insert_new_at-requires-clause-absent
insert_new_at-requires-clause-absent g c =
    let h = key_hash g.K.PartialEq.eq g.K.Hash.hash_input g.S.BuildHasher g.S.Hasher.Hasher in
    let law = lawful-of g.S.BuildHasher g.S.Hasher.Hasher g.met.K.Eq.laws g.met.K.Hash.respects_eq in
    copy-absent h law c.self.inside.shard c.self.inside.key c.in-Ok.copy (g.met.K.KeptKey.alike_equal _ _ c.in-Ok.ensures) c.self.invariant.absent

pub new-requires : goal.new-requires
new-requires g c =
    let h = key_hash g.K.PartialEq.eq g.K.Hash.hash_input g.S.BuildHasher g.S.Hasher.Hasher in
    let law = lawful-of g.S.BuildHasher g.S.Hasher.Hasher g.met.K.Eq.laws g.met.K.Hash.respects_eq in
    let put = c.insert_new_at in
    copy-there h law put.new.self c.self.inside.key c.in-Ok.copy (g.met.K.KeptKey.alike_equal _ _ c.in-Ok.ensures) c.self.inside.place.slot c.args.value put.ensures.slot
