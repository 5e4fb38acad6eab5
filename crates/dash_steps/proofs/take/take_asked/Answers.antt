use Rattle.std.proofs.Common.{subst, ◌∙◌}
use Rattle.dash_shard.specs.Hashing.{key_hash}
use Rattle.dash_shard.specs.Steps.{line}
use Rattle.dash_shard.proofs.Lawful.{lawful-of}
use Rattle.dash_steps.specs.Steps.{step_of}
use Rattle.dash_steps.specs.inner.Plan.{HasPair}
use Rattle.dash_steps.proofs.Finding.{found-pair, asked-hash}
use Rattle.dash_steps.proofs.Planning.{planned-there, takes-asked}
use Rattle.dash_steps.proofs.Rooms.{grows-same}
use Rattle.dash_steps.proofs.Taking.{laws-on, routed}
use Rattle.dash_shard.proofs.Naming.{hash-equals}
use Rattle.dash_steps.proofs.take.take_asked.Goals as goal

pub position_of_hashed-found-requires : goal.position_of_hashed-found-requires
position_of_hashed-found-requires g c =
    let h = key_hash g.K.PartialEq.eq g.K.Hash.hash_input g.S.BuildHasher g.S.Hasher.Hasher in
    hash-equals h (lawful-of g.S.BuildHasher g.S.Hasher.Hasher g.met.K.Eq.laws g.met.K.Hash.respects_eq) c.args.shard.now.hasher c.asked_key.result.now c.args.hash
    (asked-hash (h.hash c.args.shard.now.hasher) (line (step_of g.A.Action.acts c.args.step)) c.args.hash c.asked_key.result.now c.requires.goes.hashed c.asked_key.ensures)

pub returns-in-Ok-clause-taken : goal.returns-in-Ok-clause-taken
returns-in-Ok-clause-taken g c =
    let s = c.args.shard.now in
    let h = key_hash g.K.PartialEq.eq g.K.Hash.hash_input g.S.BuildHasher g.S.Hasher.Hasher in
    let law = lawful-of g.S.BuildHasher g.S.Hasher.Hasher g.met.K.Eq.laws g.met.K.Hash.respects_eq in
    let laws = laws-on h law _ _ g.met.K.Kept.alike_laws g.met.V.Kept.alike_laws g.met.K.KeptKey.alike_equal s c.requires.lawful in
    let key = c.asked_key.result.now in
    let there = c.look.ensures ∙ found-pair h s key c.position_of_hashed-found.result c.position_of_hashed-found.ensures.finds in
    let has = subst (λ o. HasPair c.in-Ok.change o) there (planned-there g.K.Kept.alike g.V.Kept.alike _ (c.in-Ok.reply, c.in-Ok.change) (line (step_of g.A.Action.acts c.args.step)) c.in-Ok.ensures.plan) in
    let m = c.make_change.ensures in
    let lawful = m.lawful c.requires.lawful in
    record {
      takes = takes-asked _ _ _ (c.in-Ok.reply, c.in-Ok.change) _ laws _ _ key (step_of g.A.Action.acts c.args.step) c.in-Ok.ensures.plan c.asked_key.ensures there
          (routed h law _ _ g.met.K.Kept.alike_laws g.met.V.Kept.alike_laws g.met.K.KeptKey.alike_equal s c.requires.lawful key) (m.becomes key c.position_of_hashed-found.ensures.finds has) lawful.contents.distinct;
      stays = m.stays;
      room = grows-same (step_of g.A.Action.acts c.args.step) s c.make_change.new.shard m.room;
      lawful = lawful;
    }
