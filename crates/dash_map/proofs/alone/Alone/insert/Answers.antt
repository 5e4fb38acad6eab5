use Rattle.std.proofs.Common.{◌≡◌, ◌∙◌, refl}
use Rattle.std.proofs.lemmas.Result.{IfOk-weaker, MatchResult-weaker}
use Rattle.dash_shard.specs.Steps.{Insert, Old}
use Rattle.dash_shard.specs.Shard.{TakesStep}
use Rattle.dash_steps.specs.Takes.{GrowsBy}
use Rattle.dash_steps.proofs.Rooms.{grows-inserted}
use Rattle.dash_map.specs.Alone.{keys_in}
use Rattle.dash_map.proofs.Lifting.{settled}
use Rattle.dash_map.proofs.Spots.{Spot, spot-of, spot-route, spot-hash, spot-alone, spot-takes, spot-stands, spot-full, spot-unchanged}
use Rattle.dash_map.proofs.Trying.{on-both}
use Rattle.dash_map.proofs.alone.Alone.insert.Given.{Over}
use Rattle.dash_map.proofs.alone.Alone.insert.Goals.{After-index_mut}
use Rattle.dash_map.proofs.alone.Alone.insert.Goals as goal
use Rattle.dash_shard.proofs.Lawful.{lawful-of}
use Rattle.dash_shard.specs.Hashing.{key_hash}

abbrev spot : (g : Over) (c : After-index_mut g) → Spot (key_hash g.K.PartialEq.eq g.K.Hash.hash_input g.S.BuildHasher g.S.Hasher.Hasher) c.args.self.now c.route_of-hash.result.1 c.index_mut.result.now
spot g c = spot-of _ (lawful-of g.S.BuildHasher g.S.Hasher.Hasher g.met.K.Eq.laws g.met.K.Hash.respects_eq) c.self.inside.hasher c.self.inside.row c.self.view_is c.self.invariant c.route_of-hash.ensures.below c.index_mut.ensures.value

-- the key goes to that shard
abbrev goes : (g : Over) (c : After-index_mut g) → c.route_of-hash.result.1 ≡ (keys_in (key_hash g.K.PartialEq.eq g.K.Hash.hash_input g.S.BuildHasher g.S.Hasher.Hasher) c.args.self.now).route c.args.key
goes g c = c.route_of-hash.ensures.routed c.args.key (g.met.K.Eq.laws.refl c.args.key)

pub insert_hashed-requires : goal.insert_hashed-requires
insert_hashed-requires g c = let x = spot g c in record {
  hash = spot-hash x c.args.key c.route_of-hash.result.0 (c.route_of-hash.ensures.hashed c.args.key (g.met.K.Eq.laws.refl c.args.key));
  route = spot-route x c.args.key (goes g c);
}

pub invariant_of-self : goal.invariant_of-self
invariant_of-self g c =
    let r = c.insert_hashed.ensures in
    let stays = settled (key_hash g.K.PartialEq.eq g.K.Hash.hash_input g.S.BuildHasher g.S.Hasher.Hasher) c.insert_hashed.result c.index_mut.result.now c.insert_hashed.new.self c.args.key c.args.value r.inserts.taken r.inserts.refused in
    spot-alone (spot g (goal.at.invariant_of-self g c).After-index_mut) c.insert_hashed.new.self r.lawful stays

pub returns-clause-taken : goal.returns-clause-taken
returns-clause-taken g c =
    let r = c.insert_hashed.ensures in
    let there = (goal.at.returns-clause-taken g c).After-index_mut in
    let s = c.index_mut.result.now in
    let t = c.insert_hashed.new.self in
    let step = Insert c.args.key c.args.value in
    IfOk-weaker c.insert_hashed.result (λ old. TakesStep g.K.PartialEq.eq s t step (Old old) × GrowsBy step s t) _
    (λ old x. spot-takes (spot g there) c.args.key (goes g there) t r.lawful step (Old old) (_, _, refl) x.0 x.1)
    (grows-inserted g.K.PartialEq.eq s t c.args.key c.args.value c.insert_hashed.result r.inserts)

pub returns-clause-refused : goal.returns-clause-refused
returns-clause-refused g c =
    MatchResult-weaker c.insert_hashed.result c.insert_hashed.ensures.inserts.refused (λ x p. p) (λ e h. (h.0, h.1, spot-unchanged (spot g (goal.at.returns-clause-refused g c).After-index_mut) c.insert_hashed.new.self h.2))

pub returns-clause-no_room : goal.returns-clause-no_room
returns-clause-no_room g c =
    let there = (goal.at.returns-clause-no_room g c).After-index_mut in
    let x = spot g there in
    let here = goes g there in
    let r = c.insert_hashed.ensures.inserts in
    on-both c.insert_hashed.result r.absent r.full (λ absent full. record { absent = spot-stands x c.args.key here ∙ absent; full = spot-full x c.args.key here full })
