use Rattle.std.proofs.Common.{◌≡◌, None, ap, sym, subst, ◌∙◌}
use Rattle.dash_shard.specs.Contents.{at}
use Rattle.dash_shard.specs.Shard.{pairs}
use Rattle.dash_shard.specs.inner.Table.{limit, IsPlaceFor}
use Rattle.dash_shard.proofs.Shards.{filled, filled-slot, hash-same, inserts}
use Rattle.dash_shard.proofs.Lawful.{lawful-of}
use Rattle.dash_shard.proofs.shard.Shard.insert_new_at.Goals as goal

pub invariant_of-self : goal.invariant_of-self
invariant_of-self g c =
    let p = c.put.ensures in
    let hash = hash-same (lawful-of g.S.BuildHasher g.S.Hasher.Hasher g.met.K.Eq.laws g.met.K.Hash.respects_eq) c.args.key _ _ c.self.view_is c.args.hash c.requires.hash in
    let none = subst (λ x. at g.K.PartialEq.eq (pairs x) c.args.key ≡ None) (sym c.self.view_is) c.requires.absent in
    let place = subst (λ x. IsPlaceFor x c.args.hash c.args.place) (sym c.self.view_is) c.requires.place in
    (filled _ (lawful-of g.S.BuildHasher g.S.Hasher.Hasher g.met.K.Eq.laws g.met.K.Hash.respects_eq) _ _ _ c.self.inside.table c.self.invariant _ _ c.self.view_is c.requires.route c.args.value c.put.new.self c.args.place.slot c.args.hash place.0.within place.0.empty hash none p.pairs p.hashes p.len p.table).inside

pub returns : goal.returns
returns g c =
    let p = c.put.ensures in
    let hash = hash-same (lawful-of g.S.BuildHasher g.S.Hasher.Hasher g.met.K.Eq.laws g.met.K.Hash.respects_eq) c.args.key _ _ c.self.view_is c.args.hash c.requires.hash in
    let none = subst (λ x. at g.K.PartialEq.eq (pairs x) c.args.key ≡ None) (sym c.self.view_is) c.requires.absent in
    let place = subst (λ x. IsPlaceFor x c.args.hash c.args.place) (sym c.self.view_is) c.requires.place in
    let i = filled _ (lawful-of g.S.BuildHasher g.S.Hasher.Hasher g.met.K.Eq.laws g.met.K.Hash.respects_eq) _ _ _ c.self.inside.table c.self.invariant _ _ c.self.view_is c.requires.route c.args.value c.put.new.self c.args.place.slot c.args.hash place.0.within place.0.empty hash none p.pairs p.hashes p.len p.table in
    let same = ap limit p.slots ∙ ap (λ s. s.capacity) c.self.view_is in
    let x = inserts _ (lawful-of g.S.BuildHasher g.S.Hasher.Hasher g.met.K.Eq.laws g.met.K.Hash.respects_eq) _ _ _ _ _ _ _ _ _ c.self.view_is i same in
    record {
      inserts = record { taken = x.taken; slots = x.slots same; room = same };
      slot = filled-slot _ (lawful-of g.S.BuildHasher g.S.Hasher.Hasher g.met.K.Eq.laws g.met.K.Hash.respects_eq) _ _ _ c.self.inside.table c.self.invariant _ _ c.self.view_is c.requires.route c.args.value c.put.new.self c.args.place.slot place.0.within p.pairs;
      len = x.len;
      lawful = i.inside.shard;
    }
