use Rattle.std.proofs.Common.{false, is_some, refl, sym, subst, ap, ◌∙◌, add-zero, slice_index}
use Rattle.std.specs.Prelude.{IfSome}
use Rattle.dash_shard.specs.Shard.{HasNamed}
use Rattle.dash_shard.specs.Closures.{ChangesOn}
use Rattle.dash_shard.specs.inner.Table.{pairs_in}
use Rattle.dash_shard.proofs.Altering.{idle, unremoved, altered-inside, gone-inside, gone-len, as-many}
use Rattle.dash_shard.proofs.Shards.{hash-same, hash-found}
use Rattle.dash_shard.proofs.Rewriting.{holds-pair, valued-rewritten, valued-slot}
use Rattle.dash_shard.proofs.Lawful.{lawful-of}
use Rattle.dash_shard.proofs.Querying.{stored, routes-named, stays-named, gone-named}
use Rattle.dash_shard.proofs.shard.Shard.remove_if_mut_hashed.Goals as goal

pub returns-in_err-slot : goal.returns-in_err-slot
returns-in_err-slot g c =
    let none = c.in_err-slot.ensures.finds.absent.0 refl in
    record {
      removes = rw c.from_residual.ensures (record {
        takes = (
          idle,
          record { each = λ k _. unremoved g.K.PartialEq.eq c.args.self.now k; none = λ _. refl; stays = record { number = refl; amount = refl; hasher = refl } },
          subst (λ o. IfSome o (λ p. ChangesOn g.F.FnOnce c.args.f p (p.1, false))) (sym none) tt,
        );
        equal = tt;
        len = sym (add-zero _);
      });
      lawful = c.in_err-slot.ensures.lawful;
    }

pub take-requires : goal.take-requires
take-requires g c =
    let t = c.self.inside.table in
    let there = c.pair_mut-value.ensures.pair in
    let found = holds-pair (g.Q.Query.names c.args.key) (pairs_in t) c.in_ok-slot.slot _ there (subst (λ s. HasNamed (g.Q.Query.names c.args.key) s c.in_ok-slot.slot) (sym c.self.view_is) ((c.in_ok-slot.ensures.finds.position c.in_ok-slot.slot).0 refl)) in
    let hash = hash-same (lawful-of g.S.BuildHasher g.S.Hasher.Hasher g.met.K.Eq.laws g.met.K.Hash.respects_eq) found.pair.0 _ _ c.self.view_is c.args.hash (c.requires.hash found.pair.0 found.equal) in
    let r = valued-rewritten t c.in_ok-slot.slot _ c.f.new.arg3 c.self.invariant.table there in
    record {
      table = r.table;
      taken = ap is_some (valued-slot t c.in_ok-slot.slot _ c.f.new.arg3 c.self.invariant.table there);
      hash = hash-found _ (lawful-of g.S.BuildHasher g.S.Hasher.Hasher g.met.K.Eq.laws g.met.K.Hash.respects_eq) _ _ _ t c.self.invariant found.pair.0 c.args.hash hash c.in_ok-slot.slot (stored _ (lawful-of g.S.BuildHasher g.S.Hasher.Hasher g.met.K.Eq.laws g.met.K.Hash.respects_eq) (g.Q.Query.names c.args.key) (g.met.Q.Query.respects_eq c.args.key) _ _ _ t t c.self.invariant c.in_ok-slot.slot found _ c.self.view_is) ∙ ap (λ hs. slice_index hs c.in_ok-slot.slot) (sym r.hashes);
    }

pub invariant_of-self : goal.invariant_of-self
invariant_of-self g c =
    let t = c.self.inside.table in
    let there = c.pair_mut-value.ensures.pair in
    let found = holds-pair (g.Q.Query.names c.args.key) (pairs_in t) c.in_ok-slot.slot _ there (subst (λ s. HasNamed (g.Q.Query.names c.args.key) s c.in_ok-slot.slot) (sym c.self.view_is) ((c.in_ok-slot.ensures.finds.position c.in_ok-slot.slot).0 refl)) in
    let r = c.take.ensures in
    gone-inside _ (lawful-of g.S.BuildHasher g.S.Hasher.Hasher g.met.K.Eq.laws g.met.K.Hash.respects_eq) _ _ _ _ _ c.self.invariant found.pair.0 c.in_ok-slot.slot (stored _ (lawful-of g.S.BuildHasher g.S.Hasher.Hasher g.met.K.Eq.laws g.met.K.Hash.respects_eq) (g.Q.Query.names c.args.key) (g.met.Q.Query.respects_eq c.args.key) _ _ _ t t c.self.invariant c.in_ok-slot.slot found _ c.self.view_is) _ c.self.view_is (routes-named _ (lawful-of g.S.BuildHasher g.S.Hasher.Hasher g.met.K.Eq.laws g.met.K.Hash.respects_eq) (g.Q.Query.names c.args.key) (g.met.Q.Query.respects_eq c.args.key) _ _ _ t t c.self.invariant c.in_ok-slot.slot found _ c.self.view_is found.pair.0 found.equal) c.f.new.arg3 _ (valued-rewritten t c.in_ok-slot.slot _ c.f.new.arg3 c.self.invariant.table there) r.pairs r.hashes r.len r.table

pub returns-then-f : goal.returns-then-f
returns-then-f g c =
    let t = c.self.inside.table in
    let there = c.pair_mut-value.ensures.pair in
    let found = holds-pair (g.Q.Query.names c.args.key) (pairs_in t) c.in_ok-slot.slot _ there (subst (λ s. HasNamed (g.Q.Query.names c.args.key) s c.in_ok-slot.slot) (sym c.self.view_is) ((c.in_ok-slot.ensures.finds.position c.in_ok-slot.slot).0 refl)) in
    let r = c.take.ensures in
    record {
      removes = rw (sym r.old ∙ valued-slot t c.in_ok-slot.slot _ c.f.new.arg3 c.self.invariant.table there) (record {
        takes = gone-named _ (lawful-of g.S.BuildHasher g.S.Hasher.Hasher g.met.K.Eq.laws g.met.K.Hash.respects_eq) (g.Q.Query.names c.args.key) (g.met.Q.Query.respects_eq c.args.key) _ _ _ t _ c.self.invariant c.in_ok-slot.slot found _ c.self.view_is c.f.new.arg3 _ (valued-rewritten t c.in_ok-slot.slot _ c.f.new.arg3 c.self.invariant.table there) r.pairs r.hashes r.len r.table (ChangesOn g.F.FnOnce c.args.f)
            (c.pair_mut-value.result.0, c.pair_mut-value.result.1, _, refl, refl, refl, c.if-f.ensures);
        equal = found.equal;
        len = gone-len _ (lawful-of g.S.BuildHasher g.S.Hasher.Hasher g.met.K.Eq.laws g.met.K.Hash.respects_eq) _ _ _ _ _ c.self.invariant found.pair.0 c.in_ok-slot.slot (stored _ (lawful-of g.S.BuildHasher g.S.Hasher.Hasher g.met.K.Eq.laws g.met.K.Hash.respects_eq) (g.Q.Query.names c.args.key) (g.met.Q.Query.respects_eq c.args.key) _ _ _ t t c.self.invariant c.in_ok-slot.slot found _ c.self.view_is) _ c.self.view_is (routes-named _ (lawful-of g.S.BuildHasher g.S.Hasher.Hasher g.met.K.Eq.laws g.met.K.Hash.respects_eq) (g.Q.Query.names c.args.key) (g.met.Q.Query.respects_eq c.args.key) _ _ _ t t c.self.invariant c.in_ok-slot.slot found _ c.self.view_is found.pair.0 found.equal) c.f.new.arg3 _ (valued-rewritten t c.in_ok-slot.slot _ c.f.new.arg3 c.self.invariant.table there) r.pairs r.hashes r.len r.table;
      });
      lawful = (gone-inside _ (lawful-of g.S.BuildHasher g.S.Hasher.Hasher g.met.K.Eq.laws g.met.K.Hash.respects_eq) _ _ _ _ _ c.self.invariant found.pair.0 c.in_ok-slot.slot (stored _ (lawful-of g.S.BuildHasher g.S.Hasher.Hasher g.met.K.Eq.laws g.met.K.Hash.respects_eq) (g.Q.Query.names c.args.key) (g.met.Q.Query.respects_eq c.args.key) _ _ _ t t c.self.invariant c.in_ok-slot.slot found _ c.self.view_is) _ c.self.view_is (routes-named _ (lawful-of g.S.BuildHasher g.S.Hasher.Hasher g.met.K.Eq.laws g.met.K.Hash.respects_eq) (g.Q.Query.names c.args.key) (g.met.Q.Query.respects_eq c.args.key) _ _ _ t t c.self.invariant c.in_ok-slot.slot found _ c.self.view_is found.pair.0 found.equal) c.f.new.arg3 _ (valued-rewritten t c.in_ok-slot.slot _ c.f.new.arg3 c.self.invariant.table there) r.pairs r.hashes r.len r.table).shard;
    }

pub invariant_of-self-else-f : goal.invariant_of-self-else-f
invariant_of-self-else-f g c =
    let t = c.self.inside.table in
    let there = c.pair_mut-value.ensures.pair in
    let found = holds-pair (g.Q.Query.names c.args.key) (pairs_in t) c.in_ok-slot.slot _ there (subst (λ s. HasNamed (g.Q.Query.names c.args.key) s c.in_ok-slot.slot) (sym c.self.view_is) ((c.in_ok-slot.ensures.finds.position c.in_ok-slot.slot).0 refl)) in
    altered-inside _ (lawful-of g.S.BuildHasher g.S.Hasher.Hasher g.met.K.Eq.laws g.met.K.Hash.respects_eq) _ _ _ _ _ c.self.invariant found.pair.0 c.in_ok-slot.slot (stored _ (lawful-of g.S.BuildHasher g.S.Hasher.Hasher g.met.K.Eq.laws g.met.K.Hash.respects_eq) (g.Q.Query.names c.args.key) (g.met.Q.Query.respects_eq c.args.key) _ _ _ t t c.self.invariant c.in_ok-slot.slot found _ c.self.view_is) _ c.self.view_is c.f.new.arg3 (valued-rewritten t c.in_ok-slot.slot _ c.f.new.arg3 c.self.invariant.table there)

pub returns : goal.returns
returns g c =
    let t = c.self.inside.table in
    let there = c.pair_mut-value.ensures.pair in
    let found = holds-pair (g.Q.Query.names c.args.key) (pairs_in t) c.in_ok-slot.slot _ there (subst (λ s. HasNamed (g.Q.Query.names c.args.key) s c.in_ok-slot.slot) (sym c.self.view_is) ((c.in_ok-slot.ensures.finds.position c.in_ok-slot.slot).0 refl)) in
    let r = valued-rewritten t c.in_ok-slot.slot _ c.f.new.arg3 c.self.invariant.table there in
    record {
      removes = record { takes = stays-named _ (lawful-of g.S.BuildHasher g.S.Hasher.Hasher g.met.K.Eq.laws g.met.K.Hash.respects_eq) (g.Q.Query.names c.args.key) (g.met.Q.Query.respects_eq c.args.key) _ _ _ t _ c.self.invariant c.in_ok-slot.slot found _ c.self.view_is c.f.new.arg3 r (ChangesOn g.F.FnOnce c.args.f) (c.pair_mut-value.result.0, c.pair_mut-value.result.1, _, refl, refl, refl, c.if-f.ensures); equal = tt; len = sym (as-many _ (lawful-of g.S.BuildHasher g.S.Hasher.Hasher g.met.K.Eq.laws g.met.K.Hash.respects_eq) _ _ _ _ _ c.self.invariant found.pair.0 c.in_ok-slot.slot (stored _ (lawful-of g.S.BuildHasher g.S.Hasher.Hasher g.met.K.Eq.laws g.met.K.Hash.respects_eq) (g.Q.Query.names c.args.key) (g.met.Q.Query.respects_eq c.args.key) _ _ _ t t c.self.invariant c.in_ok-slot.slot found _ c.self.view_is) _ c.self.view_is c.f.new.arg3 r) ∙ sym (add-zero _) };
      lawful = (altered-inside _ (lawful-of g.S.BuildHasher g.S.Hasher.Hasher g.met.K.Eq.laws g.met.K.Hash.respects_eq) _ _ _ _ _ c.self.invariant found.pair.0 c.in_ok-slot.slot (stored _ (lawful-of g.S.BuildHasher g.S.Hasher.Hasher g.met.K.Eq.laws g.met.K.Hash.respects_eq) (g.Q.Query.names c.args.key) (g.met.Q.Query.respects_eq c.args.key) _ _ _ t t c.self.invariant c.in_ok-slot.slot found _ c.self.view_is) _ c.self.view_is c.f.new.arg3 r).shard;
    }
