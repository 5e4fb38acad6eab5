use Rattle.std.proofs.Common.{◌≡◌, true, false, IsTrue, Some, refl, sym, subst, ◌∙◌, add-zero}
use Rattle.std.specs.Prelude.{IfSome, IsSomeAnd}
use Rattle.std.specs.Map.Iter.{deref_pair}
use Rattle.std.proofs.lemmas.Option.{none-some}
use Rattle.dash_shard.specs.Contents.{at_named}
use Rattle.dash_shard.specs.Hashing.{key_hash}
use Rattle.dash_shard.specs.Shard.{pairs, slot}
use Rattle.dash_shard.specs.Closures.{AnswersOn}
use Rattle.dash_shard.proofs.Asking.{asked-yes, asked-no}
use Rattle.dash_shard.proofs.Lawful.{lawful-of}
use Rattle.dash_shard.proofs.Positions.{held}
use Rattle.dash_shard.proofs.Naming.{hash-named, has-key}
use Rattle.dash_shard.proofs.shard.Shard.remove_if_hashed.Goals as goal

pub returns-in_err-slot : goal.returns-in_err-slot
returns-in_err-slot g c =
    let none = c.in_err-slot.ensures.finds.absent.0 refl in
    record {
      removes = rw c.from_residual.ensures (record {
        takes = (
          (λ _ v. (v, false)),
          record { each = λ k _. asked-no g.K.PartialEq.eq c.args.self.now k; none = λ _. refl; stays = record { number = refl; amount = refl; hasher = refl } },
          subst (λ o. IfSome o (λ p. AnswersOn g.F.FnOnce c.args.f p false)) (sym none) tt,
        );
        equal = tt;
        len = sym (add-zero _);
      });
      lawful = c.in_err-slot.ensures.lawful;
    }

pub take_at-requires-clause-hash : goal.take_at-requires-clause-hash
take_at-requires-clause-hash g c =
    hash-named (key_hash g.K.PartialEq.eq g.K.Hash.hash_input g.S.BuildHasher g.S.Hasher.Hasher) c.args.self.now (g.Q.Query.names c.args.key) c.in_ok-slot.slot c.args.hash ((c.in_ok-slot.ensures.finds.position c.in_ok-slot.slot).0 refl) c.requires.hash

pub returns-then-f : goal.returns-then-f
returns-then-f g c =
    let r = c.take_at.ensures in
    let here = (c.in_ok-slot.ensures.finds.position c.in_ok-slot.slot).0 refl in
    let pair : at_named (g.Q.Query.names c.args.key) (pairs c.args.self.now) ≡ Some (deref_pair c.at.result) = sym c.in_ok-slot.ensures.finds.pair ∙ c.at.ensures.pair in
    record {
      removes = record {
        takes = (
          (λ _ v. (v, true)),
          record {
            each = λ k named. asked-yes g.K.PartialEq.eq _ _ _ _ (r.removes k (has-key _ (lawful-of g.S.BuildHasher g.S.Hasher.Hasher g.met.K.Eq.laws g.met.K.Hash.respects_eq) (g.Q.Query.names c.args.key) (g.met.Q.Query.respects_eq c.args.key) c.args.self.now c.in_ok-slot.slot here k named));
            none = λ none. absurd (none-some _ (sym none ∙ pair));
            stays = let q = held (slot c.args.self.now.slots c.in_ok-slot.slot) here in (r.removes q.0.0 (has-key _ (lawful-of g.S.BuildHasher g.S.Hasher.Hasher g.met.K.Eq.laws g.met.K.Hash.respects_eq) (g.Q.Query.names c.args.key) (g.met.Q.Query.respects_eq c.args.key) c.args.self.now c.in_ok-slot.slot here q.0.0 q.2)).taken.stays;
          },
          subst (λ o. IfSome o (λ p. AnswersOn g.F.FnOnce c.args.f p true)) (sym pair) (c.at.result.0, c.at.result.1, refl, refl, c.if-f.ensures),
        );
        equal = subst (λ o. IsSomeAnd o (λ p. IsTrue ((g.Q.Query.names c.args.key) p.0))) c.take_at.ensures.pair here;
        len = r.len;
      };
      lawful = r.lawful;
    }

pub returns : goal.returns
returns g c =
    let pair : at_named (g.Q.Query.names c.args.key) (pairs c.args.self.now) ≡ Some (deref_pair c.at.result) = sym c.in_ok-slot.ensures.finds.pair ∙ c.at.ensures.pair in
    record {
      removes = record {
        takes = (
          (λ _ v. (v, false)),
          record { each = λ k _. asked-no g.K.PartialEq.eq c.args.self.now k; none = λ _. refl; stays = record { number = refl; amount = refl; hasher = refl } },
          subst (λ o. IfSome o (λ p. AnswersOn g.F.FnOnce c.args.f p false)) (sym pair) (c.at.result.0, c.at.result.1, refl, refl, c.if-f.ensures),
        );
        equal = tt;
        len = sym (add-zero _);
      };
      lawful = c.in_ok-slot.ensures.lawful;
    }
