use Rattle.std.proofs.Common.{◌≡◌, true, ap, sym, subst, inl, ◌∙◌}
use Rattle.dash_shard.specs.Hashing.{hash_of, key_hash}
use Rattle.dashmap.specs.Memo.{Answers}
use Rattle.dashmap.proofs.Keeping.{answered, routes-too}
use Rattle.dashmap.proofs.memo.Memo.answer.Goals.{in-Ok, in_default-pair_of}
use Rattle.dashmap.proofs.memo.Memo.answer.Goals as goal

pub keep-requires-clause-hash : goal.keep-requires-clause-hash
keep-requires-clause-hash g c =
    let same = g.met.K.KeptKey.alike_equal c.args.key.now c.in-Ok.copy c.in-Ok.ensures.key in
    c.requires.hash ∙ ap (hash_of g.S.BuildHasher g.S.Hasher.Hasher c.args.shard.now.hasher) (g.met.K.Hash.respects_eq c.args.key.now c.in-Ok.copy same)

pub keep-requires-clause-route : goal.keep-requires-clause-route
keep-requires-clause-route g c =
    let same = g.met.K.KeptKey.alike_equal c.args.key.now c.in-Ok.copy c.in-Ok.ensures.key in
    routes-too (key_hash g.K.PartialEq.eq g.K.Hash.hash_input g.S.BuildHasher g.S.Hasher.Hasher) c.args.shard.now c.args.key.now c.in-Ok.copy
    (ap (hash_of g.S.BuildHasher g.S.Hasher.Hasher c.args.shard.now.hasher) (g.met.K.Hash.respects_eq c.args.key.now c.in-Ok.copy same)) c.requires.route

pub returns-clause-answers : goal.returns-clause-answers
returns-clause-answers g c =
    let s = c.args.shard.now in let bound = c.args.self.now.bound in let key = c.args.key.now in let eq = g.K.PartialEq.eq in
    elim c.match-pair_of.branch as (λ _. Answers eq bound key s c.match-pair_of.shard) [
      | in-Ok w ↦
          let same : eq w.in-Ok.copy key ≡ true = g.met.K.Eq.laws.symm w.in-Ok.copy key ∙ g.met.K.KeptKey.alike_equal key w.in-Ok.copy w.in-Ok.ensures.key in
          subst (λ t. Answers eq bound key s t) (sym w.shard-is) (answered eq bound key s w.keep.new.shard w.in-Ok.copy w.in-Ok.answer same w.keep.ensures.keeps)
      | in_default-pair_of w ↦ inl (sym w.shard-is)
    ]
