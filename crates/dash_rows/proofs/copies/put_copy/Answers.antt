use Rattle.std.proofs.Common.{sym, ◌∙◌}
use Rattle.dash_shard.specs.Hashing.{key_hash}
use Rattle.dash_shard.specs.Shard.{pairs}
use Rattle.dash_shard.specs.inner.Keys.{keys_of}
use Rattle.dash_shard.proofs.Equals.{at-equal}
use Rattle.dash_rows.proofs.copies.put_copy.Goals as goal

pub insert_new-requires-clause-absent : goal.insert_new-requires-clause-absent
insert_new-requires-clause-absent g c =
    let h = key_hash g.K.PartialEq.eq g.K.Hash.hash_input g.S.BuildHasher g.S.Hasher.Hasher in
    sym (at-equal (keys_of h c.args.shard.now) g.met.K.Eq.laws (pairs c.args.shard.now) c.args.key.now c.in_ok-key.key (g.met.K.KeptKey.alike_equal _ _ c.in_ok-key.ensures)) ∙ c.requires.absent
