use Rattle.std.proofs.Common.{◌≡◌, ℕ, List, Some, slice_get, sym, ap, subst, ◌∙◌, arith}
use Rattle.std.proofs.lemmas.Option.{slice_get-get_or, same_Some}
use Rattle.dash_shard.specs.Hashing.{key_hash}
use Rattle.dash_shard.specs.Shard.{ShardState}
use Rattle.dash_shard.proofs.Rows.{each-more}
use Rattle.dash_rows.specs.inner.Copies.{IsCopied}
use Rattle.dash_rows.proofs.copies.copy_shards.Goals as goal

pub loop-shard-preserved : goal.loop-shard-preserved
loop-shard-preserved g c =
    let At : Type 0 = ShardState g.row.K.Denot g.row.V.Denot g.row.S.Denot in
    let h = key_hash g.K.PartialEq.eq g.K.Hash.hash_input g.S.BuildHasher g.S.Hasher.Hasher in
    let item = c.shard-item.result in
    let here = slice_get-get_or c.args.shards.now c.loop-shard.shard-index item c.loop-shard-test.true ∙ ap Some (sym c.shard-item.is) in
    let Made : ℕ → At → Type 0 = λ i t. (s : At) → slice_get c.args.shards.now i ≡ Some s → IsCopied g.K.PartialEq.eq g.K.Kept.alike g.V.Kept.alike g.S.Clone.is_clone h s t in
    record {
      len = omega (arith, c.push_reserved.ensures.len, c.loop-shard.invariant.len, c.push_reserved.new.self.ok.0, c.loop-shard.copies.ok.0);
      room = omega (arith, c.loop-shard.invariant.room, c.push_reserved.ensures.capacity);
      each = subst (λ (xs : List At). (i : ℕ) (t : At) → slice_get xs i ≡ Some t → Made i t) (sym c.push_reserved.ensures.items)
          (each-more Made c.loop-shard.copies.items c.in_ok-copy_shard.field-0 c.loop-shard.invariant.each
          (λ s e. subst (λ (x : At). IsCopied g.K.PartialEq.eq g.K.Kept.alike g.V.Kept.alike g.S.Clone.is_clone h x c.in_ok-copy_shard.field-0) (same_Some item s (sym here ∙ ap (slice_get c.args.shards.now) (sym c.loop-shard.invariant.len) ∙ e)) c.in_ok-copy_shard.ensures));
    }

pub returns : goal.returns
returns g c = record {
  len = omega (arith, c.loop-shard.invariant.len, c.loop-shard-test.false, c.loop-shard.auto.shard-index-end);
  each = λ i s t e f. c.loop-shard.invariant.each i t f s e;
}
