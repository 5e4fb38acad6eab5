use Rattle.std.proofs.Common.{◌≡◌, ◌+◌, ◌<◌, ◌-◌, Some, length, get_or, slice_get, slice_set, take, vec_len, sym, ap, subst, ◌∙◌, arith, rules}
use Rattle.std.proofs.lemmas.List.{take_all}
use Rattle.std.proofs.lemmas.Option.{slice_get-get_or}
use Rattle.dash_steps.specs.Takes.{known_by}
use Rattle.dash_history.proofs.Adding.{AddedSoFar, next-popped, take-shorter, added-none, added-more, added-all, next-here, behind-more, same-again}
use Rattle.dash_history.proofs.record.whole.add_each.Goals as goal

pub loop-entry-init : goal.loop-entry-init
loop-entry-init g c =
    let all : vec_len c.args.kept ≡ length c.args.kept.items = c.args.kept.ok.0 in
    record {
      left = sym (take_all (vec_len c.args.kept) c.args.kept.items (omega (arith, all)));
      few = omega (arith, all, c.requires.count);
      added = added-none g.T.Member.state (vec_len c.args.kept) c.args.row.now c.args.kept.items (omega (arith, all, c.requires.count));
    }

pub offset_bounds-row-idx : goal.offset_bounds-row-idx
offset_bounds-row-idx g c =
    let popped : vec_len c.loop-entry.kept ≡ c.len-idx.result + 1 = omega (arith, c.len-idx.ensures, c.in-Some.ensures.cases) in
    let within : c.len-idx.result < length c.args.row.now = omega (arith, popped, c.loop-entry.invariant.few) in
    search rules

pub add-requires : goal.add-requires
add-requires g c =
    let idx = c.len-idx.result in
    let before = c.loop-entry.invariant in
    let popped : vec_len c.loop-entry.kept ≡ idx + 1 = omega (arith, c.len-idx.ensures, c.in-Some.ensures.cases) in
    let within : idx < length c.loop-entry.row = omega (arith, popped, before.few, before.added.shards) in
    let x = get_or c.loop-entry.row idx c.index-row-idx.result in
    let here = slice_get-get_or c.loop-entry.row idx c.index-row-idx.result within in
    let added = subst (λ n. AddedSoFar g.T.Member.state n c.args.row.now c.loop-entry.row c.args.kept.items) popped before.added in
    let own : slice_get c.args.kept.items idx ≡ Some c.in-Some.entry = next-popped c.args.kept.items c.loop-entry.kept.items c.pop.new.self.items c.in-Some.entry (vec_len c.loop-entry.kept) idx before.left c.in-Some.ensures.items (omega (arith, c.pop.new.self.ok.0, c.len-idx.ensures)) in
    next-here (known_by g.K.PartialEq.eq g.K.Hash.hash_input g.K.Kept.alike g.V.Kept.alike g.A.Kept.alike g.A.Action.acts g.S.BuildHasher g.S.Hasher.Hasher) g.T.Member.state idx c.args.row.now c.loop-entry.row c.args.kept.items x c.in-Some.entry added here own c.requires.next

pub take_back_from-requires : goal.take_back_from-requires
take_back_from-requires g c =
    let idx = c.len-idx.result in
    let before = c.loop-entry.invariant in
    let popped : vec_len c.loop-entry.kept ≡ idx + 1 = omega (arith, c.len-idx.ensures, c.in-Some.ensures.cases) in
    let within : idx < length c.loop-entry.row = omega (arith, popped, before.few, before.added.shards) in
    let x = get_or c.loop-entry.row idx c.index-row-idx.result in
    let here = slice_get-get_or c.loop-entry.row idx c.index-row-idx.result within in
    let added = subst (λ n. AddedSoFar g.T.Member.state n c.args.row.now c.loop-entry.row c.args.kept.items) popped before.added in
    behind-more (known_by g.K.PartialEq.eq g.K.Hash.hash_input g.K.Kept.alike g.V.Kept.alike g.A.Kept.alike g.A.Action.acts g.S.BuildHasher g.S.Hasher.Hasher) g.T.Member.state idx c.args.row.now c.loop-entry.row c.args.kept.items x c.add.new.self added here (c.add.ensures.refused c.if-not-add.true) c.requires.legal

pub returns-then-not-add-clause-refused : goal.returns-then-not-add-clause-refused
returns-then-not-add-clause-refused g c = λ _.
    let idx = c.len-idx.result in
    let before = c.loop-entry.invariant in
    let popped : vec_len c.loop-entry.kept ≡ idx + 1 = omega (arith, c.len-idx.ensures, c.in-Some.ensures.cases) in
    let within : idx < length c.loop-entry.row = omega (arith, popped, before.few, before.added.shards) in
    let x = get_or c.loop-entry.row idx c.index-row-idx.result in
    let here = slice_get-get_or c.loop-entry.row idx c.index-row-idx.result within in
    let added = subst (λ n. AddedSoFar g.T.Member.state n c.args.row.now c.loop-entry.row c.args.kept.items) popped before.added in
    same-again (known_by g.K.PartialEq.eq g.K.Hash.hash_input g.K.Kept.alike g.V.Kept.alike g.A.Kept.alike g.A.Action.acts g.S.BuildHasher g.S.Hasher.Hasher) g.T.Member.state idx c.args.row.now c.loop-entry.row c.args.kept.items x c.add.new.self added here (c.add.ensures.refused c.if-not-add.true) c.requires.legal c.take_back_from.new.row c.take_back_from.ensures

pub loop-entry-preserved : goal.loop-entry-preserved
loop-entry-preserved g c =
    let idx = c.len-idx.result in
    let before = c.loop-entry.invariant in
    let popped : vec_len c.loop-entry.kept ≡ idx + 1 = omega (arith, c.len-idx.ensures, c.in-Some.ensures.cases) in
    let within : idx < length c.loop-entry.row = omega (arith, popped, before.few, before.added.shards) in
    let x = get_or c.loop-entry.row idx c.index-row-idx.result in
    let here = slice_get-get_or c.loop-entry.row idx c.index-row-idx.result within in
    let added = subst (λ n. AddedSoFar g.T.Member.state n c.args.row.now c.loop-entry.row c.args.kept.items) popped before.added in
    let own : slice_get c.args.kept.items idx ≡ Some c.in-Some.entry = next-popped c.args.kept.items c.loop-entry.kept.items c.pop.new.self.items c.in-Some.entry (vec_len c.loop-entry.kept) idx before.left c.in-Some.ensures.items (omega (arith, c.pop.new.self.ok.0, c.len-idx.ensures)) in
    let left : vec_len c.pop.new.self ≡ idx = sym c.len-idx.ensures in
    record {
      left = c.pop.ensures.rest ∙ ap (take (vec_len c.loop-entry.kept - 1)) before.left ∙ take-shorter (vec_len c.loop-entry.kept - 1) (vec_len c.loop-entry.kept) c.args.kept.items (omega arith)
          ∙ ap (λ n. take n c.args.kept.items) (omega (arith, popped, left));
      few = omega (arith, left, popped, before.few);
      added = subst (λ n. AddedSoFar g.T.Member.state n c.args.row.now (slice_set c.loop-entry.row idx c.add.new.self) c.args.kept.items) (sym left)
          (added-more g.T.Member.state idx c.args.row.now c.loop-entry.row c.args.kept.items x c.add.new.self c.in-Some.entry added here own (c.add.ensures.added c.if-not-add.false));
    }

pub returns-clause-added : goal.returns-clause-added
returns-clause-added g c = λ _.
    let none : vec_len c.loop-entry.kept ≡ 0 = omega (arith, c.in_default.ensures) in
    added-all g.T.Member.state c.args.row.now c.loop-entry.row c.args.kept.items (subst (λ n. AddedSoFar g.T.Member.state n c.args.row.now c.loop-entry.row c.args.kept.items) none c.loop-entry.invariant.added)
