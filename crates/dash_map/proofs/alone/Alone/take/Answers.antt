use Rattle.std.proofs.Common.{◌≡◌, ◌≤◌, ℕ, List, get_or, Some, sym, ap, subst, ◌∙◌, arith, slice_get, slice_set, flat_map, length}
use Rattle.std.proofs.lemmas.List.{set-get_or}
use Rattle.std.proofs.lemmas.Option.{slice_get-get_or}
use Rattle.dash_shard.specs.Hashing.{key_hash}
use Rattle.dash_shard.specs.Shard.{ShardState, SameShard, IsShard, pairs}
use Rattle.dash_shard.proofs.Lawful.{lawful-of}
use Rattle.dash_steps.specs.Steps.{step_of, reply_of}
use Rattle.dash_steps.specs.Takes.{Takes}
use Rattle.dash_steps.specs.inner.Hashed.{shard_by}
use Rattle.dash_steps.proofs.Taking.{settled}
use Rattle.dash_map.specs.Alone.{AloneState, IsAlone, KeepsRoom, contents}
use Rattle.dash_map.specs.inner.Run.{rules_in}
use Rattle.dash_map.proofs.Lifting.{alone-set}
use Rattle.dash_map.proofs.Rooms.{keeps-set}
use Rattle.dash_map.proofs.Running.{goes-on, takes-on}
use Rattle.dash_map.proofs.alone.Alone.take.Given.{Over}
use Rattle.dash_map.proofs.alone.Alone.take.Goals.{After-index_mut, After-take-taken, in-Ok, in-Err}
use Rattle.dash_map.proofs.alone.Alone.take.Goals as goal

abbrev in-row : {K V S : Type 0} → S → List (ShardState K V S) → AloneState K V S
in-row hasher row = record { hasher = hasher; row = row }

-- a shard that is put back as it was
put-back : {K V S : Type 0} (hasher : S) (row : List (ShardState K V S)) (i : ℕ) (s t : ShardState K V S) → s ≡ get_or row i s → t ≡ s → in-row hasher (slice_set row i t) ≡ in-row hasher row
put-back hasher row i s t here same = ap (in-row hasher) (ap (slice_set row i) (same ∙ here) ∙ set-get_or row i s)

-- the shard that is lent
lent : (g : Over) (c : After-index_mut g) → slice_get c.self.inside.row c.route-hash.result.1 ≡ Some c.index_mut.result.now
lent g c = slice_get-get_or c.self.inside.row c.route-hash.result.1 c.index_mut.result.now (omega (arith, c.if-shard-amount.false, c.len-amount.ensures)) ∙ ap Some (sym c.index_mut.ensures.value)

here : (g : Over) (c : After-take-taken g) → slice_get c.self.inside.row c.route-hash.result.1 ≡ Some c.index_mut.result.now
here g c = slice_get-get_or c.self.inside.row c.route-hash.result.1 c.index_mut.result.now (omega (arith, c.if-shard-amount.false, c.len-amount.ensures)) ∙ ap Some (sym c.index_mut.ensures.value)

pub take-taken-requires-clause-goes : goal.take-taken-requires-clause-goes
take-taken-requires-clause-goes g c =
    let i = c.route-hash.result.1 in
    goes-on g.A.Action.acts (key_hash g.K.PartialEq.eq g.K.Hash.hash_input g.S.BuildHasher g.S.Hasher.Hasher) c.self.inside.hasher (length c.self.inside.row) i c.index_mut.result.now (c.self.invariant.tagged i c.index_mut.result.now (lent g c)) c.args.step c.route-hash.result.0 c.route-hash.ensures.hash
    (c.route-hash.ensures.shard ∙ ap (λ n. shard_by g.A.Action.acts (key_hash g.K.PartialEq.eq g.K.Hash.hash_input g.S.BuildHasher g.S.Hasher.Hasher) c.self.inside.hasher n c.args.step) c.len-amount.ensures)

pub take-taken-requires-clause-lawful : goal.take-taken-requires-clause-lawful
take-taken-requires-clause-lawful g c = (c.self.invariant.tagged c.route-hash.result.1 c.index_mut.result.now (lent g c)).shard

after : (g : Over) (c : After-take-taken g) → SameShard c.index_mut.result.now c.take-taken.new.shard × (c.index_mut.result.now.capacity ≤ c.take-taken.new.shard.capacity) × IsShard (key_hash g.K.PartialEq.eq g.K.Hash.hash_input g.S.BuildHasher g.S.Hasher.Hasher) c.take-taken.new.shard
after g c = settled _ _ _ _ _ _ _ c.take-taken.result c.take-taken.ensures.taken c.take-taken.ensures.refused (c.self.invariant.tagged c.route-hash.result.1 c.index_mut.result.now (here g c)).shard

lawful : (g : Over) (c : After-take-taken g) → IsAlone (key_hash g.K.PartialEq.eq g.K.Hash.hash_input g.S.BuildHasher g.S.Hasher.Hasher) (record { hasher = c.self.inside.hasher; row = slice_set c.self.inside.row c.route-hash.result.1 c.take-taken.new.shard })
lawful g c = let a = after g c in alone-set _ _ c.route-hash.result.1 c.self.inside.row c.index_mut.result.now c.take-taken.new.shard c.self.invariant (here g c) a.0 a.2

pub invariant_of-self : goal.invariant_of-self
invariant_of-self g c = lawful g (goal.at.invariant_of-self g c).After-take-taken

pub returns-clause-lawful : goal.returns-clause-lawful
returns-clause-lawful g c = lawful g (goal.at.returns-clause-lawful g c).After-take-taken

pub returns-clause-stays : goal.returns-clause-stays
returns-clause-stays g c =
    let At : Type 0 = AloneState g.row.K.Denot g.row.V.Denot g.row.S.Denot in
    let new : At = record { hasher = c.self.inside.hasher; row = slice_set c.self.inside.row c.route-hash.result.1 c.take-taken.new.shard } in
    subst (λ (a : At). KeepsRoom a new) c.self.view_is
    (keeps-set c.self.inside.hasher c.self.inside.row c.route-hash.result.1 c.index_mut.result.now c.take-taken.new.shard (here g (goal.at.returns-clause-stays g c).After-take-taken) (after g (goal.at.returns-clause-stays g c).After-take-taken).1)

pub returns-clause-taken : goal.returns-clause-taken
returns-clause-taken g c =
    let At : Type 0 = AloneState g.row.K.Denot g.row.V.Denot g.row.S.Denot in
    let h = key_hash g.K.PartialEq.eq g.K.Hash.hash_input g.S.BuildHasher g.S.Hasher.Hasher in
    let i = c.route-hash.result.1 in
    let row = c.self.inside.row in
    elim c.match-taken.branch [
      | in-Ok w ↦ rw w.result-is (subst (λ (a : At). Takes (rules_in h g.K.Kept.alike g.V.Kept.alike a) (contents a) (step_of g.A.Action.acts c.args.step) (reply_of w.in-Ok.reply) (flat_map pairs (slice_set row i c.take-taken.new.shard))) c.self.view_is
          (takes-on h _ _ (lawful-of g.S.BuildHasher g.S.Hasher.Hasher g.met.K.Eq.laws g.met.K.Hash.respects_eq) g.met.K.Kept.alike_laws g.met.V.Kept.alike_laws g.met.K.KeptKey.alike_equal c.self.inside.hasher row c.self.invariant i
          c.index_mut.result.now c.take-taken.new.shard (here g (goal.at.returns-clause-taken g c).After-take-taken) (step_of g.A.Action.acts c.args.step) w.in-Ok.reply
          (c.route-hash.ensures.shard ∙ ap (λ n. shard_by g.A.Action.acts h c.self.inside.hasher n c.args.step) c.len-amount.ensures) w.in-Ok.ensures.taken))
      | in-Err w ↦ rw w.result-is tt
    ]

pub returns-clause-refused : goal.returns-clause-refused
returns-clause-refused g c = elim c.match-taken.branch [
  | in-Ok w ↦ rw w.result-is tt
  | in-Err w ↦ rw w.result-is (w.in-Err.ensures.refused.0, put-back c.self.inside.hasher c.self.inside.row c.route-hash.result.1 c.index_mut.result.now c.take-taken.new.shard c.index_mut.ensures.value w.in-Err.ensures.refused.1 ∙ c.self.view_is)
]
