-- Steps that are taken on one shard.
use Rattle.std.proofs.Common.{◌≡◌, ℕ, ◌<◌, ◌≤◌, ◌==◌, Bool, true, false, cond, Option, Some, None, refl, sym, subst, arith}
use Rattle.std.specs.Cmp.{IsEquivalence}
use Rattle.std.specs.Prelude.{Result, Ok, Err, IfOk, IfErr}
use Rattle.std.specs.Option.{option_and_then}
use Rattle.dash_shard.specs.Hashing.{KeyHash}
use Rattle.dash_shard.specs.Contents.{at}
use Rattle.dash_shard.specs.Shard.{ShardState, SameShard, IsShard, pairs}
use Rattle.dash_shard.specs.Steps.{Step, Act, Read, Count, AlterAll, Retain}
use Rattle.dash_shard.specs.Steps as table
use Rattle.dash_shard.specs.inner.Keys.{IsLawful, keys_of}
use Rattle.dash_shard.specs.inner.Steps.{Becomes, after, step_shard}
use Rattle.dash_shard.proofs.Routing.{route_below}
use Rattle.dash_steps.specs.Steps.{reply_of}
use Rattle.dash_steps.specs.Takes.{Rules, rules, Answers, GrowsBy, TakesOn}
use Rattle.dash_steps.specs.declared.step.Reply.{Reply}
use Rattle.dash_steps.specs.declared.step.Reply.TheVariants.{Done}
use Rattle.dash_steps.specs.inner.Copied.{AlikeAt}
use Rattle.dash_steps.specs.inner.Sweep.{SweptTo, keeping}
use Rattle.dash_steps.proofs.Copies.{Lawful, lawful-by, takes-exactly}
use Rattle.dash_steps.proofs.Preparing.{answers-all}
use Rattle.dash_steps.proofs.Rooms.{grows-same, grows-least}
use Rattle.dash_steps.proofs.Sweeping.{leaves}

-- a look at a shard leaves what is there
shown : {X : Type 0} (t : Bool) (o : Option X) → o ≡ cond t (option_and_then Some o) o
shown true None = refl
shown true (Some x) = refl
shown false o = refl

module _ {K V S : Type 0} (h : KeyHash K S) (law : IsLawful h) (k : K → K → Bool) (v : V → V → Bool) (key : IsEquivalence k) (value : IsEquivalence v)
    (alike_equal : (i j : K) → k i j ≡ true → h.eq i j ≡ true) (s : ShardState K V S) (shard : IsShard h s) where
  abbrev m : Rules K V
  m = rules k v (keys_of h s)

  pub laws-on : Lawful m
  laws-on = lawful-by h law k v key value alike_equal s.hasher s.amount

  -- a key's shard is there
  pub routed : (j : K) → m.keys.route j < s.amount
  routed j = route_below (h.hash s.hasher j) s.amount (omega (arith, shard.amount.several))

  -- a step that got this reply, and made exactly this of the pairs
  pub exactly : (t : ShardState K V S) (step : Step K V) (reply : Reply K V) → step_shard m.keys step < s.amount → Answers m (pairs s) step (reply_of reply) → Becomes m.keys step (pairs s) (pairs t)
      → SameShard s t → GrowsBy step s t → IsShard h t → TakesOn h k v s step t reply
  exactly t step reply here answers becomes stays room lawful = record {
    takes = takes-exactly m laws-on (pairs s) (pairs t) step (reply_of reply) here answers becomes lawful.contents.distinct;
    stays = stays;
    room = room;
    lawful = lawful;
  }

  -- a step that leaves the shard as it is
  pub looks : (step : Step K V) (reply : Reply K V) → step_shard m.keys step < s.amount → Answers m (pairs s) step (reply_of reply) → Becomes m.keys step (pairs s) (pairs s) → TakesOn h k v s step s reply
  looks step reply here answers becomes = exactly s step reply here answers becomes (record { number = refl; amount = refl; hasher = refl }) (grows-same step s s refl) shard

  module _ (i : ℕ) (here : i ≡ s.number) where
    there : i < s.amount
    there = subst (λ n. n < s.amount) (sym here) shard.number

    pub reads : (reply : Reply K V) → Answers m (pairs s) (Read i) (reply_of reply) → TakesOn h k v s (Read i) s reply
    reads reply answers = looks (Read i) reply there answers (λ j. shown (m.keys.route j == i) (at h.eq (pairs s) j))

    pub counts : (reply : Reply K V) → Answers m (pairs s) (Count i) (reply_of reply) → TakesOn h k v s (Count i) s reply
    counts reply answers = looks (Count i) reply there answers (λ j. shown (m.keys.route j == i) (at h.eq (pairs s) j))

  module _ (t : ShardState K V S) (stays : SameShard s t) (room : t.capacity ≡ s.capacity) (lawful : IsShard h t) (f : Act K V) where
    swept-by : (step : Step K V) → step_shard m.keys step ≡ s.number → Answers m (pairs s) step table.Done → ((j : K) → AlikeAt m (after m.keys step j (at h.eq (pairs s) j)) (at h.eq (pairs t) j)) → TakesOn h k v s step t Done
    swept-by step is answers each = record {
      takes = record { in_range = subst (λ n. n < s.amount) (sym is) shard.number; answers = answers; each_key = each; distinct = lawful.contents.distinct };
      stays = stays;
      room = grows-same step s t room;
      lawful = lawful;
    }

    pub retains : (i : ℕ) → i ≡ s.number → SweptTo h.eq k v f (pairs s) (pairs t) → TakesOn h k v s (Retain i f) t Done
    retains i here swept = subst (λ n. TakesOn h k v s (Retain n f) t Done) (sym here)
        (swept-by (Retain s.number f) refl (answers-all h k v law.laws s shard (Retain s.number f) s.number _ _ refl refl table.Done table.Done refl refl) (leaves m s.number f (pairs s) (pairs t) shard.contents.routed swept))

    pub alters : (i : ℕ) → i ≡ s.number → SweptTo h.eq k v (keeping true f) (pairs s) (pairs t) → TakesOn h k v s (AlterAll i f) t Done
    alters i here swept = subst (λ n. TakesOn h k v s (AlterAll n f) t Done) (sym here)
        (swept-by (AlterAll s.number f) refl (answers-all h k v law.laws s shard (AlterAll s.number f) s.number _ _ refl refl table.Done table.Done refl refl) (leaves m s.number (keeping true f) (pairs s) (pairs t) shard.contents.routed swept))

-- taken or refused, the shard stays the one that it is, loses no room, and stays lawful
module _ {K V S X : Type 0} (h : KeyHash K S) (k : K → K → Bool) (v : V → V → Bool) (s t : ShardState K V S) (step : Step K V) (back : X → Type 0) where
  pub settled : (r : Result (Reply K V) X) → IfOk r (TakesOn h k v s step t) → IfErr r (λ x. back x × (t ≡ s)) → IsShard h s → SameShard s t × (s.capacity ≤ t.capacity) × IsShard h t
  settled (Ok reply) took refused shard = (took.stays, grows-least step s t took.room, took.lawful)
  settled (Err x) took refused shard = subst (λ y. SameShard s y × (s.capacity ≤ y.capacity) × IsShard h y) (sym refused.1) (record { number = refl; amount = refl; hasher = refl }, omega arith, shard)
