-- What a step replies on a shard, before anything changes.
use Rattle.std.proofs.Common.{◌≡◌, ℕ, Bool, List, Option, Some, None, IsTrue, refl, sym, subst, is_some}
use Rattle.std.specs.Cmp.{IsEquivalence}
use Rattle.std.specs.Option.{option_map}
use Rattle.dash_shard.specs.Hashing.{KeyHash}
use Rattle.dash_shard.specs.Contents.{on, EachOnce, IsOnShard}
use Rattle.dash_shard.specs.Shard.{ShardState, pairs, IsShard}
use Rattle.dash_shard.specs.Steps.{Step, Reply, LineReplies, line, on_shard}
use Rattle.dash_shard.specs.inner.Keys.{keys_of}
use Rattle.dash_shard.proofs.Remade.{each-once}
use Rattle.dash_steps.specs.Alike.{alike_reply}
use Rattle.dash_steps.specs.Takes.{rules, Answers}

-- a reference to what is there
pub mapped : {A B : Type 0} (f : A → B) (o : Option A) → is_some o ≡ is_some (option_map f o)
mapped f None = refl
mapped f (Some x) = refl

-- the pairs of the step's shard, each once
pub all-once : {K V S : Type 0} (h : KeyHash K S) (laws : IsEquivalence h.eq) (s : ShardState K V S) → IsShard h s → (i : ℕ) → i ≡ s.number → EachOnce h.eq (on (keys_of h s) i (pairs s)) (pairs s)
all-once h laws s shard i here = each-once (keys_of h s) laws i (pairs s) (subst (λ n. IsOnShard (keys_of h s) n (pairs s)) (sym here) shard.contents)

-- what a step on all pairs of the shard replies
pub answers-all : {K V S : Type 0} (h : KeyHash K S) (x : K → K → Bool) (y : V → V → Bool) (laws : IsEquivalence h.eq) (s : ShardState K V S) → IsShard h s → (step : Step K V) (i : ℕ) (b : K × V → Option (K × V)) (r : List (K × V) → Reply K V)
    → line step ≡ on_shard i b r → i ≡ s.number → (told reply : Reply K V) → told ≡ r (pairs s) → IsTrue (alike_reply x y told reply) → Answers (rules x y (keys_of h s)) (pairs s) step reply
answers-all h x y laws s shard step i b r is here told reply e alike = record {
  told = told;
  replies = subst (λ l. LineReplies (keys_of h s) l (pairs s) told) (sym is) (pairs s, all-once h laws s shard i here, e);
  alike = alike;
}
