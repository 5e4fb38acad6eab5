-- A step of a walk over a map's locks that writes.
use Rattle.std.proofs.Common.{◌≡◌, ℕ, zero, suc, ◌+◌, ◌-◌, Option, Some, None, IsSome, inl, inr, refl, sym, ap, subst, ◌∙◌, arith, add-one}
use Rattle.std.specs.Prelude.{IfSome}
use Rattle.std.proofs.lemmas.Bool.{false≢true}
use Rattle.std.proofs.lemmas.Option.{same_Some}
use Rattle.dash_shard.specs.Hashing.{KeyHash}
use Rattle.dash_shard.specs.Lock.{LeftBehind}
use Rattle.dash_shard.specs.Shard.{ShardState, IsNextTaken, IsTagged, slot}
use Rattle.dash_ref.specs.Ref.{RefState}
use Rattle.dash_map.specs.Walking.{IterState, GivesPair}
use Rattle.dash_map.specs.Map.{MapState}
use Rattle.dash_map.specs.WalkingMut.{here, rewritten, pair_at, pair_before, valued_at, LeavesHeld, StepsTo, Rewrites}
use Rattle.dash_map.specs.inner.Walking.{IsWalk, GivesHere, HasPassed}
use Rattle.dash_map.proofs.AloneWalks.{valued-shard}

module _ {K V S : Type 0} (h : KeyHash K S) where
  gives-at : (x : IterState K V S) → IsWalk h x → (s : ShardState K V S) → x.held ≡ Some s → (m : ℕ) → IsNextTaken s.slots x.position (Some m) → (o : Option (K × V)) → slot s.slots m ≡ o → IsSome o
      → (item : RefState K V S) × GivesHere h x item (record x { position = m + 1 })
  gives-at x walk s held m next None e some = cc
  gives-at x walk s held m next (Some p) e some =
      let is = subst (λ (o : Option (ShardState K V S)). IfSome o (λ t. (x.entered ≡ t.number + 1) × IsTagged h x.base.hasher x.base.amount t.number t)) held walk.held in (
        record { shard = s; position = m; key = p.0; value = p.1 },
        record { tagged = is.1; stands = e; here = held; number = is.0; next = next; held = held; entered = refl; position = refl },
      )

  -- the next taken slot of the held shard is the next pair
  pub found-here : (x z : IterState K V S) → x ≡ z → IsWalk h x → (s : ShardState K V S) → x.held ≡ Some s → (m : ℕ) → IsNextTaken s.slots x.position (Some m)
      → (item : RefState K V S) × GivesHere h z item (record x { position = m + 1 })
  found-here x z view walk s held m next =
      subst (λ (y : IterState K V S). (item : RefState K V S) × GivesHere h y item (record x { position = m + 1 })) view (gives-at x walk s held m next (slot s.slots m) refl next.1)

  -- a walk that goes on to the next shard leaves the one that it held
  pub leaves-on : (old w next : IterState K V S) → HasPassed h old w → LeavesHeld old w → IfSome w.held LeftBehind → LeavesHeld old next
  leaves-on old w next (inl here) so left = λ _. subst (λ (x : IterState K V S). IfSome x.held LeftBehind) here left
  leaves-on old w next (inr later) so left = λ _. so later.later

  -- a walk that gave a pair stands on it
  pub gave-here : (old : IterState K V S) (item : RefState K V S) (new : IterState K V S) → GivesPair h old item new → here new ≡ Some (item.key, item.value)
  gave-here old item new g =
      ap (λ (o : Option (ShardState K V S)). pair_before o new.position) g.held ∙ ap (λ (n : ℕ). pair_before (Some item.shard) n) (g.position ∙ add-one item.position) ∙ g.stands

  pub gave-rewrites : (old : IterState K V S) (item : RefState K V S) (new : IterState K V S) → StepsTo h old item new → (p : K × V) → here new ≡ Some p → (w : V) → Rewrites h old p.1 (rewritten new w) w
  gave-rewrites old item new steps p there w = record {
    item = item;
    found = new;
    steps = steps;
    value = ap (λ (q : K × V). q.1) (same_Some (item.key, item.value) p (sym (gave-here old item new steps.steps.pair) ∙ there));
    left = refl;
  }

  -- a walk whose pair was lent, at each value that may come back
  module _ (b : MapState K V S) (e n : ℕ) where
    abbrev at : Option (ShardState K V S) → ℕ → IterState K V S
    at o k = record { base = b; entered = e; held = o; position = k }

    pub still-walks : (o : Option (ShardState K V S)) → IsWalk h (at o n) → (i : ℕ) (v : V) → IsWalk h (at (valued_at o i v) n)
    still-walks None walk i v = walk
    still-walks (Some s) walk i v = let is = walk.held in record {
      within = walk.within;
      held = (is.0, record { number = is.1.number; amount = is.1.amount; hashes = is.1.hashes; shard = valued-shard h s i v is.1.shard });
    }

    module _ (o : Option (ShardState K V S)) (z : IterState K V S) (view : at o n ≡ z) (some : IsSome (here z)) where
      pub stands : here z ≡ pair_at o (n - 1)
      stands = from n view
        where
          from : (k : ℕ) → at o k ≡ z → here z ≡ pair_at o (k - 1)
          from zero is = absurd (false≢true (subst (λ (y : IterState K V S). IsSome (here y)) (sym is) some))
          from (suc i) is = ap (λ (y : IterState K V S). here y) (sym is) ∙ ap (pair_at o) (omega arith)

      pub lent-rewritten : (v : V) → at (valued_at o (n - 1) v) n ≡ rewritten z v
      lent-rewritten v = from n view
        where
          from : (k : ℕ) → at o k ≡ z → at (valued_at o (k - 1) v) k ≡ rewritten z v
          from zero is = absurd (false≢true (subst (λ (y : IterState K V S). IsSome (here y)) (sym is) some))
          from (suc i) is = ap (λ j. at (valued_at o j v) (suc i)) (omega arith) ∙ ap (λ (y : IterState K V S). rewritten y v) is
