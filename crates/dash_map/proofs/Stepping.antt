-- A step of a walk over a map's locks.
use Rattle.std.proofs.Common.{◌≡◌, ℕ, ◌+◌, ◌-◌, ◌^◌, ◌<◌, ◌≤◌, Option, Some, None, Result, Ok, Err, false, inl, inr, refl, sym, ap, subst, ◌∙◌, arith}
use Rattle.std.specs.Prelude.{◌↔◌, IsTrue, IfSome, IsSome, IfOk, OnErr}
use Rattle.std.specs.Option.{option_map_or}
use Rattle.std.specs.Iterator.{size}
use Rattle.std.proofs.lemmas.Bool.{cases_eq, true≢false}
use Rattle.dash_shard.specs.Hashing.{KeyHash}
use Rattle.dash_shard.specs.Lock.{FoundBehind}
use Rattle.dash_shard.specs.Shard.{ShardState, IsNextTaken, IsTagged}
use Rattle.dash_shard.specs.declared.shard.table.cursor.Cursor.{Cursor}
use Rattle.dash_shard.specs.inner.Cursors.{IsSlotCursor}
use Rattle.dash_ref.specs.Ref.{RefState, Stands}
use Rattle.dash_map.specs.Walking.{IterState, IsDone, IsEnded, IsOver, SawNone, GivesPair, StepsOn, steps_left}
use Rattle.dash_map.specs.inner.Walking.{IsWalk, GivesHere, IsLater, HasPassed}

pub not-so : {P : Type 0} → (IsTrue false ↔ P) → ¬ P
not-so iff p = true≢false (sym (iff.1 p))

-- a shard is left to enter
pub more : {K V S : Type 0} (w : IterState K V S) → w.entered ≤ w.base.amount → ¬ (w.entered ≡ w.base.amount) → w.entered < w.base.amount
more w within other = omega (arith, within, other)

-- a cursor of the shard behind a guard is one of the shard that is held
pub cursor-held : {G K V S : Type 0} (shard : G → ShardState K V S) (held : Option G) (g : G) (s : ShardState K V S) (c : Cursor) → Some g ≡ held → s ≡ shard g → IsSlotCursor s.slots c → IfSome held (λ r. IsSlotCursor (shard r).slots c)
cursor-held shard held g s c is same cursor =
    subst (λ o. IfSome o (λ r. IsSlotCursor (shard r).slots c)) is (subst (λ t. IsSlotCursor t.slots c) same cursor)

module _ {K V S : Type 0} (h : KeyHash K S) where
  -- a step in the shard that is held came to its slot r
  pub gives-here : (old new : IterState K V S) (item : RefState K V S) (s : ShardState K V S) (r : ℕ) → IsWalk h old → old.held ≡ Some s → new.held ≡ old.held → new.entered ≡ old.entered → IsNextTaken s.slots old.position (Some r)
      → new.position ≡ r + 1 → item.shard ≡ s → item.position ≡ r → Stands item → GivesHere h old item new
  gives-here old new item s r is here held entered next position shard at-r stands =
      let of : (old.entered ≡ s.number + 1) × IsTagged h old.base.hasher old.base.amount s.number s = subst (λ o. IfSome o (λ t. (old.entered ≡ t.number + 1) × IsTagged h old.base.hasher old.base.amount t.number t)) here is.held in
      record {
        tagged = subst (λ t. IsTagged h old.base.hasher old.base.amount t.number t) (sym shard) of.1;
        stands = stands;
        here = here ∙ ap Some (sym shard);
        number = of.0 ∙ ap (λ t. t.number + 1) (sym shard);
        next = subst (λ t. IsNextTaken t.slots old.position (Some item.position)) (sym shard) (subst (λ i. IsNextTaken s.slots old.position (Some i)) (sym at-r) next);
        held = held ∙ here ∙ ap Some (sym shard);
        entered = entered;
        position = position ∙ ap (λ i. i + 1) (sym at-r);
      }

  -- a held shard with no pair from its first slot on was seen without pairs
  held-none : (m : IterState K V S) (e n : ℕ) (o : Option (ShardState K V S)) → IsSome o → IfSome o (λ s. (e ≡ s.number + 1) × IsTagged h m.base.hasher m.base.amount s.number s) → IfSome o FoundBehind → IfSome o (λ s. IsNextTaken s.slots 0 None)
      → e ≡ n + 1 → (s : ShardState K V S) × IsTagged h m.base.hasher m.base.amount n s × FoundBehind s × IsNextTaken s.slots 0 None
  held-none m e n (Some s) some is found none last = (s, subst (λ i. IsTagged h m.base.hasher m.base.amount i s) (omega (arith, is.0, last)) is.1, found, none)
  held-none m e n None some is found none last = absurd (true≢false (sym some))

  -- with the shard that is held, where no pair is left in it
  saw-all : (old w : IterState K V S) → IsLater h old w → IsWalk h w → IsDone w → SawNone h old w.entered
  saw-all old w later is done i low high = elim (cases_eq (i + 1) w.entered) as (λ _. (s : ShardState K V S) × IsTagged h old.base.hasher old.base.amount i s × FoundBehind s × IsNextTaken s.slots 0 None) [
    | inl last ↦ held-none old w.entered i w.held later.held
        (subst (λ m. IfSome w.held (λ s. (w.entered ≡ s.number + 1) × IsTagged h m.hasher m.amount s.number s)) later.same is.held) later.found
        (subst (λ p. IfSome w.held (λ s. IsNextTaken s.slots p None)) later.first done) (sym last)
    | inr other ↦ later.between i low (omega (arith, high, other))
  ]

  pub goes-on : (old w next : IterState K V S) → HasPassed h old w → IsWalk h w → IsDone w → w.entered < w.base.amount → next.base ≡ w.base → next.entered ≡ w.entered + 1 → next.position ≡ 0 → IsSome next.held → IfSome next.held FoundBehind → HasPassed h old next
  goes-on old w next (inl here) is done more same entered first held found = inr (record {
    same = same ∙ ap (λ x. x.base) here;
    later = omega (arith, entered, ap (λ x. x.entered) here);
    within = omega (arith, entered, more, ap (λ m. m.amount) same);
    held = held;
    found = found;
    first = first;
    done = subst IsDone here done;
    between = λ i low high. absurd (omega (arith, low, high, entered, ap (λ x. x.entered) here));
  })
  goes-on old w next (inr later) is done more same entered first held found = inr (record {
    same = same ∙ later.same;
    later = omega (arith, entered, later.later);
    within = omega (arith, entered, more, ap (λ m. m.amount) same);
    held = held;
    found = found;
    first = first;
    done = later.done;
    between = λ i low high. saw-all old w later is done i low (omega (arith, high, entered));
  })

  -- no step from an end comes so far
  not-ended : (old w : IterState K V S) → HasPassed h old w → ¬ (IsEnded w) → ¬ (IsEnded old)
  not-ended old w (inl here) goes ended = goes (subst IsEnded (sym here) ended)
  not-ended old w (inr later) goes ended = omega (arith, later.later, later.within, ended.0, ap (λ m. m.amount) later.same)

  gives : (old w new : IterState K V S) (item : RefState K V S) → HasPassed h old w → GivesHere h w item new → GivesPair h old item new
  gives old w new item (inl here) g = record {
    tagged = subst (λ x. IsTagged h x.base.hasher x.base.amount item.shard.number item.shard) here g.tagged;
    stands = g.stands;
    order = inl (subst (λ x. x.held ≡ Some item.shard) here g.here, subst (λ x. x.entered ≡ item.shard.number + 1) here g.number, subst (λ x. IsNextTaken item.shard.slots x.position (Some item.position)) here g.next);
    held = g.held;
    entered = g.entered ∙ g.number;
    position = g.position;
  }
  gives old w new item (inr later) g = record {
    tagged = subst (λ m. IsTagged h m.hasher m.amount item.shard.number item.shard) later.same g.tagged;
    stands = g.stands;
    order = inr (record {
      later = omega (arith, later.later, g.number);
      found = subst (λ (o : Option (ShardState K V S)). IfSome o FoundBehind) g.here later.found;
      done = later.done;
      between = λ i low high. later.between i low (omega (arith, high, g.number));
      first = subst (λ p. IsNextTaken item.shard.slots p (Some item.position)) later.first g.next;
    });
    held = g.held;
    entered = g.entered ∙ g.number;
    position = g.position;
  }

  same-base : (old w : IterState K V S) → HasPassed h old w → w.base ≡ old.base
  same-base old w (inl here) = ap (λ x. x.base) here
  same-base old w (inr later) = later.same

  -- a step that gives a pair, or is refused
  pub stepped : {E : Type 0} (old w new : IterState K V S) (r : Result (RefState K V S) E) → HasPassed h old w → ¬ (IsEnded w) → new.base ≡ w.base
      → IfOk r (λ item. GivesHere h w item new) → OnErr r (IsOver new) → StepsOn h old (Some r) new
  stepped old w new (Ok item) passed goes same gave over = record {
    same = same ∙ same-base old w passed;
    pair = gives old w new item passed gave;
    refused = tt;
    end = tt;
    over = λ ended. absurd (not-ended old w passed goes ended);
  }
  stepped old w new (Err e) passed goes same gave over = record {
    same = same ∙ same-base old w passed;
    pair = tt;
    refused = over;
    end = tt;
    over = λ ended. absurd (not-ended old w passed goes ended);
  }

  -- a step that finds the end
  pub ends : {E : Type 0} (old w : IterState K V S) → HasPassed h old w → IsWalk h w → IsEnded w → StepsOn h {E = E} old None w
  ends old w (inl here) is ended = record {
    same = ap (λ x. x.base) here;
    pair = tt;
    refused = tt;
    end = record {
      done = subst IsDone here ended.1;
      between = λ i low high. absurd (omega (arith, low, high, subst (λ x. x.entered ≡ x.base.amount) here ended.0));
      ended = ended;
      holds = inl (subst IsEnded here ended);
    };
    over = λ _. (refl, here);
  }
  ends old w (inr later) is ended = record {
    same = later.same;
    pair = tt;
    refused = tt;
    end = record {
      done = later.done;
      between = λ i low high. saw-all old w later is ended.1 i low (omega (arith, high, ended.0, ap (λ m. m.amount) later.same));
      ended = ended;
      holds = inr later.held;
    };
    over = λ over. absurd (omega (arith, over.0, later.later, later.within, ap (λ m. m.amount) later.same));
  }

  -- what a held shard has left is at most this much
  at-most : (o : Option (ShardState K V S)) (p : ℕ) → option_map_or (λ _. 2 ^ 64 - p) o 0 ≤ 2 ^ 64
  at-most None p = omega arith
  at-most (Some s) p = omega arith

  pub nearer : (old w new : IterState K V S) → HasPassed h old w → size (steps_left new) < size (steps_left w) → size (steps_left new) < size (steps_left old)
  nearer old w new (inl here) less = subst (λ x. size (steps_left new) < size (steps_left x)) here less
  nearer old w new (inr later) less = omega (arith, less, at-most w.held w.position, later.later, later.within, ap (λ m. m.amount) later.same)

  -- a walk that ended by a refusal has no steps left, and one with a shard to enter has some
  pub over-nearer : (old w new : IterState K V S) → HasPassed h old w → w.entered < w.base.amount → IsOver new → new.base ≡ w.base → size (steps_left new) < size (steps_left old)
  over-nearer old w new passed more over same =
      let none : option_map_or (λ _. 2 ^ 64 - new.position) new.held 0 ≡ 0 = ap (λ o. option_map_or (λ _. 2 ^ 64 - new.position) o 0) over.1 in
      nearer old w new passed (omega (arith, none, over.0, more, ap (λ m. m.amount) same))
