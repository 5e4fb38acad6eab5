-- A removal that was asked first: a removal where the answer was yes, and nothing where it was no.
use Rattle.std.proofs.Common.{◌≡◌, Bool, true, false, cond, List, Option, Some, None, refl, sym, ap, ◌∙◌, inl, inr}
use Rattle.std.specs.Prelude.{option_and_then}
use Rattle.std.proofs.lemmas.Bool.{cases_Bool}
use Rattle.dash_shard.specs.Contents.{Keys, at}
use Rattle.dash_shard.specs.Steps.{Remove, RemoveIf, Pair}
use Rattle.dash_shard.specs.inner.Steps.{Becomes, Replies, after}
use Rattle.dash_shard.specs.Shard.{ShardState, pairs, own_keys, TakesInPlace}

-- what stands there, and nothing
there : {A : Type 0} (o : Option A) → option_and_then Some o ≡ o
there None = refl
there (Some x) = refl

nothing : {A B : Type 0} (o : Option A) → option_and_then {T = A} {U = B} (λ _. None) o ≡ None
nothing None = refl
nothing (Some x) = refl

module _ {K V : Type 0} (w : Keys K) where
  yes-replies : (k : K) (ps : List (K × V)) (r : Option (K × V)) → Replies w (Remove k) ps (Pair r) → Replies w (RemoveIf k (λ _ v. (v, true))) ps (Pair r)
  yes-replies k ps r e = e ∙ ap Pair (sym (there (at w.eq ps k)))

  yes-becomes : (k : K) (ps qs : List (K × V)) → Becomes w (Remove k) ps qs → Becomes w (RemoveIf k (λ _ v. (v, true))) ps qs
  yes-becomes k ps qs e j = e j ∙ ap (λ o. cond (w.eq k j) o (at w.eq ps j)) (sym (nothing (at w.eq ps j)))

  no-after : (k j : K) (o : Option (K × V)) → o ≡ after w (RemoveIf k (λ _ v. (v, false))) j o
  no-after k j o = elim (cases_Bool (w.eq k j)) as (λ _. o ≡ after w (RemoveIf k (λ _ v. (v, false))) j o) [
    | inl same ↦ rw same (sym (there o))
    | inr other ↦ rw other refl
  ]

module _ {K V S : Type 0} (eq : K → K → Bool) where
  pub asked-yes : (z n : ShardState K V S) (k : K) (r : Option (K × V)) → TakesInPlace eq z n (Remove k) (Pair r) → TakesInPlace eq z n (RemoveIf k (λ _ v. (v, true))) (Pair r)
  asked-yes z n k r x =
      let w = own_keys eq z in
      record {
        taken = record {
          table = record {
            replies = yes-replies w k (pairs z) r x.taken.table.replies;
            becomes = yes-becomes w k (pairs z) (pairs n) x.taken.table.becomes;
          };
          stays = x.taken.stays;
        };
        room = x.room;
        slots = x.slots;
      }

  pub asked-no : (z : ShardState K V S) (k : K) → TakesInPlace eq z z (RemoveIf k (λ _ v. (v, false))) (Pair None)
  asked-no z k =
      let w = own_keys eq z in
      record {
        taken = record {
          table = record {
            replies = ap Pair (sym (nothing (at eq (pairs z) k)));
            becomes = λ j. no-after w k j (at eq (pairs z) j);
          };
          stays = record { number = refl; amount = refl; hasher = refl };
        };
        room = refl;
        slots = λ i p e. e ∙ no-after w k p.0 (Some p);
      }
