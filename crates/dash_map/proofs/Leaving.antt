-- Shards that are changed one after the other behind their locks.
use Rattle.std.proofs.Common.{◌≡◌, ℕ, ◌+◌, Bool, List, [], ◌∷◌, ◌++◌, length, Option, Some, slice_get, inl, inr, refl, sym, ap, subst, ◌∙◌, arith}
use Rattle.std.proofs.lemmas.Option.{none-some, slice_get_within}
use Rattle.std.proofs.Math.ListN.{take}
use Rattle.std.proofs.Math.Seq.{take-length}
use Rattle.std.specs.Cmp.{IsEquivalence}
use Rattle.std.specs.Map.Calls.{CallableOnEachPair}
use Rattle.dash_shard.specs.Hashing.{KeyHash}
use Rattle.dash_shard.specs.Lock.{FoundBehind, LeftBehind}
use Rattle.dash_shard.specs.Shard.{ShardState, SameShard, IsShard, taken, IsTagged}
use Rattle.dash_shard.specs.Each.{Clears, Shrinks}
use Rattle.dash_shard.specs.inner.Walks.{Sweeps, SweepsShard, if_kept, altered}
use Rattle.dash_map.specs.Alone.{AloneState}
use Rattle.dash_map.specs.Behind.{LeavesShards, AreBehind}
use Rattle.dash_map.specs.Map.{MapState}
use Rattle.dash_map.specs.AllPairs.{ClearsAlone, ShrinksAlone, RetainsAlone, AltersAllAlone}
use Rattle.dash_map.specs.inner.Rooms.{SameRoom}
use Rattle.dash_map.proofs.Lifting.{tagged-moved}
use Rattle.dash_map.proofs.Seeing.{IsWhole, SoFar, append-cases, none-yet, one-more, all-seen}
use Rattle.dash_map.proofs.Sweeping.{Sweeping, slots_of, slots-more, sweeps-append, callable-behind, retains-alone, alters-all-alone}
use Rattle.dash_map.proofs.Turning.{Turning, clears-alone, shrinks-alone}

-- what holds of items at one index of two lists, and of one item more of each
pub each-more : {A : Type 0} (R : A → A → Type 0) (olds news : List A) (s t : A) → length olds ≡ length news → ((i : ℕ) (x y : A) → slice_get olds i ≡ Some x → slice_get news i ≡ Some y → R x y) → R s t
    → (i : ℕ) (x y : A) → slice_get (olds ++ s ∷ []) i ≡ Some x → slice_get (news ++ t ∷ []) i ≡ Some y → R x y
each-more R olds news s t long each here i x y e e' = elim (append-cases olds s i x e) as (λ _. R x y) [
  | inl old ↦ elim (append-cases news t i y e') as (λ _. R x y) [
    | inl new ↦ each i x y old new
    | inr last ↦ absurd (omega (arith, slice_get_within olds i x old, last.0, long))
  ]
  | inr last ↦ elim (append-cases news t i y e') as (λ _. R x y) [
    | inl new ↦ absurd (omega (arith, slice_get_within news i y new, last.0, long))
    | inr new ↦ subst (λ a. R a y) last.1 (subst (λ a. R s a) new.1 here)
  ]
]

module _ {K V S : Type 0} (h : KeyHash K S) (m : MapState K V S) where
  -- the shards in front of n, each as it stood and as it was left
  pub record Leaving (R : ShardState K V S → ShardState K V S → Type 0) (n : ℕ) : Type 0 where
    pub olds : List (ShardState K V S)
    pub news : List (ShardState K V S)
    pub stood : SoFar h m FoundBehind n olds
    pub stands : SoFar h m LeftBehind n news
    pub each : (i : ℕ) (s t : ShardState K V S) → slice_get olds i ≡ Some s → slice_get news i ≡ Some t → R s t

  -- a row of this map
  abbrev row-of : List (ShardState K V S) → AloneState K V S
  row-of row = record { hasher = m.hasher; row = row }

  module _ (R : ShardState K V S → ShardState K V S → Type 0) where
    abbrev pub none-left : Leaving R 0
    none-left = record { olds = []; news = []; stood = none-yet h m FoundBehind; stands = none-yet h m LeftBehind; each = λ i s t e e'. absurd (none-some s e) }

    module _ (n : ℕ) (so : Leaving R n) where
      abbrev pub one-left : (s t : ShardState K V S) → IsTagged h m.hasher m.amount n s → FoundBehind s → SameShard s t → IsShard h t → R s t → LeftBehind t → Leaving R (n + 1)
      one-left s t tagged found stays lawful is left = record {
        olds = so.olds ++ s ∷ [];
        news = so.news ++ t ∷ [];
        stood = one-more h m FoundBehind n so.olds so.stood s tagged found;
        stands = one-more h m LeftBehind n so.news so.stands t (tagged-moved h m.hasher m.amount n s t tagged stays lawful) left;
        each = each-more R so.olds so.news s t (so.stood.count ∙ sym so.stands.count) so.each is;
      }

      module _ (all : IsWhole m n) where
        all-stood : AreBehind h FoundBehind m (row-of so.olds)
        all-stood = all-seen h m FoundBehind n so.olds so.stood all

        all-stand : AreBehind h LeftBehind m (row-of so.news)
        all-stand = all-seen h m LeftBehind n so.news so.stands all

        all-turned : Turning h R n (row-of so.olds) (row-of so.news)
        all-turned = record {
          done = λ j s t _ e e'. so.each j s t e e';
          rest = λ j t from e. absurd (omega (arith, from, slice_get_within so.news j t e, so.stands.count));
          hasher = refl;
          amount = so.stands.count ∙ sym so.stood.count;
          lawful = all-stand.lawful;
        }

        all-left : (Q : AloneState K V S → AloneState K V S → Type 0) → Q (row-of so.olds) (row-of so.news) → LeavesShards h m Q
        all-left Q did = (row-of so.olds, all-stood, (row-of so.news, all-stand, did))

  pub all-cleared : (n : ℕ) → Leaving Clears n → IsWhole m n → LeavesShards {V = V} h m (ClearsAlone)
  all-cleared n so all =
      all-left Clears n so all (ClearsAlone)
      (clears-alone h n (row-of so.olds) (row-of so.news) (all-turned Clears n so all) (sym so.stands.count))

  pub all-shrunk : IsEquivalence h.eq → (n : ℕ) → Leaving (Shrinks h.eq) n → IsWhole m n → LeavesShards {V = V} h m (ShrinksAlone h.eq)
  all-shrunk laws n so all =
      all-left (Shrinks h.eq) n so all (ShrinksAlone h.eq)
      (shrinks-alone h laws n (row-of so.olds) (row-of so.news) (all-stood (Shrinks h.eq) n so all).lawful (all-turned (Shrinks h.eq) n so all) (sym so.stands.count))

  module _ {F : Type 0} (T : F → K → V → Bool → V → F → Type 0) (Q : F → K → V → Type 0) (leaves : K → V × Bool → Option (K × V)) (first : F) where
    -- the closure went over the shards in front of n, and may go on
    pub record Going (n : ℕ) (f : F) : Type 0 where
      pub left : Leaving SameRoom n
      pub swept : Sweeps T leaves first (slots_of left.olds) (slots_of left.news) f
      pub ready : (ps : List (K × V)) → CallableOnEachPair T Q f ps

    pub going-first : ((ps : List (K × V)) → CallableOnEachPair T Q first ps) → Going 0 first
    going-first callable = record { left = none-left SameRoom; swept = (refl, refl); ready = callable }

    module _ (n : ℕ) (f : F) (so : Going n f) where
      pub going-next : (s t : ShardState K V S) (f' : F) → IsTagged h m.hasher m.amount n s → FoundBehind s → SweepsShard T leaves f f' s t → IsShard h t → LeftBehind t → Going (n + 1) f'
      going-next s t f' tagged found x lawful put = record {
        left = one-left SameRoom n so.left s t tagged found x.stays lawful x.room put;
        swept = subst (λ l. Sweeps T leaves first l (slots_of (so.left.news ++ t ∷ [])) f') (sym (slots-more so.left.olds s))
            (subst (λ l. Sweeps T leaves first (slots_of so.left.olds ++ s.slots) l f') (sym (slots-more so.left.news t))
            (sweeps-append T leaves first f f' (slots_of so.left.olds) (slots_of so.left.news) s.slots t.slots so.swept x.swept));
        ready = λ ps. callable-behind T leaves Q f f' s.slots t.slots ps x.swept (so.ready (taken s.slots ++ ps));
      }

      module _ (all : IsWhole m n) where
        whole : (row : List (ShardState K V S)) → length row ≡ n → take n row ≡ row
        whole row count = ap (λ k. take k row) (sym count) ∙ take-length row

        gone : Sweeping h T Q leaves first n (row-of so.left.olds) (row-of so.left.news) f
        gone = record {
          turning = all-turned SameRoom n so.left all;
          swept = subst (λ l. Sweeps T leaves first (slots_of l) (slots_of (take n so.left.news)) f) (sym (whole so.left.olds so.left.stood.count))
              (subst (λ l. Sweeps T leaves first (slots_of so.left.olds) (slots_of l) f) (sym (whole so.left.news so.left.stands.count)) so.swept);
          ready = so.ready _;
        }

  module _ {F : Type 0} (T : F → K → V → Bool → V → F → Type 0) (Q : F → K → V → Type 0) (first : F) (laws : IsEquivalence h.eq) (n : ℕ) (f : F) (all : IsWhole m n) where
    pub all-retained : Going T Q if_kept first n f → LeavesShards h m (RetainsAlone h.eq T first)
    all-retained so =
        all-left SameRoom n so.left all (RetainsAlone h.eq T first)
        (retains-alone h T Q first laws n (row-of so.left.olds) (row-of so.left.news) f (all-stood SameRoom n so.left all).lawful (sym so.left.stands.count) (gone T Q if_kept first n f so all))

    pub all-altered : Going T Q altered first n f → LeavesShards h m (AltersAllAlone h.eq T first)
    all-altered so =
        all-left SameRoom n so.left all (AltersAllAlone h.eq T first)
        (alters-all-alone h T Q first laws n (row-of so.left.olds) (row-of so.left.news) f (all-stood SameRoom n so.left all).lawful (sym so.left.stands.count) (gone T Q altered first n f so all))
