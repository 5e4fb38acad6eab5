-- How the logic numbers what contracts see of entries, and what they keep.
use Rattle.std.specs.Prelude.{ℕ, ◌≡◌, ◌<◌, None, refl}
use Rattle.std.specs.Coded.{Coded, code_by, coded×}
use Rattle.dash_shard.specs.Hashing.{KeyHash}
use Rattle.dash_shard.specs.Contents.{at}
use Rattle.dash_shard.specs.Shard.{ShardState, Routes, pairs, shard_len}
use Rattle.dash_shard.specs.inner.Codes.{shard_code}
use Rattle.dash_shard.specs.inner.Table.{IsPlaceFor}
use Rattle.dash_shard.specs.declared.shard.table.Place.{Place}
use Rattle.dash_ref.specs.RefMut.{RefMutState}
use Rattle.dash_ref.specs.Entry.{OccupiedState, VacantState}
use Rattle.dash_ref.specs.inner.RefMut.{ref_mut_code}

abbrev pub occupied_code : {K V S : Type 0} → Coded K → Coded V → Coded S → Coded (OccupiedState K V S)
occupied_code {K} {V} {S} k v s =
    code_by (RefMutState K V S × K) (coded× (ref_mut_code k v s) k) (λ o. (o.pair, o.key)) (λ t. record { pair = t.0; key = t.1 }) (λ _. refl)

abbrev pub vacant_code : {K V S : Type 0} → Coded K → Coded V → Coded S → Coded (VacantState K V S)
vacant_code {K} {V} {S} k v s =
    code_by (ShardState K V S × K) (coded× (shard_code k v s) k) (λ o. (o.shard, o.key)) (λ t. record { shard = t.0; key = t.1 }) (λ _. refl)

module _ {K V S : Type 0} (h : KeyHash K S) where
  -- the key has this hash and goes to the shard, which has no equal one, and room, with a place for it
  pub record IsVacant (s : ShardState K V S) (key : K) (hash : ℕ) (place : Place) : Type 0 where
    pub hashed : hash ≡ h.hash s.hasher key
    pub routes : Routes h s key
    pub absent : at h.eq (pairs s) key ≡ None
    pub room : shard_len s < s.capacity
    pub fits : IsPlaceFor s hash place
