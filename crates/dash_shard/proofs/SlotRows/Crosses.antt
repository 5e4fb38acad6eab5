-- The slots of a block may cross threads as their values may, and a deed as its allocator may.
use Rattle.std.specs.Prelude.{ℕ, ◌+◌, List, [], ◌∷◌, Option, Some, None}
use Rattle.std.specs.Mem.{type_size}
use base.Fraction.{full_share}
use base.Shift.{Keyless}
use denote.RattleType.{RattleType}
use denote.RawPtr.{Ptr, block_ptr, null_ptr}
use denote.Struct.Struct.{exits_of}
use denote.Struct.Owning.{shape, fields, to}
use denote.Param.Send.{IsSend, IsSync, Common, AllSend, part_keyless, owning_send, struct_send, struct_sync, sendable}
use Rattle.core.specs.declared.alloc.Allocator.{Ghosts}
use Rattle.std_alloc.proofs.SendSync.{FreesAnywhere, quiet}
use Rattle.circular_buffer.specs.Ownership.{slots, slots_lent, cells_own, cells_lent}
use Rattle.dash_shard.specs.contracts.shard.table.slots.cells.Cells as cells
use Rattle.dash_shard.specs.contracts.shard.table.slots.cells.Deed as deeds

module _ (R : RattleType) where
  slots-Keyless : IsSend R → (b o : ℕ) (cs : List (Option R.Denot)) → Keyless (slots R b o cs)
  slots-Keyless s b o [] = tt
  slots-Keyless s b o (None ∷ cs) = (tt, slots-Keyless s b (o + type_size R) cs)
  slots-Keyless s b o (Some x ∷ cs) = (part_keyless R s full_share x b o, slots-Keyless s b (o + type_size R) cs)

  owned-Keyless : IsSend R → (p : Ptr) (cs : List (Option R.Denot)) → Keyless (cells_own R p cs)
  owned-Keyless s (block_ptr b o) cs = (tt, slots-Keyless s b o cs)
  owned-Keyless s null_ptr cs = tt

  slots-Common : IsSync R → (b o : ℕ) (cs : List (Option R.Denot)) → Common (slots_lent R b o cs)
  slots-Common y b o [] κ = tt
  slots-Common y b o (None ∷ cs) κ = (tt, slots-Common y b (o + type_size R) cs κ)
  slots-Common y b o (Some x ∷ cs) κ = (y.shared x b o κ, slots-Common y b (o + type_size R) cs κ)

  lent-Common : IsSync R → (p : Ptr) (cs : List (Option R.Denot)) → Common (cells_lent R p cs)
  lent-Common y (block_ptr b o) cs κ = (tt, slots-Common y b o cs κ)
  lent-Common y null_ptr cs κ = tt

  pub cells-send : IsSend R → IsSend (cells.the_row R)
  cells-send s =
      let row = cells.the_type R in let all : AllSend (fields row) = (search sendable, tt) in
      owning_send row all (λ c. owned-Keyless s c.at c.slots) (λ k. quiet (to row) (exits_of k (fields row)) ((struct_send (shape row) all).leaving k))

  pub cells-sync : IsSync R → IsSync (cells.the_row R)
  cells-sync y = let row = cells.the_type R in record { shared = λ c b o κ. ((struct_sync (shape row) (search sendable, tt)).shared (to row c) b o κ, lent-Common y c.at c.slots κ) }

  module _ (A : RattleType) (g : Ghosts A.Denot) where
    pub deed-send : FreesAnywhere A.Denot g → IsSend (deeds.the_row R A g)
    deed-send f =
        let row = deeds.the_type R A g in let all : AllSend (fields row) = (search sendable, tt) in
        owning_send row all (λ d. f.frees d.alloc _ d.at) (λ k. quiet (to row) (exits_of k (fields row)) ((struct_send (shape row) all).leaving k))

    pub deed-sync : IsSync (deeds.the_row R A g)
    deed-sync = let row = deeds.the_type R A g in record { shared = λ d b o κ. ((struct_sync (shape row) (search sendable, tt)).shared (to row d) b o κ, tt) }
