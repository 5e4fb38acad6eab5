-- A `&` to the slots of a block shows each value. Assumes `Logic`.
use mathlib.Core.List.{[], ◌++◌}
use base.Fml.{Incl-trans}
use contract.BorrowLft.{meet_⊑_left}
use denote.RattleType.{RattleType}
use denote.RawPtr.{RawPtr}
use denote.Param.Laws.{Laws}
use denote.Param.Shared.{copy_shared}
use denote.Struct.Laws.{field_copy}
use denote.Struct.Lending.{of_Lends}
use Rattle.core.specs.contracts.marker.PhantomData as marker
use Rattle.circular_buffer.proofs.Sharing.{cells_lent_laws, Lends-cells}
use Rattle.dash_shard.specs.contracts.shard.table.slots.cells.Cells as cells
use Rattle.dash_shard.proofs.shard.table.slots.cells.Cells.TheLaw.Statement.{statement}

pub shares : (R : RattleType) (L : Laws R) → statement R L
shares R L =
    let mark = field_copy (marker.the_type RawPtr) tt in let l = (cells.the_row R).lives in
    of_Lends (cells.struct R) (cells.the_codes R.Denot R.coded (marker.the_row RawPtr).coded) (cells.the_heap R) (cells.the_lent R) (λ d p. cells_lent_laws R L.shr_laws d.at d.slots)
    (copy_shared (marker.the_field RawPtr) mark, tt) (λ M 𝓤 𝓛 d p. Lends-cells 𝓛 l R L (Incl-trans (meet_⊑_left (R.lives ++ []) _) (meet_⊑_left R.lives [])) d.at d.slots)
