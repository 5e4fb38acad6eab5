-- A `&` to a hold holds what it sees. Assumes `Logic`.
use Rattle.dash_shard.proofs.Locks.Walking.{[], ◌++◌, Incl-trans, meet_⊑_left, meet_⊑_right, RattleType, NamedLft, ShrRef, Laws, copy_shared, RawPtr-field, RawPtr-copy, field_copy, of_Lends}
use Rattle.core.specs.contracts.marker.PhantomData as P
use Rattle.dash_shard.specs.declared.lock.tagged.Tagged.{Ghosts}
use Rattle.dash_shard.specs.contracts.lock.hold.Hold as C
use Rattle.dash_shard.proofs.lock.hold.Hold.TheLaw.Statement.{statement}
use Rattle.dash_shard.proofs.Locks.Rounds.{hold_laws, Lends-hold}

pub shares : (a : NamedLft) (T G : RattleType) (g : Ghosts T.Denot G.Denot) (L : Laws T) (K : Laws G) → statement a T G g L K
shares a T G g L K = of_Lends (C.struct a T G g) (C.the_codes T.Denot G.Denot T.coded G.coded (P.the_row (ShrRef a.mir a.lft T)).coded) (C.the_heap a.lft T G g) (C.the_lent a.lft T G g) (λ d p. hold_laws a.lft T (g.fits d.tag) L.shr_laws d.cell d.right d.value)
    (copy_shared RawPtr-field RawPtr-copy, (copy_shared (P.the_field (ShrRef a.mir a.lft T)) (field_copy (P.the_type (ShrRef a.mir a.lft T)) tt), tt)) (λ M 𝓤 𝓛 d p.
    let l = (C.the_row a T G g).lives in let s = (ShrRef a.mir a.lft T).lives in
    Lends-hold 𝓛 a.lft T (g.fits d.tag) L.shr_laws l T.lives (Incl-trans (meet_⊑_right (T.lives ++ (G.lives ++ [])) (((s ++ []) ++ []) ++ [])) (Incl-trans (meet_⊑_left ((s ++ []) ++ []) []) (Incl-trans (meet_⊑_left (s ++ []) [])
    (Incl-trans (meet_⊑_left s []) (meet_⊑_left a.lft T.lives))))) (Incl-trans (meet_⊑_left (T.lives ++ (G.lives ++ [])) (((s ++ []) ++ []) ++ [])) (meet_⊑_left T.lives (G.lives ++ []))) (L.shares 𝓛) d.cell d.right d.value)
