use Rattle.std.proofs.Common.{ℕ, ◌+◌, ◌∷◌}
use base.Fraction.{full_share}
use base.Shift.{Keyless}
use denote.RattleType.{RattleType}
use denote.Param.Send.{IsSend, IsSync, part_keyless}
use Rattle.core.proofs.atomic.Sent.{chain-Keyless}
use Rattle.dash_shard.specs.inner.Locks.Holding.{Fixed, Phase, away, shared, offset, state}
use Rattle.dash_shard.specs.declared.lock.tagged.Tagged.{Ghosts}
use Rattle.dash_shard.specs.contracts.lock.cell.Cell.{the_row}

state_keyless : (R : RattleType) (ok : R.Denot → Type 0) → IsSend R → IsSync R → (b o : ℕ) (t : Fixed R.Denot) (w : ℕ) (p : Phase R.Denot) → Keyless (state R ok b o t w p)
state_keyless R ok s y b o t w away = ((λ _. tt), λ _. tt)
state_keyless R ok s y b o t w (shared a x) =
    ((λ _. tt), ((λ e c. (tt, tt)), ((tt, tt), (tt, (((λ _. tt), y.shared x b (o + offset R) (a ∷ t.life)), λ z. ((part_keyless R s full_share z b (o + offset R), (λ _. tt)), tt))))))

pub sync : (T G : RattleType) (g : Ghosts T.Denot G.Denot) → IsSend T → IsSync T → IsSync (the_row T G g)
sync T G g s y = record { shared = λ d b o κ t. ((λ νs. chain-Keyless νs κ t.life), λ w. (tt, state_keyless T (g.fits d) s y b o t w)) }
