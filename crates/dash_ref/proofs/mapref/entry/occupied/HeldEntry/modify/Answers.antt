use Rattle.std.proofs.Common.{◌≡◌, refl}
use Rattle.std.specs.Fn.{FnOnceReturnsAtMut}
use Rattle.dash_ref.specs.Entry.{revalued}
use Rattle.dash_ref.specs.RefMut.{stored}
use Rattle.dash_ref.proofs.Writing.{modified}
use Rattle.dash_ref.proofs.mapref.entry.occupied.HeldEntry.modify.Goals as goal

pub returns : goal.returns
returns g c =
    let o = c.args.self.now in
    modified (λ x w. FnOnceReturnsAtMut g.F.FnOnce c.args.f x tt w) (λ w. revalued o c.f.new.arg2 ≡ revalued o w) (stored o.pair) _ _ c.get_mut.ensures.value
    (record { shown = _; shows = refl; left = _; met = c.f.ensures; leaves = refl }) refl
