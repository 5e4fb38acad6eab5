use Rattle.dash_ref.proofs.mapref.one.write.RefMut+K+V+S.find.Goals as goal

pub position_of_hashed-requires : goal.position_of_hashed-requires
position_of_hashed-requires g c k named = rw c.deref.ensures (c.requires k named)
