-- What contracts see of a pair that a walk lends: its key and its value, and the loan of the value.
use Rattle.std.specs.Borrow.{MutBor}
use Rattle.dash_ref.specs.declared.mapref.multiple.RefMutMulti.{RefMutMulti}

module _ {K V : Type 0} where
  -- the pair, as it stands
  abbrev pub lent_pair : RefMutMulti K V → K × V
  lent_pair r = (r.key.now, r.value.now)

  -- the loan of its value
  abbrev pub lent_value : RefMutMulti K V → MutBor V
  lent_value r = r.value

  -- with another value
  abbrev pub with_lent_value : RefMutMulti K V → V → RefMutMulti K V
  with_lent_value r v = record r { value = record r.value { now = v } }
