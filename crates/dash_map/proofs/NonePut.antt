-- A list of pairs of which none was put.
use Rattle.std.proofs.Common.{◌≢◌, List, [], length, get_or, arith}
use Rattle.dash_rows.specs.Apart.{SomePart}
use Rattle.dash_rows.proofs.Taking.{none-short}
use Rattle.dash_shard.specs.Hashing.{KeyHash}
use Rattle.dash_shard.proofs.Routing.{route_below}
use Rattle.dash_map.specs.Alone.{AloneState, IsAlone, keys_in}
use Rattle.dash_map.specs.Extend.{PutsShort}
use Rattle.dash_map.proofs.ParExtending.{PutsIn}

-- where there are some, some shard has not all of its own
pub none-put : {K V S : Type 0} (h : KeyHash K S) (a : AloneState K V S) → IsAlone h a → (ps : List (K × V)) → ps ≢ [] → SomePart (PutsShort h) (λ p. (keys_in h a).route p.0) ps a.row a.row
none-put h a lawful ps some =
    none-short (PutsIn h) (λ p. (keys_in h a).route p.0) a.row ps some (λ k d within. route_below (h.hash a.hasher (get_or ps k d).0) (length a.row) (omega (arith, lawful.amount.several)))
