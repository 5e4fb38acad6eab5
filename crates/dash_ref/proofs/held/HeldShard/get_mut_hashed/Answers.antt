use Rattle.std.proofs.Common.{Some, refl, sym, ap, inl, subst, ◌∙◌}
use Rattle.std.specs.Option.{option_map}
use Rattle.dash_shard.specs.Held.{FindsNamed}
use Rattle.dash_shard.proofs.Lending.{lent-found}
use Rattle.dash_ref.proofs.held.HeldShard.get_mut_hashed.Goals as goal

pub position_of_hashed-requires : goal.position_of_hashed-requires
position_of_hashed-requires g c k named = rw c.deref.ensures (c.requires k named)

pub returns-in-Some : goal.returns-in-Some
returns-in-Some g c =
    let i = c.in-Some.position in
    let found = subst (λ s. FindsNamed (g.Q.Query.names c.args.key) s (Some i)) c.deref.ensures c.in-Some.ensures.finds in (
      (λ j. inl (c.at_mut.result.1.ghost_name, λ w. (lent-found (g.Q.Query.names c.args.key) w c.args.self.now (Some i) found.position i refl) j)),
      record { writes_back = tt; value = ap (λ o. option_map (λ p. p.1) o) (sym c.at_mut.ensures.pair ∙ found.pair); lawful = c.at_mut.ensures.lawful },
    )
