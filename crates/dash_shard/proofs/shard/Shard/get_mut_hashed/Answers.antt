use Rattle.std.proofs.Common.{Some, refl, sym, ap, inl, ◌∙◌}
use Rattle.std.specs.Option.{option_map}
use Rattle.dash_shard.proofs.Lending.{lent-found}
use Rattle.dash_shard.proofs.shard.Shard.get_mut_hashed.Goals as goal

pub returns-in-Some : goal.returns-in-Some
returns-in-Some g c =
    let found = c.in-Some.ensures in
    let i = c.in-Some.position in (
      (λ j. inl (c.at_mut.result.1.ghost_name, λ w. (lent-found (g.Q.Query.names c.args.key) w c.args.self.now (Some i) found.finds.position i refl) j)),
      record { writes_back = tt; value = ap (λ o. option_map (λ p. p.1) o) (sym c.at_mut.ensures.pair ∙ found.finds.pair); lawful = found.lawful },
    )
