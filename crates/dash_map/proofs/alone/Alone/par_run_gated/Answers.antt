use Rattle.std.proofs.Common.{◌≡◌, ◌≤◌, All, List, None, length, replicate, refl, sym, ap, subst, inl, inr, ◌∙◌}
use Rattle.std.specs.Prelude.{IsTrue, ◌↔◌}
use Rattle.std.specs.List.{Any}
use Rattle.std.proofs.lemmas.Bool.{true≢false}
use Rattle.std.proofs.lemmas.List.{length-replicate}
use Rattle.std.proofs.lemmas.List.Elements.{All-nil}
use Rattle.std.proofs.lemmas.Option.{none-some, same_Some}
use Rattle.dash_shard.specs.Hashing.{key_hash}
use Rattle.dash_shard.proofs.Lawful.{lawful-of}
use Rattle.dash_rows.proofs.Taking.{none-ran}
use Rattle.dash_steps.specs.declared.step.ShardStep.{ShardStep}
use Rattle.dash_map.specs.Alone.{AloneState, IsAlone}
use Rattle.dash_map.specs.ParRun.{goes_to, TakesThere}
use Rattle.dash_map.specs.declared.run.Fault.TheVariants.{NoSuchShard, Memory}
use Rattle.dash_map.proofs.ParRunning.{stopped, finished, none-replied, all-none, all-there, ran-whole}
use Rattle.dash_map.proofs.alone.Alone.par_run_gated.Goals.{then-missing, else-missing, in-Ok-run_shards, in-Err}
use Rattle.dash_map.proofs.alone.Alone.par_run_gated.Goals as goal

other : Memory ≡ NoSuchShard → ⊥
other e = cc

pub returns-in_default-clause-ran : goal.returns-in_default-clause-ran
returns-in_default-clause-ran g c =
    let h = key_hash g.K.PartialEq.eq g.K.Hash.hash_input g.S.BuildHasher g.S.Hasher.Hasher in
    let a = c.args.self.now in
    let steps = c.args.steps.items in
    let told = subst (λ (l : List (ShardStep g.row.K.Denot g.row.V.Denot g.row.A.Denot)). IsTrue c.misses_any-missing.result ↔ Any (λ t. length a.row ≤ goes_to h g.A.Action.acts a t) l) c.deref.ensures.value c.misses_any-missing.ensures in
    let why : (c.if-missing.fault ≡ NoSuchShard) ↔ Any (λ t. length a.row ≤ goes_to h g.A.Action.acts a t) steps = elim c.if-missing.branch [
      | then-missing w ↦ (λ _. told.0 w.if-missing.true, λ _. w.fault-is)
      | else-missing w ↦ (λ e. absurd (other (sym w.fault-is ∙ e)), λ some. absurd (true≢false (sym (told.1 some) ∙ w.if-missing.false)))
    ] in
    stopped h g.K.Kept.alike g.V.Kept.alike g.A.Action.acts a steps _ c.if-missing.fault refl why
    (none-replied (TakesThere h g.K.Kept.alike g.V.Kept.alike g.A.Action.acts) (goes_to h g.A.Action.acts a) a.row steps c.new.result.items c.new.ensures.items)
    (subst (All (λ o. o ≡ None)) (sym c.new.ensures.items) (All-nil (λ o. o ≡ None))) (inr c.new.ensures.items)
    (λ _. (c.new.ensures.items, λ e. true≢false (sym (c.in_default.ensures.succeeds (c.len.ensures ∙ c.args.steps.ok.0 ∙ ap length e)))))

pub returns-then-missing-2-clause-ran : goal.returns-then-missing-2-clause-ran
returns-then-missing-2-clause-ran g c =
    let h = key_hash g.K.PartialEq.eq g.K.Hash.hash_input g.S.BuildHasher g.S.Hasher.Hasher in
    let a = c.args.self.now in
    let steps = c.args.steps.items in
    let told = subst (λ (l : List (ShardStep g.row.K.Denot g.row.V.Denot g.row.A.Denot)). IsTrue c.misses_any-missing.result ↔ Any (λ t. length a.row ≤ goes_to h g.A.Action.acts a t) l) c.deref.ensures.value c.misses_any-missing.ensures in
    let replies = c.no_replies.new.replies.items in
    let blank : replies ≡ replicate (length steps) None = c.no_replies.ensures ∙ ap (λ n. replicate n None) (c.len-then-missing-2.ensures ∙ c.args.steps.ok.0) in
    stopped h g.K.Kept.alike g.V.Kept.alike g.A.Action.acts a steps _ NoSuchShard refl (λ _. told.0 c.if-missing-2.true, λ _. refl)
    (none-ran (TakesThere h g.K.Kept.alike g.V.Kept.alike g.A.Action.acts) (goes_to h g.A.Action.acts a) a.row steps replies blank)
    (subst (All (λ o. o ≡ None)) (sym blank) (all-none (length steps))) (inl (ap length blank ∙ length-replicate (length steps) None)) (λ e. absurd (other (sym e)))

pub run_shards-requires-clause-within : goal.run_shards-requires-clause-within
run_shards-requires-clause-within g c κs long =
    let h = key_hash g.K.PartialEq.eq g.K.Hash.hash_input g.S.BuildHasher g.S.Hasher.Hasher in
    let a = c.args.self.now in
    let told = subst (λ (l : List (ShardStep g.row.K.Denot g.row.V.Denot g.row.A.Denot)). IsTrue c.misses_any-missing.result ↔ Any (λ t. length a.row ≤ goes_to h g.A.Action.acts a t) l) c.deref.ensures.value c.misses_any-missing.ensures in
    all-there (goes_to h g.A.Action.acts a) (length a.row) c.args.steps.items (λ some. true≢false (sym (told.1 some) ∙ c.if-missing-2.false))

pub returns-clause-ran : goal.returns-clause-ran
returns-clause-ran g c =
    let h = key_hash g.K.PartialEq.eq g.K.Hash.hash_input g.S.BuildHasher g.S.Hasher.Hasher in
    let a = c.args.self.now in
    let steps = c.args.steps.items in
    let told = subst (λ (l : List (ShardStep g.row.K.Denot g.row.V.Denot g.row.A.Denot)). IsTrue c.misses_any-missing.result ↔ Any (λ t. length a.row ≤ goes_to h g.A.Action.acts a t) l) c.deref.ensures.value c.misses_any-missing.ensures in
    let none : Any (λ t. length a.row ≤ goes_to h g.A.Action.acts a t) steps → ⊥ = λ some. true≢false (sym (told.1 some) ∙ c.if-missing-2.false) in
    let lawful = subst (λ (x : AloneState g.row.K.Denot g.row.V.Denot g.row.S.Denot). IsAlone h x) c.self.view_is c.self.invariant in
    let ran = c.run_shards.ensures in
    let eq = g.met.K.Eq g.world.𝓛 g.world.𝓜 g.world.𝓡 (λ s x. x, λ x. x, λ x. x, λ x. x) in
    let hash = g.met.K.Hash g.world.𝓛 g.world.𝓜 g.world.𝓡 (λ s x. x, λ x. x, λ x. x, λ x. x) in
    let key = g.met.K.Kept g.world.𝓛 g.world.𝓜 g.world.𝓡 (λ s x. x, λ x. x, λ x. x, λ x. x) in
    let value = g.met.V.Kept g.world.𝓛 g.world.𝓜 g.world.𝓡 (λ s x. x, λ x. x, λ x. x, λ x. x) in
    let kept = g.met.K.KeptKey g.world.𝓛 g.world.𝓜 g.world.𝓡 (λ s x. x, λ x. x, λ x. x, λ x. x) in
    elim c.match-run_shards.branch [
      | in-Ok-run_shards w ↦ finished h g.K.Kept.alike g.V.Kept.alike g.A.Action.acts a c.run_shards.new.self steps _ none (λ e. absurd (none-some NoSuchShard (sym w.fault-is ∙ e))) ran.ran ran.len (λ e. absurd (none-some Memory (sym w.fault-is ∙ e)))
          (λ _. ran-whole h (lawful-of g.S.BuildHasher g.S.Hasher.Hasher eq.laws hash.respects_eq) g.K.Kept.alike g.V.Kept.alike key.alike_laws value.alike_laws kept.alike_equal g.A.Action.acts a c.run_shards.new.self lawful steps _ ran.ran
          (all-there (goes_to h g.A.Action.acts a) (length a.row) steps none) ran.len w.in-Ok-run_shards.ensures.whole)
      | in-Err w ↦ finished h g.K.Kept.alike g.V.Kept.alike g.A.Action.acts a c.run_shards.new.self steps _ none (λ e. other (same_Some Memory NoSuchShard (sym w.fault-is ∙ e))) ran.ran ran.len (λ _. w.in-Err.ensures.short)
          (λ e. absurd (none-some Memory (sym e ∙ w.fault-is)))
    ]
