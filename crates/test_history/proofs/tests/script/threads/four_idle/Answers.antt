use Rattle.std.proofs.Common.{◌≡◌, ◌++◌, ◌∷◌, [], List, get_or, length, map, ap, subst, ◌∙◌, arith}
use Rattle.std.specs.Option.{option_to_list}
use Rattle.std.proofs.lemmas.List.{get_or_append_left, length_push}
use Rattle.std.proofs.lemmas.Result.{IfOk-at_ok}
use Rattle.dash_history.specs.Alone.{fresh_logs}
use Rattle.dash_script.specs.declared.threads.Worker.{Worker}
use Rattle.dash_script.specs.inner.Threads.{IsIdle, idle}
use Rattle.dash_script.proofs.Working.{logs-idle, many, all-idle}
use Rattle.test_history.proofs.tests.script.threads.four_idle.Goals.{After-expect-last}
use Rattle.test_history.proofs.tests.script.threads.four_idle.Given.{Over}
use Rattle.test_history.proofs.tests.script.threads.four_idle.Goals as goal

fresh : (g : Over) (c : After-expect-last g) → map (λ w. w.log) c.expect-workers.result.items ≡ fresh_logs 5
fresh g c =
    logs-idle c.expect-workers.result.items c.expect-map.result.1.items (IfOk-at_ok (λ ws. ws.items ≡ map idle c.expect-map.result.1.items) c.expect-workers.ensures c.idle_workers.ensures)
    ∙ IfOk-at_ok (λ m. m.1.items ≡ fresh_logs 5) c.expect-map.ensures c.new.ensures.logs

left : (g : Over) (c : After-expect-last g) → c.expect-workers.result.items ≡ c.pop.new.self.items ++ c.expect-last.result ∷ []
left g c = c.pop.ensures.items ∙ ap (λ o. c.pop.new.self.items ++ option_to_list o) c.expect-last.ensures

four : (g : Over) (c : After-expect-last g) → length c.pop.new.self.items ≡ 4
four g c = omega (arith, many 5 c.expect-workers.result.items (fresh g c), ap length (left g c), length_push c.pop.new.self.items c.expect-last.result)

pub returns-clause-some : goal.returns-clause-some
returns-clause-some g c = omega (arith, four g c)

pub returns-clause-idle : goal.returns-clause-idle
returns-clause-idle g c = λ k d within.
    let first = all-idle 5 c.expect-workers.result.items (fresh g c) k d (omega (arith, within, four g c, many 5 c.expect-workers.result.items (fresh g c))) in
    subst (IsIdle 5) (get_or_append_left c.pop.new.self.items (c.expect-last.result ∷ []) d k within) (subst (λ (ws : List Worker). IsIdle 5 (get_or ws k d)) (left g c) first)
