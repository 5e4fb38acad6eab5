use Rattle.std.proofs.Common.{◌≡◌, ◌^◌, ◌-◌, min, length, true, false, IsTrue, Some, None, refl, ap, subst, arith, is_some, ◌∙◌, ⊎_elim}
use Rattle.std.proofs.lemmas.Result.{IfOk-weaker}
use Rattle.std.specs.Map.Iter.{deref_pair}
use Rattle.dash_shard.specs.Hashing.{key_hash}
use Rattle.dash_shard.specs.Steps.{Pair, Found, Old, Pairs, Number, Done}
use Rattle.dash_shard.specs.inner.Steps.{value}
use Rattle.dash_shard.specs.Shard.{pairs}
use Rattle.std.specs.Cmp.Lexicographic.{pointwise}
use Rattle.dash_steps.specs.Kept.{alike_pair}
use Rattle.dash_steps.specs.Steps.{step_of}
use Rattle.dash_steps.proofs.AlikeLaws.{reply_equiv}
use Rattle.dash_steps.proofs.Finding.{found-pair, found-taken, planned-answers, planned-fits}
use Rattle.dash_steps.proofs.Preparing.{answers-all, mapped}
use Rattle.dash_steps.proofs.plan.prepare.Goals as goal
use Rattle.dash_steps.proofs.plan.prepare.Goals.{in-AlterAll-matches, in_default}

pub look-pair-requires : goal.look-pair-requires
look-pair-requires g c = found-taken (key_hash g.K.PartialEq.eq g.K.Hash.hash_input g.S.BuildHasher g.S.Hasher.Hasher) c.args.shard.now _ c.args.found c.requires.found

pub returns-in-Contains-clause-answers : goal.returns-in-Contains-clause-answers
returns-in-Contains-clause-answers g c =
    let there = c.look-pair.ensures ∙ found-pair (key_hash g.K.PartialEq.eq g.K.Hash.hash_input g.S.BuildHasher g.S.Hasher.Hasher) c.args.shard.now _ c.args.found (rw c.in-Contains.is at c.requires.found) in
    rw c.in-Contains.is (record {
      replies = ap Found (c.is_some.ensures ∙ mapped deref_pair c.look-pair.result ∙ ap is_some there);
      told = Found c.is_some.result;
      alike = (reply_equiv g.met.K.Kept.alike_laws g.met.V.Kept.alike_laws).refl (Found c.is_some.result);
    })

pub returns-in_ok-copy-in-Some-clause-answers : goal.returns-in_ok-copy-in-Some-clause-answers
returns-in_ok-copy-in-Some-clause-answers g c =
    let there = c.in-Some.ensures ∙ found-pair (key_hash g.K.PartialEq.eq g.K.Hash.hash_input g.S.BuildHasher g.S.Hasher.Hasher) c.args.shard.now _ c.args.found (rw c.in-Insert.is at c.requires.found) in
    rw c.in-Insert.is (record { told = Old (Some c.in-Some.value.now); replies = ap (λ o. Old (value o)) there; alike = c.in_ok-copy-in-Some.ensures })

pub returns-in-None-clause-answers : goal.returns-in-None-clause-answers
returns-in-None-clause-answers g c =
    let there = c.in-None.ensures ∙ found-pair (key_hash g.K.PartialEq.eq g.K.Hash.hash_input g.S.BuildHasher g.S.Hasher.Hasher) c.args.shard.now _ c.args.found (rw c.in-Insert.is at c.requires.found) in
    rw c.in-Insert.is (record { told = Old None; replies = ap (λ o. Old (value o)) there; alike = refl })

pub returns-in-Count-clause-answers : goal.returns-in-Count-clause-answers
returns-in-Count-clause-answers g c =
    let laws = (reply_equiv g.met.K.Kept.alike_laws g.met.V.Kept.alike_laws).refl (Number c.len.result) in
    let count : Number c.len.result ≡ Number (min (length (pairs c.args.shard.now)) (2 ^ 64 - 1)) = ap Number (omega (arith, c.len.ensures.len, c.len.type_inv)) in
    ⊎_elim (λ is. rw is.1 (answers-all _ _ _ g.met.K.Eq.laws c.args.shard.now c.len.ensures.lawful _ _ _ _ refl (rw is.1 at c.requires.goes) (Number c.len.result) _ count laws))
    (λ is. rw is.1 (answers-all _ _ _ g.met.K.Eq.laws c.args.shard.now c.len.ensures.lawful _ _ _ _ refl (rw is.1 at c.requires.goes) (Number c.len.result) _ count laws)) c.in-Count.is

pub returns-in_ok-copy_found-in-Get-clause-answers : goal.returns-in_ok-copy_found-in-Get-clause-answers
returns-in_ok-copy_found-in-Get-clause-answers g c =
    let there = c.look-pair.ensures ∙ found-pair (key_hash g.K.PartialEq.eq g.K.Hash.hash_input g.S.BuildHasher g.S.Hasher.Hasher) c.args.shard.now _ c.args.found (rw c.in-Get.is at c.requires.found) in
    rw c.in-Get.is (record { told = Pair _; replies = ap Pair there; alike = c.in_ok-copy_found-in-Get.ensures.copy })

pub returns-in_ok-copy_found-in-Remove-clause-answers : goal.returns-in_ok-copy_found-in-Remove-clause-answers
returns-in_ok-copy_found-in-Remove-clause-answers g c =
    let there = c.look-pair.ensures ∙ found-pair (key_hash g.K.PartialEq.eq g.K.Hash.hash_input g.S.BuildHasher g.S.Hasher.Hasher) c.args.shard.now _ c.args.found (rw c.in-Remove.is at c.requires.found) in
    rw c.in-Remove.is (record { told = Pair _; replies = ap Pair there; alike = c.in_ok-copy_found-in-Remove.ensures.copy })

pub returns-in-RemoveIf-clause-answers : goal.returns-in-RemoveIf-clause-answers
returns-in-RemoveIf-clause-answers g c =
    IfOk-weaker c.plan_asked.result _ _ (λ plan p. planned-answers (key_hash g.K.PartialEq.eq g.K.Hash.hash_input g.S.BuildHasher g.S.Hasher.Hasher) c.args.shard.now _ _ _ plan c.args.found c.look-pair.ensures (step_of g.A.Action.acts c.args.step.now) p c.requires.found) c.plan_asked.ensures.plan

pub returns-in-RemoveIf-clause-decides : goal.returns-in-RemoveIf-clause-decides
returns-in-RemoveIf-clause-decides g c =
    ⊎_elim (λ is. rw is.2 (IfOk-weaker c.plan_asked.result _ _ (λ plan p. planned-fits (key_hash g.K.PartialEq.eq g.K.Hash.hash_input g.S.BuildHasher g.S.Hasher.Hasher) c.args.shard.now _ _ _ plan c.args.found c.look-pair.ensures _ _ p.1 (rw is.2 at c.requires.found)) (rw is.2 at c.plan_asked.ensures.plan)))
    (⊎_elim (λ is. rw is.2 (IfOk-weaker c.plan_asked.result _ _ (λ plan p. planned-fits (key_hash g.K.PartialEq.eq g.K.Hash.hash_input g.S.BuildHasher g.S.Hasher.Hasher) c.args.shard.now _ _ _ plan c.args.found c.look-pair.ensures _ _ p.1 (rw is.2 at c.requires.found)) (rw is.2 at c.plan_asked.ensures.plan)))
    (λ is. rw is.2 (IfOk-weaker c.plan_asked.result _ _ (λ plan p. planned-fits (key_hash g.K.PartialEq.eq g.K.Hash.hash_input g.S.BuildHasher g.S.Hasher.Hasher) c.args.shard.now _ _ _ plan c.args.found c.look-pair.ensures _ _ p.1 (rw is.2 at c.requires.found)) (rw is.2 at c.plan_asked.ensures.plan)))) c.in-RemoveIf.is

pub returns-in_ok-copy_pairs-in-Read-clause-answers : goal.returns-in_ok-copy_pairs-in-Read-clause-answers
returns-in_ok-copy_pairs-in-Read-clause-answers g c =
    let copies = c.in_ok-copy_pairs-in-Read.field-0.items in
    let made = subst (λ l. IsTrue (pointwise (alike_pair g.K.Kept.alike g.V.Kept.alike) l copies)) c.iter.ensures.pairs c.in_ok-copy_pairs-in-Read.ensures in
    ⊎_elim (λ is. rw is.1 (answers-all _ _ _ g.met.K.Eq.laws c.args.shard.now c.iter.ensures.lawful _ _ _ _ refl (rw is.1 at c.requires.goes) (Pairs (pairs c.args.shard.now)) _ refl made))
    (λ is. rw is.1 (answers-all _ _ _ g.met.K.Eq.laws c.args.shard.now c.iter.ensures.lawful _ _ _ _ refl (rw is.1 at c.requires.goes) (Pairs (pairs c.args.shard.now)) _ refl made)) c.in-Read.is

pub returns-in_ok-made-in-AlterAll-clause-answers : goal.returns-in_ok-made-in-AlterAll-clause-answers
returns-in_ok-made-in-AlterAll-clause-answers g c =
    ⊎_elim (λ is. rw is.1 (answers-all _ _ _ g.met.K.Eq.laws c.args.shard.now c.iter-in-AlterAll.ensures.lawful _ _ _ _ refl (rw is.1 at c.requires.goes) Done _ refl refl))
    (λ is. rw is.1 (answers-all _ _ _ g.met.K.Eq.laws c.args.shard.now c.iter-in-AlterAll.ensures.lawful _ _ _ _ refl (rw is.1 at c.requires.goes) Done _ refl refl)) c.in-AlterAll.is

pub returns-in_ok-made-in-AlterAll-clause-decides : goal.returns-in_ok-made-in-AlterAll-clause-decides
returns-in_ok-made-in-AlterAll-clause-decides g c =
    let made = rw c.iter-in-AlterAll.ensures.pairs at c.in_ok-made-in-AlterAll.ensures in
    ⊎_elim (λ is. let all : c.match-matches.matches ≡ true = elim c.match-matches.branch [
      | in-AlterAll-matches w ↦ w.matches-is
      | in_default w ↦ absurd (w.in_default.not-AlterAll is.0 c.in-AlterAll.action is.1)
    ] in rw is.1 (rw all at made)) (λ is. let some : c.match-matches.matches ≡ false = elim c.match-matches.branch [
      | in-AlterAll-matches w ↦ cc (is.1, w.in-AlterAll-matches.is)
      | in_default w ↦ w.matches-is
    ] in rw is.1 (rw some at made)) c.in-AlterAll.is
