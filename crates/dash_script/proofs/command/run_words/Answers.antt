use Rattle.std.proofs.Common.{true, false, ℕ, ◌*◌, List, map, string_bytes, subst}
use Rattle.std.specs.Prelude.{◌⊎◌, Option}
use Rattle.std.specs.Io.KnownBytes.{Appends}
use Rattle.dash_shard.specs.declared.hash.PlaceState.{PlaceState}
use Rattle.dash_steps.specs.Takes.{Known}
use Rattle.dash_script.specs.inner.Command.{Asks}
use Rattle.dash_script.specs.Memo.{SaysAllRight}
use Rattle.dash_script.specs.CommandWords.{IsThreads}
use Rattle.dash_script.specs.Threads.{IsJudged, SaysRefusal, verdict_lines}
use Rattle.dash_script.proofs.OneWord.{at-size}
use Rattle.dash_script.proofs.command.run_words.Goals as goal

legal-size : {w : Known ℕ ℕ (Unit {0}) PlaceState} (words : List (List ℕ)) (c n d m : ℕ) → IsThreads words c n → IsThreads words d m → IsJudged w c n true → IsJudged w d m true
legal-size {w} words c n d m one other h = at-size (λ i k. IsJudged w i k true) words _ c n d m one other h

refused-size : {w : Known ℕ ℕ (Unit {0}) PlaceState} {A B : Type 0} (old new : Option (List ℕ)) (Says : ℕ → Type 0) (words : List (List ℕ)) (c n d m : ℕ) → IsThreads words c n → IsThreads words d m
    → (SaysRefusal w c n old new × A) ⊎ (Says (c * n) × B × IsJudged w c n false) → (SaysRefusal w d m old new × A) ⊎ (Says (d * m) × B × IsJudged w d m false)
refused-size {w} {A} {B} old new Says words c n d m one other h = at-size (λ i k. (SaysRefusal w i k old new × A) ⊎ (Says (i * k) × B × IsJudged w i k false)) words _ c n d m one other h

pub returns-in-Some-Threads-clause-threads_good : goal.returns-in-Some-Threads-clause-threads_good
returns-in-Some-Threads-clause-threads_good g c d m words good =
    let size = subst (Asks (map string_bytes c.args.words.now)) c.in-Some-Threads.field-0-is c.in-Some-Threads.ensures.some in
    let p = c.run-in-Some-Threads.ensures.good good in
    (at-size (λ i k. Appends (g.O.Write.contents c.args.output.now) (g.O.Write.contents c.run-in-Some-Threads.new.output) (verdict_lines (i * k) true)) _ _ _ _ d m size words p.0, p.1)

pub returns-in-Some-Threads-clause-threads_legal : goal.returns-in-Some-Threads-clause-threads_legal
returns-in-Some-Threads-clause-threads_legal g c d m words good =
    let size = subst (Asks (map string_bytes c.args.words.now)) c.in-Some-Threads.field-0-is c.in-Some-Threads.ensures.some in
    legal-size _ _ _ d m size words (c.run-in-Some-Threads.ensures.legal good)

pub returns-in-Some-Threads-clause-threads_refused : goal.returns-in-Some-Threads-clause-threads_refused
returns-in-Some-Threads-clause-threads_refused g c d m words refused =
    let size = subst (Asks (map string_bytes c.args.words.now)) c.in-Some-Threads.field-0-is c.in-Some-Threads.ensures.some in
    refused-size (g.E.Write.contents c.args.errors.now) (g.E.Write.contents c.run-in-Some-Threads.new.errors) (λ k. Appends (g.O.Write.contents c.args.output.now) (g.O.Write.contents c.run-in-Some-Threads.new.output) (verdict_lines k false)) _ _ _ d m size words (c.run-in-Some-Threads.ensures.refused refused)

pub returns-in-Some-Memo-clause-memo_good : goal.returns-in-Some-Memo-clause-memo_good
returns-in-Some-Memo-clause-memo_good g c d m words good =
    let size = subst (Asks (map string_bytes c.args.words.now)) c.in-Some-Memo.field-0-is c.in-Some-Memo.ensures.some in
    let p = c.run-in-Some-Memo.ensures.good good in
    (at-size (λ i k. SaysAllRight i k (g.O.Write.contents c.args.output.now) (g.O.Write.contents c.run-in-Some-Memo.new.output)) _ _ _ _ d m size words p.0, p.1)
