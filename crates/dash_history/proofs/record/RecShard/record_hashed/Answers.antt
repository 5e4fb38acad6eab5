use Rattle.std.proofs.Common.{ℕ, List, ◌≡◌, ◌+◌, ◌++◌, ◌∷◌, [], ap, subst, sym, ◌∙◌, arith, max}
use Rattle.dash_history.specs.History.{LogState, RecState, stamp_of}
use Rattle.dash_history.specs.inner.Grows.{Grown}
use Rattle.dash_history.specs.declared.record.Record.{Record}
use Rattle.dash_steps.specs.inner.Kinds.{kinds_of}
use Rattle.dash_history.proofs.Growing.{log-more}
use Rattle.dash_history.proofs.Recording.{same-stamp, same-caller}
use Rattle.dash_history.proofs.Made.{made-refused}
use Rattle.dash_history.proofs.Telling.{tells-of}
use Rattle.dash_history.proofs.record.RecShard.record_hashed.Goals as goal
use Rattle.dash_steps.specs.Takes.{known_by}

pub invariant_of-log-in-Ok : goal.invariant_of-log-in-Ok
invariant_of-log-in-Ok g c =
    let l : LogState g.row.K.Denot g.row.V.Denot g.row.A.Denot = record { caller = c.log.inside.caller; last = c.log.inside.last; entries = c.log.inside.entries.items } in
    let grown = c.in-Ok.ensures.ok in
    let tells = tells-of {K = g.row.K.Denot} {V = g.row.V.Denot} {A = g.row.A.Denot} {k = g.K.Kept.alike} {v = g.V.Kept.alike} {f = g.A.Kept.alike}
    (c.max-last.result + 1) c.log.inside.caller _ c.args.step c.in-Ok.reply grown.kept grown.tells in
    log-more l c.in-Ok.record (c.max-last.result + 1) c.push_reserved.new.self.items c.log.invariant (omega (arith, c.max-last.ensures))
    (sym (same-stamp _ _ _ grown.kept c.in-Ok.record grown.same) ∙ tells.stamped) (sym (same-caller _ _ _ grown.kept c.in-Ok.record grown.same) ∙ tells.by)
    (c.push_reserved.ensures.items ∙ ap (λ h. h ++ c.in-Ok.record ∷ []) c.make_room.ensures.items)

pub returns-in-Ok-clause-records : goal.returns-in-Ok-clause-records
returns-in-Ok-clause-records g c =
    let Log : Type 0 = LogState g.row.K.Denot g.row.V.Denot g.row.A.Denot in
    let At : Type 0 = RecState g.row.K.Denot g.row.V.Denot g.row.A.Denot g.row.S.Denot in
    let P = λ (n k : ℕ). Grown (kinds_of (known_by g.K.PartialEq.eq g.K.Hash.hash_input g.K.Kept.alike g.V.Kept.alike g.A.Kept.alike g.A.Action.acts g.S.BuildHasher g.S.Hasher.Hasher) c.args.self.now.shard) c.args.self.now c.grow.new.self n k c.args.step c.in-Ok.reply c.in-Ok.record in
    let here : c.max-last.result + 1 ≡ max c.args.self.now.last c.log.inside.last + 1 = subst (λ (x : At). c.max-last.result + 1 ≡ max x.last c.log.inside.last + 1) c.self.view_is (ap (λ n. n + 1) c.max-last.ensures) in
    let stamp : c.max-last.result + 1 ≡ stamp_of c.args.self.now c.args.log.now = subst (λ (l : Log). c.max-last.result + 1 ≡ max c.args.self.now.last l.last + 1) c.log.view_is here in
    let caller : c.log.inside.caller ≡ c.args.log.now.caller = ap (λ (l : Log). l.caller) c.log.view_is in
    let entries : c.push_reserved.new.self.items ≡ c.args.log.now.entries ++ c.in-Ok.record ∷ [] =
    c.push_reserved.ensures.items ∙ ap (λ h. h ++ c.in-Ok.record ∷ []) c.make_room.ensures.items ∙ ap (λ (l : Log). l.entries ++ c.in-Ok.record ∷ []) c.log.view_is in
    let of : ℕ → ℕ → List (Record g.row.K.Denot g.row.V.Denot g.row.A.Denot) → Log = λ k n es. record { caller = k; last = n; entries = es } in
    let grown = subst (λ n. P n c.args.log.now.caller) stamp (subst (λ k. P (c.max-last.result + 1) k) caller c.in-Ok.ensures.ok) in
    record {
      ok = record {
        takes = grown.takes;
        kept = grown.kept;
        tells = grown.tells;
        grown = grown.grown;
        stays = grown.stays;
        logged = c.in-Ok.record;
        same = grown.same;
        log = ap (λ k. of k (c.max-last.result + 1) c.push_reserved.new.self.items) caller ∙ ap (λ n. of c.args.log.now.caller n c.push_reserved.new.self.items) stamp
            ∙ ap (of c.args.log.now.caller (stamp_of c.args.self.now c.args.log.now)) entries;
      };
      refused = tt;
      part = (λ e. absurd (made-refused _ _ e), λ p. absurd (c.requires.own p));
      last_stamp = (λ e. absurd (made-refused _ _ e), λ no. let m = no.1 in absurd (omega (arith, c.if-last.false, stamp, m)));
      log_last = λ _ m. absurd (omega (arith, c.if-last.false, c.max-last.ensures, stamp, m, c.self.ranges, c.log.ranges));
      faults = tt;
      stays = c.grow.ensures.stays;
      callers = c.grow.ensures.callers;
    }
