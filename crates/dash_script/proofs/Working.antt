-- What threads do on their map.
use Rattle.std.proofs.Common.{◌≡◌, ◌≢◌, ◌⊎◌, ⊎_elim, true, Bool, ℕ, zero, suc, ◌+◌, ◌*◌, ◌^◌, ◌<◌, ◌≤◌, List, [], ◌∷◌, ◌++◌, length, map, take, drop, get_or, None, refl, sym, ap, subst, ◌∙◌, inl, inr, arith, add-one}
use Rattle.std.specs.Prelude.{nat_eq, IsTrue, Option, Some, IsSomeAnd, IfNone, IfSome, IfOk, slice_get, Result, Ok, Err, All, sum_by}
use Rattle.std.proofs.lemmas.Bool.{eqb-true, and_parts, cases_lt}
use Rattle.std.proofs.lemmas.List.{map-append, get_or_append_left, get_or_push, length_push, length-map, get_or-map, drop_all, take_all, append-nil}
use Rattle.std.proofs.lemmas.List.Sums.{sum_by-cons}
use Rattle.std.proofs.lemmas.Nat.{mul-le}
use Rattle.std.proofs.lemmas.Option.{same_Some, slice_get_within, slice_get-get_or}
use Rattle.dash_shard.specs.declared.hash.PlaceState.{PlaceState}
use Rattle.dash_shard.specs.Contents.{Keys, keys}
use Rattle.std.proofs.lemmas.Result.{IfOk-weaker}
use Rattle.dash_history.specs.Alone.{RecAloneState, fresh_logs}
use Rattle.dash_history.specs.History.{LogState}
use Rattle.dash_steps.specs.Takes.{shard_of, Known, rules}
use Rattle.dash_history.specs.Refused.{NoStamp, Records}
use Rattle.dash_history.specs.declared.record.RecordFault.{RecordFault}
use Rattle.dash_history.specs.declared.record.RecordFault.TheVariants as fault
use Rattle.dash_history.specs.Map.{LeavesRecShard, Logged, RecMapState, SawRecShards}
use Rattle.dash_history.specs.OneHistory.{Matches}
use Rattle.dash_steps.specs.Steps.{IsPart, alike_step}
use Rattle.dash_steps.specs.inner.Kinds.{kinds}
use Rattle.dash_history.proofs.Telling.{tells-of}
use Rattle.dash_steps.specs.declared.step.ShardStep.{ShardStep}
use Rattle.dash_steps.specs.declared.step.ShardStep.TheVariants.{Get, Contains, Insert, Remove, RemoveIf, RemoveIfMut, Alter, Read, Count, AlterAll, Retain, CountPart, ReadPart}
use Rattle.dash_steps.specs.declared.step.Reply.{Reply}
use Rattle.dash_script.specs.declared.threads.Refusal.{Refusal}
use Rattle.dash_script.specs.declared.threads.Refusal.TheVariants.{Map, LastStamp, Memory, Mismatch, Gather}
use Rattle.dash_script.specs.declared.threads.Worker.{Worker}
use Rattle.dash_script.specs.Replay.{IsThreadStep}
use Rattle.dash_shard.specs.Shard.{EachAt}
use Rattle.dash_script.specs.Threads.{HasNoStamp, IsSize, AreDone, IsJudged, IsSo, thread_step}
use Rattle.dash_script.specs.inner.Threads.{LogsStep, IsIdle, IsFirstRefusal, MayRefuse, Works, AllDone, HasTaken, IsJudgedOf, IsJudgedBy, idle, steps_in, thread_steps}

-- steps of threads: they carry no action
abbrev idle_acts : Unit {0} → ℕ → ℕ → ℕ × Bool
idle_acts _ k v = (v, true)

-- alike steps of threads are equal
same-step : (s t : ShardStep ℕ ℕ (Unit {0})) → IsThreadStep s → IsTrue (alike_step nat_eq nat_eq (λ _ _. true) s t) → t ≡ s
same-step (Get x) (Get y) known same = ap (λ k. Get k) (sym (eqb-true x y same))
same-step (Insert x t) (Insert y u) known same = let p = and_parts (nat_eq x y) (nat_eq t u) same in rw (eqb-true x y p.0) (rw (eqb-true t u p.1) refl)
same-step (Remove x) (Remove y) known same = ap (λ k. Remove k) (sym (eqb-true x y same))
same-step (Contains x) t known same = absurd known
same-step (RemoveIf x a) t known same = absurd known
same-step (RemoveIfMut x a) t known same = absurd known
same-step (Alter x a) t known same = absurd known
same-step (Read i) t known same = absurd known
same-step (Count i) t known same = absurd known
same-step (AlterAll i a) t known same = absurd known
same-step (Retain i a) t known same = absurd known
same-step (CountPart i) t known same = absurd known
same-step (ReadPart i) t known same = absurd known
same-step s t known same = cc

-- a step of a thread goes to the shard of its key, so to one of the shards
pub inside : (route : ℕ → ℕ) (n : ℕ) (step : ShardStep ℕ ℕ (Unit {0})) → IsThreadStep step → ((k : ℕ) → route k < n) → shard_of (kinds (λ _ _. true) idle_acts (rules nat_eq nat_eq (keys nat_eq route n))) step < n
inside route n (Get k) known below = below k
inside route n (Insert k v) known below = below k
inside route n (Remove k) known below = below k
inside route n step known below = absurd known

pub not-outside : (route : ℕ → ℕ) (n : ℕ) (step : ShardStep ℕ ℕ (Unit {0})) → IsThreadStep step → ((k : ℕ) → route k < n) → n ≤ shard_of (kinds (λ _ _. true) idle_acts (rules nat_eq nat_eq (keys nat_eq route n))) step → ⊥
not-outside route n step known below outside = omega (arith, inside route n step known below, outside)

-- and it is no part of a whole step
pub not-part : (step : ShardStep ℕ ℕ (Unit {0})) → IsThreadStep step → IsPart step → ⊥
not-part (Get k) known part = cc
not-part (Insert k v) known part = cc
not-part (Remove k) known part = cc
not-part step known part = absurd known

-- what a step is refused for, or another fault where it isn't
abbrev fault-of : {R X : Type 0} → RecordFault → Result R (X × RecordFault) → RecordFault
fault-of other (Ok r) = other
fault-of other (Err e) = e.1

-- where it is refused for want of a stamp, its shard had none
pub no-stamp : (w : Known ℕ ℕ (Unit {0}) PlaceState) (m : RecMapState ℕ ℕ (Unit {0}) PlaceState) (i : ℕ) (l l' : LogState ℕ ℕ (Unit {0})) (step : ShardStep ℕ ℕ (Unit {0})) (result : Result (Reply ℕ ℕ) (ShardStep ℕ ℕ (Unit {0}) × RecordFault))
    → result ≡ Err (step, fault.LastStamp) → l' ≡ l → (result ≡ Err (step, fault.Locked)) ⊎ LeavesRecShard w m i (λ s t. Records w s t l l' step result) → HasNoStamp w m l'
no-stamp w m i l l' step result is same found = ⊎_elim (λ locked. let one : fault.LastStamp ≡ fault.Locked = ap (fault-of fault.Memory) (sym is ∙ locked) in absurd (cc)) (λ left. (i, (left.0, left.1, left.2, left.3, subst (λ (x : LogState ℕ ℕ (Unit {0})). NoStamp left.0.last x.last) (sym same) (left.4.2.last_stamp.0 is).1))) found

-- a step that was logged
pub logged : (w : Keys ℕ) (l l' : LogState ℕ ℕ (Unit {0})) (step : ShardStep ℕ ℕ (Unit {0})) (reply : Reply ℕ ℕ) → IsThreadStep step → Logged (kinds (λ _ _. true) idle_acts (rules nat_eq nat_eq w)) l l' step reply → LogsStep l l' step
logged w l l' step reply known h = record {
  caller = h.caller;
  steps = ap (map (λ r. r.step)) h.entries ∙ map-append (λ r. r.step) l.entries (h.entry ∷ []) ∙ ap (λ s. map (λ r. r.step) l.entries ++ s ∷ []) (same-step step h.entry.step known (tells-of {K = ℕ} {V = ℕ} {A = Unit {0}} {k = nat_eq} {v = nat_eq} {f = λ _ _. true} l'.last l.caller (shard_of (kinds (λ _ _. true) idle_acts (rules nat_eq nat_eq w)) step) step reply h.entry h.tells).stepped);
}

-- the same, of a call's answer
pub logged-ok : {E : Type 0} (w : Keys ℕ) (l l' : LogState ℕ ℕ (Unit {0})) (step : ShardStep ℕ ℕ (Unit {0})) (result : Result (Reply ℕ ℕ) E) (reply : Reply ℕ ℕ) → IsThreadStep step
    → result ≡ Ok reply → IfOk result (λ r. Logged (kinds (λ _ _. true) idle_acts (rules nat_eq nat_eq w)) l l' step r) → LogsStep l l' step
logged-ok w l l' step (Ok r) reply known is h = logged w l l' step r known h
logged-ok w l l' step (Err e) reply known is h = cc

-- thread j took its steps below m since the log was old
pub record Going (old now : LogState ℕ ℕ (Unit {0})) (j m : ℕ) : Type 0 where
  pub caller : now.caller ≡ old.caller
  pub thread : j ≡ old.caller
  pub done : HasTaken m now

pub going-none : (l : LogState ℕ ℕ (Unit {0})) (j : ℕ) → l.entries ≡ [] → j ≡ l.caller → Going l l j 0
going-none l j none same = record { caller = refl; thread = same; done = ap (map (λ r. r.step)) none }

-- a step more
pub going-more : (old l l' : LogState ℕ ℕ (Unit {0})) (j m : ℕ) (step : ShardStep ℕ ℕ (Unit {0})) → Going old l j m → step ≡ thread_step j m → LogsStep l l' step → Going old l' j (m + 1)
going-more old l l' j m step so is h =
    let caller : l'.caller ≡ old.caller = h.caller ∙ so.caller in
    let steps : steps_in l' ≡ thread_steps old.caller m ++ thread_step old.caller m ∷ [] =
    h.steps ∙ ap (λ s. s ++ step ∷ []) (so.done ∙ ap (λ i. thread_steps i m) so.caller) ∙ ap (λ t. thread_steps old.caller m ++ t ∷ []) (is ∙ ap (λ i. thread_step i m) so.thread) in
    let done : steps_in l' ≡ thread_steps l'.caller (m + 1) = rw add-one (steps ∙ ap (λ i. thread_steps i (suc m)) (sym caller)) in
    record { caller = caller; thread = so.thread; done = done }

-- so many steps have so many entries
length-steps : (j n : ℕ) → length (thread_steps j n) ≡ n
length-steps j zero = refl
length-steps j (suc n) = length_push (thread_steps j n) (thread_step j n) ∙ rw (length-steps j n) (add-one n)

pub length-done : (n : ℕ) (l : LogState ℕ ℕ (Unit {0})) → HasTaken n l → length l.entries ≡ n
length-done n l done = sym (length-map l.entries (λ r. r.step)) ∙ ap length done ∙ length-steps l.caller n

-- and the step m is the one at the index m
step-at : (j n m : ℕ) (d : ShardStep ℕ ℕ (Unit {0})) → m < n → get_or (thread_steps j n) m d ≡ thread_step j m
step-at j zero m d inside = absurd (omega (arith, inside))
step-at j (suc n) m d inside = elim (cases_lt m n) [
  | inl lower ↦ get_or_append_left (thread_steps j n) _ d m (omega (arith, lower, length-steps j n)) ∙ step-at j n m d lower
  | inr last ↦ let same : m ≡ n = omega (arith, inside, last) in get_or_push (thread_steps j n) _ d m (length-steps j n ∙ sym same) ∙ ap (thread_step j) (sym same)
]

has-done : (n : ℕ) (l : LogState ℕ ℕ (Unit {0})) → HasTaken n l → (length l.entries ≡ n) × EachAt l.entries (λ m r. r.step ≡ thread_step l.caller m)
has-done n l taken = (
  length-done n l taken,
  λ m r e.
      let within : m < length l.entries = slice_get_within l.entries m r e in
      let here : get_or l.entries m r ≡ r = same_Some _ r (sym (slice_get-get_or l.entries m r within) ∙ e) in
      ap (λ q. q.step) (sym here) ∙ sym (get_or-map (λ q. q.step) l.entries m r r.step within) ∙ ap (λ steps. get_or steps m r.step) taken
      ∙ step-at l.caller n m r.step (omega (arith, within, length-done n l taken)),
)

-- the log of caller i
length-fresh : (c : ℕ) → length (fresh_logs {K = ℕ} {V = ℕ} {A = Unit {0}} c) ≡ c
length-fresh zero = refl
length-fresh (suc c) = length_push (fresh_logs c) _ ∙ rw (length-fresh c) (add-one c)

pub fresh-log : (c i : ℕ) (d : LogState ℕ ℕ (Unit {0})) → i < c → get_or (fresh_logs c) i d ≡ record { caller = i; last = 0; entries = [] }
fresh-log zero i d inside = absurd (omega (arith, inside))
fresh-log (suc c) i d inside = elim (cases_lt i c) [
  | inl lower ↦ get_or_append_left (fresh_logs c) _ d i (omega (arith, lower, length-fresh c)) ∙ fresh-log c i d lower
  | inr last ↦ let same : i ≡ c = omega (arith, inside, last) in get_or_push (fresh_logs c) _ d i (length-fresh c ∙ sym same) ∙ ap (λ j. record { caller = j; last = 0; entries = [] }) (sym same)
]

-- the same number at each place
pub sum-same : {X : Type 0} (f : X → ℕ) (n : ℕ) (xs : List X) → ((i : ℕ) (d : X) → i < length xs → f (get_or xs i d) ≡ n) → sum_by f xs ≡ length xs * n
sum-same f n [] same = omega arith
sum-same f n (x ∷ xs) same =
    let first : f x ≡ n = same 0 x (omega arith) in
    let rest : sum_by f xs ≡ length xs * n = sum-same f n xs (λ i d inside. same (suc i) d (omega (arith, inside))) in
    sum_by-cons f x xs ∙ rw first (rw rest (omega arith))

-- a slice that was written back as a whole
pub written : {X : Type 0} (xs items : List X) (n : ℕ) → length xs ≡ n → length items ≡ n → take n (xs ++ drop (length xs) items) ≡ xs
written xs items n long wide = rw (drop_all (length xs) items (omega (arith, long, wide))) (rw (append-nil xs) (take_all n xs (omega (arith, long))))

-- a worker for each of the fresh logs
pub logs-idle : (ws : List Worker) (ls : List (LogState ℕ ℕ (Unit {0}))) → ws ≡ map idle ls → map (λ w. w.log) ws ≡ ls
logs-idle ws ls is = ap (map (λ w. w.log)) is ∙ back ls where
  back : (ls : List (LogState ℕ ℕ (Unit {0}))) → map (λ w. w.log) (map idle ls) ≡ ls
  back [] = refl
  back (l ∷ ls) = ap (λ rest. l ∷ rest) (back ls)

pub many : (c : ℕ) (ws : List Worker) → map (λ w. w.log) ws ≡ fresh_logs c → length ws ≡ c
many c ws is = sym (length-map ws (λ w. w.log)) ∙ ap length is ∙ length-fresh c

pub idle-at : (c i : ℕ) (w : Worker) (ws : List Worker) → map (λ w. w.log) ws ≡ fresh_logs c → i < length ws → (get_or ws i w).log ≡ record { caller = i; last = 0; entries = [] }
idle-at c i w ws is inside =
    sym (get_or-map (λ w. w.log) ws i w w.log inside) ∙ ap (λ ls. get_or ls i w.log) is ∙ fresh-log c i w.log (omega (arith, inside, many c ws is))

pub all-idle : (c : ℕ) (ws : List Worker) → map (λ w. w.log) ws ≡ fresh_logs c → All (IsIdle c) ws
all-idle c ws is i w inside =
    let log = idle-at c i w ws is inside in
    record { caller = rw log (omega (arith, inside, many c ws is)); entries = ap (λ l. l.entries) log }

-- what the workers of the same list did
pub works-of : {w : Known ℕ ℕ (Unit {0}) PlaceState} {m : RecMapState ℕ ℕ (Unit {0}) PlaceState} {n : ℕ} {xs ys : List Worker} (vs : List Worker) → xs ≡ ys → ((i : ℕ) (d : Worker) → i < length xs → Works w m n (get_or xs i d) (get_or vs i d))
    → (i : ℕ) (d : Worker) → i < length ys → Works w m n (get_or ys i d) (get_or vs i d)
works-of {w} {m} {n} {xs} {ys} vs same each = subst (λ zs. (i : ℕ) (d : Worker) → i < length zs → Works w m n (get_or zs i d) (get_or vs i d)) same each

-- what the workers did, where none was refused
pub all-done : {w : Known ℕ ℕ (Unit {0}) PlaceState} {m : RecMapState ℕ ℕ (Unit {0}) PlaceState} (c n : ℕ) (ws vs : List Worker) → map (λ w. w.log) ws ≡ fresh_logs c → length vs ≡ length ws → ((i : ℕ) (d : Worker) → i < length ws → Works w m n (get_or ws i d) (get_or vs i d)) → All (λ w. w.refused ≡ None) vs → AllDone n vs
all-done c n ws vs is long works none i d inside =
    let within : i < length ws = omega (arith, inside, long) in
    let did = works i d within in (
      did.caller ∙ ap (λ l. l.caller) (idle-at c i d ws is within),
      subst (λ r. IfNone r (HasTaken n (get_or vs i d).log)) (none i d inside) did.done,
    )

-- why a worker stopped
stopped : (w : Known ℕ ℕ (Unit {0}) PlaceState) (c n : ℕ) (m : RecMapState ℕ ℕ (Unit {0}) PlaceState) (log : LogState ℕ ℕ (Unit {0})) (r : Refusal) → m.amount ≡ 4 → log.caller < c → MayRefuse w m log r → IsSo w c n r
stopped w c n m log Map four few may = absurd may
stopped w c n m log Memory four few may = tt
stopped w c n m log Gather four few may = absurd may
stopped w c n m log LastStamp four few may = record { state = m; log = log; amount = four; caller = few; none = may }
stopped w c n m log Mismatch four few may = absurd may

refused-there : (o : Option Worker) (r : Refusal) → IsSomeAnd o (λ w. w.refused ≡ Some r) → (v : Worker) × (o ≡ Some v) × (v.refused ≡ Some r)
refused-there None r here = absurd here
refused-there (Some v) r here = (v, refl, here)

-- why the first that was refused stopped
pub first-refused : (w : Known ℕ ℕ (Unit {0}) PlaceState) (c n : ℕ) (m : RecMapState ℕ ℕ (Unit {0}) PlaceState) (ws vs : List Worker) (r : Refusal) → m.amount ≡ 4 → map (λ w. w.log) ws ≡ fresh_logs c → length vs ≡ length ws
    → ((i : ℕ) (d : Worker) → i < length ws → Works w m n (get_or ws i d) (get_or vs i d)) → IsFirstRefusal vs r → IsSo w c n r
first-refused w c n m ws vs r four is long works first =
    let f = refused-there (slice_get vs first.index) r first.here in
    let within : first.index < length vs = slice_get_within vs first.index f.0 f.1 in
    let here : get_or vs first.index f.0 ≡ f.0 = same_Some _ f.0 (sym (slice_get-get_or vs first.index f.0 within) ∙ f.1) in
    let inside : first.index < length ws = omega (arith, within, long) in
    let did = subst (Works w m n (get_or ws first.index f.0)) here (works first.index f.0 inside) in
    let caller : f.0.log.caller ≡ first.index = did.caller ∙ ap (λ l. l.caller) (idle-at c first.index f.0 ws is inside) in
    stopped w c n m f.0.log r four (omega (arith, caller, inside, many c ws is)) (subst (λ q. IfSome q (MayRefuse w m f.0.log)) f.2 did.refused)

pub logs-done : (c n : ℕ) (ws : List Worker) → length ws ≡ c → AllDone n ws → AreDone c n (map (λ w. w.log) ws)
logs-done c n ws long done = record {
  many = length-map ws (λ w. w.log) ∙ long;
  each = λ i l e.
      let within : i < length ws = omega (arith, slice_get_within (map (λ w. w.log) ws) i l e, length-map ws (λ w. w.log)) in
      let same : (get_or ws i (idle l)).log ≡ l =
      sym (get_or-map (λ w. w.log) ws i (idle l) l within) ∙ same_Some _ l (sym (slice_get-get_or (map (λ w. w.log) ws) i l (slice_get_within (map (λ w. w.log) ws) i l e)) ∙ e) in
      let did = subst (λ x. (x.caller ≡ i) × HasTaken n x) same (done i (idle l) within) in
      let all = has-done n l did.1 in
      (did.0, all.0, all.1);
}

-- what was said of these shards, of the same logs
pub judged-by : (w : Known ℕ ℕ (Unit {0}) PlaceState) (state : RecAloneState ℕ ℕ (Unit {0}) PlaceState) (shards : ℕ) (logs same : List (LogState ℕ ℕ (Unit {0}))) (r : Result Bool Refusal)
    → length state.row ≡ shards → logs ≡ same → IfOk r (IsJudgedOf w state logs) → IfOk r (IsJudgedBy w shards same)
judged-by w state shards logs same r long is =
    IfOk-weaker r (IsJudgedOf w state logs) (IsJudgedBy w shards same) (λ legal j. record { state = state; amount = long; judged = subst (λ ls. IsJudgedOf w state ls legal) is j })

-- why the history was not judged
pub not-judged : (w : Known ℕ ℕ (Unit {0}) PlaceState) (c n : ℕ) (m : RecMapState ℕ ℕ (Unit {0}) PlaceState) (ws : List Worker) (r : Refusal) → length ws ≡ c → AllDone n ws → m.amount ≡ 4
    → (r ≡ Mismatch → SawRecShards w m (λ a. Matches w a (map (λ w. w.log) ws) → ⊥)) → r ≢ LastStamp → IsSo w c n r
not-judged w c n m ws Map long done four mismatch kind = tt
not-judged w c n m ws Memory long done four mismatch kind = tt
not-judged w c n m ws Gather long done four mismatch kind = tt
not-judged w c n m ws LastStamp long done four mismatch kind = absurd (kind refl)
not-judged w c n m ws Mismatch long done four mismatch kind =
    let saw = mismatch refl in
    record { logs = map (λ w. w.log) ws; state = saw.0; done = logs-done c n ws long done; amount = saw.1.amount ∙ four; lawful = saw.1.lawful; differ = saw.2 }

-- what was said of the history
pub judged : {w : Known ℕ ℕ (Unit {0}) PlaceState} (c n amount : ℕ) (ws : List Worker) (legal : Bool) → length ws ≡ c → AllDone n ws → amount ≡ 4 → IsJudgedBy w amount (map (λ w. w.log) ws) legal → IsJudged w c n legal
judged c n amount ws legal long done four by = record {
  logs = map (λ w. w.log) ws;
  state = by.state;
  ats = by.judged.ats;
  done = logs-done c n ws long done;
  amount = by.amount ∙ four;
  gathered = by.judged.gathered;
  exact = by.judged.exact;
}

-- how many entries they logged
pub total : (c n : ℕ) (ws : List Worker) → length ws ≡ c → AllDone n ws → sum_by (λ w. length w.log.entries) ws ≡ c * n
total c n ws long done = sum-same (λ w. length w.log.entries) n ws (λ i d inside. length-done n (get_or ws i d).log (done i d inside).1) ∙ ap (λ m. m * n) long

pub few-entries : (c n : ℕ) → IsSize c n → c * n < 2 ^ 64
few-entries c n size = omega (arith, mul-le c n 64 10000 size.few size.short)
