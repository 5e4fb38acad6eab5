-- The steps of a thread, and what it has done.
use Rattle.std.specs.Prelude.{◌≡◌, ◌↔◌, IsTrue, Bool, ℕ, zero, suc, ◌<◌, ◌++◌, List, [], ◌∷◌, None, Some, IfNone, IfSome, IsSomeAnd, ⊤, length, map, slice_get, slice_index_or}
use Rattle.dash_shard.specs.declared.hash.PlaceState.{PlaceState}
use Rattle.dash_history.specs.Alone.{RecAloneState}
use Rattle.dash_history.specs.History.{LogState}
use Rattle.dash_history.specs.Map.{RecMapState}
use Rattle.dash_history.specs.OneHistory.{IsGathered, histories, rec_contents}
use Rattle.dash_history.specs.Merge.{along}
use Rattle.dash_steps.specs.Takes.{Known}
use Rattle.dash_history.specs.declared.place.At.{At}
use Rattle.dash_steps.specs.declared.step.ShardStep.{ShardStep}
use Rattle.dash_script.specs.Replay.{IsReplay}
use Rattle.dash_script.specs.Threads.{HasNoStamp, thread_step}
use Rattle.dash_script.specs.declared.threads.Refusal.{Refusal}
use Rattle.dash_script.specs.declared.threads.Refusal.TheVariants.{LastStamp, Memory}
use Rattle.dash_script.specs.declared.threads.Worker.{Worker}

-- the steps 0 to n - 1 of thread j
abbrev pub thread_steps : ℕ → ℕ → List (ShardStep ℕ ℕ (Unit {0}))
thread_steps j zero = []
thread_steps j (suc n) = thread_steps j n ++ thread_step j n ∷ []

-- the steps of a log
abbrev pub steps_in : LogState ℕ ℕ (Unit {0}) → List (ShardStep ℕ ℕ (Unit {0}))
steps_in log = map (λ r. r.step) log.entries

-- the steps of the log are its thread's first n steps
abbrev pub HasTaken : ℕ → LogState ℕ ℕ (Unit {0}) → Type 0
HasTaken n log = steps_in log ≡ thread_steps log.caller n

-- the log of the same caller is longer by the step
pub record LogsStep (old new : LogState ℕ ℕ (Unit {0})) (step : ShardStep ℕ ℕ (Unit {0})) : Type 0 where
  pub caller : new.caller ≡ old.caller
  pub steps : steps_in new ≡ steps_in old ++ step ∷ []

-- the worker of a log
abbrev pub idle : LogState ℕ ℕ (Unit {0}) → Worker
idle log = record { log = log; refused = None }

-- a worker that has done nothing, for one of c threads
pub record IsIdle (c : ℕ) (worker : Worker) : Type 0 where
  pub caller : worker.log.caller < c
  pub entries : worker.log.entries ≡ []

-- why the thread of the log may be refused a step: for want of a stamp, or of memory
abbrev pub MayRefuse : Known ℕ ℕ (Unit {0}) PlaceState → RecMapState ℕ ℕ (Unit {0}) PlaceState → LogState ℕ ℕ (Unit {0}) → Refusal → Type 0
MayRefuse w m log LastStamp = HasNoStamp w m log
MayRefuse w m log Memory = ⊤
MayRefuse w m log _ = ⊥

-- the worker took the first n steps of its thread on the map, or was refused one
pub record Works (w : Known ℕ ℕ (Unit {0}) PlaceState) (m : RecMapState ℕ ℕ (Unit {0}) PlaceState) (n : ℕ) (old new : Worker) : Type 0 where
  pub caller : new.log.caller ≡ old.log.caller
  pub done : IfNone new.refused (HasTaken n new.log)
  pub refused : IfSome new.refused (MayRefuse w m new.log)

-- the first refusal of the workers, in their order
pub record IsFirstRefusal (workers : List Worker) (refusal : Refusal) : Type 0 where
  pub index : ℕ
  pub here : IsSomeAnd (slice_get workers index) (λ w. w.refused ≡ Some refusal)
  pub before : (i : ℕ) (d : Worker) → i < index → (slice_index_or workers i d).refused ≡ None

-- the worker at each place i is the thread i, and has done its first n steps
abbrev pub AllDone : ℕ → List Worker → Type 0
AllDone n workers = (i : ℕ) (d : Worker) → i < length workers → ((slice_index_or workers i d).log.caller ≡ i) × HasTaken n (slice_index_or workers i d).log

-- a history was gathered of the map with these logs, and it is said to be legal exactly where it is
pub record IsJudgedOf (w : Known ℕ ℕ (Unit {0}) PlaceState) (state : RecAloneState ℕ ℕ (Unit {0}) PlaceState) (logs : List (LogState ℕ ℕ (Unit {0}))) (legal : Bool) : Type 0 where
  pub ats : List At
  pub gathered : IsGathered w state logs ats
  pub exact : IsTrue legal ↔ IsReplay [] (along (histories state) ats) (rec_contents state)

-- the same, of a map of so many shards
pub record IsJudgedBy (w : Known ℕ ℕ (Unit {0}) PlaceState) (shards : ℕ) (logs : List (LogState ℕ ℕ (Unit {0}))) (legal : Bool) : Type 0 where
  pub state : RecAloneState ℕ ℕ (Unit {0}) PlaceState
  pub amount : length state.row ≡ shards
  pub judged : IsJudgedOf w state logs legal
