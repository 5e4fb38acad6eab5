-- Threads that take steps: which, and what is printed of them.
use Rattle.std.specs.Prelude.{◌≡◌, ◌↔◌, ℕ, Bool, IsTrue, ⊤, ◌+◌, ◌*◌, ◌%◌, ◌<◌, ◌≤◌, ◌==◌, ◌++◌, List, [], ◌∷◌, Option, codes, length, if◌then◌else◌}
use Rattle.std.specs.Fmt.{decimal}
use Rattle.std.specs.Io.KnownBytes.{Appends}
use Rattle.dash_shard.specs.Shard.{EachAt}
use Rattle.dash_shard.specs.declared.hash.PlaceState.{PlaceState}
use Rattle.dash_history.specs.Alone.{RecAloneState, IsRecAlone}
use Rattle.dash_history.specs.History.{LogState}
use Rattle.dash_history.specs.Map.{RecMapState, SawRecShard}
use Rattle.dash_history.specs.OneHistory.{IsGathered, Matches, histories, rec_contents}
use Rattle.dash_history.specs.Merge.{along}
use Rattle.dash_history.specs.Refused.{NoStamp}
use Rattle.dash_steps.specs.Takes.{Known}
use Rattle.dash_history.specs.declared.place.At.{At}
use Rattle.dash_steps.specs.declared.step.ShardStep.{ShardStep}
use Rattle.dash_steps.specs.declared.step.ShardStep.TheVariants.{Get, Insert, Remove}
use Rattle.dash_script.specs.Replay.{IsReplay}
use Rattle.dash_script.specs.declared.threads.Refusal.{Refusal}
use Rattle.dash_script.specs.declared.threads.Refusal.TheVariants.{Map, LastStamp, Memory, Mismatch, Gather}

-- a number of threads, and of the steps of each
pub record IsSize (callers steps : ℕ) : Type 0 where
  pub some : 0 < callers
  pub few : callers ≤ 64
  pub short : steps ≤ 10000

-- the step m of thread j
abbrev pub thread_step : ℕ → ℕ → ShardStep ℕ ℕ (Unit {0})
thread_step j m = if m % 3 == 0 then Insert ((j + m) % 16) (j * 1000000 + m) else if m % 3 == 1 then Get ((j + m) % 16) else Remove ((j + m) % 16)

-- the logs of c threads in their order, each of which has done its first n steps, and nothing else
pub record AreDone (c n : ℕ) (logs : List (LogState ℕ ℕ (Unit {0}))) : Type 0 where
  pub many : length logs ≡ c
  pub each : EachAt logs (λ i l. (l.caller ≡ i) × (length l.entries ≡ n) × EachAt l.entries (λ m r. r.step ≡ thread_step l.caller m))

-- LEGAL OR NOT: a history was gathered of a map of four shards, on which c threads took n steps each; and it is said to be legal
-- exactly where along it each reply is that of a plain map, which then has just the pairs of the map
pub record IsJudged (w : Known ℕ ℕ (Unit {0}) PlaceState) (c n : ℕ) (legal : Bool) : Type 0 where
  pub logs : List (LogState ℕ ℕ (Unit {0}))
  pub state : RecAloneState ℕ ℕ (Unit {0}) PlaceState
  pub ats : List At
  pub done : AreDone c n logs
  pub amount : length state.row ≡ 4
  pub gathered : IsGathered w state logs ats
  pub exact : IsTrue legal ↔ IsReplay [] (along (histories state) ats) (rec_contents state)

-- NO MATCH: the logs of c threads, which took n steps each, don't match the histories of a lawful map of four shards
pub record AreMismatched (w : Known ℕ ℕ (Unit {0}) PlaceState) (c n : ℕ) : Type 0 where
  pub logs : List (LogState ℕ ℕ (Unit {0}))
  pub state : RecAloneState ℕ ℕ (Unit {0}) PlaceState
  pub done : AreDone c n logs
  pub amount : length state.row ≡ 4
  pub lawful : IsRecAlone w state
  pub differ : Matches w state logs → ⊥

-- no stamp is above the log's last and that of a shard of the map, as it stood behind its lock
abbrev pub HasNoStamp : Known ℕ ℕ (Unit {0}) PlaceState → RecMapState ℕ ℕ (Unit {0}) PlaceState → LogState ℕ ℕ (Unit {0}) → Type 0
HasNoStamp w m log = (i : ℕ) × SawRecShard w m i (λ s. NoStamp s.last log.last)

-- LAST STAMP: one of c threads had no stamp for a step, on a map of four shards
pub record IsOutOfStamps (w : Known ℕ ℕ (Unit {0}) PlaceState) (c : ℕ) : Type 0 where
  pub state : RecMapState ℕ ℕ (Unit {0}) PlaceState
  pub log : LogState ℕ ℕ (Unit {0})
  pub amount : state.amount ≡ 4
  pub caller : log.caller < c
  pub none : HasNoStamp w state log

-- what is so where c threads, of n steps each, are refused; want of memory says nothing more
abbrev pub IsSo : Known ℕ ℕ (Unit {0}) PlaceState → ℕ → ℕ → Refusal → Type 0
IsSo w c n LastStamp = IsOutOfStamps w c
IsSo w c n Mismatch = AreMismatched w c n
IsSo w c n _ = ⊤

-- what is printed of so many entries, and of a history that is legal or isn't
abbrev pub verdict_lines : ℕ → Bool → List ℕ
verdict_lines n legal = codes "entries " ++ decimal n ++ 10 ∷ (if legal then codes "legal" else codes "not legal") ++ 10 ∷ []

-- what is said of a refusal
abbrev pub refusal_text : Refusal → List ℕ
refusal_text Map = codes "refused: no memory (8)"
refusal_text LastStamp = codes "refused: last stamp (18)"
refusal_text Memory = codes "refused: no memory (19)"
refusal_text Mismatch = codes "refused: mismatch (22)"
refusal_text Gather = codes "refused: no memory (23)"

-- a refusal was printed as one line, and is so
abbrev pub SaysRefusal : Known ℕ ℕ (Unit {0}) PlaceState → ℕ → ℕ → Option (List ℕ) → Option (List ℕ) → Type 0
SaysRefusal w c n old new = (refusal : Refusal) × IsSo w c n refusal × Appends old new (refusal_text refusal ++ 10 ∷ [])
