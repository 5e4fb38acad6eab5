-- The program's steps and replies, in the words of the step table.
use Rattle.std.specs.Prelude.{ℕ, ◌==◌, ◌&&◌, Bool, false, Option, Some, None, IsSome}
use Rattle.dash_shard.specs.Steps as table
use Rattle.dash_steps.specs.declared.step.ShardStep.{ShardStep}
use Rattle.dash_steps.specs.declared.step.ShardStep.TheVariants.{Get, Contains, Insert, Remove, RemoveIf, RemoveIfMut, Alter, Read, Count, AlterAll, Retain, CountPart, ReadPart}
use Rattle.dash_steps.specs.declared.step.Whole.{Whole}
use Rattle.dash_steps.specs.declared.step.Whole.TheVariants as whole
use Rattle.dash_steps.specs.declared.step.Reply.{Reply}
use Rattle.dash_steps.specs.declared.step.Reply.TheVariants.{Pair, Found, Old, Pairs, Number, Done}

-- the reply that the table speaks of
abbrev pub reply_of : {K V : Type 0} → Reply K V → table.Reply K V
reply_of (Pair o) = table.Pair o
reply_of (Found b) = table.Found b
reply_of (Old o) = table.Old o
reply_of (Pairs l) = table.Pairs l.items
reply_of (Number n) = table.Number n
reply_of Done = table.Done

-- the step that the table speaks of
abbrev pub step_of : {K V A : Type 0} → (A → table.Act K V) → ShardStep K V A → table.Step K V
step_of acts (Get k) = table.Get k
step_of acts (Contains k) = table.Contains k
step_of acts (Insert k v) = table.Insert k v
step_of acts (Remove k) = table.Remove k
step_of acts (RemoveIf k f) = table.RemoveIf k (acts f)
step_of acts (RemoveIfMut k f) = table.RemoveIfMut k (acts f)
step_of acts (Alter k f) = table.Alter k (acts f)
step_of acts (Read i) = table.Read i
step_of acts (Count i) = table.Count i
step_of acts (AlterAll i f) = table.AlterAll i (acts f)
step_of acts (Retain i f) = table.Retain i (acts f)
step_of acts (CountPart i) = table.Count i
step_of acts (ReadPart i) = table.Read i

-- the kind of whole step that the step is a part of, or none
abbrev pub part_of : {K V A : Type 0} → ShardStep K V A → Option Whole
part_of (CountPart i) = Some whole.Count
part_of (ReadPart i) = Some whole.Read
part_of step = None

-- the step is a part of a whole step
abbrev pub IsPart : {K V A : Type 0} → ShardStep K V A → Type 0
IsPart step = IsSome (part_of step)

-- the part of a whole step in shard i
abbrev pub part : {K V A : Type 0} → Whole → ℕ → ShardStep K V A
part whole.Count i = CountPart i
part whole.Read i = ReadPart i

abbrev pub alike_step : {K V A : Type 0} → (K → K → Bool) → (V → V → Bool) → (A → A → Bool) → ShardStep K V A → ShardStep K V A → Bool
alike_step k v f (Get x) (Get y) = k x y
alike_step k v f (Contains x) (Contains y) = k x y
alike_step k v f (Insert x u) (Insert y t) = k x y && v u t
alike_step k v f (Remove x) (Remove y) = k x y
alike_step k v f (RemoveIf x a) (RemoveIf y b) = k x y && f a b
alike_step k v f (RemoveIfMut x a) (RemoveIfMut y b) = k x y && f a b
alike_step k v f (Alter x a) (Alter y b) = k x y && f a b
alike_step k v f (Read i) (Read j) = i == j
alike_step k v f (Count i) (Count j) = i == j
alike_step k v f (AlterAll i a) (AlterAll j b) = (i == j) && f a b
alike_step k v f (Retain i a) (Retain j b) = (i == j) && f a b
alike_step k v f (CountPart i) (CountPart j) = i == j
alike_step k v f (ReadPart i) (ReadPart j) = i == j
alike_step k v f _ _ = false
