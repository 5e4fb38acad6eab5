-- The step table: what each kind of step does to the contents of a map, and what it replies.
use Rattle.std.specs.Prelude.{ℕ, ◌≡◌, ◌-◌, ◌^◌, ◌==◌, min, Bool, List, length, Option, Some, None, option_map, option_and_then, is_some, IfSome, if◌then◌else◌}
use Rattle.std.specs.Option.{option_map_or}
use Rattle.dash_shard.specs.Contents.{Keys, at, on, EachOnce}

-- what an action makes of a pair's value, and what it returns
abbrev pub Act : Type 0 → Type 0 → Type 0
Act K V = K → V → V × Bool

pub data Step (K V : Type 0) : Type 0 where
  Get Contains Remove : K → Step K V
  Insert : K → V → Step K V
  RemoveIf RemoveIfMut Alter : K → Act K V → Step K V
  Read Count : ℕ → Step K V
  AlterAll Retain : ℕ → Act K V → Step K V

pub data Reply (K V : Type 0) : Type 0 where
  Pair : Option (K × V) → Reply K V
  Found : Bool → Reply K V
  Old : Option V → Reply K V
  Pairs : List (K × V) → Reply K V
  Number : ℕ → Reply K V
  Done : Reply K V

-- A line of the table. A step is about one key or about one shard. The line says what it makes of the pair that stands there, or of
-- none, and what it replies: to what stood at the key, or to a list of the shard's pairs, each once, in any order.
pub data Line (K V : Type 0) : Type 0 where
  at_key : K → (Option (K × V) → Option (K × V)) → (Option (K × V) → Reply K V) → Line K V
  on_shard : ℕ → (K × V → Option (K × V)) → (List (K × V) → Reply K V) → Line K V

module _ {K V : Type 0} where
  -- the pair with the action's new value
  abbrev pub changed : Act K V → K × V → K × V
  changed f p = (p.0, (f p.0 p.1).0)

  -- p where the action returns true to q, else none; and the other way round
  abbrev pub if_yes : Act K V → K × V → K × V → Option (K × V)
  if_yes f q p = if (f q.0 q.1).1 then Some p else None

  abbrev pub if_no : Act K V → K × V → K × V → Option (K × V)
  if_no f q p = if (f q.0 q.1).1 then None else Some p

  -- THE STEP TABLE
  abbrev pub line : Step K V → Line K V
  line (Get k) = at_key k (λ o. o) Pair
  line (Contains k) = at_key k (λ o. o) (λ o. Found (is_some o))
  line (Insert k v) = at_key k (λ o. Some (option_map_or (λ p. p.0) o k, v)) (λ o. Old (option_map (λ p. p.1) o))
  line (Remove k) = at_key k (λ _. None) Pair
  line (RemoveIf k f) = at_key k (option_and_then (λ p. if_no f p p)) (λ o. Pair (option_and_then (λ p. if_yes f p p) o))
  line (RemoveIfMut k f) = at_key k (option_and_then (λ p. if_no f p (changed f p))) (λ o. Pair (option_and_then (λ p. if_yes f p (changed f p)) o))
  line (Alter k f) = at_key k (option_map (changed f)) (λ _. Done)
  line (Read i) = on_shard i Some Pairs
  line (Count i) = on_shard i Some (λ ps. Number (min (length ps) (2 ^ 64 - 1)))
  line (AlterAll i f) = on_shard i (λ p. Some (changed f p)) (λ _. Done)
  line (Retain i f) = on_shard i (λ p. if_yes f p (changed f p)) (λ _. Done)

-- How a line is read, on the contents of a map.
module _ {K V : Type 0} (w : Keys K) where
  -- the shard that it is about: the route of its key, or the number that it names
  abbrev pub line_shard : Line K V → ℕ
  line_shard (at_key k _ _) = w.route k
  line_shard (on_shard i _ _) = i

  -- what stands at the key j afterwards, from what stood there
  abbrev pub line_after : Line K V → K → Option (K × V) → Option (K × V)
  line_after (at_key k becomes _) j o = if w.eq k j then becomes o else o
  line_after (on_shard i becomes _) j o = if w.route j == i then option_and_then becomes o else o

  -- at the contents ps it may get this reply
  abbrev pub LineReplies : Line K V → List (K × V) → Reply K V → Type 0
  LineReplies (at_key k _ replies) ps r = r ≡ replies (at w.eq ps k)
  LineReplies (on_shard i _ replies) ps r = (l : List (K × V)) × EachOnce w.eq (on w i ps) l × (r ≡ replies l)

  -- A STEP IS TAKEN: from the contents ps it gets this reply, and makes the contents qs
  pub record IsTaken (step : Step K V) (reply : Reply K V) (ps qs : List (K × V)) : Type 0 where
    pub replies : LineReplies (line step) ps reply
    pub becomes : (j : K) → at w.eq qs j ≡ line_after (line step) j (at w.eq ps j)

-- by some action, which may do on the pair that stands there what it does
abbrev pub BySome : {K V : Type 0} → (K × V → V × Bool → Type 0) → Option (K × V) → (Act K V → Type 0) → Type 0
BySome {K} {V} may there P = (act : Act K V) × P act × IfSome there (λ p. may p (act p.0 p.1))
