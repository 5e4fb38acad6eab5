use Rattle.std.proofs.Common.{◌≡◌, ℕ, ◌+◌, ◌<◌, ◌≤◌, get_or}
use Rattle.dash_rows.proofs.workers.halves.in_turn.Given as goal

abbrev pub invariant-loop-k : goal.invariant-loop-k
invariant-loop-k g l = record {
  parts : (j : ℕ) (d : g.row.P.Denot) → l.k ≤ j → get_or l.parts j d ≡ get_or l.initial.parts j d;
  lanes : (j : ℕ) (e : g.row.L.Denot) → l.k ≤ j → get_or l.lanes j e ≡ get_or l.initial.lanes j e;
  does : (j : ℕ) (d : g.row.P.Denot) (e : g.row.L.Denot) → j < l.k → g.W.Work.does l.work (l.base + j) (get_or l.initial.parts j d) (get_or l.initial.lanes j e) (get_or l.parts j d) (get_or l.lanes j e);
}
