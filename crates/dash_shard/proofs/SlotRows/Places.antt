-- The rows of the types that the proofs by hand speak of.
use Rattle.dash_shard.proofs.SlotRows.Walking.{Al, El, Logic, P, R, Ura, emp, ent, refl, sem, RattleType, Is, Val, ℕ, List, [], ◌∷◌, ◌++◌, ◌≡◌, ◌∙◌, ap, word, of_list, vcons, vnil, vstruct}
use denote.Shadow.{makes_shadow}
use denote.Struct.Owning.{shape}
use denote.Struct.Struct.{Struct}
use Rattle.std.specs.Mem.{type_size}
use Rattle.dash_shard.specs.contracts.shard.table.slots.cells.Cells as cells
use Rattle.dash_shard.specs.contracts.shard.table.slots.cells.Deed as deeds
use Rattle.dash_shard.specs.contracts.shard.table.slots.cells.Start as start

-- a value of no space
abbrev pub mark : Val
mark = vstruct (vcons (vstruct vnil) vnil)

module _ (E : El) where
  abbrev pub Row : RattleType
  Row = cells.the_row (R E)

  abbrev pub At : RattleType
  At = start.the_row (R E)

  -- the one field of the slots, which takes no space
  abbrev pub Mark : RattleType
  Mark = Struct (shape (cells.the_type (R E)))

  -- how many bytes a slot takes
  abbrev pub sz : ℕ
  sz = type_size (R E)

  abbrev pub start_vals : At.Denot → List Val
  start_vals s = word s.ptr ∷ []

  pub start_Tells : (s : At.Denot) (vs : List Val) → Is At s vs → vs ≡ start_vals s
  start_Tells s vs is = is.1.0 ∙ ap (λ (ws : List Val). vstruct (of_list (ws ++ [])) ∷ []) is.1.1.0

  pub mark_Tells : (c : Row.Denot) (vs : List Val) → Is Row c vs → vs ≡ mark ∷ []
  mark_Tells c vs is = is.0.1.0 ∙ ap (λ (ws : List Val). vstruct (of_list (ws ++ [])) ∷ []) is.0.1.1.0.1.0

  pub mark_made : {M : Type 1} {𝓤 : Ura M} (𝓛 : Logic 𝓤) → ent 𝓤 (emp 𝓤) (sem 𝓛 (Mark.own_val (tt, tt) (mark ∷ [])))
  mark_made 𝓛 = makes_shadow 𝓛 (Mark.own_val (tt, tt) (mark ∷ [])) (λ vss. (tt, ((λ uss. (tt, tt)), tt))) ((vstruct vnil ∷ [], tt), (refl, ((tt, (refl, tt)), tt)))

module _ (E : El) (Z : Al) where
  abbrev pub Deeds : RattleType
  Deeds = deeds.the_row (R E) (P E Z) Z.g

  pub deed_Tells : (d : Deeds.Denot) (vs : List Val) → Is Deeds d vs → vs ≡ mark ∷ []
  deed_Tells d vs is = is.0.1.0 ∙ ap (λ (ws : List Val). vstruct (of_list (ws ++ [])) ∷ []) is.0.1.1.0.1.0
