-- A compare-exchange of a word, with the outcome that the caller's proof picks. Assumes `Logic`.
use Rattle.dash_shard.proofs.Locks.Walking.{[], ◌≡◌, ℕ, ◌^◌, ◌<◌, eqb, List, ◌∷◌, refl, w64, OnOk, OnErr, Ok, Err, Ura, Val, vint, full_share, SProp, ent, sep, emp, via, Fml, ftrue, fsep, either, Model, Wired, Logic, Item, mean, ‵, raw, ◌⊛◌, some, given, later, ◌$◌, ◌∵◌, !, qed, move, drop, split, fjoin, feq_i, flt_i, pick, show, check, use0, updating, await, now, done, fact, fact_i, Running, tables, u64, Typed, Is, shows, Laws, of_field, copy_shared, RattleType, owns, Ptr, ptr_val, types_at, nothing, peeks, heard, u64-field, u64-laws, u64-copy, triple_of, MatchResult, asks, word_found, SeqCst, order_made, marker, marker_laws, dict, picked, seq_cst, tokens, called}
use Rattle.core.specs.Sync.RawAtomic.{always}
use Rattle.core.specs.contracts.atomic.Ordering as Order
use Rattle.core.specs.contracts.raw_atomic.compare_exchange as exchange
use Rattle.core.specs.contracts.result.Result.{the_row as ResultOf}
use Rattle.core.specs.declared.raw_atomic.Outcome as Outcome
use Rattle.core.proofs.raw_atomic.compare_exchange.Met as exchange-thm
use Rattle.core.proofs.raw_atomic.compare_exchange.Symbol as exchange_is
use Rattle.core.proofs.result.Result.TheLaws.{the_row_laws as result_laws}

abbrev pub Found : RattleType
Found = ResultOf u64 u64

word_laws : Laws u64
word_laws = of_field u64-field u64-laws refl (copy_shared u64-field u64-copy)

-- what the exchange found, which was `old` where it is an `Ok`
abbrev pub IsFound : ℕ → Found.Denot → Val → Type 0
IsFound old r v = Typed Found.mir (v ∷ []) × MatchResult r (λ n. n ≡ old) (λ n. n ≡ old → ⊥)

pub on_ok : (old : ℕ) {P : Type 0} (r : Found.Denot) → MatchResult r (λ n. n ≡ old) (λ n. n ≡ old → ⊥) → (word_found r ≡ old → P) → OnOk r P
on_ok old (Ok n) hit h = h hit
on_ok old (Err n) miss h = tt

pub on_err : (old : ℕ) {P : Type 0} (r : Found.Denot) → MatchResult r (λ n. n ≡ old) (λ n. n ≡ old → ⊥) → ((word_found r ≡ old → ⊥) → P) → OnErr r P
on_err old (Ok n) hit h = tt
on_err old (Err n) miss h = h miss

abbrev pub exchanged : {M : Type 1} {𝓤 : Ura M} → ℕ → (ℕ → Fml) → Val → Item 𝓤
exchanged old after v = later (some (λ (r : Found.Denot). given (IsFound old r v) (‵ (after (word_found r)) ⊛ ‵ (Found.own_val r (v ∷ [])))))

module _ {M : Type 1} {𝓤 : Ura M} (𝓛 : Logic 𝓤) (𝓜 : Model 𝓤 𝓛.H) (𝓡 : Running 𝓤 𝓛.H 𝓜) where
  open 𝓛 use {H}

  pub exchanges : Wired 𝓡.env exchange_is.code → (p : Ptr) (old new : ℕ) → old < 2 ^ 64 → new < 2 ^ 64 → (after : ℕ → Fml)
      → ent 𝓤 (asks 𝓛 p (λ n. either (eqb n old) new n) always after) ((tables 𝓤 H 𝓜 𝓡 𝓡.env).C (exchange_is.name picked) (ptr_val p ∷ vint w64 old ∷ vint w64 new ∷ seq_cst ∷ seq_cst ∷ []) (λ v. mean 𝓛 (exchanged old after v)))
  exchanges w p old new fits fits' after = let g : Outcome.Ghosts marker.Denot = record { after = after } in
      let c = triple_of 𝓛 (exchange.signature marker) (exchange.spec marker g dict 𝓛 𝓜.mem 𝓡.returns) in let Both : Type 0 = (SeqCst ≡ SeqCst) × (SeqCst ≡ SeqCst) in let O : Fml = Order.the_row.own_val SeqCst (seq_cst ∷ []) in
      let y : c.Ghost = ((([], tt), (full_share, tt), tt, (p, (old, (new, (SeqCst, (SeqCst, tt))))), (ptr_val p ∷ [], (vint w64 old ∷ [], (vint w64 new ∷ [], (seq_cst ∷ [], (seq_cst ∷ [], tt)))))), tt) in
      let args : Fml = owns (types_at (exchange.signature marker).params ([], tt)) y.0.3 y.0.4 in let X : SProp 𝓤 = asks 𝓛 p (λ n. either (eqb n old) new n) always after in
      via 𝓤 (sep 𝓤 (fact 𝓤 Both) X) (qed 𝓛 (raw X ∷ []) ∵ use0 𝓛 (raw (fact 𝓤 Both)) (fact_i 𝓤 Both (emp 𝓤) (refl, refl)) $ done !)
      (called 𝓛 𝓜 𝓡 (exchange_is.name picked) (ptr_val p ∷ vint w64 old ∷ vint w64 new ∷ seq_cst ∷ seq_cst ∷ []) args
      (qed 𝓛 [] ∵ nothing ! $ use0 𝓛 (‵ O) (order_made 𝓛) $ fjoin ! $ use0 𝓛 (‵ O) (order_made 𝓛) $ fjoin ! $ flt_i ! new (2 ^ 64) fits' $ feq_i ! (List Val) (vint w64 new ∷ []) (vint w64 new ∷ []) refl $ fjoin ! $ fjoin ! $
      flt_i ! old (2 ^ 64) fits $ feq_i ! (List Val) (vint w64 old ∷ []) (vint w64 old ∷ []) refl $ fjoin ! $ fjoin ! $ feq_i ! (List Val) (ptr_val p ∷ []) (ptr_val p ∷ []) refl $ fjoin ! $ done !)
      (sep 𝓤 (fact 𝓤 Both) X) (c.post y) (λ v. mean 𝓛 (exchanged old after v)) (exchange-thm.met 𝓤 𝓛 𝓜 𝓡 w marker marker_laws g dict record {} y) (λ v.
      let Told : Found.Denot → Type 0 = λ r. MatchResult r (λ n. n ≡ old) (λ n. n ≡ old → ⊥) in
      qed 𝓛 (later (some (λ (r : Found.Denot). (raw (tokens 𝓛 𝓜 𝓡) ⊛ ‵ (Found.own_val r (v ∷ []))) ⊛ some (λ (_ : Unit {0} × (Unit {0} × (Unit {0} × (Unit {0} × (Unit {0} × Unit {0}))))). ‵ (fsep ftrue (fsep ftrue (fsep ftrue (fsep ftrue (fsep ftrue ftrue))))) ⊛ (raw (fact 𝓤 (Told r)) ⊛ ‵ (after (word_found r)))))) ∷ []) ∵
      updating ! $ await ! tt $ pick ! (λ r. split ! $ split ! $ drop ! $ move ! (1 ∷ []) $ pick ! (λ _. split ! $ drop ! $ split ! $ heard ! (Told r) (λ told. move ! (1 ∷ []) $ peeks ! Found (Is Found) (shows 𝓛 Found) r (v ∷ []) (λ is. now ! $
      show ! (λ (s : Found.Denot). mean 𝓛 (given (IsFound old s v) (‵ (after (word_found s)) ⊛ ‵ (Found.own_val s (v ∷ []))))) r $ check ! (((result_laws u64 u64 word_laws word_laws).lawful 𝓛).typed r (v ∷ []) is, told) $ move ! (1 ∷ 0 ∷ []) $ done !))))))
