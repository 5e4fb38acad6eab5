use Rattle.std.proofs.Common.{◌≡◌, ℕ, ◌*◌, ◌%◌, ◌^◌, ap, refl, eq-eqb, List, length}
use Rattle.std.proofs.lemmas.Bool.{ne_eqb}
use Rattle.std.specs.Int.{w64, from_le_bytes}
use Rattle.dash_shard.specs.Hashing.{placed}
use Rattle.dash_shard.specs.declared.hash.PlaceHasher.{PlaceHasher}
use Rattle.dash_shard.proofs.hash.PlaceHasherHasher.write.Goals as goal

placed_eight : (s : ℕ) (bytes : List ℕ) (n : ℕ) → length bytes ≡ 8 → n ≡ from_le_bytes w64 bytes → n * 2 ^ 55 % 2 ^ 64 ≡ placed s bytes
unfolding placed
placed_eight s bytes n e f = rw (eq-eqb (length bytes) 8 e) (ap (λ (m : ℕ). m * 2 ^ 55 % 2 ^ 64) f)

placed_other : (s : ℕ) (bytes : List ℕ) → (length bytes ≡ 8 → ⊥) → s ≡ placed s bytes
unfolding placed
placed_other s bytes other = rw (ne_eqb (length bytes) 8 other) refl

hasher : ℕ → PlaceHasher
hasher n = record { state = n }

pub returns-then-bytes-eq8 : goal.returns-then-bytes-eq8
unfolding hasher
returns-then-bytes-eq8 c = ap hasher (placed_eight c.args.self.now.state c.args.bytes.now _ c.if-bytes-eq8.true c.from_le_bytes-number.ensures)

pub returns-else-bytes-eq8 : goal.returns-else-bytes-eq8
unfolding hasher
returns-else-bytes-eq8 c = ap hasher (placed_other c.args.self.now.state c.args.bytes.now c.if-bytes-eq8.false)
