use Rattle.std.proofs.Common.{ℕ, ◌*◌, ◌∙◌, None, Result, Ok, Err, ap, length, refl}
use Rattle.std.specs.Prelude.{OnErr}
use Rattle.std.proofs.Math.ListN.{length-replicate}
use Rattle.dash_behind.specs.Closed.{refused}
use Rattle.dash_shard.specs.inner.Table.{NoMemoryFor}
use Rattle.dash_shard.proofs.Placing.{fresh-taken, table-fresh}
use Rattle.dash_shard.proofs.shard.table.Table.with_groups.Goals as goal

pub returns-clause-table : goal.returns-clause-table
returns-clause-table g c =
    let row = c.in_ok-slots.ensures.row in
    let slots : ℕ = 16 * c.args.count in
    table-fresh _ c.args.count slots (ap (λ s. s.values) row) (ap (λ s. length s.labels) row ∙ length-replicate slots 0) refl
    (c.in_ok-tags.ensures.items_if_clones_equal (λ y h. h)) (c.in_ok-counts.ensures.items_if_clones_equal (λ y h. h)) refl

pub returns-clause-empty : goal.returns-clause-empty
returns-clause-empty g c = fresh-taken _ (16 * c.args.count) (ap (λ s. s.values) c.in_ok-slots.ensures.row)

pub returns-clause-slots : goal.returns-clause-slots
returns-clause-slots g c = ap (λ s. length s.values) c.in_ok-slots.ensures.row ∙ length-replicate (16 * c.args.count) None

-- an error, which comes of a request alone
refuses : {A E : Type 0} (result : Result A E) (count : ℕ) → OnErr result (NoMemoryFor count)
refuses (Ok table) count = tt
refuses (Err e) count = λ most within. refused most

pub returns-in_err-tags-clause-err : goal.returns-in_err-tags-clause-err
returns-in_err-tags-clause-err g c = refuses c.from_residual.result c.args.count

pub returns-in_err-counts-clause-err : goal.returns-in_err-counts-clause-err
returns-in_err-counts-clause-err g c = refuses c.from_residual-in_err-counts.result c.args.count

pub returns-in_err-slots-clause-err : goal.returns-in_err-slots-clause-err
returns-in_err-slots-clause-err g c = refuses c.from_residual-in_err-slots.result c.args.count
