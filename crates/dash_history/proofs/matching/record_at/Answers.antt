use Rattle.std.proofs.Common.{Some, slice_get, ap, sym, ◌∙◌, arith}
use Rattle.std.proofs.lemmas.Option.{slice_get-get_or, slice_get_within, same_Some}
use Rattle.dash_history.proofs.Following.{in_row, named}
use Rattle.dash_history.proofs.matching.record_at.Goals as goal

pub offset_bounds-row-at : goal.offset_bounds-row-at
offset_bounds-row-at g c = let lt = in_row c.args.row.now c.args.at c.requires in omega (arith, lt)

pub bounds-row-at : goal.bounds-row-at
bounds-row-at g c = in_row c.args.row.now c.args.at c.requires

pub offset_bounds-history-at : goal.offset_bounds-history-at
offset_bounds-history-at g c =
    let e = named c.args.row.now c.args.at c.index-row-at.result c.requires c.index-row-at.is in
    let lt = slice_get_within c.history.result.now c.args.at.place c.requires.0 (ap (λ h. slice_get h c.args.at.place) c.history.ensures.history ∙ e) in
    omega (arith, lt)

pub bounds-history-at : goal.bounds-history-at
bounds-history-at g c =
    let e = named c.args.row.now c.args.at c.index-row-at.result c.requires c.index-row-at.is in
    slice_get_within c.history.result.now c.args.at.place c.requires.0 (ap (λ h. slice_get h c.args.at.place) c.history.ensures.history ∙ e)

pub returns : goal.returns
returns g c =
    let e = ap (λ h. slice_get h c.args.at.place) c.history.ensures.history ∙ named c.args.row.now c.args.at c.index-row-at.result c.requires c.index-row-at.is in
    let lt = slice_get_within c.history.result.now c.args.at.place c.requires.0 e in
    c.requires.1 ∙ ap Some (same_Some c.requires.0 c.index-history-at.result (sym e ∙ slice_get-get_or c.history.result.now c.args.at.place c.index-history-at.result lt ∙ ap Some (sym c.index-history-at.is)))
