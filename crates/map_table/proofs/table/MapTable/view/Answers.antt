use Rattle.std.proofs.Common.{◌≡◌, ◌<◌, ◌≤◌, length, get_or, vec_items, ap, ◌∙◌, arith, rules}
use Rattle.std.specs.Option.{option_map}
use Rattle.vec_map.specs.Views.{view_map}
use Rattle.map_table.proofs.RowEdits.{row_read, row_unread}
use Rattle.map_table.proofs.table.MapTable.view.Goals as goal

pub returns-in_err-kept : goal.returns-in_err-kept
returns-in_err-kept g c =
    let t = c.args.self.now in
    let out : length (vec_items t.rows) ≤ c.args.row = search rules in
    ap (option_map view_map) c.from_residual.ensures ∙ row_unread t.stride (vec_items t.entries) (vec_items t.rows) c.args.row out

pub returns : goal.returns
returns g c =
    let t = c.args.self.now in
    let kept = c.in_ok-kept.kept.now in
    let there : c.args.row < length (vec_items t.rows) = search rules in
    let read : kept ≡ get_or (vec_items t.rows) c.args.row kept = search rules in
    row_read t.stride (vec_items t.entries) (vec_items t.rows) c.args.row c.start_of-start.result kept c.deref-2.result.now
    c.start_of-start.ensures.start (omega (arith, c.start_of-start.ensures.within, t.entries.ok.0)) there t.fit read c.deref-2.ensures.value
