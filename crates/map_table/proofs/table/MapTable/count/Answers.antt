use Rattle.std.proofs.Common.{vec_items, sym, ◌∙◌, arith}
use Rattle.std.proofs.lemmas.List.{take_all}
use Rattle.map_table.specs.Rows.{maps_of}
use Rattle.map_table.proofs.Rowwise.{length-maps}
use Rattle.map_table.proofs.table.MapTable.count.Goals as goal

pub returns : goal.returns
returns g c =
    let t = c.args.self.now in
    let rows = length-maps t.stride (vec_items t.entries) (vec_items t.rows) in
    record {
      maps = c.len.ensures ∙ t.rows.ok.0 ∙ sym rows;
      rows = c.len.ensures;
      all = λ n h. sym (take_all n (maps_of t) (omega (arith, rows, t.rows.ok.0, c.len.ensures)));
    }
