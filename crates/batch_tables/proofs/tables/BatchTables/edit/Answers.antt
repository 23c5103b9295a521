use Rattle.std.proofs.Common.{sym, subst}
use Rattle.batch_tables.specs.Flags.{FlagsRight}
use Rattle.batch_tables.proofs.Flags.{later, right_edit_batch}
use Rattle.batch_tables.proofs.tables.BatchTables.edit.Goals as goal

pub returns : goal.returns
returns g c =
    let t = g.S.Stock.meaning c.args.stock.now in
    let h = c.args.self.now in
    record {
      came = c.edit_found.ensures;
      right = λ earlier keeps r. subst (λ x. FlagsRight t x.batch) (sym c.edit_found.ensures.left) (right_edit_batch g.E.Edition.shown t c.args.edit c.args.owner h (later earlier t keeps h.batch r));
    }
