use Rattle.std.proofs.Common.{sym, subst}
use Rattle.batch_tables.specs.Flags.{FlagsRight}
use Rattle.batch_tables.proofs.Flags.{later, right_add_span}
use Rattle.batch_tables.proofs.tables.BatchTables.add_span.Goals as goal

pub returns : goal.returns
returns g c =
    let t = g.S.Stock.meaning c.args.stock.now in
    let h = c.args.self.now in
    record {
      came = c.push_span.ensures;
      right = λ earlier keeps r. subst (λ x. FlagsRight t x.batch) (sym c.push_span.ensures.left) (right_add_span g.E.Edition.shown t c.args.fields h (later earlier t keeps h.batch r));
    }
