use Rattle.std.proofs.Common.{sym, subst}
use Rattle.batch_tables.specs.Flags.{FlagsRight}
use Rattle.batch_tables.proofs.Flags.{later, right_add_chunk}
use Rattle.batch_tables.proofs.tables.BatchTables.add_chunk.Goals as goal

pub returns : goal.returns
returns g c =
    let t = g.S.Stock.meaning c.args.stock.now in
    let h = c.args.self.now in
    record {
      came = c.push_chunk.ensures;
      right = λ earlier keeps r. subst (λ x. FlagsRight t x.batch) (sym c.push_chunk.ensures.left) (right_add_chunk g.E.Edition.shown t c.args.head h (later earlier t keeps h.batch r));
    }
