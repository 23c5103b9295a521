use Rattle.std.proofs.Common.{vec_items, sym, refl, ap, ◌∙◌, arith}
use Rattle.texts.specs.Outcomes.{answers}
use Rattle.batch_tables.specs.Held.{held}
use Rattle.batch_tables.specs.Queries.{query_batch}
use Rattle.batch_tables.proofs.Asked.{asked_row}
use Rattle.batch_tables.proofs.Holding.{some_span}
use Rattle.batch_tables.proofs.tables.BatchTables.ask.Goals as goal

pub index-requires : goal.index-requires
index-requires g c = omega (arith, some_span c.self.invariant c.self.view_is c.args.span c.requires, c.self.inside.spans.ok.0)

pub returns : goal.returns
returns g c =
    let b = c.self.inside in
    let T = g.E.Edition.table b.maps in
    let v = g.E.Edition.shown in
    let t = g.S.Stock.meaning c.args.stock.now in
    c.answered.ensures
    ∙ ap answers (sym (asked_row v t c.args.question (held (vec_items b.chunks) (vec_items b.spans) b.stride b.room T) (vec_items b.chunks) T.chunks T.spans (vec_items b.spans) refl c.self.invariant.adds c.args.span c.index.result.now (some_span c.self.invariant c.self.view_is c.args.span c.requires) c.index.ensures))
    ∙ ap (λ h. answers (query_batch v t c.args.span c.args.question h)) c.self.view_is
