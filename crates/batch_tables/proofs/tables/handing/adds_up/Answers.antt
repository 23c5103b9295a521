use Rattle.batch_tables.proofs.Counted.{count-more, count_past, count-all}
use Rattle.batch_tables.proofs.tables.handing.adds_up.Goals as goal

pub returns-then-count-rest : goal.returns-then-count-rest
returns-then-count-rest g c = count_past c.args.chunks.now c.loop-chunk.chunk-index c.chunk-item.result c.loop-chunk-test.true c.chunk-item.is c.loop-chunk.rest _ c.loop-chunk.invariant c.if-count-rest.true

pub loop-chunk-preserved : goal.loop-chunk-preserved
loop-chunk-preserved g c = count-more c.args.chunks.now c.loop-chunk.chunk-index c.chunk-item.result c.loop-chunk-test.true c.chunk-item.is c.loop-chunk.rest _ c.loop-chunk.invariant c.if-count-rest.false

pub returns : goal.returns
returns g c = count-all c.args.chunks.now c.loop-chunk.chunk-index c.loop-chunk.rest _ c.loop-chunk.invariant c.loop-chunk-test.false
