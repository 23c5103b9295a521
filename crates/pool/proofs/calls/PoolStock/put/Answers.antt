use Rattle.std.proofs.Common.{vec_items}
use Rattle.pool.proofs.Pools.{pool_put-means}
use Rattle.pool.proofs.calls.PoolStock.put.Goals as goal

pub returns : goal.returns
returns c =
    let exactly = c.append.ensures.exactly in
    record {
      means = pool_put-means c.args.self.now.limit (vec_items c.args.self.now.area) c.args.bytes.now _ _ exactly;
      exactly = exactly;
      limit = c.append.ensures.limit;
    }
