use Rattle.std.proofs.Common.{arith}
use Rattle.std.proofs.lemmas.Grind.{common_steps}
use Rattle.vec_map.proofs.Tests.{last_from_places}
use Rattle.vec_map.proofs.scans.last_place.Goals as goal

pub returns : goal.returns
returns g c = last_from_places (λ q. g.S.Sameness.alike c.args.by.now q c.args.key.now) c.args.entries.now c.rposition.result (grind (arith, common_steps))
