use Rattle.std.proofs.Common.{vec_len}
use Rattle.dictionary.specs.Held.{texts_in}
use Rattle.dictionary.specs.DictionariesLemmas.{dictionary_put-means}
use Rattle.dictionary.proofs.calls.DictionaryStock.put.Goals as goal

pub returns : goal.returns
returns c =
    let d = c.args.self.now in
    let exactly = c.intern.ensures.exactly in
    record {
      means = dictionary_put-means (texts_in d) c.args.bytes.now d.limit (vec_len d.heads) _ _ exactly;
      exactly = exactly;
      limit = c.intern.ensures.limit;
      entries = c.intern.ensures.buckets;
    }
