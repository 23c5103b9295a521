-- The texts that a dictionary holds.
use Rattle.std.specs.Prelude.{ℕ, List, vec_items}
use Rattle.dictionary.specs.declared.Dictionary.{Dictionary}
use Rattle.dictionary.specs.Buckets.{held_texts}

abbrev pub texts_in : Dictionary → List (List ℕ)
texts_in d = held_texts (vec_items d.area) (vec_items d.slots)
