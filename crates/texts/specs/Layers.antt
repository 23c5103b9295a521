-- The words for the layers, and for what a refusal tells.
use Rattle.std.specs.Prelude.{ℕ, List, ◌∷◌, ◌++◌, codes, decimal}
use Rattle.texts.specs.declared.refusal.Layer.{Layer}
use Rattle.texts.specs.declared.refusal.Refusal.{Refusal}
use Rattle.texts.specs.declared.refusal.Layer.TheVariants.{Batch, Stock, Map, Filter}

abbrev pub layer_word : Layer → List ℕ
layer_word Batch = codes "batch"
layer_word Stock = codes "stock"
layer_word Map = codes "map"
layer_word Filter = codes "filter"

-- the number, the layer and the place, with a space between each two
abbrev pub refusal_words : Refusal → List ℕ
refusal_words r = decimal r.number ++ 32 ∷ (layer_word r.layer ++ 32 ∷ decimal r.place)
