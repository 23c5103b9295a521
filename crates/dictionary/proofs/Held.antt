-- The counts that a dictionary keeps, as counts of its texts.
use Rattle.std.proofs.Common.{◌≡◌, ℕ, List, length, vec_items, vec_len, sym, ap, ◌∙◌}
use Rattle.std.proofs.lemmas.List.{length-map}
use Rattle.dictionary.specs.declared.Dictionary.{Dictionary}
use Rattle.dictionary.specs.Dictionaries.{total, fits_beside, fits_in}
use Rattle.dictionary.specs.Buckets.{slot_bytes}
use Rattle.dictionary.specs.Held.{texts_in}

pub slots_long : (d : Dictionary) → length (texts_in d) ≡ vec_len d.slots
slots_long d = length-map (vec_items d.slots) (slot_bytes (vec_items d.area)) ∙ sym d.slots.ok.0

pub fits_counted : (d : Dictionary) (bs : List ℕ) → fits_beside d.limit (vec_len d.heads) (vec_len d.area) (vec_len d.slots) (length bs) ≡ fits_in d.limit (vec_len d.heads) (texts_in d) bs
fits_counted d bs =
    ap (λ n. fits_beside d.limit (vec_len d.heads) n (vec_len d.slots) (length bs)) (sym d.whole)
    ∙ ap (λ n. fits_beside d.limit (vec_len d.heads) (total (texts_in d)) n (length bs)) (sym (slots_long d))
