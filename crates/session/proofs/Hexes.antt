-- The digits that `{:02x}` writes.
use Rattle.std.proofs.Common.{◌≡◌, ℕ, ◌-◌, ◌/◌, ◌%◌, ◌^◌, ◌<◌, false, [], ◌∷◌, ap, ◌∙◌, arith}
use Rattle.std.proofs.lemmas.Fmt.{hex_byte}
use Rattle.std.specs.Fmt.{digits, digit_glyph, padded_integral, format_spec}
use Rattle.session.specs.Numerals.{hexes}

-- two places of a byte
pub hexes_byte : (n : ℕ) → n < 2 ^ 8 → padded_integral (format_spec 32 0 4 2 (2 ^ 64 - 1)) false [] (digits 16 false n) ≡ hexes 2 n
unfolding hexes
hexes_byte n lt = hex_byte false n lt ∙ (let e : n / 16 ≡ n / 16 % 16 = omega arith in ap (λ d. digit_glyph false d ∷ digit_glyph false (n % 16) ∷ []) e)
