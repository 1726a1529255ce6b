-- What `{:02x}` writes of a byte is its two digits.
use Rattle.std.proofs.Common.{◌≡◌, ℕ, ◌-◌, ◌<◌, ◌^◌, ◌/◌, ◌%◌, false, [], ◌∷◌, ap, ◌∙◌, arith}
use Rattle.std.specs.Fmt.{digits, digit_glyph, padded_integral, format_spec}
use Rattle.std.proofs.lemmas.Bool.Decides.{nat_tests}
use Rattle.std.proofs.lemmas.Fmt.{hex_byte}
use Rattle.report.specs.Text.{glyph, pair}

same_glyph : (d : ℕ) → digit_glyph false d ≡ glyph d
same_glyph d = grind (arith, nat_tests)

pub two_digits : (n : ℕ) → n < 256 → padded_integral (format_spec 32 0 4 2 (2 ^ 64 - 1)) false [] (digits 16 false n) ≡ pair n
two_digits n h = hex_byte false n h ∙ ap (λ x. x ∷ (digit_glyph false (n % 16) ∷ [])) (same_glyph (n / 16)) ∙ ap (λ x. glyph (n / 16) ∷ (x ∷ [])) (same_glyph (n % 16))
