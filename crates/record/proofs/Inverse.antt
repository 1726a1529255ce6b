-- Reading and writing are inverse: the two laws, over bytes and records alone. Assumes nothing.
use Rattle.std.proofs.Common.{◌≡◌, ℕ, ◌+◌, ◌*◌, ◌/◌, ◌%◌, ◌^◌, ◌<◌, ◌≤◌, List, [], ◌∷◌, ◌++◌, length, get_or, Ok, refl, arith}
use Rattle.record.specs.Decoded.{decoded, fields}
use Rattle.record.specs.Encoded.{encoded}
use Rattle.record.specs.Layout.{count_field, version_field, flow_field, counted, version, greatest, size, bytes_from, field, byte, number, digits}
use Rattle.record.specs.declared.Record.{Record}
use Rattle.std.proofs.lemmas.List.FromFn.{fill_by_all}
use Rattle.std.proofs.lemmas.Bool.Decides.{nat_tests}

-- Four bytes are those of the number that they write.
digits_number : (a b c d : ℕ) → a < 256 → b < 256 → c < 256 → d < 256 → digits 4 (number (a ∷ b ∷ c ∷ d ∷ [])) ≡ a ∷ b ∷ c ∷ d ∷ []
digits_number a b c d ha hb hc hd =
    let n = a * 16777216 + (b * 65536 + (c * 256 + (d * 1 + 0))) in
    let e0 : n / 16777216 % 256 ≡ a = omega arith in
    let e1 : n / 65536 % 256 ≡ b = omega arith in
    let e2 : n / 256 % 256 ≡ c = omega arith in
    let e3 : n / 1 % 256 ≡ d = omega arith in
    cc

-- A number of four bytes is the one that its bytes write.
number_digits : (n : ℕ) → n < 2 ^ 32 → number (digits 4 n) ≡ n
number_digits n h =
    let top : n / 16777216 % 256 ≡ n / 16777216 = omega arith in
    let third : n / 65536 ≡ n / 16777216 * 256 + n / 65536 % 256 = omega arith in
    let second : n / 256 ≡ n / 65536 * 256 + n / 256 % 256 = omega arith in
    let first : n ≡ n / 256 * 256 + n / 1 % 256 = omega arith in
    omega arith

-- A list is its elements, one after the other.
elements : (xs : List ℕ) (n : ℕ) → length xs ≡ n → xs ≡ bytes_from 0 n xs
elements xs n long = fill_by_all (λ k. get_or xs k 0) xs n 0 long (λ k h. refl)

-- Of bytes whose count and version are a record's, the fields write the bytes.
pub encoded_fields : (bytes : List ℕ) → ((i : ℕ) → get_or bytes i 0 < 256) → length bytes ≡ size → number (field count_field bytes) ≡ counted → byte version_field bytes ≡ version → encoded (fields bytes) ≡ bytes
encoded_fields bytes fit long count one =
    let all = elements bytes 14 long in
    let high : get_or bytes 0 0 ≡ 0 = omega arith in
    let low : get_or bytes 1 0 ≡ 12 = omega arith in
    let flow = digits_number _ _ _ _ (fit 9) (fit 10) (fit 11) (fit 12) in
    cc

-- A record's bytes by the elements of its parts.
pub encoded_elements : (r : Record) (count flow : List ℕ) → count ≡ digits count_field.width counted → flow ≡ digits flow_field.width r.flow → length r.station ≡ 6 → bytes_from 0 2 count ++ version ∷ (bytes_from 0 6 r.station ++ (bytes_from 0 4 flow ++ r.value ∷ [])) ≡ encoded r
encoded_elements r count flow two four six =
    let station = elements r.station 6 six in
    cc

-- Of the bytes of a record whose fields fit, reading gives the record.
pub decoded_encoded : (r : Record) → length r.station ≡ 6 → r.flow < 2 ^ 32 → r.value ≤ greatest → decoded (encoded r) ≡ Ok r
decoded_encoded r six fits small =
    let station = elements r.station 6 six in
    let flow = number_digits r.flow fits in
    rw station (simp flow (grind (arith, nat_tests)))
