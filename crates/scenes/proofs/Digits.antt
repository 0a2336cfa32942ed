-- What std's `write!` makes of a number is the text's own: the same digits in decimal, and a byte as two hexadecimal
-- capitals.
use Rattle.std.proofs.Common.{arith, ◌≡◌, ℕ, zero, suc, ◌-◌, ◌/◌, ◌%◌, ◌^◌, ◌<◌, ◌≤◌, Bool, true}
use Rattle.std.proofs.Common.{false, List, [], ◌++◌, length, refl, sym, subst, ◌∙◌}
use Rattle.std.specs.Prelude.{Option}
use Rattle.std.specs.Io.KnownBytes.{Appends}
use Rattle.std.proofs.lemmas.Bool.{lt-ltb, le-ltb, ltb-true, ltb-false}
use Rattle.std.proofs.lemmas.Fmt.{AppendsLastDigit, decimal_from_appends, length-decimal-le, hex_byte}
use Rattle.std.specs.Fmt.{digit_glyph, digits, padded_integral, format_spec}
use Rattle.std.specs.Fmt as fmt
use Rattle.std.proofs.Math.Dec.{ltb}
use Rattle.text.specs.Text.{decimal_in, decimal, hex_digit, hex_two}

-- the text's digits are those that end in the last one
last_appended : AppendsLastDigit decimal_in
unfolding decimal_in
last_appended =
    record { one = λ k n h. simp (lt-ltb n 10 h) refl; more = λ k n h. simp (le-ltb n 10 h) refl }

-- a number above 0 has at most as many digits as it counts
few : (n : ℕ) → 0 < n → n < 2 ^ 16 → length (fmt.decimal n) ≤ n
few n some fits = go (ltb n 10) refl
  where
    go : (t : Bool) → ltb n 10 ≡ t → length (fmt.decimal n) ≤ n
    go true e =
        let h = ltb-true n 10 e in
        omega (arith, length-decimal-le 1 n (omega arith) (omega arith) (omega arith))
    go false e =
        let h = ltb-false n 10 e in
        omega (arith, length-decimal-le 5 n (omega arith) (omega arith) (omega arith))

-- the digits of a number of 16 bits
pub same_decimal : (n : ℕ) → n < 2 ^ 16 → fmt.decimal n ≡ decimal n
unfolding decimal decimal_in fmt.digits
same_decimal zero fits = refl
same_decimal (suc n) fits =
    sym (decimal_from_appends decimal_in last_appended (suc n) (suc n) (omega arith) (few (suc n) (omega arith) fits))

-- a number printed behind some text
pub number_printed : (old new : Option (List ℕ)) (front : List ℕ) (n : ℕ) → n < 2 ^ 16 →
    Appends old new (front ++ fmt.decimal n) → Appends old new (front ++ decimal n)
number_printed old new front n fits p = subst (λ bs. Appends old new (front ++ bs)) (same_decimal n fits) p

-- ---- hexadecimal

same_digit : (d : ℕ) → digit_glyph true d ≡ hex_digit d
same_digit d = go (ltb d 10) refl
  where
    go : (t : Bool) → ltb d 10 ≡ t → digit_glyph true d ≡ hex_digit d
    go true e = rw e refl
    go false e = let h = ltb-false d 10 e in rw e (omega arith)

-- what `{:02X}` makes of a byte
pub same_hex : (b : ℕ) → b < 256 →
    padded_integral (format_spec 32 0 4 2 (2 ^ 64 - 1)) false [] (digits 16 true b) ≡ hex_two b
same_hex b fits = hex_byte true b fits ∙ rw (same_digit (b / 16), same_digit (b % 16)) refl
