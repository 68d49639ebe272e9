-- Bytes in hex: two digits, the high one first, stand for a byte.
use Rattle.std.specs.Prelude.{ℕ, ◌+◌, ◌-◌, ◌*◌, cond, ◌&&◌, nat_le, List, [], ◌∷◌, Option, Some, None}
use Rattle.std.specs.Str.{byte}

-- a digit is 0 to 9 or A to F
abbrev pub digit_of : ℕ → Option ℕ
digit_of b =
    cond (nat_le (byte "0") b && nat_le b (byte "9")) (Some (b - byte "0"))
    (cond (nat_le (byte "A") b && nat_le b (byte "F")) (Some (b - byte "A" + 10)) None)

abbrev pub of_digits : Option ℕ → Option ℕ → Option ℕ
of_digits (Some h) (Some l) = Some (h * 16 + l)
of_digits _ _ = None

abbrev pub byte_of : ℕ → ℕ → Option ℕ
byte_of high low = of_digits (digit_of high) (digit_of low)

-- a byte before the bytes behind it
abbrev pub before : Option ℕ → Option (List ℕ) → Option (List ℕ)
before (Some b) (Some bs) = Some (b ∷ bs)
before _ _ = None

-- the bytes that a text stands for; none where it is no hex, or a digit is left over
abbrev pub bytes_of : List ℕ → Option (List ℕ)
bytes_of [] = Some []
bytes_of (high ∷ []) = None
bytes_of (high ∷ low ∷ text) = before (byte_of high low) (bytes_of text)
