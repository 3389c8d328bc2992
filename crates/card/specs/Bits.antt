-- Bits, most significant first, as lists of 0 and 1 (document 01, "Field cards").
--   bits w v        the w bits of v
--   number bs       the number with these bits
--   packed bs       the bytes of the bits; zero bits fill the last byte
--   unpacked ys     the bits of the bytes
use Rattle.std.specs.Prelude.{List, [], ◌∷◌, ◌++◌, ℕ, zero, suc, ◌+◌, ◌*◌, ◌/◌, ◌%◌, ◌^◌, length, take, drop, replicate}

unfoldable pub bits : ℕ → ℕ → List ℕ
bits zero v = []
bits (suc w) v = v / 2 ^ w % 2 ∷ bits w v

-- the number with the bits bs behind those of h
unfoldable pub number_from : ℕ → List ℕ → ℕ
number_from h [] = h
number_from h (b ∷ bs) = number_from (h * 2 + b) bs

abbrev pub number : List ℕ → ℕ
number bs = number_from 0 bs

-- k bytes from the bits, which are followed by zero bits
unfoldable pub bytes : ℕ → List ℕ → List ℕ
bytes zero bs = []
bytes (suc k) bs = number (take 8 (bs ++ replicate 8 0)) ∷ bytes k (drop 8 bs)

unfoldable pub packed : List ℕ → List ℕ
packed bs = bytes ((length bs + 7) / 8) bs

unfoldable pub unpacked : List ℕ → List ℕ
unpacked [] = []
unpacked (y ∷ ys) = bits 8 y ++ unpacked ys
