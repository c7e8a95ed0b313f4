-- The hash FNV-1a of 64 bits, and the buckets that it gives. Assumes nothing.
--   basis, prime      the numbers of the hash
--   stirred h b       the hash after one byte more: XORed with the byte, then multiplied by the prime, modulo 2^64
--   hashed h bs       the hash after the bytes bs
--   fnv1a bs          the hash of the bytes bs
--   bytes_of w n      the w lowest bytes of a number, the most significant first
--   text_of p j       the 18 bytes that stand for a prefix at the try j
--   fnv_bucket p j    the bucket of a prefix at the try j; a try over 3 counts as its remainder by 4
use Rattle.std.specs.Prelude.{ℕ, zero, suc, ◌*◌, ◌/◌, ◌%◌, ◌^◌, List, [], ◌∷◌, ◌++◌, bit_xor}
use Rattle.net.specs.declared.prefix.Prefix.{Prefix}

abbrev pub basis : ℕ
basis = 14695981039346656037

abbrev pub prime : ℕ
prime = 1099511628211

abbrev pub stirred : ℕ → ℕ → ℕ
stirred h b = (bit_xor h b * prime) % 2 ^ 64

unfoldable pub hashed : ℕ → List ℕ → ℕ
hashed h [] = h
hashed h (b ∷ bs) = hashed (stirred h b) bs

abbrev pub fnv1a : List ℕ → ℕ
fnv1a bs = hashed basis bs

abbrev pub bytes_of : ℕ → ℕ → List ℕ
bytes_of zero n = []
bytes_of (suc w) n = (n / 256 ^ w % 256) ∷ bytes_of w n

abbrev pub text_of : Prefix → ℕ → List ℕ
text_of p j = (j ∷ []) ++ bytes_of 8 p.halves.first ++ bytes_of 8 p.halves.second ++ (p.len ∷ [])

unfoldable pub fnv_bucket : Prefix → ℕ → ℕ
fnv_bucket p j = fnv1a (text_of p (j % 4)) % 256
