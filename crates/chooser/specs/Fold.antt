-- The buckets of a chooser that folds a prefix into one number of 64 bits. Assumes nothing.
--   rotated k x       the 64 bits of x rotated left by k, from 0 to 63: what leaves at the top comes in at the bottom
--   multiplier        2^64 divided by the golden ratio, made odd
--   fold_bucket p j   the bucket of a prefix at the try j; a try over 3 counts as its remainder by 4
use Rattle.std.specs.Prelude.{ℕ, ◌+◌, ◌-◌, ◌*◌, ◌/◌, ◌%◌, ◌^◌, bit_xor}
use Rattle.net.specs.declared.prefix.Prefix.{Prefix}

abbrev pub rotated : ℕ → ℕ → ℕ
rotated k x = (x * 2 ^ k) % 2 ^ 64 + x / 2 ^ (64 - k)

abbrev pub multiplier : ℕ
multiplier = 11400714819323198485

unfoldable pub fold_bucket : Prefix → ℕ → ℕ
fold_bucket p j = ((rotated (16 * (j % 4)) (bit_xor p.halves.first p.halves.second) + p.len) * multiplier) % 2 ^ 64 / 2 ^ 56
