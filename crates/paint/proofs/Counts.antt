-- Room in a store, by the number of rows that are missing there, as it was counted. Assumes nothing.
use Rattle.std.proofs.Common.{◌≡◌, ℕ, ◌+◌, ◌-◌, ◌^◌, ◌<◌, ◌≤◌, min, List, arith}
use Rattle.bits.specs.Lists.{count}
use Rattle.bits.specs.Rows.{Bits}
use Rattle.store.specs.Content.{Content}
use Rattle.paint.specs.Paint.{missing}

module _ (c : Content) (xs : List Bits) (n : ℕ) (counted : n ≡ min (count (missing c.map) xs) (2 ^ 64 - 1)) where
  pub room_by_count : c.limit ≤ 16777216 → c.held + n ≤ c.limit → c.held + count (missing c.map) xs ≤ c.limit
  room_by_count small h = omega arith

  pub full_by_count : c.limit < c.held + n → c.limit < c.held + count (missing c.map) xs
  full_by_count h = omega arith
