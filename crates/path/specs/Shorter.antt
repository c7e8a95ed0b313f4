-- The next shorter route of a row, by the lengths of its beginnings. Assumes nothing.
--   NextShorter m p r    r is the hop of the longest route in the map m that is a beginning of p and shorter, or none
use Rattle.std.specs.Prelude.{◌≡◌, ℕ, ◌<◌, length, take, MatchOption}
use Rattle.bits.specs.Rows.{Bits}
use Rattle.store.specs.Content.{Map, Told, absent, hop_told}

abbrev pub NextShorter : Map → Bits → Told → Type 0
NextShorter m p r =
    MatchOption r ((k : ℕ) → k < length p → m (take k p) ≡ absent)
    (λ h. (n : ℕ) × (n < length p) × (m (take n p) ≡ hop_told h) × ((k : ℕ) → n < k → k < length p → m (take k p) ≡ absent))
