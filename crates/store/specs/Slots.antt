-- Slots, each free or with an entry, seen as a list. Assumes nothing.
--   Slot             free, or with an entry
--   at xs i          slot i, and a free one past the end
--   holds q s        the slot s has an entry of the row q
--   told_by s        what the slot tells of its row
--   taken s          the slot has an entry
--   spot xs q        the first slot that holds the row q
--   told_in xs q     what that slot tells
--   used xs          how many slots have an entry
--   Frees xs r       r is the number of a free slot, or none where every slot has an entry
--   Apart xs         no row is in two slots
--   row_content xs   the content of a flat row over these slots
use Rattle.std.specs.Prelude.{◌≡◌, ℕ, ◌<◌, min, Bool, true, false, List, length, Some, None, Option, MatchOption, is_some, slice_index_or, count_by, position}
use Rattle.bits.specs.Rows.{Bits, same}
use Rattle.net.specs.Prefix.{row_of}
use Rattle.store.specs.Content.{Told, absent, hop_told, Content}
use Rattle.store.specs.declared.slot.Entry.{Entry}

abbrev pub Slot : Type 0
Slot = Option Entry

abbrev pub at : List Slot → ℕ → Slot
at xs i = slice_index_or xs i None

abbrev pub holds : Bits → Slot → Bool
holds q None = false
holds q (Some e) = same q (row_of e.prefix)

abbrev pub told_by : Slot → Told
told_by None = absent
told_by (Some e) = hop_told e.hop

abbrev pub taken : Slot → Bool
taken s = is_some s

abbrev pub spot : List Slot → Bits → Option ℕ
spot xs q = position (holds q) xs

abbrev pub told_at : List Slot → Option ℕ → Told
told_at xs None = absent
told_at xs (Some i) = told_by (at xs i)

abbrev pub told_in : List Slot → Bits → Told
told_in xs q = told_at xs (spot xs q)

abbrev pub used : List Slot → ℕ
used xs = count_by taken xs

abbrev pub Frees : List Slot → Option ℕ → Type 0
Frees xs r = MatchOption r ((i : ℕ) → i < length xs → taken (at xs i) ≡ true) (λ i. (i < length xs) × (taken (at xs i) ≡ false))

abbrev pub Apart : List Slot → Type 0
Apart xs = (q : Bits) (i j : ℕ) → holds q (at xs i) ≡ true → holds q (at xs j) ≡ true → i ≡ j

abbrev pub row_content : List Slot → Content
row_content xs = record { map = told_in xs; held = used xs; limit = min (length xs) 1048576 }
