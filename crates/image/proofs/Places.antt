-- Members of a list by their places. Assumes nothing.
use Rattle.std.proofs.Common.{◌≡◌, ℕ, zero, suc, ◌<◌, List, [], ◌∷◌, length, get_or, refl, ap, arith}
use mathlib.Core.List.{Mem, Nodup, Nodup-cons, mem-cons_self, mem-cons_of_mem}

pub member_at : {A : Type 0} (xs : List A) (k : ℕ) (d : A) → k < length xs → Mem (get_or xs k d) xs
member_at [] k d h = absurd (omega arith)
member_at (x ∷ xs) zero d h = mem-cons_self
member_at (x ∷ xs) (suc k) d h = mem-cons_of_mem x (member_at xs k d (omega arith))

-- a list with each member once has different ones at different places
pub same_place : {A : Type 0} (xs : List A) (d : A) → Nodup xs → (j k : ℕ) → j < length xs → k < length xs → get_or xs j d ≡ get_or xs k d → j ≡ k
same_place [] d once j k p q h = absurd (omega arith)
same_place (x ∷ xs) d once zero zero p q h = refl
same_place (x ∷ xs) d once zero (suc k) p q h = absurd ((Nodup-cons.0 once).0 (rw h (member_at xs k d (omega arith))))
same_place (x ∷ xs) d once (suc j) zero p q h = absurd ((Nodup-cons.0 once).0 (rw (← h) (member_at xs j d (omega arith))))
same_place (x ∷ xs) d once (suc j) (suc k) p q h = ap suc (same_place xs d (Nodup-cons.0 once).1 j k (omega arith) (omega arith) h)
