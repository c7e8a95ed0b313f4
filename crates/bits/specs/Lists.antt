-- Lists with a test on their members, and lists as sets. Assumes nothing.
--   any t xs          some member passes
--   only t xs         the members that pass, in their order
--   count t xs        how many members pass
--   different t xs    how many different members the list has, where t tells sameness
use Rattle.std.specs.Prelude.{ℕ, ◌+◌, Bool, true, false, cond, ◌||◌, List, [], ◌∷◌}

abbrev pub any : {A : Type 0} → (A → Bool) → List A → Bool
any t [] = false
any t (x ∷ xs) = t x || any t xs

abbrev pub only : {A : Type 0} → (A → Bool) → List A → List A
only t [] = []
only t (x ∷ xs) = elim (t x) [ true ↦ x ∷ only t xs | false ↦ only t xs ]

abbrev pub count : {A : Type 0} → (A → Bool) → List A → ℕ
count t [] = 0
count t (x ∷ xs) = cond (t x) 1 0 + count t xs

abbrev pub different : {A : Type 0} → (A → A → Bool) → List A → ℕ
different t [] = 0
different t (x ∷ xs) = cond (any (t x) xs) 0 1 + different t xs
