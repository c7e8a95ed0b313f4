-- Beginnings of rows. Assumes nothing.
use Rattle.std.proofs.Common.{◌≡◌, ℕ, zero, suc, ◌≤◌, true, false, [], ◌∷◌, ◌++◌, length, take, drop, refl, arith}
use Rattle.bits.specs.Rows.{Bits, same, begins}

pub begins_self : (p : Bits) → begins p p ≡ true
begins_self [] = refl
begins_self (true ∷ p) = begins_self p
begins_self (false ∷ p) = begins_self p

pub begins_same : (q p : Bits) → same p q ≡ true → begins q p ≡ true
begins_same [] p h = refl
begins_same (b ∷ q) p h = let ih = begins_same q in grind arith

pub begins_length : (p q : Bits) → begins p q ≡ true → length p ≤ length q
begins_length [] q h = omega arith
begins_length (b ∷ p) q h = let ih = begins_length p in grind arith

pub begins_trans : (p q r : Bits) → begins p q ≡ true → begins q r ≡ true → begins p r ≡ true
begins_trans [] q r h k = refl
begins_trans (b ∷ p) q r h k = let ih = begins_trans p in grind arith

pub begins_join : (q w : Bits) → begins q (q ++ w) ≡ true
begins_join [] w = refl
begins_join (true ∷ q) w = begins_join q w
begins_join (false ∷ q) w = begins_join q w

-- a beginning of a beginning
pub begins_shorter : (q r p : Bits) → begins (q ++ r) p ≡ true → begins q p ≡ true
begins_shorter [] r p h = refl
begins_shorter (b ∷ q) r p h = let ih = begins_shorter q in grind arith

pub begins_one_side : (q p : Bits) → begins (q ++ (false ∷ [])) p ≡ true → begins (q ++ (true ∷ [])) p ≡ true → ⊥
begins_one_side [] p h k = grind arith
begins_one_side (b ∷ q) p h k = let ih = begins_one_side q in grind arith

pub take_begins : (k : ℕ) (q : Bits) → begins (take k q) q ≡ true
take_begins zero q = refl
take_begins (suc k) q = let ih = take_begins k in grind arith

pub begins_take : (p q : Bits) → begins p q ≡ true → p ≡ take (length p) q
begins_take [] q h = refl
begins_take (b ∷ p) q h = let ih = begins_take p in grind arith

-- what begins with q is q and a rest
pub begins_rest : (q p : Bits) → begins q p ≡ true → p ≡ q ++ drop (length q) p
begins_rest [] p h = refl
begins_rest (b ∷ q) p h = let ih = begins_rest q in grind arith

pub drop_join : (q w : Bits) → drop (length q) (q ++ w) ≡ w
drop_join [] w = refl
drop_join (b ∷ q) w = drop_join q w

pub begins_cancel : (q p u : Bits) → begins (q ++ p) (q ++ u) ≡ begins p u
begins_cancel [] p u = refl
begins_cancel (true ∷ q) p u = begins_cancel q p u
begins_cancel (false ∷ q) p u = begins_cancel q p u
