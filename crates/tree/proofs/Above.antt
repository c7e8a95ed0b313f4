-- A node above another, by a test that goes down both rows. Assumes nothing.
use Rattle.std.proofs.Common.{◌≡◌, Bool, true, false, ◌&&◌, [], ◌∷◌, ap, arith}
use mathlib.Core.Path.{fun_ext}
use mathlib.Core.Bool.{beq}
use Rattle.std.proofs.lemmas.Bool.Decides.{nat_tests}
use Rattle.bits.specs.Lists.{any}
use Rattle.bits.specs.Rows.{Bits}
use Rattle.tree.specs.Tree.{Routes, above, branching}

abbrev pub over : Bits → Bits → Bool
over q [] = false
over [] (c ∷ p) = true
over (b ∷ q) (c ∷ p) = beq b c && over q p

pub above_is : (q p : Bits) → above q p ≡ over q p
above_is q [] = grind (arith, nat_tests)
above_is [] (c ∷ p) = grind (arith, nat_tests)
above_is (b ∷ q) (c ∷ p) = let ih = above_is q p in grind (arith, nat_tests)

pub branching_is : (rs : Routes) (q : Bits) → branching rs q ≡ any (λ r. over q r.at) rs
branching_is rs q = ap (λ t. any t rs) (fun_ext (λ r. above_is q r.at))
