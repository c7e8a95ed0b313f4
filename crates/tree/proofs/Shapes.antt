-- `alike` tells equality. Assumes nothing.
use Rattle.std.proofs.Common.{◌≡◌, true, ◌↔◌, refl, arith}
use Rattle.std.proofs.lemmas.Bool.{and_parts}
use Rattle.tree.specs.Tree.{Shape, leaf, fork, alike}
use Rattle.bits.proofs.Sets.{Equality, test_swap}

pub alike_self : (a : Shape) → alike a a ≡ true
alike_self leaf = refl
alike_self (fork a b) = let left = alike_self a in let right = alike_self b in grind arith

pub alike_sound : (a b : Shape) → alike a b ≡ true → a ≡ b
alike_sound leaf leaf h = refl
alike_sound leaf (fork c d) h = cc
alike_sound (fork a b) leaf h = cc
alike_sound (fork a b) (fork c d) h =
    let both = and_parts (alike a c) (alike b d) h in
    let left = alike_sound a c both.0 in
    let right = alike_sound b d both.1 in
    cc

pub alike_equality : Equality alike
alike_equality = record { sound = λ {x} {y} h. alike_sound x y h; self = alike_self }

pub alike_is : (s t : Shape) → (alike s t ≡ true) ↔ (s ≡ t)
alike_is s t = (alike_sound s t, λ e. rw (← e) (alike_self s))

-- a mirrored shape is another one, unless its sides are alike
pub mirrored : (s t : Shape) → alike (fork s t) (fork t s) ≡ alike s t
mirrored s t = let swap = test_swap alike_equality s t in grind arith
