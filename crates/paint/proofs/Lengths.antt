-- A child has one bit more, and no prefix has more than 128. Assumes nothing.
use Rattle.std.proofs.Common.{◌≡◌, ◌-◌, ◌<◌, ◌≤◌, Bool, true, false, [], ◌∷◌, ◌++◌, length, is_some, Some, None, Option, Bor, sym, ap, ◌∙◌, arith, length-append}
use Rattle.std.proofs.lemmas.Bool.Decides.{nat_tests}
use Rattle.bits.specs.Rows.{Bits}
use Rattle.net.specs.Prefix.{row_of}
use Rattle.net.specs.declared.prefix.Prefix.{Prefix}
use Rattle.net.proofs.Prefixes.{length_row}
use Rattle.paint.specs.Reach.{nameable, Names}

pub child_longer : (at below : Prefix) (b : Bool) → row_of below ≡ row_of at ++ (b ∷ []) → 128 - length (row_of below) < 128 - length (row_of at)
child_longer at below b is =
    let more = ap length is ∙ length-append (row_of at) (b ∷ []) in
    let long = length_row below in
    let short = below.short in
    omega arith

pub at_most : (at : Prefix) → length (row_of at) ≤ 128
at_most at = let long = length_row at in let short = at.short in omega arith

pub nameable_short : (q : Bits) → length q ≤ 128 → nameable q ≡ true
nameable_short q short = grind (arith, nat_tests)

pub nameable_long : (q : Bits) → 128 < length q → nameable q ≡ false
nameable_long q long = grind (arith, nat_tests)

pub nameable_row : (at : Prefix) → nameable (row_of at) ≡ true
nameable_row at = nameable_short (row_of at) (at_most at)

pub child_named : (at below : Prefix) (b : Bool) → row_of below ≡ row_of at ++ (b ∷ []) → nameable (row_of at ++ (b ∷ [])) ≡ true
child_named at below b is = ap nameable (sym is) ∙ nameable_row below

pub child_unnamed : (at : Prefix) (b : Bool) → length (row_of at) ≡ 128 → nameable (row_of at ++ (b ∷ [])) ≡ false
child_unnamed at b full = nameable_long (row_of at ++ (b ∷ [])) (omega (arith, length-append (row_of at) (b ∷ [])))

-- a prefix is there exactly where one can have the row
pub names_some : (o : Option (Bor Prefix)) (q : Bits) → Names o q → nameable q ≡ is_some o
names_some None q is = is
names_some (Some at) q is = ap nameable (sym is) ∙ nameable_row at.now
