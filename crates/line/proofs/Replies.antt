-- What a reply says, piece by piece. Assumes nothing.
use Rattle.std.proofs.Common.{◌≡◌, ℕ, ◌+◌, ◌^◌, ◌<◌, ◌≤◌, List, [], ◌∷◌, ◌++◌, length, codes, decimal, ap, ◌∙◌, arith, length-append}
use Rattle.std.proofs.lemmas.Fmt.{length-decimal-le}
use Rattle.refusal.specs.Numbers.{number_of}
use Rattle.refusal.specs.declared.Refusal.{Refusal}
use Rattle.refusal.specs.declared.Refusal.TheVariants.{Length, HostBits, Hop, Unknown, RoutesFull, LeavesFull, VerticesFull, StoreFull, Stride, ImageRows, ImageBroken, Line, Field, AnswerRow}
use Rattle.tree.specs.Ledger.{Answer, changed, hop, none, counts, refused}
pub use Rattle.line.proofs.Held.{digits_few}
use Rattle.line.specs.Reply.{column_of, said, written, Few, labelled}

pub labelled_few : (w : List ℕ) (n : ℕ) → n < 2 ^ 64 → length (labelled w n) ≤ length w + 20
labelled_few w n h = let e : length (labelled w n) ≡ length w + length (decimal n) = length-append w (decimal n) in omega (arith, digits_few n h)

-- how long an answer's words are at most
pub length_labelled : (w : List ℕ) (n : ℕ) → length (labelled w n) ≡ length w + length (decimal n)
length_labelled w n = length-append w (decimal n)

numbers_short : (r : Refusal) → length (decimal (number_of r)) ≤ 2
numbers_short r = length-decimal-le 2 (number_of r) (omega arith) (omega (arith, small r)) (omega (arith, small r))
  where
    small : (r : Refusal) → number_of r ≤ 14
    small Length = omega arith
    small HostBits = omega arith
    small Hop = omega arith
    small Unknown = omega arith
    small RoutesFull = omega arith
    small LeavesFull = omega arith
    small VerticesFull = omega arith
    small StoreFull = omega arith
    small Stride = omega arith
    small ImageRows = omega arith
    small ImageBroken = omega arith
    small Line = omega arith
    small (Field column) = omega arith
    small AnswerRow = omega arith

three : (a b c : List ℕ) → length (a ++ (b ++ c)) ≡ length a + (length b + length c)
three a b c = length-append a (b ++ c) ∙ ap (λ n. length a + n) (length-append b c)

pub said_room : (x : Answer) → Few x → length (said x) + 1 ≤ 81
said_room (changed n) f = omega (arith, length_labelled (codes "ok,") n)
said_room (hop h) f = omega (arith, length_labelled (codes "hop,") h)
said_room none f = omega arith
said_room (counts a b d) f =
    omega (arith, three (labelled (codes "count,") a) (labelled (codes ",") b) (labelled (codes ",") d), length_labelled (codes "count,") a, length_labelled (codes ",") b, length_labelled (codes ",") d, f.0, f.1, f.2)
said_room (refused r) f =
    omega (arith, length-append (labelled (codes "no,") (number_of r)) (labelled (codes ",") (column_of r)), length_labelled (codes "no,") (number_of r), length_labelled (codes ",") (column_of r), numbers_short r)

-- the numbers that a count tells
pub record Within (routes leaves vertices : ℕ) : Type 0 where
  pub few_routes : routes ≤ 16777216
  pub few_leaves : leaves ≤ 16777216
  pub few_vertices : vertices ≤ 2048

abbrev pub Counted : Answer → Type 0
Counted (changed n) = Unit {0}
Counted (hop h) = Unit {0}
Counted none = Unit {0}
Counted (counts a b d) = Within a b d
Counted (refused r) = Unit {0}

pub written_short : (x : Answer) → Few x → Counted x → length (written x) ≤ 40
written_short (changed n) f k = omega (arith, length-append (said (changed n)) (10 ∷ []), length_labelled (codes "ok,") n)
written_short (hop h) f k = omega (arith, length-append (said (hop h)) (10 ∷ []), length_labelled (codes "hop,") h)
written_short none f k = omega arith
written_short (counts a b d) f k =
    let da : length (decimal a) ≤ 8 = length-decimal-le 8 a (omega arith) (omega (arith, k.few_routes)) (omega (arith, k.few_routes)) in
    let db : length (decimal b) ≤ 8 = length-decimal-le 8 b (omega arith) (omega (arith, k.few_leaves)) (omega (arith, k.few_leaves)) in
    let dd : length (decimal d) ≤ 4 = length-decimal-le 4 d (omega arith) (omega (arith, k.few_vertices)) (omega (arith, k.few_vertices)) in
    omega (arith, length-append (said (counts a b d)) (10 ∷ []), three (labelled (codes "count,") a) (labelled (codes ",") b) (labelled (codes ",") d), length_labelled (codes "count,") a, length_labelled (codes ",") b, length_labelled (codes ",") d)
written_short (refused r) f k =
    omega (arith, length-append (said (refused r)) (10 ∷ []), length-append (labelled (codes "no,") (number_of r)) (labelled (codes ",") (column_of r)), length_labelled (codes "no,") (number_of r), length_labelled (codes ",") (column_of r), numbers_short r)
