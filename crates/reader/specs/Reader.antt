-- What a reader of images holds and answers. Assumes nothing.
--   image_of r              the image that the reader r holds
--   no_image                what an empty reader holds: an image with no vertex
--   SetsUp e m s V i j r    what setting a reader up with the rows e and m, the stride s and V vertices answers and leaves, i before and j after
--   Walked i a c r          r is what walking the image i by the address a answers, where c is what the leaf store holds
use Rattle.std.specs.Prelude.{◌≡◌, ℕ, List, [], take, Some, None, Result, MatchResult}
use Rattle.bits.specs.Rows.{Bits}
use Rattle.refusal.specs.declared.Refusal.{Refusal}
use Rattle.refusal.specs.declared.Refusal.TheVariants.{ImageBroken}
use Rattle.store.specs.Content.{Told, Content}
use Rattle.image.specs.Image.{Image, image_walk}
use Rattle.reader.specs.Rows.{rows_refusal}
use Rattle.reader.specs.declared.reader.Reader.{Reader}

abbrev pub image_of : Reader → Image
image_of r = record { edges = r.edges.now; marks = r.marks.now; stride = r.stride.bits; vertices = r.vertices }

abbrev pub no_image : Image
no_image = record { edges = []; marks = []; stride = 1; vertices = 0 }

abbrev pub SetsUp : List ℕ → List ℕ → ℕ → ℕ → Image → Image → Result (Unit {0}) Refusal → Type 0
SetsUp edges marks s V i j r = MatchResult r
    (λ _. (rows_refusal edges marks s V ≡ None) × (j ≡ record { edges = edges; marks = marks; stride = s; vertices = V }))
    (λ e. (rows_refusal edges marks s V ≡ Some e) × (j ≡ i))

-- the leaf's length, and the entry of the address's first so many bits
abbrev pub Walked : Image → Bits → Content → Result (ℕ × Told) Refusal → Type 0
Walked i a leaves r = MatchResult r
    (λ x. (image_walk i a ≡ Some x.0) × (x.1 ≡ leaves.map (take x.0 a)))
    (λ e. (image_walk i a ≡ None) × (e ≡ ImageBroken))
