-- The marks of a vertex, and the run of the edges that lead to one leaf. Assumes nothing.
use Rattle.std.proofs.Common.{◌≡◌, ℕ, suc, ◌+◌, ◌-◌, ◌*◌, ◌/◌, ◌%◌, ◌^◌, ◌<◌, ◌≤◌, Bool, false, eqb, ◌⊎◌, ◌↔◌, List, reverse, length, get_or, take, Some, None, sym, ap, ◌∙◌, subst, inl, inr, arith}
use mathlib.Core.Logic.{∥∥₁_elim, ∥∥₁_map}
use native.Mathlib.Nat.{ℕ_set}
use Rattle.std.proofs.lemmas.List.{length-reverse, get_or-reverse}
use Rattle.std.proofs.lemmas.Nat.{pow_pos, pow-add, shr_split, shr_below, mod_below, shr_high, mul-le, div_below, div-add-mod', div-mul-add}
use Rattle.bits.specs.Rows.{word}
use Rattle.bits.proofs.Words.{length_word, take_word, word_injective, bit_of_word}
use Rattle.tree.specs.Graph.{Edge, to, walk}
use Rattle.image.specs.Image.{edges_each, run, log2}
use Rattle.image.specs.Picture.{OneLeaf, Joined, mark, Marked}
use Rattle.image.proofs.Downs.{none_some, walk_within, walk_some, walk_front}
use Rattle.image.proofs.Runs.{RunFrom, run_is, log2_pow}

-- the marks of a vertex from edge 0 up, n of them
pub length_marks : (n m : ℕ) → length (reverse (word n m)) ≡ n
length_marks n m = length-reverse (word n m) ∙ length_word n m

pub mark_at : (n m e : ℕ) → e < n → get_or (reverse (word n m)) e false ≡ mark m e
mark_at n m e h =
    let w = length_word n m in
    let there : n - 1 - (n - 1 - e) ≡ e = omega arith in
    get_or-reverse (word n m) e false (omega arith) ∙ ap (λ k. get_or (word n m) (k - 1 - e) false) w ∙ bit_of_word n m (n - 1 - e) (omega arith) ∙ ap (λ k. eqb (m / 2 ^ k % 2) 1) there

-- the first j bits of an edge tell in which block of 2 ^ (s - j) edges it lies
first_bits : (s j n : ℕ) → j ≤ s → take j (word s n) ≡ word j (n / 2 ^ (s - j))
first_bits s j n h = let w : j + (s - j) ≡ s = omega arith in ap (λ k. take j (word k n)) (sym w) ∙ take_word j (s - j) n

same_bits : (s j e f : ℕ) → j ≤ s → e / 2 ^ (s - j) ≡ f / 2 ^ (s - j) → take j (word s e) ≡ take j (word s f)
same_bits s j e f h t = first_bits s j e h ∙ ap (word j) t ∙ sym (first_bits s j f h)

same_block : (s j e f : ℕ) → j ≤ s → e < 2 ^ s → f < 2 ^ s → take j (word s e) ≡ take j (word s f) → e / 2 ^ (s - j) ≡ f / 2 ^ (s - j)
same_block s j e f h p q t =
    let w : j + (s - j) ≡ s = omega arith in
    word_injective j _ _ (shr_below e j (s - j) (rw w p)) (shr_below f j (s - j) (rw w q)) (sym (first_bits s j e h) ∙ t ∙ first_bits s j f h)

-- the next number is in the same block unless a block begins with it
next_in_block : (e n : ℕ) → 0 < n → (suc e / n ≡ e / n) ↔ (suc e % n ≡ 0 → ⊥)
next_in_block e n some = (forth, back)
  where
    whole : suc e / n * n + suc e % n ≡ suc e
    whole = div-add-mod' (suc e) n

    forth : suc e / n ≡ e / n → suc e % n ≡ 0 → ⊥
    forth h z =
        let under : e / n * n + e % n ≡ e = div-add-mod' e n in
        let rows : suc e / n * n ≡ e / n * n = ap (λ k. k * n) h in
        omega (arith, whole)

    back : (suc e % n ≡ 0 → ⊥) → suc e / n ≡ e / n
    back h =
        let rest : suc e % n < n = mod_below (suc e) n some in
        let one_less : suc e / n * n + (suc e % n - 1) ≡ e = omega (arith, whole) in
        sym (ap (λ k. k / n) (sym one_less) ∙ div-mul-add (suc e / n) n (suc e % n - 1) (omega arith))

module _ (edge : ℕ → Bool → Edge) (s v : ℕ) where
  pub joined_swap : (e f : ℕ) → Joined edge s v e f → Joined edge s v f e
  joined_swap e f t = ∥∥₁_map t go
    where
      go : (e ≡ f) ⊎ ((d : ℕ) × OneLeaf edge s v e f d) → (f ≡ e) ⊎ ((d : ℕ) × OneLeaf edge s v f e d)
      go (inl h) = inl (sym h)
      go (inr (d, o)) = inr (d, record { first = o.second; second = o.first; bits = sym o.bits })

  -- an edge that goes on is a group alone
  pub alone : (e f : ℕ) → walk edge (to v) (word s e) ≡ None → Joined edge s v e f → e ≡ f
  alone e f none t = ∥∥₁_elim t (ℕ_set _ _) go
    where
      go : (e ≡ f) ⊎ ((d : ℕ) × OneLeaf edge s v e f d) → e ≡ f
      go (inl h) = h
      go (inr (d, o)) = absurd (none_some (sym none ∙ o.first))

  -- the group of an edge whose walk ends after j bits is its block of 2 ^ (s - j) edges
  module _ (e j : ℕ) (ends : walk edge (to v) (word s e) ≡ Some j) where
    abbrev block : ℕ
    block = 2 ^ (s - j)

    pub ends_within : j ≤ s
    ends_within = omega (arith, walk_within edge (to v) (word s e) j ends, length_word s e)

    pub ends_alike : (f : ℕ) → f / block ≡ e / block → walk edge (to v) (word s f) ≡ Some j
    ends_alike f h = walk_front edge (to v) (word s e) (word s f) j ends (same_bits s j e f ends_within (sym h))

    pub joined_in_block : (f : ℕ) → f / block ≡ e / block → Joined edge s v e f
    joined_in_block f h = ∣ inr (j, record { first = ends; second = ends_alike f h; bits = same_bits s j e f ends_within (sym h) }) ∣₁

    pub block_of_joined : (f : ℕ) → e < edges_each s → f < edges_each s → Joined edge s v e f → f / block ≡ e / block
    block_of_joined f p q t = ∥∥₁_elim t (ℕ_set _ _) go
      where
        go : (e ≡ f) ⊎ ((d : ℕ) × OneLeaf edge s v e f d) → f / block ≡ e / block
        go (inl h) = ap (λ k. k / block) (sym h)
        go (inr (d, o)) =
            let depth : d ≡ j = cc (o.first, ends) in
            sym (same_block s j e f ends_within p q (subst (λ k. take k (word s e) ≡ take k (word s f)) depth o.bits))

    -- so the next edge is of the same group unless it is the first of a block
    pub joined_next : suc e < edges_each s → Joined edge s v e (suc e) ↔ (suc e % block ≡ 0 → ⊥)
    joined_next h =
        let same_next = next_in_block e block (pow_pos (s - j)) in
        (λ t. same_next.0 (block_of_joined (suc e) (omega arith) h t), λ t. joined_in_block (suc e) (same_next.1 t))

  module _ (m : ℕ) (marked : Marked edge s v m) (e j : ℕ) (small : e < edges_each s) (ends : walk edge (to v) (word s e) ≡ Some j) where
    abbrev size : ℕ
    size = 2 ^ (s - j)

    abbrev low : ℕ
    low = e / size * size

    in_block : (f : ℕ) → low ≤ f → f < low + size → f / size ≡ e / size
    in_block f l h =
        let there : low + (f - low) ≡ f = omega arith in
        ap (λ k. k / size) (sym there) ∙ shr_high (e / size) (s - j) (f - low) (omega arith)

    -- neighbours have the same mark exactly if both or neither lie in the block
    same_inside : (f : ℕ) → suc f < edges_each s → f / size ≡ e / size → suc f / size ≡ e / size → mark m f ≡ mark m (suc f)
    same_inside f near p q = (marked.groups f near).1 (joined_in_block f j (ends_alike e j ends f p) (suc f) (q ∙ sym p))

    other_above : (f : ℕ) → suc f < edges_each s → f / size ≡ e / size → mark m f ≡ mark m (suc f) → suc f / size ≡ e / size
    other_above f near p t = block_of_joined f j (ends_alike e j ends f p) (suc f) (omega arith) near ((marked.groups f near).0 t) ∙ p

    other_below : (f : ℕ) → suc f < edges_each s → suc f / size ≡ e / size → mark m f ≡ mark m (suc f) → f / size ≡ e / size
    other_below f near p t = block_of_joined (suc f) j (ends_alike e j ends (suc f) p) f near (omega arith) (joined_swap f (suc f) ((marked.groups f near).0 t)) ∙ p

    abbrev marks : List Bool
    marks = reverse (word (edges_each s) m)

    fits : low + size ≤ edges_each s
    fits =
        let w : j + (s - j) ≡ s = omega (arith, ends_within e j ends) in
        let high : e / size < 2 ^ j = shr_below e j (s - j) (rw w small) in
        let all : 2 ^ s ≡ 2 ^ j * size = ap (λ k. 2 ^ k) (sym w) ∙ pow-add 2 j (s - j) in
        let most : suc (e / size) * size ≤ 2 ^ j * size = mul-le _ _ _ _ high (omega arith) in
        omega arith

    some : 0 < size
    some = pow_pos (s - j)

    seen : (f : ℕ) → suc f < edges_each s → get_or marks f false ≡ get_or marks (suc f) false → mark m f ≡ mark m (suc f)
    seen f near t = sym (mark_at (edges_each s) m f (omega arith)) ∙ t ∙ mark_at (edges_each s) m (suc f) near

    inside : (f : ℕ) → low ≤ f → suc f < low + size → get_or marks f false ≡ get_or marks (suc f) false
    inside f l h =
        let near : suc f < edges_each s = omega (arith, fits) in
        mark_at (edges_each s) m f (omega arith) ∙ same_inside f near (in_block f l (omega arith)) (in_block (suc f) (omega arith) h) ∙ sym (mark_at (edges_each s) m (suc f) near)

    above : (f : ℕ) → suc f ≡ low + size → low + size < length marks → get_or marks f false ≡ get_or marks (low + size) false → ⊥
    above f h w t =
        let near : suc f < edges_each s = omega (arith, simp length_marks at w) in
        let next : suc f ≡ suc (e / size) * size + 0 = omega arith in
        let past : suc f / size ≡ suc (e / size) = ap (λ k. k / size) next ∙ shr_high (suc (e / size)) (s - j) 0 some in
        let back = other_above f near (in_block f (omega (arith, some)) (omega arith)) (seen f near (rw h t)) in
        omega arith

    below : (f : ℕ) → suc f ≡ low → get_or marks f false ≡ get_or marks low false → ⊥
    below f h t =
        let near : suc f < edges_each s = omega (arith, fits, some) in
        let before : f / size < e / size = div_below f size (e / size) some (omega arith) in
        let back = other_below f near (in_block (suc f) (omega arith) (omega (arith, some))) (seen f near (rw h t)) in
        omega arith

    run_of_block : RunFrom marks low (low + size)
    run_of_block = record { within = rw length_marks fits; inside = inside; above = above; below = below }

    -- so the run of an edge whose walk ends after j bits tells j
    pub log2_run : log2 s (run marks e) ≡ Some (s - j)
    log2_run =
        let split = shr_split e (s - j) in
        let rest = mod_below e size some in
        let least = walk_some edge v (word s e) j ends in
        let long : run marks e ≡ size = run_is run_of_block e (omega arith) (omega arith) ∙ (omega arith) in
        ap (log2 s) long ∙ log2_pow s (s - j) (omega (arith, ends_within e j ends))
