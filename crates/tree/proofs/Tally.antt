-- How many leaves of a tree pass a test, from the top down. Assumes nothing.
use Rattle.std.proofs.Common.{◌≡◌, ℕ, suc, ◌+◌, Bool, true, false, cond, not, ◌||◌, [], ◌∷◌, ◌++◌, length, sym, refl, ap, ◌∙◌, inl, inr, append_assoc, append-nil, arith}
use Rattle.std.proofs.lemmas.Bool.{true≢false, cases_Bool}
use Rattle.bits.specs.Lists.{count}
use Rattle.bits.specs.Rows.{Bits, begins}
use Rattle.tree.specs.Tree.{Shape, leaf, fork, has_node, shape_at, grown, leaves}
use Rattle.tree.specs.Changes.{below, unless, painted}
use Rattle.bits.proofs.Members.{count_join}
use Rattle.tree.proofs.Leaves.{ends_at}

abbrev pub tally : (Bits → Bool) → Shape → ℕ
tally f leaf = cond (f []) 1 0
tally f (fork a b) = tally (below false f) a + tally (below true f) b

pub tally_like : (f g : Bits → Bool) → ((u : Bits) → f u ≡ g u) → (t : Shape) → tally f t ≡ tally g t
tally_like f g h leaf = rw (h [])
tally_like f g h (fork a b) = cc (tally_like (below false f) (below false g) (λ u. h (false ∷ u)) a, tally_like (below true f) (below true g) (λ u. h (true ∷ u)) b)

pub count_leaves : (f : Bits → Bool) (t : Shape) (q : Bits) → count f (leaves t q) ≡ tally (λ u. f (q ++ u)) t
count_leaves f leaf q = let e = ap f (append-nil q) in grind arith
count_leaves f (fork a b) q =
    let both = count_join f (leaves a (q ++ (false ∷ []))) (leaves b (q ++ (true ∷ []))) in
    let left = count_leaves f a (q ++ (false ∷ [])) ∙ moved false a in
    let right = count_leaves f b (q ++ (true ∷ [])) ∙ moved true b in
    omega arith
  where
    moved : (c : Bool) (t : Shape) → tally (λ u. f ((q ++ (c ∷ [])) ++ u)) t ≡ tally (λ u. f (q ++ (c ∷ u))) t
    moved c t = tally_like _ _ (λ u. ap f (append_assoc q (c ∷ []) u)) t

tally_none : (f : Bits → Bool) → ((u : Bits) → f u ≡ false) → (t : Shape) → tally f t ≡ 0
tally_none f h leaf = rw (h [])
tally_none f h (fork a b) = omega (arith, tally_none (below false f) (λ u. h (false ∷ u)) a, tally_none (below true f) (λ u. h (true ∷ u)) b)

tally_all : (f : Bits → Bool) (t : Shape) → tally (λ u. f u || true) t ≡ tally f t + tally (λ u. not (f u)) t
tally_all f leaf = grind arith
tally_all f (fork a b) = omega (arith, tally_all (below false f) a, tally_all (below true f) b)

off_way : (f : Bits → Bool) (p : Bits) (c : Bool) (t : Shape) → tally (λ u. f (not c ∷ u) || begins (c ∷ p) (not c ∷ u)) t ≡ tally (λ u. f (not c ∷ u)) t
off_way f p true t = tally_like _ _ (λ u. grind arith) t
off_way f p false t = tally_like _ _ (λ u. grind arith) t

-- the leaves that pass f or lie below a node p: those that pass f, and those below p that do not
pub node_tally : (p : Bits) (t : Shape) (f : Bits → Bool) → has_node t p ≡ true → tally (λ u. f u || begins p u) t ≡ tally f t + tally (λ u. not (f (p ++ u))) (shape_at t p)
node_tally [] t f n = tally_all f t
node_tally (c ∷ p) leaf f n = absurd (true≢false (sym n))
node_tally (false ∷ p) (fork a b) f n = omega (arith, node_tally p a (below false f) n, off_way f p false b)
node_tally (true ∷ p) (fork a b) f n = omega (arith, node_tally p b (below true f) n, off_way f p true a)

-- those that lie on a new path below a leaf
chain : (w : Bits) (f : Bits → Bool) (c : Bool) → ((u : Bits) → f u ≡ c) → tally (λ u. f u || begins w u) (grown w leaf) ≡ cond c (suc (length w)) 1
chain [] f c h = let e = h [] in grind arith
chain (false ∷ w) f c h = let ih = chain w (below false f) c (λ u. h (false ∷ u)) in let e = h (true ∷ []) in grind arith
chain (true ∷ w) f c h = let ih = chain w (below true f) c (λ u. h (true ∷ u)) in let e = h (false ∷ []) in grind arith

pub below_tally : (q w : Bits) (t : Shape) (f : Bits → Bool) (c : Bool) → ends_at t q ≡ true → ((u : Bits) → f (q ++ u) ≡ c)
    → tally (λ u. f u || begins (q ++ w) u) (grown (q ++ w) t) + cond c 1 0 ≡ tally f t + cond c (suc (length w)) 1
below_tally [] w leaf f c l h = let e = h [] in let k = chain w f c h in grind arith
below_tally [] w (fork a b) f c l h = absurd (true≢false (sym l))
below_tally (d ∷ q) w leaf f c l h = absurd (true≢false (sym l))
below_tally (false ∷ q) w (fork a b) f c l h = omega (arith, below_tally q w a (below false f) c l (λ u. h u), off_way f (q ++ w) false b)
below_tally (true ∷ q) w (fork a b) f c l h = omega (arith, below_tally q w b (below true f) c l (λ u. h u), off_way f (q ++ w) true a)

-- painted leaves that pass f, where nothing below a node with a route passes it
pub painted_count : (own f : Bits → Bool) → ((v u : Bits) → own v ≡ true → f (v ++ u) ≡ false) → (t : Shape) (q : Bits) → count f (painted own t q) ≡ count f (leaves t q)
unfolding painted
painted_count own f h leaf q = refl
painted_count own f h (fork a b) q =
    count_join f (unless (own (q ++ (false ∷ []))) (painted own a (q ++ (false ∷ [])))) _
    ∙ omega (arith, side (q ++ (false ∷ [])) a (painted_count own f h a _), side (q ++ (true ∷ [])) b (painted_count own f h b _), count_join f (leaves a (q ++ (false ∷ []))) (leaves b (q ++ (true ∷ []))))
  where
    side : (v : Bits) (t : Shape) → count f (painted own t v) ≡ count f (leaves t v) → count f (unless (own v) (painted own t v)) ≡ count f (leaves t v)
    side v t ih = elim (cases_Bool (own v)) [
      | inl k ↦ rw k (sym (count_leaves f t v ∙ tally_none _ (λ u. h v u k) t))
      | inr k ↦ rw k ih
    ]
