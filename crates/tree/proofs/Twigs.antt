-- The leaves below a node, and what the leaves are once the tree has grown below one of them. Assumes nothing.
use Rattle.std.proofs.Common.{◌≡◌, suc, ◌-◌, Bool, true, false, not, ◌&&◌, ◌||◌, ◌⊎◌, ◌↔◌, [], ◌∷◌, ◌++◌, length, drop, sym, refl, ap, ◌∙◌, ap₂, inl, inr, append_assoc, arith, length-append}
use mathlib.Core.Logic.{∥∥₁_elim}
use mathlib.Core.List.{Mem, Mem-prop}
use Rattle.std.proofs.lemmas.Bool.{true≢false, and_parts, and_from}
use Rattle.bits.specs.Lists.{any}
use Rattle.bits.specs.Rows.{Bits, same, begins}
use Rattle.tree.specs.Tree.{Shape, leaf, fork, has_node, shape_at, grown, leaves}
use Rattle.tree.specs.Changes.{twigs}
use Rattle.tree.specs.HopLaws.{BesideWay}
use Rattle.bits.proofs.Members.{any_join, has_row}
use Rattle.bits.proofs.Begins.{begins_join, begins_rest, begins_cancel, drop_join}
use Rattle.tree.proofs.Above.{over}
use Rattle.tree.proofs.Leaves.{ends_at}

same_end : (q u : Bits) → same u q ≡ (begins q u && ends_at leaf (drop (length q) u))
same_end [] u = grind arith
same_end (b ∷ q) [] = refl
same_end (b ∷ q) (c ∷ u) = let ih = same_end q u in grind arith

one_down : (a b : Shape) (q u : Bits)
    → ((begins (q ++ (false ∷ [])) u && ends_at a (drop (length (q ++ (false ∷ []))) u)) || (begins (q ++ (true ∷ [])) u && ends_at b (drop (length (q ++ (true ∷ []))) u)))
    ≡ (begins q u && ends_at (fork a b) (drop (length q) u))
one_down a b [] u = grind arith
one_down a b (c ∷ q) [] = refl
one_down a b (true ∷ q) (true ∷ u) = one_down a b q u
one_down a b (false ∷ q) (false ∷ u) = one_down a b q u
one_down a b (true ∷ q) (false ∷ u) = refl
one_down a b (false ∷ q) (true ∷ u) = refl

-- a leaf of the tree below q is q and a leaf's row of that tree
pub leaf_below : (t : Shape) (q u : Bits) → any (same u) (leaves t q) ≡ (begins q u && ends_at t (drop (length q) u))
leaf_below leaf q u = let e = same_end q u in grind arith
leaf_below (fork a b) q u =
    any_join (same u) (leaves a (q ++ (false ∷ []))) (leaves b (q ++ (true ∷ [])))
    ∙ ap (λ x. x || any (same u) (leaves b (q ++ (true ∷ [])))) (leaf_below a (q ++ (false ∷ [])) u)
    ∙ ap (λ x. (begins (q ++ (false ∷ [])) u && ends_at a (drop (length (q ++ (false ∷ []))) u)) || x) (leaf_below b (q ++ (true ∷ [])) u)
    ∙ one_down a b q u

pub listed_below : (t : Shape) (q u : Bits) → Mem u (leaves t q) ↔ ((begins q u && ends_at t (drop (length q) u)) ≡ true)
listed_below t q u = (λ m. sym (leaf_below t q u) ∙ (has_row u _).0 m, λ h. (has_row u _).1 (leaf_below t q u ∙ h))

-- below a node the leaves are those of the tree there
pub ends_below : (t : Shape) (p v : Bits) → has_node t p ≡ true → ends_at t (p ++ v) ≡ ends_at (shape_at t p) v
ends_below t [] v n = refl
ends_below leaf (c ∷ p) v n = absurd (true≢false (sym n))
ends_below (fork a b) (true ∷ p) v n = ends_below b p v n
ends_below (fork a b) (false ∷ p) v n = ends_below a p v n

-- no leaf begins with another
pub leaf_one : (t : Shape) (v w : Bits) → ends_at t v ≡ true → ends_at t w ≡ true → begins w v ≡ true → v ≡ w
leaf_one leaf v w e f h = grind arith
leaf_one (fork a b) v w e f h = let left = leaf_one a in let right = leaf_one b in grind arith

-- a row is a node of the tree or lies below a leaf of it
pub node_or_leaf : (t : Shape) (p : Bits) → (has_node t p ≡ true) ⊎ ((q : Bits) × (ends_at t q ≡ true) × (over q p ≡ true))
node_or_leaf t [] = inl refl
node_or_leaf leaf (c ∷ p) = inr ([], refl, refl)
node_or_leaf (fork a b) (false ∷ p) = elim (node_or_leaf a p) [ inl h ↦ inl h | inr (q, e, o) ↦ inr (false ∷ q, e, o) ]
node_or_leaf (fork a b) (true ∷ p) = elim (node_or_leaf b p) [ inl h ↦ inl h | inr (q, e, o) ↦ inr (true ∷ q, e, o) ]

-- grown from the leaf q by the row w: the other leaves, and those of the new path
pub ends_grown : (q w : Bits) (t : Shape) (u : Bits) → ends_at t q ≡ true
    → ends_at (grown (q ++ w) t) u ≡ ((ends_at t u && not (same u q)) || (begins q u && ends_at (grown w leaf) (drop (length q) u)))
ends_grown [] w leaf u l = grind arith
ends_grown [] w (fork a b) u l = absurd (true≢false (sym l))
ends_grown (c ∷ q) w leaf u l = absurd (true≢false (sym l))
ends_grown (false ∷ q) w (fork a b) [] l = refl
ends_grown (true ∷ q) w (fork a b) [] l = refl
ends_grown (false ∷ q) w (fork a b) (false ∷ u) l = ends_grown q w a u l
ends_grown (false ∷ q) w (fork a b) (true ∷ u) l = grind arith
ends_grown (true ∷ q) w (fork a b) (true ∷ u) l = ends_grown q w b u l
ends_grown (true ∷ q) w (fork a b) (false ∷ u) l = grind arith

pub path_end : (w : Bits) → ends_at (grown w leaf) w ≡ true
path_end [] = refl
path_end (true ∷ w) = path_end w
path_end (false ∷ w) = path_end w

-- the leaves of a path: its end, and the sibling of each node on it
abbrev beside_path : Bits → Bits → Type 0
beside_path w x = (v : Bits) × (b : Bool) × (begins (v ++ (b ∷ [])) w ≡ true) × (x ≡ v ++ (not b ∷ []))

path_leaf : (w x : Bits) → ends_at (grown w leaf) x ≡ true → (x ≡ w) ⊎ beside_path w x
path_leaf [] [] e = inl refl
path_leaf [] (c ∷ x) e = absurd (true≢false (sym e))
path_leaf (false ∷ w) [] e = absurd (true≢false (sym e))
path_leaf (true ∷ w) [] e = absurd (true≢false (sym e))
path_leaf (false ∷ w) (false ∷ x) e = elim (path_leaf w x e) [ inl k ↦ inl (ap (λ r. false ∷ r) k) | inr (v, b, h, k) ↦ inr (false ∷ v, b, h, ap (λ r. false ∷ r) k) ]
path_leaf (true ∷ w) (true ∷ x) e = elim (path_leaf w x e) [ inl k ↦ inl (ap (λ r. true ∷ r) k) | inr (v, b, h, k) ↦ inr (true ∷ v, b, h, ap (λ r. true ∷ r) k) ]
path_leaf (false ∷ w) (true ∷ []) e = inr ([], false, refl, refl)
path_leaf (true ∷ w) (false ∷ []) e = inr ([], true, refl, refl)
path_leaf (false ∷ w) (true ∷ c ∷ x) e = absurd (true≢false (sym e))
path_leaf (true ∷ w) (false ∷ c ∷ x) e = absurd (true≢false (sym e))

leaf_path : (w v : Bits) (b : Bool) → begins (v ++ (b ∷ [])) w ≡ true → ends_at (grown w leaf) (v ++ (not b ∷ [])) ≡ true
leaf_path [] [] b h = absurd (true≢false (sym h))
leaf_path [] (c ∷ v) b h = absurd (true≢false (sym h))
leaf_path (false ∷ w) [] false h = refl
leaf_path (false ∷ w) [] true h = absurd (true≢false (sym h))
leaf_path (true ∷ w) [] true h = refl
leaf_path (true ∷ w) [] false h = absurd (true≢false (sym h))
leaf_path (false ∷ w) (false ∷ v) b h = leaf_path w v b h
leaf_path (true ∷ w) (true ∷ v) b h = leaf_path w v b h
leaf_path (false ∷ w) (true ∷ v) b h = absurd (true≢false (sym h))
leaf_path (true ∷ w) (false ∷ v) b h = absurd (true≢false (sym h))

pub twigs_are : (q p : Bits) → begins q p ≡ true → (u : Bits) → Mem u (twigs q p) ↔ ∥ ((u ≡ p) ⊎ BesideWay q p u) ∥₁
twigs_are q p f u = (λ m. ∣ forth ((listed_below (grown w leaf) q u).0 m) ∣₁, λ h. ∥∥₁_elim h Mem-prop back)
  where
    w : Bits
    w = drop (length q) p

    forth : (begins q u && ends_at (grown w leaf) (drop (length q) u)) ≡ true → (u ≡ p) ⊎ BesideWay q p u
    forth e =
        let parts = and_parts (begins q u) (ends_at (grown w leaf) (drop (length q) u)) e in
        let rest = begins_rest q u parts.0 in
        let whole = begins_rest q p f in
        elim (path_leaf w (drop (length q) u) parts.1) [
          | inl k ↦ inl (rest ∙ ap (λ r. q ++ r) k ∙ sym whole)
          | inr (v, b, h, k) ↦ inr (q ++ v, b, begins_join q v, ap₂ begins (append_assoc q v (b ∷ [])) whole ∙ begins_cancel q (v ++ (b ∷ [])) w ∙ h, rest ∙ ap (λ r. q ++ r) k ∙ sym (append_assoc q v (not b ∷ [])))
        ]

    back : (u ≡ p) ⊎ BesideWay q p u → Mem u (twigs q p)
    back (inl e) = rw e ((listed_below (grown w leaf) q p).1 (and_from _ _ f (path_end w)))
    back (inr (v, b, h, k, e)) =
        let x : Bits = drop (length q) v in
        let end : Bits = x ++ (not b ∷ []) in
        let row = begins_rest q v h in
        let there : u ≡ q ++ end = e ∙ ap (λ r. r ++ (not b ∷ [])) row ∙ append_assoc q x (not b ∷ []) in
        let on : begins (x ++ (b ∷ [])) w ≡ true = sym (begins_cancel q (x ++ (b ∷ [])) w) ∙ ap₂ begins (sym (ap (λ r. r ++ (b ∷ [])) row ∙ append_assoc q x (b ∷ []))) (sym (begins_rest q p f)) ∙ k in
        rw there ((listed_below (grown w leaf) q (q ++ end)).1 (and_from _ _ (begins_join q end) (ap (ends_at (grown w leaf)) (drop_join q end) ∙ leaf_path w x b on)))

path_number : (w q : Bits) → length (leaves (grown w leaf) q) ≡ suc (length w)
path_number [] q = refl
path_number (false ∷ w) q = length-append (leaves (grown w leaf) (q ++ (false ∷ []))) _ ∙ omega (arith, path_number w (q ++ (false ∷ [])))
path_number (true ∷ w) q = omega (arith, path_number w (q ++ (true ∷ [])))

pub twigs_number : (q p : Bits) → begins q p ≡ true → length (twigs q p) ≡ suc (length p - length q)
twigs_number q p f =
    let l = ap length (begins_rest q p f) ∙ length-append q (drop (length q) p) in
    omega (arith, path_number (drop (length q) p) q)
