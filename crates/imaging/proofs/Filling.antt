-- Drawing the edges of a vertex, and all vertices. Assumes nothing.
use Rattle.std.proofs.Common.{◌≡◌, ℕ, ◌+◌, ◌-◌, ◌*◌, ◌<◌, ◌≤◌, List, length, get_or, take, drop, set, sym, refl, ap, ◌∙◌, subst, ⊎_elim, mul_comm, add-mul, arith}
use borrow.Rule.Slice.PartMut.{put_mid}
use Rattle.std.proofs.lemmas.List.{get_or-set_same, get_or-set_other, get_or-take, get_or-append_right, length-take-le, drop-set-lt, drop-drop}
use Rattle.std.proofs.lemmas.Slice.{take-put_mid_below, take-put_mid, drop-put_mid}
use Rattle.std.proofs.lemmas.Nat.{mul-add-lt, mul-le}
use Rattle.std.proofs.lemmas.Bool.{cases_lt}
use Rattle.bits.specs.Rows.{word}
use Rattle.tree.specs.Graph.{to}
use Rattle.graph.specs.View.{out}
use Rattle.graph.specs.declared.vertex.Vertex.{Vertex}
use Rattle.image.specs.Image.{edges_each}
use Rattle.image.specs.Picture.{down, Marked}
use Rattle.imaging.specs.Vertices.{number_of, Drawn}
use Rattle.imaging.specs.declared.numbering.Numbering.{Numbering}

-- the edges below k of a vertex stand
pub record DrawnTo (xs : List Vertex) (ns : List ℕ) (s v k : ℕ) (es : List ℕ) : Type 0 where
  pub edges : (e : ℕ) → e < k → get_or es e 0 ≡ number_of ns (down (out xs) (to v) (word s e))
  pub long : length es ≡ edges_each s

-- the same behind, some places on
behind_more : (n m : ℕ) (fs es : List ℕ) → drop n fs ≡ drop n es → drop (n + m) fs ≡ drop (n + m) es
behind_more n m fs es h = sym (drop-drop m n fs) ∙ ap (drop m) h ∙ drop-drop m n es

-- the vertices with the numbers 1 to x stand
pub record Filled (xs : List Vertex) (n : Numbering) (s x : ℕ) (es fs ms ns : List ℕ) : Type 0 where
  pub edges : (y e : ℕ) → y < x → e < edges_each s → get_or fs (y * edges_each s + e) 0 ≡ number_of n.numbers (down (out xs) (to (get_or n.slots.items y 0)) (word s e))
  pub marks : (y : ℕ) → y < x → Marked (out xs) s (get_or n.slots.items y 0) (get_or ns y 0)
  pub edges_behind : drop (x * edges_each s) fs ≡ drop (x * edges_each s) es
  pub marks_behind : drop x ns ≡ drop x ms

-- the next vertex has room where all have
pub vertex_room : (x count k s len : ℕ) → x < count → k ≡ edges_each s → count * edges_each s ≤ len → x * k + edges_each s ≤ len
vertex_room x count k s len less is all =
    let here : x * k ≡ x * edges_each s = ap (λ j. x * j) is in
    omega (arith, mul-le (x + 1) (edges_each s) count (edges_each s) (omega arith) (omega arith), add-mul x 1 (edges_each s))

-- one vertex more: its edges vs stand in k places from place a on
module _ {xs : List Vertex} {n : Numbering} {s x : ℕ} {es fs ms ns : List ℕ} (h : Filled xs n s x es fs ms ns) where
  module _ (a k : ℕ) (vs : List ℕ) (from : a ≡ x * edges_each s) (each : k ≡ edges_each s) (room : a + k ≤ length fs) (whole : length vs ≡ k) where
    before : take a (put_mid a k fs vs) ≡ take a fs
    before = take-put_mid_below a k fs vs a (omega arith) (omega arith)

    there : (e : ℕ) → e < edges_each s → get_or (put_mid a k fs vs) (a + e) 0 ≡ get_or vs e 0
    there e less =
        let within : a + e < a + length vs = omega arith in
        let back : a + e - a ≡ e = omega arith in
        sym (get_or-take (a + length vs) (put_mid a k fs vs) (a + e) 0 within) ∙ ap (λ l. get_or l (a + e) 0) (take-put_mid a k fs vs (a + length vs) refl (omega arith)) ∙
        get_or-append_right (take a fs) vs a (a + e) 0 (length-take-le a fs (omega arith)) (omega arith) ∙ ap (λ j. get_or vs j 0) back

    -- what stood before it stays
    earlier : (y e : ℕ) → y < x → e < edges_each s → get_or (put_mid a k fs vs) (y * edges_each s + e) 0 ≡ get_or fs (y * edges_each s + e) 0
    earlier y e less f =
        let under : y * edges_each s + e < a = omega (arith, mul-add-lt y (edges_each s) e x less f, mul_comm x (edges_each s)) in
        sym (get_or-take a (put_mid a k fs vs) (y * edges_each s + e) 0 under) ∙ ap (λ l. get_or l (y * edges_each s + e) 0) before ∙ get_or-take a fs (y * edges_each s + e) 0 under

    next : (x + 1) * edges_each s ≡ a + k
    next = omega (arith, add-mul x 1 (edges_each s))

    behind : drop ((x + 1) * edges_each s) (put_mid a k fs vs) ≡ drop ((x + 1) * edges_each s) es
    behind =
        ap (λ j. drop j (put_mid a k fs vs)) next ∙ drop-put_mid a k fs vs (a + k) (omega arith) (omega arith) whole ∙
        behind_more a k fs es (ap (λ j. drop j fs) from ∙ h.edges_behind ∙ ap (λ j. drop j es) (sym from)) ∙ ap (λ j. drop j es) (sym next)

    pub filled_more : {v m : ℕ} → x < length ns → v ≡ get_or n.slots.items x 0 → Drawn xs n.numbers s v vs → Marked (out xs) s v m → Filled xs n s (x + 1) es (put_mid a k fs vs) ms (set ns x m)
    filled_more {v} {m} small is drawn marked = record {
      edges = λ y e l f. ⊎_elim (λ (less : y < x). earlier y e less f ∙ h.edges y e less f) (λ (past : x ≤ y). let same : x ≡ y = omega arith in
          subst (λ j. get_or (put_mid a k fs vs) (j * edges_each s + e) 0 ≡ number_of n.numbers (down (out xs) (to (get_or n.slots.items j 0)) (word s e))) same
          (ap (λ j. get_or (put_mid a k fs vs) (j + e) 0) (sym from) ∙ there e f ∙ drawn e f ∙ ap (λ j. number_of n.numbers (down (out xs) (to j) (word s e))) is)) (cases_lt y x);
      marks = λ y l. ⊎_elim
          (λ (less : y < x). subst (Marked (out xs) s (get_or n.slots.items y 0)) (sym (get_or-set_other ns x y m 0 (omega arith))) (h.marks y less))
          (λ (past : x ≤ y). let same : x ≡ y = omega arith in
          subst (λ j. Marked (out xs) s (get_or n.slots.items j 0) (get_or (set ns x m) j 0)) same
          (subst (λ j. Marked (out xs) s (get_or n.slots.items x 0) j) (sym (get_or-set_same ns x m 0 small)) (subst (λ j. Marked (out xs) s j m) is marked)))
          (cases_lt y x);
      edges_behind = behind;
      marks_behind = drop-set-lt (x + 1) ns x m (omega arith) ∙ behind_more x 1 ns ms h.marks_behind;
    }
