-- Drawing the graph anew, by what growing, pruning and freeing do to the slots. Assumes nothing.
use Rattle.std.proofs.Common.{◌≡◌, ℕ, ◌-◌, List, length, Ok, Err, refl, ap, ◌∙◌, arith}
use Rattle.refusal.specs.declared.Refusal.{Refusal}
use Rattle.tree.specs.Tree.{Shape, shapes}
use Rattle.tree.proofs.Shapes.{alike_equality}
use Rattle.bits.proofs.Sets.{different_append}
use Rattle.graph.specs.Slots.{Sound, in_use}
use Rattle.graph.specs.Keep.{KeptFrom}
use Rattle.graph.specs.declared.edge.Edge.{Edge}
use Rattle.graph.specs.declared.vertex.Vertex.{Vertex}
use Rattle.graph.proofs.View.{number}
use Rattle.graph.proofs.Growing.{taken}
use Rattle.graph.proofs.Back.{holds, back}
use Rattle.engine.specs.State.{State, redrawn}
use Rattle.engine.specs.Draws.{Drew, Full, Draft, Moves}

-- s with the draft, over the slots xs before; a the old tree, b the new one
module _ (s : State) (xs : List Vertex) (before : ℕ) (a b : Shape) where
  pub drew : (e : Edge) (after made : ℕ) → Draft xs s.slots s.start before a b (Ok e) → after ≡ length (in_use s.slots) → made ≡ after - before
      → Drew (redrawn s xs s.start) s a b (record { start = e; made = made })
  drew e after made draft counted m = record {
    rest = refl;
    old = draft.kept.shapes s.start a draft.old;
    new = draft.made.unfolds;
    number =
        (let n = number xs (shapes a) draft.sound draft.held in
        let k = draft.made.number in
        let c = draft.counted in
        let more = different_append alike_equality (shapes a) (shapes b) in
        omega arith);
    room = draft.made.room;
  }

  pub full : (zs : List Vertex) (why : Refusal) → Draft xs s.slots s.start before a b (Err why) → ∥ Sound s.slots ∥₁ → KeptFrom s.slots zs s.start → length zs ≡ length s.slots
      → Full (redrawn s xs s.start) (redrawn s zs s.start) a b why
  full zs why draft sound keeps long = record {
    why_full = draft.made.why_full;
    many = draft.made.many;
    same = ap (λ ys. redrawn s ys s.start)
        (back xs s.slots zs s.start a sound draft.old draft.held draft.kept (keeps a (taken (draft.kept.shapes s.start a draft.old))) (long ∙ draft.long));
  }

pub moves : (s : State) (zs : List Vertex) (start : Edge) → KeptFrom s.slots zs start → Moves s (redrawn s zs start) start
moves s zs start keeps = record {
  rest = refl;
  leads = λ a h. (keeps a (taken h)).whole start h;
  holds = λ a h. holds s.slots zs start a h (keeps a (taken h));
}
