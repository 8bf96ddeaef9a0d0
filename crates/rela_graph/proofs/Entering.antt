-- A search by depth, whose steps are bounded.
use Rattle.std.proofs.Common.{◌≡◌, ℕ, ◌+◌, ◌-◌, ◌*◌, ◌<◌, ◌≤◌, List, [], ◌∷◌, ◌++◌, length, map, ap, ◌∙◌, inl, inr, arith, length-append}
use Rattle.std.specs.List.{All, Contains}
use Rattle.std.proofs.lemmas.List.{length-map, length_push}
use Rattle.std.proofs.lemmas.List.Elements.{All-append, All-push, All-map}
use Rattle.rela_graph.specs.NodeSet.{Members, Inserts}
use Rattle.rela_graph.specs.Topology.{Topology, IsEdgeFrom}
use Rattle.rela_graph.specs.Visit.{node_of, work_left}
use Rattle.rela_graph.specs.declared.node.Link.{Link}
use Rattle.rela_graph.specs.declared.leaving.Visit.{Visit}
use Rattle.rela_graph.specs.declared.leaving.Visit.TheVariants.{Enter, Leave}

module _ (g : Topology) (n : ℕ) (out : List Link) (before after : List Visit) (entered : after ≡ (before ++ Leave n ∷ []) ++ map (λ link. Enter link.b) out) where
  -- all that is to be visited are nodes
  pub visits_nodes : n < length g.nodes → All (IsEdgeFrom g n) out → All (λ visit. node_of visit < length g.nodes) before → All (λ visit. node_of visit < length g.nodes) after
  visits_nodes node each nodes =
      let P : Visit → Type 0 = λ visit. node_of visit < length g.nodes in
      let f : Link → Visit = λ link. Enter link.b in
      rw entered
      (All-append P (before ++ Leave n ∷ []) (map f out) (All-push P before (Leave n) nodes node) (All-map P f out (λ k d within. (each k d within).1)))

  -- one more node is entered, so less is left
  pub less_work : (old new : Members) → new.count ≡ old.count → Inserts old.nodes new.nodes n → ¬ Contains old.nodes n → length new.nodes ≤ new.count
      → length out ≤ length g.edges → work_left g new after ≤ work_left g old before
  less_work old new count put lacking few out_few =
      let f : Link → Visit = λ link. Enter link.b in
      let longer : length after ≡ length before + 1 + length out = ap length entered ∙ length-append (before ++ Leave n ∷ []) (map f out) ∙ sums in
      let grown : length new.nodes ≡ length old.nodes + 1 = elim put.1 [ inl same ↦ absurd (lacking (rw same at put.0)) | inr more ↦ ap length more ∙ length_push old.nodes n ] in
      falls (length g.edges + 2) (old.count - length old.nodes) (new.count - length new.nodes) (length before) (length after) (omega arith) (omega arith)
    where
      sums : length (before ++ Leave n ∷ []) + length (map (λ link. Enter link.b) out) ≡ length before + 1 + length out
      sums = let f : Link → Visit = λ link. Enter link.b in let a = length_push before (Leave n) in let b = length-map out f in omega arith

      falls : (step a b x y : ℕ) → a ≡ b + 1 → y ≤ x + step → b * step + y ≤ a * step + x
      falls step a b x y e le = rw e (grind arith)
