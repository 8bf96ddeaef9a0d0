-- What ends a walk.
use Rattle.std.proofs.Common.{◌≡◌, ℕ, ◌<◌, ◌↔◌, Bool, true, false, not, IsTrue, List, length, get_or, inl, inr, arith, refl}
use Rattle.std.specs.List.{All, Contains}
use Rattle.rela_graph.specs.Topology.{Topology, HasEdge, IsEdgeFrom, IsDropped, IsDelivered}
use Rattle.rela_graph.specs.Walk.{IsDropNode}
use Rattle.rela_graph.specs.declared.node.Link.{Link}

-- a node that isn't listed as one that drops, with these edges out
module _ (g : Topology) (n : ℕ) (out : List Link) (unlisted : ¬ IsDropped g n) where
  pub drops_at_end : ((b : ℕ) → HasEdge g n b → Contains out (record { a = n; b = b })) → length out ≡ 0 → (delivered : Bool) → IsTrue delivered ↔ IsDelivered g n
      → IsTrue (not delivered) ↔ IsDropNode g n
  drops_at_end all none true told = (λ t. let no : false ≡ true = t in cc, λ h. elim h [ inl listed ↦ absurd (unlisted listed) | inr r ↦ absurd (r.1 (told.0 refl)) ])
  drops_at_end all none false told = (
    λ t. inr (λ m edge. let k = all m edge in let within = k.1 in omega arith, λ h. let no : false ≡ true = told.1 h in cc),
    λ h. refl,
  )

  pub goes_on : All (IsEdgeFrom g n) out → 0 < length out → ¬ IsDropNode g n
  goes_on each some h = elim h [
    | inl listed ↦ unlisted listed
    | inr r ↦ let d : Link = record { a = 0; b = 0 } in r.0 (get_or out 0 d).b (each 0 d some).2
  ]
