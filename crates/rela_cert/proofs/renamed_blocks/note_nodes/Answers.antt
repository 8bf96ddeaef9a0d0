use Rattle.std.proofs.Common.{◌≡◌, ◌∙◌, ℕ, ◌+◌, ◌++◌, ◌∷◌, [], cond, nat_eq, false, true, Some, List, length, map, take, sym, subst}
use Rattle.std.specs.HashMap.{get}
use Rattle.std.specs.Option.{is_some}
use Rattle.rela_graph.specs.Topology.{symbol_at}
use Rattle.rela_cert.specs.RenamedBlocks.{AreFirstPlaces}
use Rattle.rela_cert.proofs.FirstPlaces.{behind, noted, passed, so_many}
use Rattle.rela_cert.proofs.renamed_blocks.note_nodes.Goals as goal
use Rattle.rela_cert.proofs.renamed_blocks.note_nodes.Goals.{then-not-contains_key+in_ok-insert, else-not-contains_key}

pub loop-k-preserved : goal.loop-k-preserved
loop-k-preserved c places count were =
    let nodes = c.args.nodes.now in
    let at = symbol_at c.args.level in
    let k = c.loop-k.k in
    let place = c.symbol_at-place.result in
    let before = places ++ map at (take k nodes) in
    let first : AreFirstPlaces before c.loop-k.first = c.loop-k.invariant places count were in
    let more : before ++ place ∷ [] ≡ places ++ map at (take (k + 1) nodes) = behind at places nodes k place _ c.loop-k-test.true c.symbol_at-place.ensures in
    elim c.if-not-contains_key.branch [
      | then-not-contains_key+in_ok-insert w ↦
          let many : c.args.passed + k ≡ length before = so_many at places nodes k c.args.passed count c.loop-k.auto.k-end in
          let none : is_some (get nat_eq c.loop-k.first place) ≡ false = sym c.contains_key.ensures ∙ w.if-not-contains_key.true in
          subst (λ (m : _). AreFirstPlaces (places ++ map at (take (k + 1) nodes)) m) (sym w.first-is)
          (subst (λ (ps : List ℕ). AreFirstPlaces ps w.insert.new.self) more
          (noted before place c.loop-k.first w.insert.new.self first none
          (λ q. subst (λ (n : ℕ). get nat_eq w.insert.new.self q ≡ cond (nat_eq place q) (Some n) (get nat_eq c.loop-k.first q)) many (w.in_ok-insert.ensures.updates.0 q))))
      | else-not-contains_key w ↦
          let some : is_some (get nat_eq c.loop-k.first place) ≡ true = sym c.contains_key.ensures ∙ w.if-not-contains_key.false in
          subst (λ (m : _). AreFirstPlaces (places ++ map at (take (k + 1) nodes)) m) (sym w.first-is)
          (subst (λ (ps : List ℕ). AreFirstPlaces ps c.loop-k.first) more (passed before place c.loop-k.first c.loop-k.first first some))
    ]
