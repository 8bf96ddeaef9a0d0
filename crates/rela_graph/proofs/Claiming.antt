-- What was claimed for roots.
use Rattle.std.proofs.Common.{◌≡◌, ◌≢◌, ℕ, ◌<◌, ◌≤◌, ◌⊎◌, ◌↔◌, Bool, true, false, List, [], ◌∷◌, ◌++◌, length, get_or, set, refl, sym, ap, ◌∙◌, inl, inr, arith}
use Rattle.std.specs.Bool.{OnTrue}
use Rattle.std.specs.Prelude.{slice_index}
use Rattle.std.specs.List.{All, Any, Contains}
use Rattle.std.proofs.lemmas.List.{get_or-set_same, get_or-set_other}
use Rattle.std.proofs.lemmas.List.Elements.{All-contains, Contains-append_left, Contains-push_cases}
use Rattle.rela_graph.specs.Topology.{Topology, IsTopology, HasEdge, IsEdgeFrom}
use Rattle.rela_graph.specs.Walk.{FollowsEdges, IsCyclic}
use Rattle.rela_graph.specs.Component.{Claims, root_of, SameFrame, ClaimsNode, AreBehind, AreAhead, Reaches, AreComponents}
use Rattle.rela_graph.specs.declared.node.Link.{Link}
use Rattle.rela_graph.proofs.Walking.{lead_by, lead_on, lead_after, lead_through}

pub same_frame : (c : Claims) → SameFrame c c
same_frame c = record { roots = refl; count = refl; len = refl }

pub frame_then : (a b c : Claims) → SameFrame a b → SameFrame b c → SameFrame a c
frame_then a b c f g = record { roots = g.roots ∙ f.roots; count = g.count ∙ f.count; len = g.len ∙ f.len }

-- what is claimed stays so, and no one else is but n
module _ (old new : Claims) (n place : ℕ) (within : n < length old.places) (frame : SameFrame old new) (claims : ClaimsNode old new n place) where
  pub claimed_stay : (m : ℕ) → Contains old.nodes m → Contains new.nodes m
  claimed_stay m c = elim claims [ inl same ↦ rw same.1 c | inr more ↦ rw more.1 (Contains-append_left old.nodes (n ∷ []) m c) ]

  place_stays : (m : ℕ) → Contains old.nodes m → slice_index new.places m ≡ slice_index old.places m
  place_stays m c = elim claims [
    | inl same ↦ ap (λ l. slice_index l m) same.2
    | inr more ↦
        let apart : m ≢ n = λ e. more.0 (rw e at c) in
        ap (λ l. slice_index l m) more.2 ∙ get_or-set_other old.places n m place 0 apart
  ]

  -- each node that is claimed now was claimed for the same root, or is n, claimed for the root at the place
  claim_cases : (m : ℕ) → Contains new.nodes m → (Contains old.nodes m × (root_of new m ≡ root_of old m)) ⊎ ((n ≡ m) × (root_of new m ≡ slice_index old.roots place))
  claim_cases m c = elim claims [
    | inl same ↦ let was : Contains old.nodes m = rw same.1 at c in inl (was, root_stays m was)
    | inr more ↦ elim (Contains-push_cases old.nodes n m (rw more.1 at c)) [
      | inl was ↦ inl (was, root_stays m was)
      | inr e ↦
          let here : slice_index new.places m ≡ place = ap (λ l. slice_index l m) more.2 ∙ ap (λ k. get_or (set old.places n place) k 0) (sym e) ∙ get_or-set_same old.places n place 0 within in
          inr (e, ap (λ l. slice_index l (slice_index new.places m)) frame.roots ∙ ap (λ k. slice_index old.roots k) here)
    ]
  ]
    where
      root_stays : (m : ℕ) → Contains old.nodes m → root_of new m ≡ root_of old m
      root_stays m was = ap (λ l. slice_index l (slice_index new.places m)) frame.roots ∙ ap (λ k. slice_index old.roots k) (place_stays m was)

  pub claim_behind : (g : Topology) → AreBehind g old → Reaches g n (slice_index old.roots place) → AreBehind g new
  claim_behind g behind reaches m c = elim (claim_cases m c) [
    | inl was ↦ rw was.1 (behind m was.0)
    | inr here ↦ rw (here.1, ← here.0) reaches
  ]

  pub claim_ahead : (g : Topology) → AreAhead g old → Reaches g (slice_index old.roots place) n → AreAhead g new
  claim_ahead g ahead reaches m c = elim (claim_cases m c) [
    | inl was ↦ rw was.1 (ahead m was.0)
    | inr here ↦ rw (here.1, ← here.0) reaches
  ]

  -- the place of what was claimed before
  pub root_stays_for : (m : ℕ) → Contains old.nodes m → slice_index new.places m ≡ slice_index old.places m
  root_stays_for m c = place_stays m c

module _ (g : Topology) where
  pub reach_after : (a b c : ℕ) → HasEdge g a b → Reaches g b c → Reaches g a c
  reach_after a b c e r = elim r [ inl same ↦ inr (rw same at (lead_by g a b e)) | inr l ↦ inr (lead_after g a b c e l) ]

  pub reach_on : (a b c : ℕ) → Reaches g a b → HasEdge g b c → Reaches g a c
  reach_on a b c r e = elim r [ inl same ↦ inr (rw (sym same) at (lead_by g b c e)) | inr l ↦ inr (lead_on g a b c l e) ]

  pub reach_through : (a b c : ℕ) → Reaches g a b → Reaches g b c → Reaches g a c
  reach_through a b c r s = elim r [
    | inl same ↦ rw same s
    | inr l ↦ elim s [ inl same ↦ inr (rw same at l) | inr m ↦ inr (lead_through g a b c l m) ]
  ]

  -- nodes that reach a root and are reached from it are components, where no edge leads to a smaller number
  pub confirmed : (behind ahead : Claims) → behind.roots ≡ ahead.roots → behind.places ≡ ahead.places → length behind.places ≡ length g.nodes
      → ((n : ℕ) → n < length g.nodes → Contains behind.nodes n) → ((n : ℕ) → n < length g.nodes → Contains ahead.nodes n)
      → AreBehind g behind → AreAhead g ahead → All (λ link. slice_index behind.places link.a ≤ slice_index behind.places link.b) g.edges
      → AreComponents g behind.places
  confirmed behind ahead roots places len all_behind all_ahead reach_root root_reaches ascend = record {
    len = len;
    ascend = λ a b e. All-contains (λ link. slice_index behind.places link.a ≤ slice_index behind.places link.b) g.edges (record { a = a; b = b }) ascend e;
    joined = λ a b in_a in_b same.
        let there : Reaches g a (root_of behind a) = reach_root a (all_behind a in_a) in
        let back : Reaches g (root_of ahead b) b = root_reaches b (all_ahead b in_b) in
        let one : root_of behind a ≡ root_of ahead b =
        ap (λ k. slice_index behind.roots k) (same ∙ ap (λ l. slice_index l b) places) ∙ ap (λ l. slice_index l (slice_index ahead.places b)) roots in
        reach_through a (root_of ahead b) b (rw one at there) back;
  }

  -- a node lies on a cycle where an edge leads from it to a node of its own component
  module _ (numbers : List ℕ) (are : AreComponents g numbers) (is : IsTopology g) where
    ascends_along : (xs : List ℕ) (a b : ℕ) → FollowsEdges g (a ∷ (xs ++ b ∷ [])) → slice_index numbers a ≤ slice_index numbers b
    ascends_along [] a b f = are.ascend a b f.0
    ascends_along (x ∷ xs) a b f = let first = are.ascend a x f.0 in let rest = ascends_along xs x b f.1 in omega arith

    into : (xs : List ℕ) (n : ℕ) → FollowsEdges g (n ∷ (xs ++ n ∷ [])) → (b : ℕ) × HasEdge g n b × (slice_index numbers b ≡ slice_index numbers n)
    into [] n f = (n, f.0, refl)
    into (x ∷ xs) n f = (x, f.0, let first = are.ascend n x f.0 in let rest = ascends_along xs x n f.1 in omega arith)

    pub returns_within : (n : ℕ) (edges : List Link) → n < length g.nodes → All (IsEdgeFrom g n) edges → ((b : ℕ) → HasEdge g n b → Contains edges (record { a = n; b = b }))
        → Any (λ link. slice_index numbers link.b ≡ slice_index numbers n) edges ↔ IsCyclic g n
    returns_within n edges within each all = (
      λ any.
          let link = any.1 in
          let edge : IsEdgeFrom g n link = rw any.3 at (each any.0 link any.2) in
          elim (are.joined link.b n edge.1 within any.4) [
            | inl same ↦ rw same at (lead_by g n link.b edge.2)
            | inr l ↦ lead_after g n link.b n edge.2 l
          ],
      λ cyclic.
          let found = into cyclic.0 n cyclic.1 in
          let at = all found.0 found.1 in
          (at.0, record { a = n; b = found.0 }, at.1, at.2, found.2),
    )

pub on_true_then : (b : Bool) (P Q : Type 0) → (P → Q) → OnTrue b P → OnTrue b Q
on_true_then true P Q f p = f p
on_true_then false P Q f p = p
