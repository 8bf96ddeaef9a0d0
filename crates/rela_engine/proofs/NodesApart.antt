-- Blocks that are split so that the locations of nodes stand alone.
use Rattle.std.proofs.Common.{◌≡◌, ℕ, ◌+◌, ◌<◌, ◌↔◌, List, [], ◌++◌, length, get_or, map, refl, sym, subst, arith}
use Rattle.std.specs.List.{All}
use Rattle.std.specs.Prelude.{Contains, Result, Ok, Err, IfOk}
use Rattle.std.proofs.lemmas.List.{length-map, get_or-map}
use Rattle.std.proofs.lemmas.List.Elements.{All-append, All-map, Contains-append_left, Contains-append_right, Contains-get_or}
use Rattle.rela_graph.specs.Alone.{StandsAlone}
use Rattle.rela_graph.specs.Topology.{Topology, symbol_at}
use Rattle.rela_graph.specs.declared.node.Node.{Node}
use Rattle.rela_labels.specs.Partition.{IsPartition, Together}
use Rattle.rela_names.specs.declared.level.Level.{Level}
use Rattle.rela_engine.specs.Seen.{AreFiner}

-- what is finer for two graphs is so for each of them twice
pub finer_before : (coarse : List ℕ) (n : ℕ) (level : Level) (pre post : Topology) (fine : List ℕ) → AreFiner coarse n level pre post fine → AreFiner coarse n level pre pre fine
finer_before coarse n level pre post fine is = record { partition = is.partition; refines = is.refines; before = is.before; after = is.before; drops = is.drops; loops = is.loops }

pub finer_after : (coarse : List ℕ) (n : ℕ) (level : Level) (pre post : Topology) (fine : List ℕ) → AreFiner coarse n level pre post fine → AreFiner coarse n level post post fine
finer_after coarse n level pre post fine is = record { partition = is.partition; refines = is.refines; before = is.after; after = is.after; drops = is.drops; loops = is.loops }

-- the locations of the nodes of both graphs
abbrev pub locations_of : Level → List Node → List Node → List ℕ
locations_of level first second = map (symbol_at level) first ++ map (symbol_at level) second

-- what was gathered from one graph and then from the other
pub gathered : (level : Level) (start one two : List ℕ) (firsts seconds first second : List Node) → start ≡ [] → firsts ≡ first → seconds ≡ second
    → one ≡ start ++ map (symbol_at level) firsts → two ≡ one ++ map (symbol_at level) seconds → two ≡ locations_of level first second
gathered level start one two firsts seconds first second nothing firsts_are seconds_are is_one is_two = rw (is_two, is_one, nothing, firsts_are, seconds_are) refl

-- they are below a bound where those of both graphs are
pub gathered_below : (level : Level) (bound : ℕ) (symbols : List ℕ) (first second : List Node) → symbols ≡ locations_of level first second
    → All (λ node. symbol_at level node < bound) first → All (λ node. symbol_at level node < bound) second → All (λ s. s < bound) symbols
gathered_below level bound symbols first second is one two =
    subst (All (λ s. s < bound)) (sym is)
    (All-append (λ s. s < bound) (map (symbol_at level) first) (map (symbol_at level) second)
    (All-map (λ s. s < bound) (symbol_at level) first one) (All-map (λ s. s < bound) (symbol_at level) second two))

pub placed_below : (level : Level) (few bound : ℕ) (nodes : List Node) → few + 1 < bound → All (λ node. symbol_at level node < few) nodes
    → All (λ node. symbol_at level node < bound) nodes
placed_below level few bound nodes less placed = λ k d within. let below = placed k d within in omega (arith, below, less)

pub one_of : (level : Level) (nodes : List Node) (k : ℕ) (d : Node) → k < length nodes → Contains (map (symbol_at level) nodes) (symbol_at level (get_or nodes k d))
one_of level nodes k d within =
    let long : k < length (map (symbol_at level) nodes) = omega (arith, within, length-map nodes (symbol_at level)) in
    subst (Contains (map (symbol_at level) nodes)) (get_or-map (symbol_at level) nodes k d 0 within) (Contains-get_or (map (symbol_at level) nodes) k 0 long)

-- what was split so that these symbols stand alone
pub record IsSplit (coarse symbols fine : List ℕ) : Type 0 where
  pub same_symbols : length fine ≡ length coarse
  pub together : (s t : ℕ) → s < length coarse → t < length coarse
      → Together fine s t ↔ (Together coarse s t × ((u : ℕ) → Contains symbols u → (s ≡ u) ↔ (t ≡ u)))

module _ (coarse : List ℕ) (locations : ℕ) (level : Level) (pre post : Topology) (symbols fine : List ℕ) (is : IsSplit coarse symbols fine) where
  parts : (s t : ℕ) → s < length coarse → t < length fine → Together fine s t → Together coarse s t × ((u : ℕ) → Contains symbols u → (s ≡ u) ↔ (t ≡ u))
  parts s t s_below t_below together = (is.together s t s_below (omega (arith, t_below, is.same_symbols))).0 together

  -- what stood alone still does
  still_alone : (s : ℕ) → s < length coarse → StandsAlone coarse s → StandsAlone fine s
  still_alone s below alone t t_below together =
      alone t (omega (arith, t_below, is.same_symbols)) (parts s t below t_below together).0

  -- and so does each of the symbols
  pub now_alone : (s : ℕ) → s < length coarse → Contains symbols s → StandsAlone fine s
  now_alone s below one t t_below together = sym (((parts s t below t_below together).1 s one).0 refl)

  pub finer : locations + 1 < length coarse → IsPartition fine → symbols ≡ locations_of level pre.nodes post.nodes → All (λ node. symbol_at level node < locations) pre.nodes
      → All (λ node. symbol_at level node < locations) post.nodes → StandsAlone coarse locations → StandsAlone coarse (locations + 1)
      → AreFiner coarse locations level pre post fine
  finer few partition gathered pre_placed post_placed drops loops = record {
    partition = partition;
    refines = record {
      same_symbols = is.same_symbols;
      together = λ s t s_below t_below together. (parts s t (omega (arith, s_below, is.same_symbols)) t_below together).0;
    };
    before = λ k d within.
        now_alone (symbol_at level (get_or pre.nodes k d)) (omega (arith, pre_placed k d within, few))
        (subst (λ (l : List ℕ). Contains l (symbol_at level (get_or pre.nodes k d))) (sym gathered)
        (Contains-append_left (map (symbol_at level) pre.nodes) (map (symbol_at level) post.nodes) (symbol_at level (get_or pre.nodes k d)) (one_of level pre.nodes k d within)));
    after = λ k d within.
        now_alone (symbol_at level (get_or post.nodes k d)) (omega (arith, post_placed k d within, few))
        (subst (λ (l : List ℕ). Contains l (symbol_at level (get_or post.nodes k d))) (sym gathered)
        (Contains-append_right (map (symbol_at level) pre.nodes) (map (symbol_at level) post.nodes) (symbol_at level (get_or post.nodes k d)) (one_of level post.nodes k d within)));
    drops = still_alone locations (omega (arith, few)) drops;
    loops = still_alone (locations + 1) (omega (arith, few)) loops;
  }

-- the partition in which the gathered locations stand alone
pub finer_result : {E : Type 0} (coarse : List ℕ) (locations : ℕ) (level : Level) (pre post : Topology) (r : Result (List ℕ) E) (symbols : List ℕ)
    → symbols ≡ locations_of level pre.nodes post.nodes → IfOk r (λ fine. length fine ≡ length coarse) → IfOk r IsPartition
    → IfOk r (λ fine. (s t : ℕ) → s < length coarse → t < length coarse
    → Together fine s t ↔ (Together coarse s t × ((u : ℕ) → Contains symbols u → (s ≡ u) ↔ (t ≡ u))))
    → locations + 1 < length coarse → All (λ node. symbol_at level node < locations) pre.nodes → All (λ node. symbol_at level node < locations) post.nodes
    → StandsAlone coarse locations → StandsAlone coarse (locations + 1) → IfOk r (AreFiner coarse locations level pre post)
finer_result coarse locations level pre post (Err e) symbols gathered same partition together few pre_placed post_placed drops loops = tt
finer_result coarse locations level pre post (Ok fine) symbols gathered same partition together few pre_placed post_placed drops loops =
    finer coarse locations level pre post symbols fine (record { same_symbols = same; together = together }) few partition gathered pre_placed post_placed drops loops
