-- How many bytes a graph feeds a hasher, and what a recorder keeps of them.
use Rattle.std.proofs.Common.{◌≡◌, ℕ, ◌+◌, ◌-◌, ◌*◌, ◌≤◌, if◌then◌else◌, Bool, List, [], ◌∷◌, ◌++◌, length, drop, fold, refl, sym, ap, ap₂, ◌∙◌, arith, length-append, append_assoc}
use Rattle.std.specs.Hash as fed
use Rattle.std.specs.Hash.{HashWrites, le_bytes}
use Rattle.std.specs.List.{concat, flat_map}
use Rattle.std.proofs.lemmas.Bool.{le-leb}
use Rattle.std.proofs.lemmas.List.{append-nil, length-map}
use Rattle.std.proofs.lemmas.List.Folds.{concat-append}
use Rattle.std.proofs.Math.Seq.{drop-append_seam}
use Rattle.rela_names.specs.declared.level.Level.{Level}
use Rattle.rela_graph.specs.Outline.{Outline, link_writes, outline_of, outline_writes}
use Rattle.rela_graph.specs.Paths.{locations}
use Rattle.rela_graph.specs.Topology.{IsTopology, Topology, symbol_at}
use Rattle.rela_graph.specs.declared.node.Link.{Link}
use Rattle.rela_graph.specs.declared.node.Node.{Node}
use Rattle.rela_shape.specs.Recorded.{Recorded, with_bytes}
use Rattle.rela_shape.specs.Wiring.{wiring_of, wiring_writes}

one_more : (bytes more : List ℕ) (room : ℕ) → length more ≤ room
    → with_bytes (record { bytes = bytes; room = room }) more ≡ record { bytes = bytes ++ more; room = room - length more }
one_more bytes more room fits =
    let old : Recorded = record { bytes = bytes; room = room } in
    let new : Recorded = record { bytes = bytes ++ more; room = room - length more } in
    ap (λ b. if b then new else old) (le-leb (length more) room fits)

-- where there is room for all that is fed, all of it is kept
pub all_kept : (writes : HashWrites) (bytes : List ℕ) (room : ℕ) → length (concat writes) ≤ room
    → (fold with_bytes (record { bytes = bytes; room = room }) writes).bytes ≡ bytes ++ concat writes
all_kept [] bytes room fits = sym (append-nil bytes)
all_kept (more ∷ writes) bytes room fits =
    let len = length-append more (concat writes) in
    ap (λ kept. (fold with_bytes kept writes).bytes) (one_more bytes more room (omega (arith, fits, len)))
    ∙ all_kept writes (bytes ++ more) (room - length more) (omega (arith, fits, len)) ∙ append_assoc bytes more (concat writes)

pub le_bytes_long : (n : ℕ) → length (le_bytes 8 n) ≡ 8
unfolding le_bytes
le_bytes_long n = refl

pub short_long : (n : ℕ) → length (le_bytes 4 n) ≡ 4
unfolding le_bytes
short_long n = refl

-- items that are fed as so many bytes each
module _ {T : Type 0} (F : T → HashWrites) (size : ℕ) (each : (x : T) → length (concat (F x)) ≡ size) where
  pub items_long : (xs : List T) → length (concat (flat_map F xs)) ≡ size * length xs
  items_long [] = omega arith
  items_long (x ∷ xs) =
      let len = ap length (concat-append (F x) (flat_map F xs)) ∙ length-append (concat (F x)) (concat (flat_map F xs)) in
      omega (arith, len, each x, items_long xs)

  pub slice_long : (xs : List T) → length (concat (fed.slice F xs)) ≡ 8 + size * length xs
  slice_long xs =
      length-append (le_bytes 8 (length xs)) (concat (flat_map F xs)) ∙ omega (arith, le_bytes_long (length xs), items_long xs)

pub place_long : (n : ℕ) → length (concat (fed.u32 n)) ≡ 4
place_long n = length-append (le_bytes 4 n) [] ∙ omega (arith, short_long n)

pub link_long : (link : Link) → length (concat (link_writes link)) ≡ 8
link_long link =
    length-append (le_bytes 4 link.a) (le_bytes 4 link.b ++ []) ∙ omega (arith, short_long link.a, place_long link.b)

pub flag_long : (b : Bool) → length (concat (fed.bool b)) ≡ 1
flag_long b = refl

abbrev places_fed : Level → Topology → HashWrites
places_fed level g = fed.slice fed.u32 (locations g level)

places_long : (level : Level) (g : Topology) → length (concat (places_fed level g)) ≡ 8 + 4 * length g.nodes
places_long level g =
    let places = slice_long fed.u32 4 place_long (locations g level) in
    omega (arith, places, length-map g.nodes (symbol_at level))

all_fed : (level : Level) (g : Topology) → concat (outline_writes (outline_of level g)) ≡ concat (places_fed level g) ++ wiring_of g
unfolding wiring_of
all_fed level g = concat-append (places_fed level g) (wiring_writes g)

-- what a graph feeds a hasher is its locations, and then its wiring
pub wiring_kept : (level : Level) (g : Topology) → drop (8 + 4 * length g.nodes) (concat (outline_writes (outline_of level g))) ≡ wiring_of g
wiring_kept level g =
    ap (λ l. drop (8 + 4 * length g.nodes) l) (all_fed level g)
    ∙ ap (λ n. drop n (concat (places_fed level g) ++ wiring_of g)) (sym (places_long level g))
    ∙ drop-append_seam (concat (places_fed level g)) (wiring_of g)

wiring_long : (g : Topology) → length (wiring_of g)
    ≡ 32 + 8 * length g.edges + length g.starts + length g.delivered + length g.dropped
unfolding wiring_of
wiring_long g =
    let starts = fed.slice fed.bool g.starts in
    let delivered = fed.slice fed.bool g.delivered in
    let dropped = fed.slice fed.bool g.dropped in
    let last = ap length (concat-append delivered dropped) ∙ length-append (concat delivered) (concat dropped) in
    let flags = ap length (concat-append starts (delivered ++ dropped)) ∙ length-append (concat starts) (concat (delivered ++ dropped)) in
    let all = ap length (concat-append (fed.slice link_writes g.edges) (starts ++ (delivered ++ dropped)))
    ∙ length-append (concat (fed.slice link_writes g.edges)) (concat (starts ++ (delivered ++ dropped))) in
    omega (
      arith,
      all,
      flags,
      last,
      slice_long link_writes 8 link_long g.edges,
      slice_long fed.bool 1 flag_long g.starts,
      slice_long fed.bool 1 flag_long g.delivered,
      slice_long fed.bool 1 flag_long g.dropped,
    )

fed_long : (level : Level) (g : Topology) → length (concat (outline_writes (outline_of level g))) ≡ 8 + 4 * length g.nodes + length (wiring_of g)
fed_long level g =
    ap length (all_fed level g) ∙ length-append (concat (places_fed level g)) (wiring_of g)
    ∙ ap (λ n. n + length (wiring_of g)) (places_long level g)

-- no graph feeds more than this
pub wiring_fits : (level : Level) (g : Topology) → IsTopology g → length (concat (outline_writes (outline_of level g)))
    ≤ 40 + 4 * length g.nodes + 800000 + 3 * length g.nodes
wiring_fits level g is = omega (arith, fed_long level g, wiring_long g, is.few_edges, is.starts, is.delivered, is.dropped)

-- the wiring begins within what is fed
pub wiring_within : (level : Level) (g : Topology) → 8 + 4 * length g.nodes ≤ length (concat (outline_writes (outline_of level g)))
wiring_within level g = omega (arith, fed_long level g)

-- what the recorder of a graph has in the end
pub graph_kept : (g : Topology) (nodes : List Node) (level : Level) (o : Outline) (start state : Recorded) → IsTopology g → nodes ≡ g.nodes → o ≡ outline_of level g
    → start ≡ record { bytes = []; room = 40 + 4 * length nodes + 800000 + 3 * length nodes } → state ≡ fold with_bytes start (outline_writes o)
    → state.bytes ≡ concat (outline_writes (outline_of level g))
graph_kept g nodes level o start state is nodes_are o_is start_is state_is =
    let room = 40 + 4 * length nodes + 800000 + 3 * length nodes in
    ap (λ kept. kept.bytes) (state_is ∙ ap₂ (λ kept look. fold with_bytes kept (outline_writes look)) start_is o_is)
    ∙ all_kept (outline_writes (outline_of level g)) [] room (omega (arith, wiring_fits level g is, ap length nodes_are))
