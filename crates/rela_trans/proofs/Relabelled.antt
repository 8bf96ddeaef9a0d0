-- What a transducer reaches and relates over a finer partition.
use Rattle.std.proofs.Common.{◌≡◌, ℕ, zero, suc, ◌<◌, ◌↔◌, Bool, false, List, [], ◌∷◌, ◌++◌, length, get_or, map, sym, ap, ◌∙◌, subst, arith}
use Rattle.std.specs.List.{All}
use Rattle.std.proofs.lemmas.List.{get_or-map, length-map}
use Rattle.std.proofs.lemmas.List.Elements.{All-map, All-weaker, All-contains, Contains-append_left, Contains-append_right, Contains-get_or}
use Rattle.rela_labels.specs.Letters.{has}
use Rattle.rela_labels.specs.Partition.{block_of, block_count}
use Rattle.rela_nfa.specs.Relabelling.{relabelled}
use Rattle.rela_trans.specs.Machine.{Machine, Kind, IsMachine, IsMove, IsSized, moves_of, machine_states}
use Rattle.rela_trans.specs.Runs.{Does, IsSymbolOf, HasStep, ReachR, Relates}
use Rattle.rela_trans.specs.Relabelling.{relabelled_kind, relabelled_move}
use Rattle.rela_trans.specs.declared.moves.MoveKind.TheVariants.{Silent, In, Out, Same}
use Rattle.rela_trans.proofs.Mapped.{get_or-map_nil, mapped_back, mapped_on}
use Rattle.rela_trans.proofs.Reaching.{reach_start, reach_step, reach_each}

pub block_below : (partition : List ℕ) (s : ℕ) → s < length partition → block_of partition s < block_count partition
unfolding block_count
block_below [] s below = absurd (omega (arith, below))
block_below (b ∷ others) zero below = omega arith
block_below (b ∷ others) (suc s) below = omega (arith, block_below others s (omega (arith, below)))

-- the same transducer with other sets
pub record IsRelabelled (parents : List ℕ) (t r : Machine) : Type 0 where
  pub letters : r.letters ≡ length parents
  pub start : r.start ≡ t.start
  pub finals : r.finals ≡ t.finals
  pub moves : r.moves ≡ map (map (relabelled_move parents)) t.moves

pub relabelled_sized : (parents : List ℕ) (kind : Kind) → IsSized (length parents) (relabelled_kind parents kind)
relabelled_sized parents Silent = tt
relabelled_sized parents (In set) = length-map parents (has set)
relabelled_sized parents (Out set) = length-map parents (has set)
relabelled_sized parents (Same set) = length-map parents (has set)

all_front : (P : ℕ → Type 0) (xs ys : List ℕ) → All P (xs ++ ys) → All P xs
all_front P xs ys each k d below = All-contains P (xs ++ ys) (get_or xs k d) each (Contains-append_left xs ys (get_or xs k d) (Contains-get_or xs k d below))

all_back : (P : ℕ → Type 0) (xs ys : List ℕ) → All P (xs ++ ys) → All P ys
all_back P xs ys each k d below = All-contains P (xs ++ ys) (get_or ys k d) each (Contains-append_right xs ys (get_or ys k d) (Contains-get_or ys k d below))

module _ (parents : List ℕ) (t r : Machine) (built : IsRelabelled parents t r) where
  same_moves : (p : ℕ) → moves_of r p ≡ map (relabelled_move parents) (moves_of t p)
  same_moves p = ap (λ l. get_or l p []) built.moves ∙ get_or-map_nil (relabelled_move parents) t.moves p

  pub relabelled_states : machine_states r ≡ machine_states t
  relabelled_states = ap length built.finals

  pub relabelled_ok : IsMachine t → IsMachine r
  relabelled_ok ok = record {
    each = ap length built.moves ∙ length-map t.moves (map (relabelled_move parents)) ∙ ok.each ∙ sym relabelled_states;
    starts = omega (arith, ok.starts, relabelled_states, built.start);
    moves =
        subst (λ l. All (All (IsMove r.letters (machine_states r))) l) (sym built.moves)
        (All-map (All (IsMove r.letters (machine_states r))) (map (relabelled_move parents)) t.moves
        (All-weaker (All (IsMove t.letters (machine_states t))) (λ l. All (IsMove r.letters (machine_states r)) (map (relabelled_move parents) l))
        (λ l each. All-map (IsMove r.letters (machine_states r)) (relabelled_move parents) l
        (All-weaker (IsMove t.letters (machine_states t)) (λ m. IsMove r.letters (machine_states r) (relabelled_move parents m)) (λ m is. record {
          sized = subst (λ n. IsSized n (relabelled_kind parents m.kind)) (sym built.letters) (relabelled_sized parents m.kind);
          leads = omega (arith, is.leads, relabelled_states);
        }) l each)) t.moves ok.moves));
  }

  module _ (from to : List ℕ) (count : ℕ) (parent : (s : ℕ) → s < count → get_or parents (block_of to s) 0 ≡ block_of from s)
      (within : (s : ℕ) → s < count → block_of to s < length parents) where
    abbrev Symbols : List ℕ → Type 0
    Symbols w = All (λ s. s < count) w

    same_has : (set : List Bool) (s : ℕ) → s < count → has (relabelled parents set) (block_of to s) ≡ has set (block_of from s)
    same_has set s below = get_or-map (has set) parents (block_of to s) 0 false (within s below) ∙ ap (has set) (parent s below)

    only_symbol : (s : ℕ) (w : List ℕ) → w ≡ s ∷ [] → Symbols w → s < count
    only_symbol s w is each = subst Symbols is each 0 0 (omega arith)

    symbol_back : (set : List Bool) (w : List ℕ) → Symbols w → IsSymbolOf (block_of to) (relabelled parents set) w → IsSymbolOf (block_of from) set w
    symbol_back set w each (s, among, is) = (s, sym (same_has set s (only_symbol s w is each)) ∙ among, is)

    symbol_on : (set : List Bool) (w : List ℕ) → Symbols w → IsSymbolOf (block_of from) set w → IsSymbolOf (block_of to) (relabelled parents set) w
    symbol_on set w each (s, among, is) = (s, same_has set s (only_symbol s w is each) ∙ among, is)

    does_back : (kind : Kind) (input output : List ℕ) → Symbols input → Symbols output → Does (block_of to) (relabelled_kind parents kind) input output
        → Does (block_of from) kind input output
    does_back Silent input output in_each out_each does = does
    does_back (In set) input output in_each out_each does = (symbol_back set input in_each does.0, does.1)
    does_back (Out set) input output in_each out_each does = (does.0, symbol_back set output out_each does.1)
    does_back (Same set) input output in_each out_each does = (symbol_back set input in_each does.0, does.1)

    does_on : (kind : Kind) (input output : List ℕ) → Symbols input → Symbols output → Does (block_of from) kind input output
        → Does (block_of to) (relabelled_kind parents kind) input output
    does_on Silent input output in_each out_each does = does
    does_on (In set) input output in_each out_each does = (symbol_on set input in_each does.0, does.1)
    does_on (Out set) input output in_each out_each does = (does.0, symbol_on set output out_each does.1)
    does_on (Same set) input output in_each out_each does = (symbol_on set input in_each does.0, does.1)

    step_back : (p q : ℕ) (input output : List ℕ) → Symbols input → Symbols output → HasStep (block_of to) r p input output q → HasStep (block_of from) t p input output q
    step_back p q input output in_each out_each step =
        let found = mapped_back (block_of to) (relabelled_move parents) (moves_of t) r same_moves p q input output step in
        subst (λ n. HasStep (block_of from) t p input output n) found.2 (found.0.kind, found.1, does_back found.0.kind input output in_each out_each found.3)

    step_on : (p q : ℕ) (input output : List ℕ) → Symbols input → Symbols output → HasStep (block_of from) t p input output q → HasStep (block_of to) r p input output q
    step_on p q input output in_each out_each step =
        mapped_on (block_of to) (relabelled_move parents) (moves_of t) r same_moves p input output (record { kind = step.0; to = q }) step.1
        (does_on step.0 input output in_each out_each step.2)

    back : (q : ℕ) (u v : List ℕ) → ReachR (block_of to) r q u v → Symbols u → Symbols v → ReachR (block_of from) t q u v
    back =
        reach_each (block_of to) r (λ q u v. Symbols u → Symbols v → ReachR (block_of from) t q u v)
        (λ p q u v input output reach there step in_each out_each.
        reach_step (block_of from) t p q u v input output (there (all_front (λ s. s < count) u input in_each) (all_front (λ s. s < count) v output out_each))
        (step_back p q input output (all_back (λ s. s < count) u input in_each) (all_back (λ s. s < count) v output out_each) step))
        (λ in_each out_each. subst (λ n. ReachR (block_of from) t n [] []) (sym built.start) (reach_start (block_of from) t))

    on : (q : ℕ) (u v : List ℕ) → ReachR (block_of from) t q u v → Symbols u → Symbols v → ReachR (block_of to) r q u v
    on =
        reach_each (block_of from) t (λ q u v. Symbols u → Symbols v → ReachR (block_of to) r q u v)
        (λ p q u v input output reach there step in_each out_each.
        reach_step (block_of to) r p q u v input output (there (all_front (λ s. s < count) u input in_each) (all_front (λ s. s < count) v output out_each))
        (step_on p q input output (all_back (λ s. s < count) u input in_each) (all_back (λ s. s < count) v output out_each) step))
        (λ in_each out_each. subst (λ n. ReachR (block_of to) r n [] []) built.start (reach_start (block_of to) r))

    pub relabelled_reach : (q : ℕ) (u v : List ℕ) → All (λ s. s < count) u → All (λ s. s < count) v → ReachR (block_of to) r q u v ↔ ReachR (block_of from) t q u v
    relabelled_reach q u v in_each out_each = (λ reach. back q u v reach in_each out_each, λ reach. on q u v reach in_each out_each)

    pub relabelled_relation : (u v : List ℕ) → All (λ s. s < count) u → All (λ s. s < count) v → Relates (block_of to) r u v ↔ Relates (block_of from) t u v
    relabelled_relation u v in_each out_each = (
      λ (q, reach, final). (q, back q u v reach in_each out_each, ap (λ l. get_or l q false) (sym built.finals) ∙ final),
      λ (q, reach, final). (q, on q u v reach in_each out_each, ap (λ l. get_or l q false) built.finals ∙ final),
    )
