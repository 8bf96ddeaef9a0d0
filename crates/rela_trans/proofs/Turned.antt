-- What a transducer reaches and relates whose input and output were exchanged.
use Rattle.std.proofs.Common.{◌≡◌, ℕ, ◌↔◌, false, List, [], length, get_or, map, sym, ap, ◌∙◌, subst, arith}
use Rattle.std.specs.List.{All}
use Rattle.std.proofs.lemmas.List.{length-map}
use Rattle.std.proofs.lemmas.List.Elements.{All-map, All-weaker}
use Rattle.rela_trans.specs.Machine.{Machine, Kind, IsMachine, IsMove, IsSized, moves_of, machine_states}
use Rattle.rela_trans.specs.Runs.{Does, IsSymbolOf, HasStep, ReachR, Relates}
use Rattle.rela_trans.specs.Construction.{turned, turned_move}
use Rattle.rela_trans.specs.declared.moves.MoveKind.TheVariants.{Silent, In, Out, Same}
use Rattle.rela_trans.proofs.Mapped.{get_or-map_nil, mapped_back, mapped_on}
use Rattle.rela_trans.proofs.Reaching.{reach_start, reach_step, reach_each}

-- the same transducer with each move turned
pub record IsTurned (t r : Machine) : Type 0 where
  pub letters : r.letters ≡ t.letters
  pub start : r.start ≡ t.start
  pub finals : r.finals ≡ t.finals
  pub moves : r.moves ≡ map (map turned_move) t.moves

turned_sized : (n : ℕ) (kind : Kind) → IsSized n kind → IsSized n (turned kind)
turned_sized n Silent sized = sized
turned_sized n (In set) sized = sized
turned_sized n (Out set) sized = sized
turned_sized n (Same set) sized = sized

turned_does : (read : ℕ → ℕ) (kind : Kind) (input output : List ℕ) → Does read kind input output → Does read (turned kind) output input
turned_does read Silent input output does = (does.1, does.0)
turned_does read (In set) input output does = (does.1, does.0)
turned_does read (Out set) input output does = (does.1, does.0)
turned_does read (Same set) input output does = (subst (IsSymbolOf read set) (sym does.1) does.0, sym does.1)

turned_does_back : (read : ℕ → ℕ) (kind : Kind) (input output : List ℕ) → Does read (turned kind) input output → Does read kind output input
turned_does_back read Silent input output does = (does.1, does.0)
turned_does_back read (In set) input output does = (does.1, does.0)
turned_does_back read (Out set) input output does = (does.1, does.0)
turned_does_back read (Same set) input output does = (subst (IsSymbolOf read set) (sym does.1) does.0, sym does.1)

module _ (t r : Machine) (built : IsTurned t r) where
  same_moves : (p : ℕ) → moves_of r p ≡ map turned_move (moves_of t p)
  same_moves p = ap (λ l. get_or l p []) built.moves ∙ get_or-map_nil turned_move t.moves p

  pub turned_states : machine_states r ≡ machine_states t
  turned_states = ap length built.finals

  pub turned_ok : IsMachine t → IsMachine r
  turned_ok ok = record {
    each = ap length built.moves ∙ length-map t.moves (map turned_move) ∙ ok.each ∙ sym turned_states;
    starts = omega (arith, ok.starts, turned_states, built.start);
    moves =
        subst (λ l. All (All (IsMove r.letters (machine_states r))) l) (sym built.moves)
        (All-map (All (IsMove r.letters (machine_states r))) (map turned_move) t.moves
        (All-weaker (All (IsMove t.letters (machine_states t))) (λ l. All (IsMove r.letters (machine_states r)) (map turned_move l))
        (λ l each. All-map (IsMove r.letters (machine_states r)) turned_move l
        (All-weaker (IsMove t.letters (machine_states t)) (λ m. IsMove r.letters (machine_states r) (turned_move m)) (λ m is. record {
          sized = subst (λ n. IsSized n (turned m.kind)) (sym built.letters) (turned_sized t.letters m.kind is.sized);
          leads = omega (arith, is.leads, turned_states);
        }) l each)) t.moves ok.moves));
  }

  module _ (read : ℕ → ℕ) where
    step_on : (p q : ℕ) (input output : List ℕ) → HasStep read t p input output q → HasStep read r p output input q
    step_on p q input output step =
        mapped_on read turned_move (moves_of t) r same_moves p output input (record { kind = step.0; to = q }) step.1 (turned_does read step.0 input output step.2)

    step_back : (p q : ℕ) (input output : List ℕ) → HasStep read r p input output q → HasStep read t p output input q
    step_back p q input output step =
        let found = mapped_back read turned_move (moves_of t) r same_moves p q input output step in
        subst (λ n. HasStep read t p output input n) found.2 (found.0.kind, found.1, turned_does_back read found.0.kind input output found.3)

    back : (q : ℕ) (u v : List ℕ) → ReachR read r q u v → ReachR read t q v u
    back =
        reach_each read r (λ q u v. ReachR read t q v u)
        (λ p q u v input output reach there step. reach_step read t p q v u output input there (step_back p q input output step))
        (subst (λ n. ReachR read t n [] []) (sym built.start) (reach_start read t))

    on : (q : ℕ) (u v : List ℕ) → ReachR read t q u v → ReachR read r q v u
    on =
        reach_each read t (λ q u v. ReachR read r q v u)
        (λ p q u v input output reach there step. reach_step read r p q v u output input there (step_on p q input output step))
        (subst (λ n. ReachR read r n [] []) built.start (reach_start read r))

    pub turned_reach : (q : ℕ) (u v : List ℕ) → ReachR read r q u v ↔ ReachR read t q v u
    turned_reach q u v = (back q u v, on q v u)

    pub turned_relation : (u v : List ℕ) → Relates read r u v ↔ Relates read t v u
    turned_relation u v = (
      λ (q, reach, final). (q, back q u v reach, ap (λ l. get_or l q false) (sym built.finals) ∙ final),
      λ (q, reach, final). (q, on q v u reach, ap (λ l. get_or l q false) built.finals ∙ final),
    )
