-- Edges that lead to states, and the first states of classes.
use Rattle.std.proofs.Common.{◌≡◌, ℕ, ◌<◌, Bool, List, length, get_or, map, sym, ap, ◌∙◌, subst, arith}
use Rattle.std.specs.List.{All}
use Rattle.std.proofs.lemmas.List.{get_or-map, get_or_default, length-map}
use Rattle.std.proofs.lemmas.List.Elements.{All-from_get_or, All-get_or}
use Rattle.rela_nfa.specs.Automaton.{IsMove}
use Rattle.rela_nfa.specs.Stored.{move_of}
use Rattle.rela_nfa.specs.declared.edge.Edge.{Edge}
use Rattle.rela_subset.specs.Deterministic.{Deterministic, IsDeterministic, moves_of, states}
use Rattle.rela_minimise.specs.Classes.{AreClasses, AreFirst, AreInOrder}
use Rattle.rela_minimise.proofs.LetterTargets.{moves_at}

-- the edges of a state lead to states
pub edges_lead : {L : Type 0} (letters : L → List Bool) (edges : List (Edge L)) (d : Deterministic) → IsDeterministic d → (n q : ℕ) → n ≡ states d → q < states d
    → map (move_of letters) edges ≡ moves_of d q → All (λ edge. edge.to < n) edges
edges_lead letters edges d ok n q all below are k e within =
    let len = length-map edges (move_of letters) in
    let fits = All-get_or (IsMove (length d.over) (states d)) (map (move_of letters) edges) k (move_of letters e) (omega arith) (subst (All (IsMove (length d.over) (states d))) (sym are) (moves_at d ok q below)) in
    let leads : (get_or edges k e).to < states d = subst (λ move. move.to < states d) (get_or-map (move_of letters) edges k e (move_of letters e) within) fits.leads in
    omega arith

pub counted_all : (d : Deterministic) (count : ℕ) (classes : List ℕ) → AreClasses d count classes → All (λ c. c < count) classes
counted_all d count classes are = All-from_get_or (λ c. c < count) classes 0 (λ q within. are.counted q (let each = are.each in omega arith))

-- the same classes, numbered in the order of their first states
pub classes_in_order : (d : Deterministic) (count : ℕ) (classes numbers heads : List ℕ) → AreClasses d count classes → AreInOrder classes numbers heads → AreClasses d (length heads) numbers × AreFirst (states d) numbers heads
classes_in_order d count classes numbers heads are order = (
  record {
    each = order.each ∙ are.each;
    alike = λ p q p_in q_in.
        let same = order.same p q (in_classes p p_in) (in_classes q q_in) in
        let alike = are.alike p q p_in q_in in
        (λ equal. alike.0 (same.0 equal), λ accept. same.1 (alike.1 accept));
    counted = λ q q_in. order.counted q (in_classes q q_in);
    met = λ c below. (get_or heads c 0, first.state c below, first.own c below);
  },
  first,
)
  where
    first : AreFirst (states d) numbers heads
    first = subst (λ n. AreFirst n numbers heads) are.each order.first

    in_classes : (q : ℕ) → q < states d → q < length classes
    in_classes q below = let each = are.each in omega arith

-- the class of the start, as it is read
pub start_class : (d : Deterministic) → IsDeterministic d → (count : ℕ) (classes : List ℕ) → AreClasses d count classes → (start : ℕ) → start ≡ d.start → (class : ℕ) → class ≡ get_or classes start class → class ≡ get_or classes d.start 0
start_class d ok count classes are start same class is =
    is ∙ ap (λ q. get_or classes q class) same ∙ get_or_default classes d.start class 0 (let starts = ok.automaton.starts in let each = are.each in omega arith)
