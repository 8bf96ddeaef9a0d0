-- Classes that are split further: a union of classes stays one.
use Rattle.std.proofs.Common.{◌≡◌, ◌∙◌, ℕ, ◌+◌, ◌<◌, Bool, List, [], ◌∷◌, ◌++◌, Option, None, Some, length, get_or, map, take, sym, ap, subst, arith}
use Rattle.std.specs.List.{All}
use Rattle.std.specs.Option.{ForSome, option_map}
use Rattle.std.proofs.lemmas.List.{map_push, take_more}
use Rattle.std.proofs.lemmas.List.Elements.{All-push, All-weaker}
use Rattle.rela_nfa.specs.Automaton.{Move}
use Rattle.rela_nfa.specs.Relabelling.{Refines}
use Rattle.rela_nfa.specs.Stored.{move_of}
use Rattle.rela_nfa.specs.declared.edge.Edge.{Edge}
use Rattle.rela_complement.specs.Merging.{HaveUnions, IsUnion}

pub refines_itself : (classes : List ℕ) → Refines classes classes
refines_itself classes = record { same_symbols = λ i. length classes; together = λ s t s_in t_in same. same }

pub refines_on : (a b c : List ℕ) → Refines a b → Refines b c → Refines a c
refines_on a b c first second = record {
  same_symbols = first.same_symbols ∙ second.same_symbols;
  together = λ s t s_in t_in same.
      second.together s t (omega (arith, s_in, first.same_symbols)) (omega (arith, t_in, first.same_symbols)) (first.together s t s_in t_in same);
}

still_union : (new old : List ℕ) → Refines new old → (set : List Bool) → IsUnion old set → IsUnion new set
still_union new old refines set union j k j_in k_in same =
    union j k (omega (arith, j_in, refines.same_symbols)) (omega (arith, k_in, refines.same_symbols)) (refines.together j k j_in k_in same)

still_unions : (new old : List ℕ) → Refines new old → (moves : List Move) → HaveUnions old moves → HaveUnions new moves
still_unions new old refines moves unions =
    All-weaker (λ move. ForSome move.label (IsUnion old)) (λ move. ForSome move.label (IsUnion new))
    (λ move union set is. still_union new old refines set (union set is)) moves unions

still_all : (new old : List ℕ) → Refines new old → (edges : List (List Move)) → All (HaveUnions old) edges → All (HaveUnions new) edges
still_all new old refines edges unions = All-weaker (HaveUnions old) (HaveUnions new) (still_unions new old refines) edges unions

-- a label that has the letters themselves
for_letters : (P : List Bool → Type 0) (label : Option (List Bool)) → ForSome label P → ForSome (option_map (λ (set : List Bool). set) label) P
for_letters P None each set e = cc
for_letters P (Some old) each set e = let same : Some old ≡ Some set = e in each set same

-- one edge more
pub unions_more : (new old : List ℕ) → Refines new old → (edges : List (Edge (List Bool))) (i : ℕ) (edge : Edge (List Bool)) → i < length edges → edge ≡ get_or edges i edge
    → HaveUnions old (map (move_of (λ (set : List Bool). set)) (take i edges)) → ForSome edge.label (IsUnion new)
    → HaveUnions new (map (move_of (λ (set : List Bool). set)) (take (i + 1) edges))
unions_more new old refines edges i edge inside is unions union =
    let front = map (move_of (λ (set : List Bool). set)) (take i edges) in
    let more : map (move_of (λ (set : List Bool). set)) (take (i + 1) edges) ≡ front ++ move_of (λ (set : List Bool). set) edge ∷ [] =
    ap (map (move_of (λ (set : List Bool). set))) (take_more edges i edge inside ∙ ap (λ (x : Edge (List Bool)). take i edges ++ x ∷ []) (sym is))
    ∙ map_push (move_of (λ (set : List Bool). set)) (take i edges) edge in
    subst (HaveUnions new) (sym more)
    (All-push (λ move. ForSome move.label (IsUnion new)) front (move_of (λ (set : List Bool). set) edge) (still_unions new old refines front unions)
    (for_letters (IsUnion new) edge.label union))

-- the edges of one state more
pub all_more : (new old : List ℕ) → Refines new old → (edges : List (List Move)) (q : ℕ) (moves : List Move) → q < length edges → moves ≡ get_or edges q []
    → All (HaveUnions old) (take q edges) → HaveUnions new moves → All (HaveUnions new) (take (q + 1) edges)
all_more new old refines edges q moves inside is unions union =
    let more : take (q + 1) edges ≡ take q edges ++ moves ∷ [] = take_more edges q [] inside ∙ ap (λ (l : List Move). take q edges ++ l ∷ []) (sym is) in
    subst (All (HaveUnions new)) (sym more) (All-push (HaveUnions new) (take q edges) moves (still_all new old refines (take q edges) unions) union)
