-- The places of edges by their ends.
use Rattle.std.proofs.Common.{◌≡◌, ℕ, ◌<◌, Bool, cond, ◌||◌, nat_eq, List, [], ◌∷◌, ◌++◌, length, get_or, set, map, Option, Some, sym, ap, ◌∙◌, subst, inl, inr, arith}
use Rattle.std.specs.HashMap.{HashMap, get}
use Rattle.std.specs.List.{All}
use Rattle.std.specs.Map.{lookup}
use Rattle.std.specs.Option.{ForSome, option_map}
use Rattle.std.proofs.lemmas.Bool.{cases_Bool, cases_eq}
use Rattle.std.proofs.lemmas.List.{get_or-map, get_or-set_same, get_or-set_other, get_or_append_left, get_or_push, length-map, length-set, length_push, map-set, map_push}
use Rattle.std.proofs.lemmas.Map.Views.{exact_unsigned_eq}
use Rattle.std.proofs.lemmas.Option.{same_Some}
use Rattle.rela_labels.specs.Letters.{has}
use Rattle.rela_nfa.specs.Automaton.{Move}
use Rattle.rela_nfa.specs.Stored.{move_of}
use Rattle.rela_nfa.specs.declared.edge.Edge.{Edge}
use Rattle.rela_closed.specs.Listing.{ArePlaced, IsPutIn, takes}

module _ {L S : Type 0} (letters : L → List Bool) (edges : List (Edge L)) (places : HashMap ℕ ℕ S) (placed : ArePlaced (map (move_of letters) edges) places) where
  abbrev moves : List Move
  moves = map (move_of letters) edges

  module _ (place to : ℕ) (found : get nat_eq places to ≡ Some place) where
    pub place_within : place < length edges
    place_within = omega (arith, (placed to place found).0, length-map edges (move_of letters))

    -- the edge that is read there
    pub move_read : (edge : Edge L) → edge ≡ get_or edges place edge → (move : Move) → get_or moves place move ≡ move_of letters edge
    move_read edge at move = get_or-map (move_of letters) edges place edge move place_within ∙ ap (move_of letters) (sym at)

    pub read_sized : (n : ℕ) (edge : Edge L) → edge ≡ get_or edges place edge → All (λ move. ForSome move.label (λ s. length s ≡ n)) moves → ForSome edge.label (λ s. length (letters s) ≡ n)
    read_sized n edge at sized x e =
        sized place (move_of letters edge) (placed to place found).0 (letters x) (ap (λ (m : Move). m.label) (move_read edge at (move_of letters edge)) ∙ ap (option_map letters) e)

    module _ (joined : L) where
      abbrev joined_edge : Edge L
      joined_edge = record { label = Some joined; to = to }

      pub placed_joined : ArePlaced (map (move_of letters) (set edges place joined_edge)) places
      placed_joined other i at =
          let old = placed other i at in (
            omega (arith, old.0, length-map edges (move_of letters), length-map (set edges place joined_edge) (move_of letters), length-set edges place joined_edge),
            λ move. ap (λ (l : List Move). (get_or l i move).to) (map-set (move_of letters) edges place joined_edge) ∙ elim (cases_eq i place) [
              | inl same ↦
                  ap (λ (m : Move). m.to) (ap (λ n. get_or (set moves place (move_of letters joined_edge)) n move) same ∙ get_or-set_same moves place (move_of letters joined_edge) move (placed to place found).0)
                  ∙ sym ((placed to place found).1 move) ∙ ap (λ n. (get_or moves n move).to) (sym same) ∙ old.1 move
              | inr differ ↦ ap (λ (m : Move). m.to) (get_or-set_other moves place i (move_of letters joined_edge) move differ) ∙ old.1 move
            ],
          )

      pub put_joined : (old : List Move) (label : List Bool) (edge : Edge L) → moves ≡ old → edge ≡ get_or edges place edge → length (letters joined) ≡ length label
          → ((k : ℕ) → has (letters joined) k ≡ (takes k (move_of letters edge) || has label k)) → IsPutIn label to old (map (move_of letters) (set edges place joined_edge))
      put_joined old label edge view at size either =
          subst (λ seen. IsPutIn label to seen (map (move_of letters) (set edges place joined_edge))) view (inr (
            place,
            letters joined,
            (placed to place found).0,
            map-set (move_of letters) edges place joined_edge,
            (placed to place found).1,
            size,
            λ k move. either k ∙ ap (λ (m : Move). takes k m || has label k) (sym (move_read edge at move)),
          ))

  module _ (edges' : List (Edge L)) (edge : Edge L) (pushed : edges' ≡ edges ++ edge ∷ []) where
    grown : map (move_of letters) edges' ≡ moves ++ move_of letters edge ∷ []
    grown = ap (map (move_of letters)) pushed ∙ map_push (move_of letters) edges edge

    pub put_pushed : (old : List Move) (label : L) → moves ≡ old → edge.label ≡ Some label → IsPutIn (letters label) edge.to old (map (move_of letters) edges')
    put_pushed old label view is =
        inl (grown ∙ ap (λ (l : List Move). l ++ move_of letters edge ∷ []) view ∙ ap (λ (x : Option (List Bool)). old ++ (record { label = x; to = edge.to }) ∷ []) (ap (option_map letters) is))

    -- a place still is that of its edge
    still : (to i : ℕ) → get nat_eq places to ≡ Some i → (i < length (map (move_of letters) edges')) × ((move : Move) → (get_or (map (move_of letters) edges') i move).to ≡ to)
    still to i at =
        let old = placed to i at in (
          omega (arith, old.0, ap length grown, length_push moves (move_of letters edge)),
          λ move. ap (λ (l : List Move). (get_or l i move).to) grown ∙ ap (λ (m : Move). m.to) (get_or_append_left moves (move_of letters edge ∷ []) move i old.0) ∙ old.1 move,
        )

    pub placed_still : (places' : HashMap ℕ ℕ S) → places'.entries ≡ places.entries → ArePlaced (map (move_of letters) edges') places'
    placed_still places' same to i at = still to i (ap (lookup (nat_eq to)) (sym same) ∙ at)

    pub placed_pushed : (places' : HashMap ℕ ℕ S) (place : ℕ) → place ≡ length edges → ((q : ℕ) → get nat_eq places' q ≡ cond (nat_eq edge.to q) (Some place) (get nat_eq places q))
        → ArePlaced (map (move_of letters) edges') places'
    placed_pushed places' place last updates to i at = elim (cases_Bool (nat_eq edge.to to)) [
      | inl same ↦
          let place_is : place ≡ i = same_Some place i (sym (ap (λ b. cond b (Some place) (get nat_eq places to)) same) ∙ sym (updates to) ∙ at) in
          let len = length-map edges (move_of letters) in (
            omega (arith, ap length grown, length_push moves (move_of letters edge)),
            λ move. ap (λ (l : List Move). (get_or l i move).to) grown
                ∙ ap (λ (m : Move). m.to) (get_or_push moves (move_of letters edge) move i (omega arith)) ∙ exact_unsigned_eq edge.to to same,
          )
      | inr other ↦ still to i (sym (ap (λ b. cond b (Some place) (get nat_eq places to)) other) ∙ sym (updates to) ∙ at)
    ]
