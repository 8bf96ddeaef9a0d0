-- Arrows whose labels have numbers in a list that grows.
use Rattle.std.proofs.Common.{◌≡◌, ℕ, ◌<◌, ◌≤◌, Bool, List, [], ◌∷◌, ◌++◌, length, get_or, map, Option, None, Some, refl, sym, ap, ◌∙◌, append_assoc, arith}
use Rattle.std.specs.List.{All}
use Rattle.std.specs.Option.{ForSome, option_map}
use Rattle.std.proofs.lemmas.List.{append-nil, get_or_append_left, length-append, map-append}
use Rattle.std.proofs.lemmas.List.Elements.{All-head, All-nil, All-push, All-tail, All-weaker}
use Rattle.rela_nfa.specs.Automaton.{Move}
use Rattle.rela_reduce.specs.Numbered.{edges_by, labelled}
use Rattle.rela_reduce.specs.declared.arrow.Arrow.{Arrow}

-- the arrow's label is among this many
abbrev pub IsKnown : ℕ → Arrow → Type 0
IsKnown n arrow = ForSome arrow.label (λ k. k < n)

pub known_more : (n m : ℕ) → n ≤ m → (arrow : Arrow) → IsKnown n arrow → IsKnown m arrow
known_more n m more arrow known k is = let below = known k is in omega arith

module _ (labels more : List (List Bool)) where
  pub count_more : length labels ≤ length (labels ++ more)
  count_more = omega (arith, length-append labels more)

  label_more : (label : Option ℕ) → ForSome label (λ k. k < length labels) → option_map (λ (k : ℕ). get_or (labels ++ more) k []) label ≡ option_map (λ (k : ℕ). get_or labels k []) label
  label_more None known = refl
  label_more (Some k) known = ap (λ (set : List Bool). Some set) (get_or_append_left labels more [] k (known k refl))

  labelled_more : (arrow : Arrow) → IsKnown (length labels) arrow → labelled (labels ++ more) arrow ≡ labelled labels arrow
  labelled_more arrow known = ap (λ (label : Option (List Bool)). record { label = label; to = arrow.to }) (label_more arrow.label known)

  arrows_more : (arrows : List Arrow) → All (IsKnown (length labels)) arrows → map (labelled (labels ++ more)) arrows ≡ map (labelled labels) arrows
  arrows_more [] known = refl
  arrows_more (arrow ∷ arrows) known =
      ap (λ (m : Move). m ∷ map (labelled (labels ++ more)) arrows) (labelled_more arrow (All-head (IsKnown (length labels)) arrow arrows known))
      ∙ ap (λ (ms : List Move). labelled labels arrow ∷ ms) (arrows_more arrows (All-tail (IsKnown (length labels)) arrow arrows known))

  lists_more : (lists : List (List Arrow)) → All (All (IsKnown (length labels))) lists → edges_by (labels ++ more) lists ≡ edges_by labels lists
  lists_more [] known = refl
  lists_more (list ∷ lists) known =
      ap (λ (ms : List Move). ms ∷ edges_by (labels ++ more) lists) (arrows_more list (All-head (All (IsKnown (length labels))) list lists known))
      ∙ ap (λ (mss : List (List Move)). map (labelled labels) list ∷ mss) (lists_more lists (All-tail (All (IsKnown (length labels))) list lists known))

-- the labels have grown by some
abbrev pub Grows : List (List Bool) → List (List Bool) → Type 0
Grows old new = (more : List (List Bool)) × (new ≡ old ++ more)

pub grows_on : (a b c : List (List Bool)) → Grows a b → Grows b c → Grows a c
grows_on a b c (more, is) (again, more_is) = (more ++ again, more_is ∙ ap (λ l. l ++ again) is ∙ append_assoc a more again)

pub grows_none : (a : List (List Bool)) → Grows a a
grows_none a = ([], sym (append-nil a))

-- the arrows so far, and the labels of which theirs are some
pub record AreArrows (first labels : List (List Bool)) (moves : List Move) (arrows : List Arrow) : Type 0 where
  pub edges : map (labelled labels) arrows ≡ moves
  pub known : All (IsKnown (length labels)) arrows
  pub grown : Grows first labels

pub no_arrows : (first : List (List Bool)) → AreArrows first first [] []
no_arrows first = record { edges = refl; known = All-nil (IsKnown (length first)); grown = grows_none first }

-- one arrow more
pub arrows_push : (first labels labels' : List (List Bool)) (moves : List Move) (arrows : List Arrow) (arrow : Arrow) (move : Move) → AreArrows first labels moves arrows → Grows labels labels'
    → IsKnown (length labels') arrow → labelled labels' arrow ≡ move → AreArrows first labels' (moves ++ move ∷ []) (arrows ++ arrow ∷ [])
arrows_push first labels labels' moves arrows arrow move so_far (more, is) known edge = record {
  edges =
      map-append (labelled labels') arrows (arrow ∷ [])
      ∙ ap (λ (ms : List Move). ms ++ labelled labels' arrow ∷ []) (ap (λ (ls : List (List Bool)). map (labelled ls) arrows) is ∙ arrows_more labels more arrows so_far.known ∙ so_far.edges)
      ∙ ap (λ (m : Move). moves ++ m ∷ []) edge;
  known =
      All-push (IsKnown (length labels')) arrows arrow
      (All-weaker (IsKnown (length labels)) (IsKnown (length labels')) (known_more (length labels) (length labels') (let few = count_more labels more in let len = ap length is in omega arith)) arrows so_far.known) known;
  grown = grows_on first labels labels' so_far.grown (more, is);
}

-- the arrows of the states so far
pub record AreLists (labels : List (List Bool)) (whole : List (List Move)) (lists : List (List Arrow)) : Type 0 where
  pub edges : edges_by labels lists ≡ whole
  pub known : All (All (IsKnown (length labels))) lists

pub no_lists : (labels : List (List Bool)) → AreLists labels [] []
no_lists labels = record { edges = refl; known = All-nil (All (IsKnown (length labels))) }

-- those of one state more
pub lists_push : (labels labels' : List (List Bool)) (edges : List (List Move)) (lists : List (List Arrow)) (list : List Arrow) (moves : List Move) → AreLists labels edges lists → Grows labels labels'
    → All (IsKnown (length labels')) list → map (labelled labels') list ≡ moves → AreLists labels' (edges ++ moves ∷ []) (lists ++ list ∷ [])
lists_push labels labels' edges lists list moves so_far (more, is) known same = record {
  edges =
      map-append (map (labelled labels')) lists (list ∷ [])
      ∙ ap (λ (mss : List (List Move)). mss ++ map (labelled labels') list ∷ []) (ap (λ (ls : List (List Bool)). edges_by ls lists) is ∙ lists_more labels more lists so_far.known ∙ so_far.edges)
      ∙ ap (λ (ms : List Move). edges ++ ms ∷ []) same;
  known =
      let each : (l : List Arrow) → All (IsKnown (length labels)) l → All (IsKnown (length labels')) l =
      λ l all. All-weaker (IsKnown (length labels)) (IsKnown (length labels')) (known_more (length labels) (length labels') (let few = count_more labels more in let len = ap length is in omega arith)) l all in
      All-push (All (IsKnown (length labels'))) lists list (All-weaker (All (IsKnown (length labels))) (All (IsKnown (length labels'))) each lists so_far.known) known;
}
