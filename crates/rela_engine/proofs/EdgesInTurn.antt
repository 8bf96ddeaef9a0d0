-- To which states letters lead, edge by edge from the last to the first.
use Rattle.std.proofs.Common.{◌≡◌, ◌∙◌, ℕ, ◌<◌, ◌≤◌, Bool, true, false, cond, List, [], ◌∷◌, ◌++◌, Option, Some, None, length, get_or, map, replicate, refl, sym, ap, subst, inl, inr, arith}
use Rattle.std.specs.List.{All}
use Rattle.std.specs.Option.{option_map, unwrap_or, ForSome}
use Rattle.std.proofs.lemmas.Bool.{cases_Bool, cases_lt}
use Rattle.std.proofs.lemmas.List.{get_or-map, get_or-replicate, get_or_append_left, get_or_at, length-append, length-map, length-replicate, map-append}
use Rattle.rela_labels.specs.Letters.{has}
use Rattle.rela_nfa.specs.Automaton.{IsMove, Move}
use Rattle.rela_nfa.specs.Stored.{move_of}
use Rattle.rela_nfa.specs.declared.edge.Edge.{Edge}
use Rattle.rela_subset.specs.Deterministic.{Deterministic, IsDeterministic, moves_of, next, states, takes, target}
use Rattle.rela_engine.proofs.LetterLaws.{moves_at}

last_none : (b : Bool) (to v : ℕ) → unwrap_or (cond b (Some to) None) v ≡ cond b to v
last_none true to v = refl
last_none false to v = refl

last_some : (b : Bool) (to v w : ℕ) (o p : Option ℕ) → unwrap_or o v ≡ unwrap_or p w → unwrap_or (cond b (Some to) o) v ≡ unwrap_or (cond b (Some to) p) w
last_some true to v w o p same = refl
last_some false to v w o p same = same

-- the last edge is taken where no other is
pub target_last : (moves : List Move) (move : Move) (k v : ℕ) → unwrap_or (target (moves ++ move ∷ []) k) v ≡ unwrap_or (target moves k) (cond (takes k move) move.to v)
target_last [] move k v = last_none (takes k move) move.to v
target_last (first ∷ moves) move k v = last_some (takes k first) first.to v (cond (takes k move) move.to v) (target (moves ++ move ∷ []) k) (target moves k) (target_last moves move k v)

-- an edge of an automaton over sets of any size, as data
abbrev pub as_move : Edge (List Bool) → Move
as_move edge = move_of (λ (set : List Bool). set) edge

-- the edges that are left, and then the targets so far, lead where the state's edges do
pub record AreLed (d : Deterministic) (q : ℕ) (edges : List (Edge (List Bool))) (targets : List ℕ) : Type 0 where
  pub long : length targets ≡ length d.over
  pub led : (k : ℕ) → k < length d.over → unwrap_or (target (map as_move edges) k) (get_or targets k 0) ≡ next d q k

module _ (d : Deterministic) (q : ℕ) where
  pub none_led : (edges : List (Edge (List Bool))) → map as_move edges ≡ moves_of d q → AreLed d q edges (replicate (length d.over) 0)
  none_led edges are = record {
    long = length-replicate (length d.over) 0;
    led = λ k below.
        ap (λ (v : ℕ). unwrap_or (target (map as_move edges) k) v) (get_or-replicate (length d.over) k 0 0 below)
        ∙ ap (λ (moves : List Move). unwrap_or (target moves k) 0) are;
  }

  pub one_led : (edges earlier : List (Edge (List Bool))) (last : Edge (List Bool)) (old new : List ℕ) → edges ≡ earlier ++ last ∷ [] → length new ≡ length old
      → ((k : ℕ) → k < length old → get_or new k 0 ≡ cond (takes k (as_move last)) last.to (get_or old k 0))
      → AreLed d q edges old → AreLed d q earlier new
  one_led edges earlier last old new split same led before = record {
    long = same ∙ before.long;
    led = λ k below.
        ap (λ (v : ℕ). unwrap_or (target (map as_move earlier) k) v) (led k (omega (arith, below, before.long)))
        ∙ sym (target_last (map as_move earlier) (as_move last) k (get_or old k 0))
        ∙ ap (λ (moves : List Move). unwrap_or (target moves k) (get_or old k 0)) (sym (ap (map as_move) split ∙ map-append as_move earlier (last ∷ [])))
        ∙ before.led k below;
  }

  pub all_led : (targets : List ℕ) → AreLed d q [] targets → (k : ℕ) → k < length d.over → get_or targets k 0 ≡ next d q k
  all_led targets are k below = are.led k below

-- ---- labels as long as there are letters

-- the label has as many entries as there are letters, if there is one
abbrev pub IsSized : ℕ → Edge (List Bool) → Type 0
IsSized n edge = ForSome edge.label (λ set. length set ≡ n)

own_label : (o : Option (List Bool)) → option_map (λ (set : List Bool). set) o ≡ o
own_label None = refl
own_label (Some set) = refl

module _ (d : Deterministic) (ok : IsDeterministic d) (q : ℕ) where
  pub all_sized : (edges : List (Edge (List Bool))) → map as_move edges ≡ moves_of d q → All (IsSized (length d.over)) edges
  all_sized edges are k e below =
      let moves : All (IsMove (length d.over) (states d)) (map as_move edges) =
      subst (All (IsMove (length d.over) (states d))) (sym are) (moves_at d ok q) in
      let move = moves k (as_move e) (omega (arith, below, length-map edges as_move)) in
      let is : IsMove (length d.over) (states d) (as_move (get_or edges k e)) = subst (IsMove (length d.over) (states d)) (get_or-map as_move edges k e (as_move e) below) move in
      subst (λ (o : Option (List Bool)). ForSome o (λ set. length set ≡ length d.over)) (own_label (get_or edges k e).label) is.sized

pub last_of : {X : Type 0} (P : X → Type 0) (xs : List X) (x : X) → All P (xs ++ x ∷ []) → P x
last_of P xs x all = subst P (get_or_at xs x [] x (length xs) refl) (all (length xs) x (omega (arith, length-append xs (x ∷ []))))

pub front_of : {X : Type 0} (P : X → Type 0) (xs ys : List X) → All P (xs ++ ys) → All P xs
front_of P xs ys all k d below = subst P (get_or_append_left xs ys d k below) (all k d (omega (arith, below, length-append xs ys)))

pub none_left : {X : Type 0} (xs : List X) → length xs ≡ 0 → xs ≡ []
none_left [] none = refl
none_left (x ∷ xs) none = absurd (omega (arith, none))

-- ---- one edge

-- the letters of the set below a number have been led to the state
pub record IsLedBelow (set : List Bool) (to : ℕ) (old : List ℕ) (n : ℕ) (new : List ℕ) : Type 0 where
  pub long : length new ≡ length old
  pub done : (k : ℕ) → k < n → k < length old → get_or new k 0 ≡ cond (has set k) to (get_or old k 0)
  pub left : (k : ℕ) → n ≤ k → get_or new k 0 ≡ get_or old k 0

module _ (set : List Bool) (to : ℕ) (old : List ℕ) where
  pub led_none : (n : ℕ) → ((k : ℕ) → k < n → has set k ≡ false) → IsLedBelow set to old n old
  led_none n none = record {
    long = refl;
    done = λ k below inside. ap (λ (b : Bool). cond b to (get_or old k 0)) (sym (none k below));
    left = λ k past. refl;
  }

  pub led_all : (n : ℕ) (new : List ℕ) → ((k : ℕ) → has set k ≡ true → k < n) → IsLedBelow set to old n new
      → (k : ℕ) → k < length old → get_or new k 0 ≡ cond (has set k) to (get_or old k 0)
  led_all n new past is k inside = elim (cases_lt k n) [
    | inl below ↦ is.done k below inside
    | inr above ↦ elim (cases_Bool (has set k)) [
      | inl among ↦ (let below = past k among in absurd (omega (arith, above, below)))
      | inr other ↦ is.left k (omega (arith, above)) ∙ ap (λ (b : Bool). cond b to (get_or old k 0)) (sym other)
    ]
  ]
