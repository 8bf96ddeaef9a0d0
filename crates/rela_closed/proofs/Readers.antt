-- Automata that are read one after the other.
use Rattle.std.proofs.Common.{◌≡◌, ℕ, ◌+◌, ◌<◌, List, [], ◌∷◌, ◌++◌, length, get_or, map, take, sym, ap, ◌∙◌, subst, arith}
use Rattle.std.specs.List.{All}
use Rattle.std.proofs.lemmas.List.{get_or-map, length-map, map_more, map_push}
use Rattle.std.proofs.lemmas.List.Elements.{All-get_or}
use Rattle.rela_nfa.specs.Automaton.{Automaton}
use Rattle.rela_nfa.specs.StateSet.{Lists}
use Rattle.rela_closed.specs.Sets.{AreReached, ReachedBy}
use Rattle.rela_closed.proofs.JointSets.{reached_at, reached_each, reached_more}

-- one item more
pub map_take_more : {X Y : Type 0} (f : X → Y) (xs : List X) (i : ℕ) (x : X) → i < length xs → x ≡ get_or xs i x → map f (take (i + 1) xs) ≡ map f (take i xs) ++ f x ∷ []
map_take_more f xs i x below at = map_more f xs i x below ∙ ap (λ y. map f (take i xs) ++ f y ∷ []) (sym at)

pub map_pushed : {X Y : Type 0} (f : X → Y) (xs xs' : List X) (x : X) → xs' ≡ xs ++ x ∷ [] → map f xs' ≡ map f xs ++ f x ∷ []
map_pushed f xs xs' x pushed = ap (map f) pushed ∙ map_push f xs x

-- what holds of all holds of an item
pub all_at : {X Y : Type 0} (P : Y → Type 0) (f : X → Y) (xs : List X) (i : ℕ) (x : X) → i < length xs → x ≡ get_or xs i x → All P (map f xs) → P (f x)
all_at P f xs i x below at all =
    subst P (get_or-map f xs i x (f x) below ∙ ap f (sym at)) (All-get_or P (map f xs) i (f x) (omega (arith, length-map xs f)) all)

-- one automaton and its set more
pub reached_pushed : (automata automata' : List Automaton) (a : Automaton) (word : List ℕ) (sets sets' : List (List ℕ)) (set : List ℕ) → automata' ≡ automata ++ a ∷ [] → sets' ≡ sets ++ set ∷ []
    → AreReached automata word sets → Lists (ReachedBy a word) set → AreReached automata' word sets'
reached_pushed automata automata' a word sets sets' set one two before is =
    subst (λ l. AreReached l word sets') (sym one) (subst (λ l. AreReached (automata ++ a ∷ []) word l) (sym two) (reached_more automata a word sets set before is))

-- the automaton and the set of a place
pub place_of : {X : Type 0} (now : X → Automaton) (xs : List X) (mine : List Automaton) (i : ℕ) (x : X) (word : List ℕ) (sets : List (List ℕ)) → map now xs ≡ mine → i < length xs → x ≡ get_or xs i x
    → AreReached mine word sets → Lists (ReachedBy (now x) word) (get_or sets i [])
place_of now xs mine i x word sets is below at reached =
    subst (λ a. Lists (ReachedBy a word) (get_or sets i [])) (get_or-map now xs i x (now x) below ∙ ap now (sym at))
    (reached_at (map now xs) word sets (subst (λ l. AreReached l word sets) (sym is) reached) i (now x) (omega (arith, length-map xs now)))

-- there are as many sets as automata
pub sets_as_many : {X Y : Type 0} (now : X → Automaton) (items : Y → List ℕ) (xs : List X) (ys : List Y) (mine : List Automaton) (word : List ℕ) → map now xs ≡ mine → AreReached mine word (map items ys)
    → length ys ≡ length xs
sets_as_many now items xs ys mine word is reached =
    omega (arith, reached_each mine word (map items ys) reached, length-map ys items, length-map xs now, ap length is)
