-- Lists whose elements are changed one after the other, where they stand.
use Rattle.std.proofs.Common.{◌≡◌, ℕ, ◌+◌, ◌<◌, List, [], ◌∷◌, ◌++◌, length, get_or, set, map, take, drop, sym, ap, ◌∙◌, arith}
use Rattle.std.proofs.lemmas.List.{drop-drop, drop_more, drop-set-lt, length-drop, map_push, take_more, take_more_set}

-- what stands at i is what stood there at first
pub at_first : {X : Type 0} (first now : List X) (i : ℕ) (d : X) → i < length now → drop i now ≡ drop i first → (i < length first) × (get_or first i d ≡ get_or now i d)
at_first first now i d below rest =
    let same : drop i first ≡ get_or now i d ∷ drop (i + 1) now = sym rest ∙ drop_more now i d below in
    let within : i < length first = omega (arith, ap length same, length-drop i first) in
    (within, cc (drop_more first i d within))

-- one element more
pub each_more : {X Y : Type 0} (f : X → Y) (change : Y → Y) (first now : List X) (i : ℕ) (v new : X) → i < length now → v ≡ get_or now i v → map f (take i now) ≡ map change (map f (take i first))
    → drop i now ≡ drop i first → f new ≡ change (f v) → map f (take (i + 1) (set now i new)) ≡ map change (map f (take (i + 1) first))
each_more f change first now i v new below at done rest changed =
    let start = at_first first now i v below rest in
    ap (map f) (take_more_set now i new below) ∙ map_push f (take i now) new ∙ ap (λ l. l ++ f new ∷ []) done ∙ ap (λ y. map change (map f (take i first)) ++ y ∷ []) changed
    ∙ sym (ap (λ l. map change (map f l)) (take_more first i v start.0 ∙ ap (λ x. take i first ++ x ∷ []) (start.1 ∙ sym at))
    ∙ ap (map change) (map_push f (take i first) v) ∙ map_push change (map f (take i first)) (f v))

pub rest_more : {X : Type 0} (first now : List X) (i : ℕ) (new : X) → drop i now ≡ drop i first → drop (i + 1) (set now i new) ≡ drop (i + 1) first
rest_more first now i new rest = drop-set-lt (i + 1) now i new (omega arith) ∙ sym (drop-drop 1 i now) ∙ ap (drop 1) rest ∙ drop-drop 1 i first
