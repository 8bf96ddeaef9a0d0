-- A loop that collects results up to the first refusal.
use Rattle.std.proofs.Common.{◌≡◌, ◌∙◌, List, [], ◌∷◌, ◌++◌, Result, Ok, Err, sym, ap, append_assoc}
use Rattle.rela_json.specs.Results.{◌>>=◌, try_map}

-- the results that are left, behind those that are there
abbrev pub with_front : {A E : Type 0} → List A → Result (List A) E → Result (List A) E
with_front front left = left >>= λ xs. Ok (front ++ xs)

front_more : {A E : Type 0} (front new : List A) (x : A) (left rest whole : Result (List A) E)
    → left ≡ (rest >>= λ xs. Ok (x ∷ xs)) → new ≡ front ++ x ∷ [] → with_front front left ≡ whole → with_front new rest ≡ whole
front_more {A} {E} front new x left (Ok xs) whole is made so_far =
    let joined : new ++ xs ≡ front ++ x ∷ xs = ap (λ ys. ys ++ xs) made ∙ append_assoc front (x ∷ []) xs in
    ap (λ ys. Ok ys) joined ∙ sym (ap (with_front front) is) ∙ so_far
front_more {A} {E} front new x left (Err e) whole is made so_far = sym (ap (with_front front) is) ∙ so_far

-- one more result is there
pub collect_more : {A B E : Type 0} (load : A → Result B E) (front new : List B) (x : B) (d : A) (left rest : List A) (whole : Result (List B) E)
    → left ≡ d ∷ rest → load d ≡ Ok x → new ≡ front ++ x ∷ [] → with_front front (try_map load left) ≡ whole → with_front new (try_map load rest) ≡ whole
collect_more load front new x d left rest whole next is =
    front_more front new x (try_map load left) (try_map load rest) whole
    (ap (try_map load) next ∙ ap (λ r. r >>= λ y. try_map load rest >>= λ ys. Ok (y ∷ ys)) is)
