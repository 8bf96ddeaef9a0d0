-- What each element of a list has, each of a longer or shorter one has.
use Rattle.std.proofs.Common.{◌≡◌, List, [], ◌∷◌, ◌++◌, All, Option, Some, None, IfSome, arith}
use Rattle.std.specs.Option.{option_flatten}
use Rattle.std.proofs.lemmas.List.Elements.{All-append, All-cons}

-- one element more, which has it too
pub All-push : {X : Type 0} (P : X → Type 0) (xs ys : List X) (x : X) → ys ≡ xs ++ x ∷ [] → All P xs → P x → All P ys
All-push P xs ys x e each one =
    let last : All P (x ∷ []) = All-cons P x [] one (λ k d h. absurd (omega arith)) in
    rw e (All-append P xs (x ∷ []) each last)

-- an option in an option
pub IfSome-flatten : {X : Type 0} (P : X → Type 0) (o : Option (Option X)) → IfSome o (λ one. IfSome one P) → IfSome (option_flatten o) P
IfSome-flatten P None h = tt
IfSome-flatten P (Some one) h = h
