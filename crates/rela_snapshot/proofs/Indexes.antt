-- The indexes of a list lie below its bound.
use Rattle.std.proofs.Common.{◌≡◌, refl, ℕ, ◌<◌, Bool, true, false, nat_lt, List, [], ◌∷◌, Option, Some, None, Result, Ok, Err, cond, arith, subst}
use Rattle.std.specs.List.{All}
use Rattle.std.proofs.lemmas.List.Elements.{All-cons}
use Rattle.serde_json.specs.Data.{Data}
use Rattle.rela_json.specs.declared.error.ListError.{ListError}
use Rattle.rela_json.specs.declared.error.ListError.TheVariants.{Shape, Index}
use Rattle.rela_json.specs.Parts.{number_of, items_of}
use Rattle.rela_json.specs.Results.{◌>>=◌, ok_or, try_map}
use Rattle.rela_json.specs.Indexes.{index_of, indexes_of}

pub bind-Ok : {A B E : Type 0} (r : Result A E) (f : A → Result B E) (y : B) → (r >>= f) ≡ Ok y → (x : A) × (r ≡ Ok x) × (f x ≡ Ok y)
bind-Ok (Ok x) f y e = (x, refl, e)
bind-Ok (Err a) f y e = absurd (cc)

below_of : (below : ℕ) (o : Option ℕ) (n : ℕ) → (ok_or Shape o >>= λ n. cond (nat_lt n below) (Ok n) (Err Index)) ≡ Ok n → n < below
below_of below None n e = absurd (cc)
below_of below (Some m) n e = by (nat_lt m below) refl e
  where
    by : (b : Bool) → nat_lt m below ≡ b → ◌≡◌ {A = Result ℕ ListError} (cond b (Ok m) (Err Index)) (Ok n) → n < below
    by true h e = grind arith
    by false h e = absurd (cc)

pub index_below : (below : ℕ) (d : Data) (n : ℕ) → index_of below d ≡ Ok n → n < below
index_below below d n e = below_of below (number_of d) n e

pub try_map-below : (below : ℕ) (ds : List Data) (ns : List ℕ) → try_map (index_of below) ds ≡ Ok ns → All (λ n. n < below) ns
try_map-below below [] ns e =
    let h : [] ≡ ns = cc in
    subst (λ (ns : List ℕ). All (λ n. n < below) ns) h (λ k d lt. absurd (omega arith))
try_map-below below (d ∷ ds) ns e =
    let a = bind-Ok (index_of below d) _ ns e in
    let b = bind-Ok (try_map (index_of below) ds) (λ (ys : List ℕ). Ok (a.0 ∷ ys)) ns a.2 in
    let h : (a.0 ∷ b.0) ≡ ns = cc (b.2) in
    subst (λ (ns : List ℕ). All (λ n. n < below) ns) h (All-cons (λ n. n < below) a.0 b.0 (index_below below d a.0 a.1) (try_map-below below ds b.0 b.1))

pub indexes_below : (below : ℕ) (d : Data) (ns : List ℕ) → indexes_of below d ≡ Ok ns → All (λ n. n < below) ns
indexes_below below d ns e =
    let a = bind-Ok (ok_or Shape (items_of d)) (try_map (index_of below)) ns e in
    try_map-below below a.0 ns a.2
