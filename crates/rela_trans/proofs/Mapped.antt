-- Steps of a transducer whose moves stand for other data, one for one.
use Rattle.std.proofs.Common.{◌≡◌, ℕ, zero, suc, Bool, List, [], ◌∷◌, get_or, map, refl, sym, ap, subst}
use Rattle.std.specs.List.{Contains}
use Rattle.rela_trans.specs.Machine.{Machine, Kind, moves_of}
use Rattle.rela_trans.specs.Runs.{Does, HasStep}
use Rattle.rela_trans.specs.declared.moves.Move.{Move}
use Rattle.rela_trans.proofs.ListLaws.{Contains-map, Contains-map_back}

pub get_or-map_nil : {X Y : Type 0} (f : X → Y) (xs : List (List X)) (k : ℕ) → get_or (map (map f) xs) k [] ≡ map f (get_or xs k [])
get_or-map_nil f [] k = refl
get_or-map_nil f (x ∷ xs) zero = refl
get_or-map_nil f (x ∷ xs) (suc k) = get_or-map_nil f xs k

module _ {X : Type 0} (read : ℕ → ℕ) (f : X → Move (List Bool)) (lists : ℕ → List X) (r : Machine) (mapped : (p : ℕ) → moves_of r p ≡ map f (lists p)) where
  pub mapped_back : (p q : ℕ) (input output : List ℕ) → HasStep read r p input output q
      → (x : X) × Contains (lists p) x × ((f x).to ≡ q) × Does read (f x).kind input output
  mapped_back p q input output step =
      let move : Move (List Bool) = record { kind = step.0; to = q } in
      let found = Contains-map_back f (lists p) move (subst (λ l. Contains l move) (mapped p) step.1) in (
        found.0,
        found.2,
        ap (λ (m : Move (List Bool)). m.to) found.1,
        subst (λ (k : Kind). Does read k input output) (sym (ap (λ (m : Move (List Bool)). m.kind) found.1)) step.2,
      )

  pub mapped_on : (p : ℕ) (input output : List ℕ) (x : X) → Contains (lists p) x → Does read (f x).kind input output → HasStep read r p input output (f x).to
  mapped_on p input output x among does = ((f x).kind, subst (λ l. Contains l (f x)) (sym (mapped p)) (Contains-map f (lists p) x among), does)
