-- What paths of one to the next lead to.
use Rattle.std.proofs.Common.{List, [], ◌∷◌, ◌++◌, refl, sym, subst}
use Rattle.std.specs.List.{Contains}
use Rattle.rela_pairs.specs.Reachable.{Leads, Reachable}

module _ {X : Type 0} (next : X → List X) where
  pub leads_push : (path : List X) (x y z : X) → Leads next x path y → Contains (next y) z → Leads next x (path ++ z ∷ []) z
  leads_push [] x y z here step = (subst (λ n. Contains (next n) z) (sym here) step, refl)
  leads_push (w ∷ rest) x y z leads step = (leads.0, leads_push rest w y z leads.1 step)

  pub reachable_start : (x : X) → Reachable next x x
  reachable_start x = ([], refl)

  pub reachable_next : (x y z : X) → Reachable next x y → Contains (next y) z → Reachable next x z
  reachable_next x y z (path, leads) step = (path ++ z ∷ [], leads_push path x y z leads step)
