-- Lists of states, one for each state.
use Rattle.std.proofs.Common.{◌≡◌, ℕ, ◌<◌, ◌⊎◌, ◌↔◌, List, [], ◌∷◌, ◌++◌, length, get_or, set, replicate, sym, ap, ◌∙◌, subst, inl, inr, arith}
use Rattle.std.specs.List.{All, Contains}
use Rattle.std.specs.declared.vec.Vec.{Vec}
use Rattle.std.proofs.lemmas.Bool.{cases_lt, cases_eq}
use Rattle.std.proofs.lemmas.List.{get_or-map, map-set, set-get_or, length-set, length-map, length-replicate, get_or-set_same, get_or-set_other, get_or-replicate, get_or_past}
use Rattle.std.proofs.lemmas.List.Elements.{All-set, All-push, All-replicate, All-nil, Contains-append_left, Contains-push, Contains-push_cases}
use Rattle.rela_witness.specs.Linked.{IsLinked, lists_of, AreLinks}
use Rattle.rela_witness.proofs.Members.{Contains-nil}

-- empty lists
pub no_links : (links : List (List ℕ)) (count : ℕ) → links ≡ replicate count [] → (p q : ℕ) → IsLinked links p q → ⊥
no_links links count none p q c = elim (cases_lt p count) [
  | inl below ↦ Contains-nil q (subst (λ (l : List ℕ). Contains l q) (ap (λ (ls : List (List ℕ)). get_or ls p []) none ∙ get_or-replicate count p [] [] below) c)
  | inr past ↦ Contains-nil q (subst (λ (l : List ℕ). Contains l q) (get_or_past links p [] (omega (arith, past, ap length none, length-replicate {A = List ℕ} count []))) c)
]

pub no_links_ok : (links : List (List ℕ)) (count : ℕ) → links ≡ replicate count [] → AreLinks links
no_links_ok links count none =
    subst (λ (ls : List (List ℕ)). All (All (λ q. q < length links)) ls) (sym none) (All-replicate (All (λ q. q < length links)) count [] (All-nil (λ q. q < length links)))

pub list_read : {A : Type 0} (lists : List (Vec ℕ A)) (p : ℕ) (v : Vec ℕ A) → p < length lists → v ≡ get_or lists p v → v.items ≡ get_or (lists_of lists) p []
list_read {A = A} lists p v below read = ap (λ (w : Vec ℕ A). w.items) read ∙ sym (get_or-map (λ (w : Vec ℕ A). w.items) lists p v [] below)

pub lists_below : {A : Type 0} (lists : List (Vec ℕ A)) (links : List (List ℕ)) (p : ℕ) → lists_of lists ≡ links → p < length links → p < length lists
lists_below {A = A} lists links p are below = omega (arith, ap length are, below, length-map lists (λ (w : Vec ℕ A). w.items))

module _ {A : Type 0} (lists : List (Vec ℕ A)) (p : ℕ) (v w : Vec ℕ A) (below : p < length lists) (read : v ≡ get_or lists p v) where
  -- a list with one more
  pub list_pushed : (q : ℕ) → w.items ≡ v.items ++ q ∷ [] → lists_of (set lists p w) ≡ set (lists_of lists) p (get_or (lists_of lists) p [] ++ q ∷ [])
  list_pushed q pushed =
      map-set (λ (u : Vec ℕ A). u.items) lists p w ∙ ap (λ (l : List ℕ). set (lists_of lists) p l) (pushed ∙ ap (λ (l : List ℕ). l ++ q ∷ []) (list_read lists p v below read))

  -- a list that stays
  pub list_kept : w.items ≡ v.items → lists_of (set lists p w) ≡ lists_of lists
  list_kept kept =
      map-set (λ (u : Vec ℕ A). u.items) lists p w ∙ ap (λ (l : List ℕ). set (lists_of lists) p l) (kept ∙ list_read lists p v below read) ∙ set-get_or (lists_of lists) p []

module _ (links : List (List ℕ)) (p q : ℕ) (below : p < length links) where
  pub link_added : (m n : ℕ) → IsLinked (set links p (get_or links p [] ++ q ∷ [])) m n ↔ (IsLinked links m n ⊎ ((p ≡ m) × (q ≡ n)))
  link_added m n =
      let longer : List ℕ = get_or links p [] ++ q ∷ [] in
      elim (cases_eq m p) [
        | inl same ↦
            let at : get_or (set links p longer) m [] ≡ longer = ap (λ k. get_or (set links p longer) k []) same ∙ get_or-set_same links p longer [] below in
            let was : get_or links p [] ≡ get_or links m [] = ap (λ k. get_or links k []) (sym same) in (
              λ c. elim (Contains-push_cases (get_or links p []) q n (subst (λ (l : List ℕ). Contains l n) at c)) [
                | inl old ↦ inl (subst (λ (l : List ℕ). Contains l n) was old)
                | inr new ↦ inr (sym same, new)
              ],
              λ either. subst (λ (l : List ℕ). Contains l n) (sym at) (elim either [
                | inl old ↦ Contains-append_left (get_or links p []) (q ∷ []) n (subst (λ (l : List ℕ). Contains l n) (sym was) old)
                | inr (here, new) ↦ subst (λ k. Contains longer k) new (Contains-push (get_or links p []) q)
              ]),
            )
        | inr apart ↦
            let at : get_or (set links p longer) m [] ≡ get_or links m [] = get_or-set_other links p m longer [] apart in (
              λ c. inl (subst (λ (l : List ℕ). Contains l n) at c),
              λ either. elim either [
                | inl old ↦ subst (λ (l : List ℕ). Contains l n) (sym at) old
                | inr (here, new) ↦ absurd (apart (sym here))
              ],
            )
      ]

  pub link_ok : AreLinks links → q < length links → AreLinks (set links p (get_or links p [] ++ q ∷ []))
  link_ok ok state =
      let longer : List ℕ = get_or links p [] ++ q ∷ [] in
      subst (λ n. All (All (λ k. k < n)) (set links p longer)) (sym (length-set links p longer))
      (All-set (All (λ k. k < length links)) links p longer (All-push (λ k. k < length links) (get_or links p []) q (ok p [] below) state) ok)
