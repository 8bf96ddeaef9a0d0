-- The steps that states may take, silently at first.
use Rattle.std.proofs.Common.{◌≡◌, ℕ, ◌<◌, ◌≤◌, ◌⊎◌, Bool, true, false, not, IsTrue, List, [], ◌∷◌, ◌++◌, length, get_or, take, Option, None, Some, refl, sym, ap, ◌∙◌, subst, inl, inr}
use Rattle.std.specs.List.{All, Contains}
use Rattle.std.specs.Option.{is_some}
use Rattle.std.specs.declared.vec.Vec.{Vec}
use Rattle.std.proofs.lemmas.Bool.{cases_lt, false≢true}
use Rattle.std.proofs.lemmas.List.{get_or-map, get_or_past, map-append, take_at}
use Rattle.std.proofs.lemmas.List.Elements.{All-contains, All-get_or, Contains-get_or}
use Rattle.rela_reduce.specs.Numbered.{IsArrow, IsPlain, Plain}
use Rattle.rela_reduce.specs.Simulation.{AreClosed, BySilent, IsStepFrom, Silently, arrows_of}
use Rattle.rela_reduce.specs.Stored.{lists_of}
use Rattle.rela_reduce.specs.declared.arrow.Arrow.{Arrow}
use Rattle.rela_reduce.specs.declared.arrow.Step.{Step}
use Rattle.rela_reduce.proofs.Lists.{all_from_listed, each_push, listed_push, none_listed}

-- the arrow at a place, by its label
pub listed_at : (arrows : List Arrow) (i : ℕ) (d : Arrow) (label : Option ℕ) → i < length arrows → (get_or arrows i d).label ≡ label → Contains arrows (record { label = label; to = (get_or arrows i d).to })
listed_at arrows i d label within is =
    subst (λ (l : Option ℕ). Contains arrows (record { label = l; to = (get_or arrows i d).to })) is (Contains-get_or arrows i d within)

pub none_is : (o : Option ℕ) (b : Bool) → is_some o ≡ not b → b ≡ true → o ≡ None
none_is None b is set = refl
none_is (Some k) b is set = absurd (false≢true (sym (is ∙ ap not set)))

-- one step more by the arrow at a place
pub steps_push : (arrows : List Arrow) (i : ℕ) (d : Arrow) (label : ℕ) (first before after : List Step) → i < length arrows → (get_or arrows i d).label ≡ Some label
    → after ≡ before ++ record { label = label; to = (get_or arrows i d).to } ∷ []
    → ((step : Step) → Contains before step → Contains first step ⊎ Contains arrows (record { label = Some step.label; to = step.to }))
    → (step : Step) → Contains after step → Contains first step ⊎ Contains arrows (record { label = Some step.label; to = step.to })
steps_push arrows i d label first before after within is pushed so_far step listed =
    listed_push (λ (s : Step). let arrow : Arrow = record { label = Some s.label; to = s.to } in arrow) first before (record { label = label; to = (get_or arrows i d).to }) arrows so_far
    (listed_at arrows i d (Some label) within is) step (subst (λ (l : List Step). Contains l step) pushed listed)

-- one end more, of the silent arrow at a place
pub ends_push : (arrows : List Arrow) (i : ℕ) (d : Arrow) (first before after : List ℕ) → i < length arrows → (get_or arrows i d).label ≡ None → after ≡ before ++ (get_or arrows i d).to ∷ []
    → ((t : ℕ) → Contains before t → Contains first t ⊎ Contains arrows (record { label = None; to = t })) → (t : ℕ) → Contains after t → Contains first t ⊎ Contains arrows (record { label = None; to = t })
ends_push arrows i d first before after within is pushed so_far t listed =
    listed_push (λ (s : ℕ). let arrow : Arrow = record { label = None; to = s } in arrow) first before (get_or arrows i d).to arrows so_far
    (listed_at arrows i d None within is) t (subst (λ (l : List ℕ). Contains l t) pushed listed)

silent_push : (arrows : List (List Arrow)) (path : List ℕ) (p q t : ℕ) → BySilent arrows p path q → Contains (arrows_of arrows q) (record { label = None; to = t }) → BySilent arrows p (path ++ t ∷ []) t
silent_push arrows [] p q t here listed = (subst (λ (n : ℕ). Contains (arrows_of arrows n) (record { label = None; to = t })) (sym here) listed, refl)
silent_push arrows (r ∷ path) p q t (first, rest) listed = (first, silent_push arrows path r q t rest listed)

-- one silent arrow more
pub silently_on : (arrows : List (List Arrow)) (p q t : ℕ) → Silently arrows p q → Contains (arrows_of arrows q) (record { label = None; to = t }) → Silently arrows p t
silently_on arrows p q t (path, leads) listed = (path ++ t ∷ [], silent_push arrows path p q t leads listed)

pub silently_here : (arrows : List (List Arrow)) (p : ℕ) → Silently arrows p p
silently_here arrows p = ([], refl)

-- an arrow of a state leads to a state
pub leads_within : (n : Plain) → IsPlain n → (q : ℕ) (arrow : Arrow) → Contains (arrows_of n.arrows q) arrow → IsArrow n.labels (length n.finals) arrow
leads_within n ok q arrow listed = by (cases_lt q (length n.arrows)) where
  by : (q < length n.arrows) ⊎ (length n.arrows ≤ q) → IsArrow n.labels (length n.finals) arrow
  by (inl within) = All-contains (IsArrow n.labels (length n.finals)) (arrows_of n.arrows q) arrow (All-get_or (All (IsArrow n.labels (length n.finals))) n.arrows q [] within ok.within) listed
  by (inr past) = absurd (none_listed arrow (subst (λ (l : List Arrow). Contains l arrow) (get_or_past n.arrows q [] past) listed))

pub leads_all : (n : Plain) → IsPlain n → (q : ℕ) → All (λ arrow. arrow.to < length n.finals) (arrows_of n.arrows q)
leads_all n ok q = all_from_listed (λ (arrow : Arrow). arrow.to < length n.finals) (arrows_of n.arrows q) (λ arrow listed. (leads_within n ok q arrow listed).leads)

-- the items of a vector that was read
pub row_read : {X A : Type 0} (lists : List (Vec X A)) (q : ℕ) (row : Vec X A) (list : List X) → q < length lists → row ≡ get_or lists q row → list ≡ row.items → list ≡ get_or (lists_of lists) q []
row_read lists q row list within at is = is ∙ ap (λ (v : Vec _ _). v.items) at ∙ sym (get_or-map (λ v. v.items) lists q row [] within)

pub taken_whole : {X : Type 0} (n : ℕ) (xs ys : List X) → length xs ≡ n → take n (xs ++ ys) ≡ xs
taken_whole n xs ys len = take_at xs ys n len

-- the ends after one state more has been followed
pub ends_more : (n : Plain) → IsPlain n → (p q : ℕ) (before after : List ℕ) → All (Silently n.arrows p) before → Contains before q
    → ((t : ℕ) → Contains after t → Contains before t ⊎ Contains (arrows_of n.arrows q) (record { label = None; to = t })) → All (Silently n.arrows p) after
ends_more n ok p q before after so_far among grown = all_from_listed (Silently n.arrows p) after (λ t listed. elim (grown t listed) [
  | inl old ↦ All-contains (Silently n.arrows p) before t so_far old
  | inr by_arrow ↦ silently_on n.arrows p q t (All-contains (Silently n.arrows p) before q so_far among) by_arrow
])

pub ends_within : (n : Plain) → IsPlain n → (q : ℕ) (before after : List ℕ) → All (λ t. t < length n.finals) before
    → ((t : ℕ) → Contains after t → Contains before t ⊎ Contains (arrows_of n.arrows q) (record { label = None; to = t })) → All (λ t. t < length n.finals) after
ends_within n ok q before after so_far grown = all_from_listed (λ (t : ℕ). t < length n.finals) after (λ t listed. elim (grown t listed) [
  | inl old ↦ All-contains (λ (s : ℕ). s < length n.finals) before t so_far old
  | inr by_arrow ↦ (leads_within n ok q (record { label = None; to = t }) by_arrow).leads
])

-- the steps of some states
abbrev pub IsStepOf : List (List Arrow) → List ℕ → Step → Type 0
IsStepOf arrows states step = (c : ℕ) × Contains states c × Contains (arrows_of arrows c) (record { label = Some step.label; to = step.to })

pub steps_more : (arrows : List (List Arrow)) (states : List ℕ) (q : ℕ) (before after : List Step) → All (IsStepOf arrows states) before → Contains states q
    → ((step : Step) → Contains after step → Contains before step ⊎ Contains (arrows_of arrows q) (record { label = Some step.label; to = step.to })) → All (IsStepOf arrows states) after
steps_more arrows states q before after so_far among grown = all_from_listed (IsStepOf arrows states) after (λ step listed. elim (grown step listed) [
  | inl old ↦ All-contains (IsStepOf arrows states) before step so_far old
  | inr by_arrow ↦ (q, among, by_arrow)
])

-- the steps and the flag of one state more
pub closed_push : (n : Plain) (steps : List (List Step)) (finals : List Bool) (ends : List ℕ) (own : List Step) (final : Bool) → length steps ≡ length finals → AreClosed n steps finals
    → All (Silently n.arrows (length steps)) ends → All (IsStepOf n.arrows ends) own → (IsTrue final → (f : ℕ) × Contains ends f × IsTrue (get_or n.finals f false))
    → AreClosed n (steps ++ own ∷ []) (finals ++ final ∷ [])
closed_push n steps finals ends own final same so_far silent stepped ended = record {
  stepped =
      each_push (λ p (list : List Step). (step : Step) → Contains list step → IsStepFrom n.arrows p step) steps own [] so_far.stepped
      (λ step listed.
      let (c, among, arrow) = All-contains (IsStepOf n.arrows ends) own step stepped listed in
      (c, All-contains (Silently n.arrows (length steps)) ends c silent among, arrow))
      (λ p step listed. absurd (none_listed step listed));
  final =
      each_push (λ p flag. IsTrue flag → (f : ℕ) × Silently n.arrows p f × IsTrue (get_or n.finals f false)) finals final false so_far.final
      (λ set. let (f, among, is) = ended set in (f, subst (λ (p : ℕ). Silently n.arrows p f) same (All-contains (Silently n.arrows (length steps)) ends f silent among), is))
      (λ p set. absurd (false≢true set));
}

pub closed_none : (n : Plain) → AreClosed n [] []
closed_none n = record { stepped = λ p step listed. absurd (none_listed step listed); final = λ p set. absurd (false≢true set) }

-- the items of what is pushed
pub lists_push : {X A : Type 0} (lists : List (Vec X A)) (list : Vec X A) → lists_of (lists ++ list ∷ []) ≡ lists_of lists ++ list.items ∷ []
lists_push lists list = map-append (λ v. v.items) lists (list ∷ [])
