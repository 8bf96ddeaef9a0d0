-- Blocks that are split by the class table.
use Rattle.std.proofs.Common.{◌≡◌, ℕ, ◌+◌, ◌<◌, ◌≤◌, ◌↔◌, List, [], ◌∷◌, ◌++◌, length, get_or, take, inl, inr, refl, sym, ap, ◌∙◌, subst, arith}
use Rattle.std.specs.List.{All}
use Rattle.std.specs.Prelude.{Contains, Some}
use Rattle.std.proofs.lemmas.Bool.{cases_lt}
use Rattle.std.proofs.lemmas.List.{take_more, take_all}
use Rattle.std.proofs.lemmas.List.FromFn.{get_or-range_with_len}
use Rattle.std.proofs.lemmas.List.Elements.{All-nil, All-push, All-pop}
use Rattle.rela_rir.specs.declared.set.SymbolSet.{SymbolSet}
use Rattle.rela_translate.specs.Checked.{Checked, IsCheck, markers_of}
use Rattle.rela_translate.specs.Settings.{IsMarker}
use Rattle.rela_build.specs.Lettering.{AreListedAlike}

-- a check has at most 20,000 markers
pub few_markers : (check : Checked) → IsCheck check → All IsMarker (markers_of check.body) → length (markers_of check.body) ≤ 20000
few_markers check is marked =
    elim (cases_lt 20000 (length (markers_of check.body))) [
      | inl many ↦
          let last : get_or (markers_of check.body) 20000 0 ≡ 1 + 20000 =
          ap (λ (ks : List ℕ). get_or ks 20000 0) is.numbered ∙ get_or-range_with_len 1 (length (markers_of check.body)) 20000 0 many in
          let low = (marked 20000 0 many).1 in
          absurd (omega (arith, last, low))
      | inr few ↦ few
    ]

-- both are listed in the entry, or neither
abbrev ListsBoth : ℕ → ℕ → SymbolSet → Type 0
ListsBoth s t set = Contains set.members s ↔ Contains set.members t

pub listed_none : (C : Type 0) (classes : List SymbolSet) (s t : ℕ) → C ↔ (C × AreListedAlike (take 0 classes) s t)
listed_none C classes s t = (λ c. (c, All-nil (ListsBoth s t)), λ both. both.0)

pub listed_step : (A B C : Type 0) (classes : List SymbolSet) (set : SymbolSet) (i s t : ℕ) → i < length classes → set ≡ get_or classes i set
    → (A ↔ (B × (Contains set.members s ↔ Contains set.members t))) → (B ↔ (C × AreListedAlike (take i classes) s t))
    → A ↔ (C × AreListedAlike (take (i + 1) classes) s t)
listed_step A B C classes set i s t within is split before =
    let more : take (i + 1) classes ≡ take i classes ++ set ∷ [] = take_more classes i set within ∙ ap (λ (x : SymbolSet). take i classes ++ x ∷ []) (sym is) in
    subst (λ (l : List SymbolSet). A ↔ (C × AreListedAlike l s t)) (sym more) (
      λ a. let now = split.0 a in let then = before.0 now.0 in (then.0, All-push (ListsBoth s t) (take i classes) set then.1 now.1),
      λ both.
          let parts = All-pop (ListsBoth s t) (take i classes ++ set ∷ []) (take i classes) (Some set) refl both.1 in
          split.1 (before.1 (both.0, parts.0), parts.1),
    )

pub listed_all : (A C : Type 0) (classes : List SymbolSet) (i s t : ℕ) → length classes ≤ i → (A ↔ (C × AreListedAlike (take i classes) s t))
    → A ↔ (C × AreListedAlike classes s t)
listed_all A C classes i s t all told = subst (λ (l : List SymbolSet). A ↔ (C × AreListedAlike l s t)) (take_all i classes all) told
