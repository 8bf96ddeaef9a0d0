-- A list of checks that are asked for, as it grows.
use Rattle.std.proofs.Common.{◌≡◌, ℕ, zero, suc, ◌+◌, ◌<◌, List, [], ◌∷◌, ◌++◌, length, take, get_or, inl, inr, sym, subst, ap, ◌∙◌}
use Rattle.std.specs.List.{All, Contains}
use Rattle.std.proofs.lemmas.List.{take_more}
use Rattle.std.proofs.lemmas.List.Elements.{All-push}
use Rattle.rela_translate.specs.Checked.{Checked}
use Rattle.rela_same_checks.specs.SameChecks.{AreAskedAt, IsAskedAt, IsGrown}

asked_in_front : (asked : List Checked) (check one : Checked) (place : ℕ) → IsAskedAt asked one place → IsAskedAt (asked ++ check ∷ []) one place
asked_in_front [] check one place is = absurd is
asked_in_front (a ∷ asked) check one zero is = is
asked_in_front (a ∷ asked) check one (suc k) is = asked_in_front asked check one k is

still_asked : (asked more : List Checked) (check : Checked) → IsGrown asked check more → (one : Checked) (place : ℕ) → IsAskedAt asked one place → IsAskedAt more one place
still_asked asked more check (inl same) one place is = subst (λ (cs : List Checked). IsAskedAt cs one place) (sym same) is
still_asked asked more check (inr longer) one place is = subst (λ (cs : List Checked). IsAskedAt cs one place) (sym longer) (asked_in_front asked check one place is)

-- each check is still asked for, and so is one more
one_more : (asked more : List Checked) (check : Checked) → IsGrown asked check more → (checks : List Checked) (places : List ℕ) (place : ℕ)
    → AreAskedAt asked checks places → IsAskedAt more check place → AreAskedAt more (checks ++ check ∷ []) (places ++ place ∷ [])
one_more asked more check grown [] [] place each one = (one, tt)
one_more asked more check grown [] (p ∷ places) place each one = absurd each
one_more asked more check grown (c ∷ checks) [] place each one = absurd each
one_more asked more check grown (c ∷ checks) (p ∷ places) place each one =
    (still_asked asked more check grown c p each.0, one_more asked more check grown checks places place each.1 one)

pub places_more : (asked more checks : List Checked) (places placed : List ℕ) (check : Checked) (i place : ℕ) → i < length checks → check ≡ get_or checks i check
    → AreAskedAt asked (take i checks) places → IsGrown asked check more → IsAskedAt more check place → placed ≡ places ++ place ∷ []
    → AreAskedAt more (take (i + 1) checks) placed
places_more asked more checks places placed check i place within is each grown one pushed =
    let next : take (i + 1) checks ≡ take i checks ++ check ∷ [] = take_more checks i check within ∙ ap (λ (c : Checked). take i checks ++ c ∷ []) (sym is) in
    let now : AreAskedAt more (take i checks ++ check ∷ []) (places ++ place ∷ []) = one_more asked more check grown (take i checks) places place each one in
    rw (next, pushed) now

-- what is asked for is among the checks
pub given_more : (asked more checks : List Checked) (check : Checked) → Contains checks check → IsGrown asked check more → All (Contains checks) asked → All (Contains checks) more
given_more asked more checks check is (inl same) each = subst (λ (cs : List Checked). All (Contains checks) cs) (sym same) each
given_more asked more checks check is (inr longer) each =
    subst (λ (cs : List Checked). All (Contains checks) cs) (sym longer) (All-push (Contains checks) asked check each is)
