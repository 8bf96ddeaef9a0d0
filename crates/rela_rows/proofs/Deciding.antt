-- What decides flows, and the automata of the paths of one of them.
use Rattle.std.proofs.Common.{◌≡◌, ℕ, ◌<◌, List, length, get_or, Some, None, refl, sym, subst}
use Rattle.std.specs.Prelude.{Option, IfSome, slice_get}
use Rattle.std.proofs.lemmas.Option.{slice_get_read}
use Rattle.rela_engine.specs.FlowLetters.{AreLettersOf, SideLetters}
use Rattle.rela_snapshot.specs.declared.pairing.FlowPair.{FlowPair}

-- the automata are those of the flow of this number, if there is one
abbrev pub AreOfFlow : List (List ℕ) → List FlowPair → ℕ → Option SideLetters → Type 0
AreOfFlow names pairs flow kept = IfSome (slice_get pairs flow) (λ pair. AreLettersOf names pair kept)

if_some : {X : Type 0} (o : Option X) (P : X → Type 0) → ((x : X) → P x) → IfSome o P
if_some None P each = tt
if_some (Some x) P each = each x

-- none are those of any flow
pub none_of_flow : (names : List (List ℕ)) (pairs : List FlowPair) (flow : ℕ) (kept : Option SideLetters) → kept ≡ None → AreOfFlow names pairs flow kept
none_of_flow names pairs flow kept none =
    if_some (slice_get pairs flow) (λ pair. AreLettersOf names pair kept) (λ pair sides is. absurd (let both : None ≡ Some sides = cc in cc))

module _ (names : List (List ℕ)) (pairs : List FlowPair) (flow : ℕ) (pair : FlowPair) (inside : flow < length pairs) (pair_is : pair ≡ get_or pairs flow pair)
    (kept : Option SideLetters) where
  there : slice_get pairs flow ≡ Some pair
  there = slice_get_read pairs (length pairs) flow pair refl inside pair_is

  pub of_pair : AreOfFlow names pairs flow kept → AreLettersOf names pair kept
  of_pair are = subst (λ o. IfSome o (λ (p : FlowPair). AreLettersOf names p kept)) there are

  pub of_flow : AreLettersOf names pair kept → AreOfFlow names pairs flow kept
  of_flow are = subst (λ o. IfSome o (λ (p : FlowPair). AreLettersOf names p kept)) (sym there) are
