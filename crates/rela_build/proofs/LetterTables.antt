-- The tables of automata that read nothing, and of those that read one letter.
use Rattle.std.proofs.Common.{◌≡◌, ◌≢◌, ◌∙◌, ℕ, zero, suc, ◌<◌, List, [], refl, sym, ap, subst, arith}
use Rattle.std.specs.Prelude.{◌↔◌, Option, Some, None}
use Rattle.rela_rir.specs.Built.{OneState, LetterStates}
use Rattle.rela_rir.specs.Places.{Place, Start, End, Begin, LetterPlaces, PathSetPlaces, PartsApart, NoParts}
use Rattle.rela_rir.specs.Tables.{StandsAt, IsTable, IsExact}
use Rattle.rela_build.specs.PathSets.{no_paths}

-- ---- one state, which stands for the one place that is reached

module _ (r : ℕ → List ℕ → Type 0) (states : OneState r) (at : Place → List ℕ → Type 0) (table : Place → Option ℕ) (place : Place) (entry : table place ≡ Some 0)
    (alone : (p : Place) (q : ℕ) → table p ≡ Some q → (p ≡ place) × (q ≡ 0)) (start : (w : List ℕ) → at place w ↔ (w ≡ [])) (nowhere : (p : Place) (w : List ℕ) → at p w → p ≡ place) where
  pub one_table : IsTable r at (PartsApart NoParts NoParts) table
  one_table = record { reached = λ q w. (there q w, back q w); apart = λ p s k l one two differ. absurd (differ ((alone p k one).1 ∙ sym (alone s l two).1)) } where
    there : (q : ℕ) (w : List ℕ) → r q w → StandsAt table at q w
    there q w has =
        let zeros : q ≡ 0 = omega (arith, states.count q w has) in
        record { place = place; entry = entry ∙ ap Some (sym zeros); reached = (start w).1 ((states.begin w).0 (subst (λ k. r k w) zeros has)) }

    back : (q : ℕ) (w : List ℕ) → StandsAt table at q w → r q w
    back q w stands =
        let is = alone stands.place q stands.entry in
        subst (λ k. r k w) (sym is.1) ((states.begin w).1 ((start w).0 (subst (λ p. at p w) is.0 stands.reached)))

  pub one_exact : IsExact 1 r at table
  one_exact = record {
    below = λ p q has. let zeros : q ≡ 0 = (alone p q has).1 in omega arith;
    entered = λ p w has. (0, subst (λ s. table s ≡ Some 0) (sym (nowhere p w has)) entry);
    only = λ p q w has leads.
        let is = alone p q has in
        subst (λ s. at s w) (sym is.0) ((start w).1 ((states.begin w).0 (subst (λ k. r k w) is.1 leads)));
  }

-- ---- no letter

abbrev pub only_start : Place → Option ℕ
only_start Start = Some 0
only_start _ = None

pub start_alone : (p : Place) (q : ℕ) → only_start p ≡ Some q → (p ≡ Start) × (q ≡ 0)
start_alone Start q entry = (refl, let zeros : q ≡ 0 = cc in zeros)
start_alone _ q entry = absurd (let never : ⊥ = cc in never)

pub at_no_letter : (P : ℕ → Type 0) → ((s : ℕ) → ¬ P s) → (p : Place) (w : List ℕ) → LetterPlaces P p w → p ≡ Start
at_no_letter P never Start w at = refl
at_no_letter P never End w at = absurd (never at.0 at.2)
at_no_letter P never _ w at = absurd at

-- ---- no path

abbrev pub only_begin : Place → Option ℕ
only_begin Begin = Some 0
only_begin _ = None

pub begin_alone : (p : Place) (q : ℕ) → only_begin p ≡ Some q → (p ≡ Begin) × (q ≡ 0)
begin_alone Begin q entry = (refl, let zeros : q ≡ 0 = cc in zeros)
begin_alone _ q entry = absurd (let never : ⊥ = cc in never)

pub at_no_path : (p : Place) (w : List ℕ) → PathSetPlaces no_paths.at_pre p w → p ≡ Begin
at_no_path Begin w at = refl
at_no_path _ w at = absurd at

-- ---- one letter

abbrev pub start_and_end : Place → Option ℕ
start_and_end Start = Some 0
start_and_end End = Some 1
start_and_end _ = None

module _ (member : ℕ → Type 0) (r : ℕ → List ℕ → Type 0) (states : LetterStates member r) where
  there : (q : ℕ) (w : List ℕ) → r q w → StandsAt start_and_end (LetterPlaces member) q w
  there zero w has = record { place = Start; entry = refl; reached = (states.begin w).0 has }
  there (suc q) w has =
      let below : suc q < 2 = states.count (suc q) w has in
      let one : suc q ≡ 1 = omega (arith, below) in
      record { place = End; entry = ap Some (sym one); reached = (states.end w).0 (subst (λ k. r k w) one has) }

  back : (q : ℕ) (w : List ℕ) (p : Place) → start_and_end p ≡ Some q → LetterPlaces member p w → r q w
  back q w Start entry at = subst (λ k. r k w) (let zeros : 0 ≡ q = cc in zeros) ((states.begin w).1 at)
  back q w End entry at = subst (λ k. r k w) (let ones : 1 ≡ q = cc in ones) ((states.end w).1 at)
  back q w _ entry at = absurd at

  apart : (p s : Place) (k l : ℕ) → start_and_end p ≡ Some k → start_and_end s ≡ Some l → k ≢ l → PartsApart NoParts NoParts p s
  apart Start Start k l one two differ = absurd (differ (let same : k ≡ l = cc in same))
  apart End End k l one two differ = absurd (differ (let same : k ≡ l = cc in same))
  apart Start End k l one two differ = refl
  apart End Start k l one two differ = refl
  apart _ _ k l one two differ = absurd (let never : ⊥ = cc in never)

  pub letter_table : IsTable r (LetterPlaces member) (PartsApart NoParts NoParts) start_and_end
  letter_table = record { reached = λ q w. (there q w, λ stands. back q w stands.place stands.entry stands.reached); apart = apart }

  below : (p : Place) (q : ℕ) → start_and_end p ≡ Some q → q < 2
  below Start q entry = (let zeros : 0 ≡ q = cc in omega arith)
  below End q entry = (let ones : 1 ≡ q = cc in omega arith)
  below _ q entry = absurd (let never : ⊥ = cc in never)

  entered : (p : Place) (w : List ℕ) → LetterPlaces member p w → (q : ℕ) × (start_and_end p ≡ Some q)
  entered Start w at = (0, refl)
  entered End w at = (1, refl)
  entered _ w at = absurd at

  only : (p : Place) (q : ℕ) (w : List ℕ) → start_and_end p ≡ Some q → r q w → LetterPlaces member p w
  only Start q w entry has = (states.begin w).0 (subst (λ j. r j w) (let zeros : q ≡ 0 = cc in zeros) has)
  only End q w entry has = (states.end w).0 (subst (λ j. r j w) (let ones : q ≡ 1 = cc in ones) has)
  only _ q w entry has = absurd (let never : ⊥ = cc in never)

  pub letter_exact : IsExact 2 r (LetterPlaces member) start_and_end
  letter_exact = record { below = below; entered = entered; only = only }
