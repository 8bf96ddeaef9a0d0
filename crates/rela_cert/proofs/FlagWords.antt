-- What the flags of listed words tell of two automata.
use Rattle.std.proofs.Common.{◌≡◌, ◌∙◌, ℕ, ◌<◌, ◌⊎◌, ◌↔◌, Bool, true, false, List, [], ◌∷◌, length, get_or, inl, inr, refl, sym, subst, arith}
use Rattle.std.specs.Prelude.{Contains, IsTrue}
use Rattle.std.proofs.lemmas.Bool.{false≢true}
use Rattle.std.proofs.lemmas.List.{get_or_default}
use Rattle.std.proofs.lemmas.List.Elements.{Contains-get_or}
use Rattle.rela_build.specs.Complement.{IsOver}
use Rattle.rela_labels.specs.Letters.{has}
use Rattle.rela_nfa.specs.Automaton.{Automaton, IsAutomaton}
use Rattle.rela_nfa.specs.Runs.{Accepts}
use Rattle.rela_closed.specs.Closed.{AreAccepted, AreEqualOn, AreIncludedOn, IsClosed}
use Rattle.rela_translate.specs.Verdict.{AreMet, Offends}
use Rattle.rela_cert.specs.WordsJudged.{JudgesFlags, JudgesWords, OffendsAt, flag_offends}
use Rattle.rela_cert.specs.declared.judgement.Judgement.{Judgement}
use Rattle.rela_cert.specs.declared.judgement.Judgement.TheVariants.{Met, OpenComplement, BadImages, TooLarge}
use Rattle.rela_cert.proofs.LetterLaws.{reached_letters}

-- ---- one word

-- just one of the two, or, where only the second offends, the second and not the first
abbrev OneOffends : Bool → Type 0 → Type 0 → Type 0
OneOffends false A B = (A × (¬ B)) ⊎ ((¬ A) × B)
OneOffends true A B = B × (¬ A)

-- a word that is in A, and in B, as the flags say, offends where they do
tells : (at_most x y : Bool) (A B : Type 0) → (IsTrue x ↔ A) → (IsTrue y ↔ B) → flag_offends at_most x y ≡ true → OneOffends at_most A B
tells false true false A B one two is = inl (one.0 refl, λ b. absurd (false≢true (two.1 b)))
tells false false true A B one two is = inr (λ a. absurd (false≢true (one.1 a)), two.0 refl)
tells false true true A B one two is = absurd (false≢true is)
tells false false false A B one two is = absurd (false≢true is)
tells true false true A B one two is = (two.0 refl, λ a. absurd (false≢true (one.1 a)))
tells true true false A B one two is = absurd (false≢true is)
tells true true true A B one two is = absurd (false≢true is)
tells true false false A B one two is = absurd (false≢true is)

-- and where they don't, both have it or neither
equal_by : (x y : Bool) (A B : Type 0) → (IsTrue x ↔ A) → (IsTrue y ↔ B) → ¬ (flag_offends false x y ≡ true) → A ↔ B
equal_by true true A B one two not = (λ a. two.0 refl, λ b. one.0 refl)
equal_by false false A B one two not = (λ a. absurd (false≢true (one.1 a)), λ b. absurd (false≢true (two.1 b)))
equal_by true false A B one two not = absurd (not refl)
equal_by false true A B one two not = absurd (not refl)

-- or the first has it if the second does
included_by : (x y : Bool) (A B : Type 0) → (IsTrue x ↔ A) → (IsTrue y ↔ B) → ¬ (flag_offends true x y ≡ true) → B → A
included_by true true A B one two not b = one.0 refl
included_by true false A B one two not b = one.0 refl
included_by false false A B one two not b = absurd (false≢true (two.1 b))
included_by false true A B one two not b = absurd (not refl)

-- ---- listed words

module _ (a b : Automaton) (words : List (List ℕ)) (flags : List (List Bool)) (are : AreAccepted (a ∷ b ∷ []) words flags) where
  abbrev before : List Bool
  before = get_or flags 0 []

  abbrev after : List Bool
  after = get_or flags 1 []

  abbrev word : ℕ → List ℕ
  word i = get_or words i []

  pub two_lists : length flags ≡ 2
  two_lists = are.each

  pub before_each : length before ≡ length words
  before_each = are.flags 0 a refl

  pub after_each : length after ≡ length words
  after_each = are.flags 1 b refl

  of_before : (i : ℕ) → i < length words → IsTrue (get_or before i false) ↔ Accepts a (word i)
  of_before i below = are.accepts 0 i a refl below

  of_after : (i : ℕ) → i < length words → IsTrue (get_or after i false) ↔ Accepts b (word i)
  of_after i below = are.accepts 1 i b refl below

  abbrev OffendsWord : Bool → Type 0
  OffendsWord at_most = (v : List ℕ) × Contains words v × Offends at_most (Accepts a) (Accepts b) v

  offends_word : (at_most : Bool) (i : ℕ) → OneOffends at_most (Accepts a (word i)) (Accepts b (word i)) → Offends at_most (Accepts a) (Accepts b) (word i)
  offends_word false i is = is
  offends_word true i is = is

  pub found : (at_most : Bool) (i : ℕ) → i < length before → OffendsAt at_most before after i → OffendsWord at_most
  found at_most i inside is =
      let below : i < length words = omega (arith, inside, before_each) in (
        word i,
        Contains-get_or words i [] below,
        offends_word at_most i (tells at_most (get_or before i false) (get_or after i false) (Accepts a (word i)) (Accepts b (word i)) (of_before i below) (of_after i below) is),
      )

  abbrev NoneOffends : Bool → Type 0
  NoneOffends at_most = (i : ℕ) → i < length before → ¬ OffendsAt at_most before after i

  equal_on : NoneOffends false → AreEqualOn words a b
  equal_on none i d below =
      subst (λ (v : List ℕ). Accepts a v ↔ Accepts b v) (get_or_default words i [] d below)
      (equal_by (get_or before i false) (get_or after i false) (Accepts a (word i)) (Accepts b (word i)) (of_before i below) (of_after i below)
      (none i (omega (arith, below, before_each))))

  included_on : NoneOffends true → AreIncludedOn words b a
  included_on none i d below =
      subst (λ (v : List ℕ). Accepts b v → Accepts a v) (get_or_default words i [] d below)
      (included_by (get_or before i false) (get_or after i false) (Accepts a (word i)) (Accepts b (word i)) (of_before i below) (of_after i below)
      (none i (omega (arith, below, before_each))))

  -- ---- words of any length

  module _ (ok_a : IsAutomaton a) (ok_b : IsAutomaton b) (over : List Bool) (full : (k : ℕ) → k < a.letters → has over k ≡ true) (same : b.letters ≡ a.letters)
      (equal : AreEqualOn words a b → (v : List ℕ) → IsOver over v → Accepts a v ↔ Accepts b v)
      (included : AreIncludedOn words b a → (v : List ℕ) → IsOver over v → Accepts b v → Accepts a v) where
    over_of_a : (v : List ℕ) → Accepts a v → IsOver over v
    over_of_a v (q, reach, final) = λ i d below. full (get_or v i d) (reached_letters a ok_a q v reach i d below)

    over_of_b : (v : List ℕ) → Accepts b v → IsOver over v
    over_of_b v (q, reach, final) = λ i d below. full (get_or v i d) (let less = reached_letters b ok_b q v reach i d below in omega (arith, less, same))

    pub met : (at_most : Bool) → NoneOffends at_most → AreMet at_most (Accepts a) (Accepts b)
    met false none = λ v. (
      λ is. (equal (equal_on none) v (over_of_a v is)).0 is,
      λ is. (equal (equal_on none) v (over_of_b v is)).1 is,
    )
    met true none = λ v is. included (included_on none) v (over_of_b v is) is

    -- the judgement of the flags is one of the words
    pub judged : (at_most : Bool) (x y : List Bool) → x ≡ before → y ≡ after → (j : Judgement) → JudgesFlags at_most x y j → JudgesWords at_most a b over words j
    judged at_most x y one two j told =
        by_flags j (subst (λ (z : List Bool). JudgesFlags at_most before z j) two (subst (λ (z : List Bool). JudgesFlags at_most z y j) one told)) where
          by_flags : (k : Judgement) → JudgesFlags at_most before after k → JudgesWords at_most a b over words k
          by_flags Met none = met at_most none
          by_flags BadImages some = inr (found at_most some.0 some.1 some.2)
          by_flags (OpenComplement number) none = absurd none
          by_flags TooLarge none = absurd none

-- where the words are closed and the check isn't met, one of them offends
pub offence : (at_most : Bool) (a b : Automaton) (over : List Bool) (words : List (List ℕ)) → IsClosed over (a ∷ b ∷ []) words
    → (j : Judgement) → JudgesWords at_most a b over words j → ¬ (j ≡ Met) → (word : List ℕ) × Contains words word × Offends at_most (Accepts a) (Accepts b) word
offence at_most a b over words closed Met told other = absurd (other refl)
offence at_most a b over words closed BadImages (inl opened) other = absurd (opened closed)
offence at_most a b over words closed BadImages (inr found) other = found
offence at_most a b over words closed (OpenComplement number) none other = absurd none
offence at_most a b over words closed TooLarge none other = absurd none

pub not_met : (j : Judgement) → ((number : ℕ) × (j ≡ OpenComplement number)) ⊎ ((j ≡ BadImages) ⊎ (j ≡ TooLarge)) → ¬ (j ≡ Met)
not_met j (inl (number, is)) met = let e : OpenComplement number ≡ Met = sym is ∙ met in cc
not_met j (inr (inl is)) met = let e : BadImages ≡ Met = sym is ∙ met in cc
not_met j (inr (inr is)) met = let e : TooLarge ≡ Met = sym is ∙ met in cc
