-- Notes of the complements in terms, and why terms aren't built, from those of their parts.
use Rattle.std.proofs.Common.{◌≡◌, ℕ, suc, ◌+◌, List, [], ◌∷◌, ◌++◌, length, refl, sym, ap, ◌∙◌, subst, append_assoc, length-append, Bool, arith}
use Rattle.std.specs.Prelude.{Result, Ok, Err, IfErr, IsErrAnd}
use Rattle.std.proofs.lemmas.List.{append-nil}
use Rattle.rela_nfa.specs.Automaton.{Automaton}
use Rattle.rela_pairs.specs.declared.errors.BuildError.{BuildError}
use Rattle.rela_pairs.specs.declared.errors.BuildError.TheVariants as B
use Rattle.rela_rir.specs.declared.term.PathTerm.{PathTerm}
use Rattle.rela_build.specs.Lettering.{Lettering}
use Rattle.rela_build.specs.Made.{IsMade}
use Rattle.rela_build.specs.Notes.{AreNoted, Notes, IsRefused, Explains, NotesOne, RefusesOne}
use Rattle.rela_build.specs.PathSets.{Paths}
use Rattle.rela_build.specs.Stops.{stop_of}
use Rattle.rela_build.specs.declared.stop.Stop.{Stop}
use Rattle.rela_build.specs.declared.stop.Stop.TheVariants.{Limit, Refused, Memory}

module _ {N : Type 0} (answers : ℕ → Automaton → List Bool → N → Type 0) (E : Type 0) (l : Lettering) (paths : Paths) where
  abbrev Noted : ℕ → List PathTerm → List N → Type 0
  Noted first parts notes = AreNoted answers E l paths first parts notes

  noted_length : (first : ℕ) (parts : List PathTerm) (notes : List N) → Noted first parts notes → length notes ≡ length parts
  noted_length first [] [] noted = refl
  noted_length first [] (k ∷ notes) noted = absurd noted
  noted_length first (p ∷ parts) [] noted = absurd noted
  noted_length first (p ∷ parts) (k ∷ notes) noted = ap suc (noted_length (first + 1) parts notes noted.1)

  noted_both : (first next : ℕ) (p q : List PathTerm) (k n : List N) → next ≡ first + length p → Noted first p k → Noted next q n → Noted first (p ++ q) (k ++ n)
  noted_both first next [] q [] n at one two = subst (λ (m : ℕ). Noted m q n) (omega (arith, at)) two
  noted_both first next [] q (k ∷ ks) n at one two = absurd one
  noted_both first next (p ∷ ps) q [] n at one two = absurd one
  noted_both first next (p ∷ ps) q (k ∷ ks) n at one two =
      (one.0, noted_both (first + 1) next ps q ks n (omega (arith, at)) one.1 two)

  pub no_notes : (parts : List PathTerm) (old : List N) → parts ≡ [] → Notes answers E l paths parts old old
  no_notes parts old none = ([], sym (append-nil old), subst (λ (p : List PathTerm). Noted (length old) p []) (sym none) tt)

  pub notes_alike : (parts other : List PathTerm) (old new : List N) → parts ≡ other → Notes answers E l paths other old new → Notes answers E l paths parts old new
  notes_alike parts other old new same notes = subst (λ (p : List PathTerm). Notes answers E l paths p old new) (sym same) notes

  pub notes_after : (p : List PathTerm) (old mid : List N) → Notes answers E l paths p old mid → length mid ≡ length old + length p
  notes_after p old mid one = ap length one.1 ∙ length-append old one.0 ∙ ap (λ (n : ℕ). length old + n) (noted_length (length old) p one.0 one.2)

  pub notes_both : (p q : List PathTerm) (old mid new : List N) → Notes answers E l paths p old mid → Notes answers E l paths q mid new → Notes answers E l paths (p ++ q) old new
  notes_both p q old mid new one two = (
    one.0 ++ two.0,
    two.1 ∙ ap (λ (m : List N). m ++ two.0) one.1 ∙ append_assoc old one.0 two.0,
    noted_both (length old) (length mid) p q one.0 two.0 (notes_after p old mid one) one.2 two.2,
  )

  -- one more note, of the complement of the part
  pub notes_more : (p : List PathTerm) (part : PathTerm) (a : Automaton) (old mid new : List N) → IsMade E l paths part a → Notes answers E l paths p old mid
      → NotesOne answers l a mid new → Notes answers E l paths (p ++ part ∷ []) old new
  notes_more p part a old mid new made one more =
      notes_both p (part ∷ []) old mid new one
      (more.0 ∷ [], more.1, ((a, more.2.0, record { made = made; of_path = more.2.1 }, more.2.2), tt))

module _ (refuses : ℕ → Automaton → List Bool → Type 0) (E : Type 0) (l : Lettering) (paths : Paths) where
  abbrev Refuses : ℕ → List PathTerm → ℕ → Type 0
  Refuses first parts number = IsRefused refuses E l paths first parts number

  pub refused_alike : (first : ℕ) (parts other : List PathTerm) (number : ℕ) → parts ≡ other → Refuses first other number → Refuses first parts number
  refused_alike first parts other number same refused = subst (λ (p : List PathTerm). Refuses first p number) (sym same) refused

  pub refused_first : (first : ℕ) (p q : List PathTerm) (number : ℕ) → Refuses first p number → Refuses first (p ++ q) number
  refused_first first p q number r = record {
    before = r.before;
    part = r.part;
    later = r.later ++ q;
    whole = ap (λ (s : List PathTerm). s ++ q) r.whole ∙ append_assoc r.before (r.part ∷ r.later) q;
    numbered = r.numbered;
    automaton = r.automaton;
    over = r.over;
    is = r.is;
    refused = r.refused;
  }

  pub refused_second : (first next : ℕ) (p q : List PathTerm) (number : ℕ) → next ≡ first + length p → Refuses next q number → Refuses first (p ++ q) number
  refused_second first next p q number at r = record {
    before = p ++ r.before;
    part = r.part;
    later = r.later;
    whole = ap (λ (s : List PathTerm). p ++ s) r.whole ∙ sym (append_assoc p r.before (r.part ∷ r.later));
    numbered = omega (arith, r.numbered, at, length-append p r.before);
    automaton = r.automaton;
    over = r.over;
    is = r.is;
    refused = r.refused;
  }

  -- the complement of the part itself
  pub refused_whole : (first next : ℕ) (p : List PathTerm) (part : PathTerm) (a : Automaton) (number : ℕ) → next ≡ first + length p → IsMade E l paths part a
      → RefusesOne refuses l a next number → Refuses first (p ++ part ∷ []) number
  refused_whole first next p part a number at made r = record {
    before = p;
    part = part;
    later = [];
    whole = refl;
    numbered = r.0 ∙ at;
    automaton = a;
    over = r.1.0;
    is = record { made = made; of_path = r.1.1 };
    refused = r.1.2;
  }

-- ---- why nothing was built

pub explains_more : (A B : Type 0) (P Q : ℕ → Type 0) → (A → B) → ((n : ℕ) → P n → Q n) → (e : Stop) → Explains A P e → Explains B Q e
explains_more A B P Q f g Limit is = f is
explains_more A B P Q f g (Refused number) is = g number is
explains_more A B P Q f g Memory is = tt

pub explains_memory : (A : Type 0) (P : ℕ → Type 0) (e : Stop) → e ≡ Memory → Explains A P e
explains_memory A P e is = subst (λ (s : Stop). Explains A P s) (sym is) tt

explains_limit_at : (A : Type 0) (P : ℕ → Type 0) (b : BuildError) → (b ≡ B.Limit → A) → Explains A P (stop_of b)
explains_limit_at A P B.Limit passed = passed refl
explains_limit_at A P B.Memory passed = tt

pub explains_limit : (A : Type 0) (P : ℕ → Type 0) (b : BuildError) (e : Stop) → e ≡ stop_of b → (b ≡ B.Limit → A) → Explains A P e
explains_limit A P b e is passed = subst (λ (s : Stop). Explains A P s) (sym is) (explains_limit_at A P b passed)

-- what is returned where a call failed
pub exit : {T : Type 0} (Q P : Stop → Type 0) (r : Result T Stop) → IsErrAnd r Q → ((e : Stop) → Q e → P e) → IfErr r P
exit Q P (Ok x) fails on = tt
exit Q P (Err e) fails on = on e fails
