-- Notes of two terms, one after the other, and why they aren't built, by those of each.
use Rattle.std.proofs.Common.{◌≡◌, ◌∙◌, ℕ, suc, ◌+◌, ◌⊎◌, Bool, List, [], ◌∷◌, ◌++◌, length, inl, inr, refl, sym, ap, subst, append_assoc, length-append, arith}
use Rattle.rela_build.specs.Lettering.{Lettering}
use Rattle.rela_build.specs.Notes.{AreNoted, Explains, IsRefused, Noted, NotedR, NotedTwo, Notes, Stopped, StoppedR, StoppedTwo, StoppedTwoR}
use Rattle.rela_build.specs.PathSets.{Paths, scene_of}
use Rattle.rela_build.specs.declared.stop.Stop.{Stop}
use Rattle.rela_build.specs.declared.stop.Stop.TheVariants.{Limit, Memory, Refused}
use Rattle.rela_nfa.specs.Automaton.{Automaton}
use Rattle.rela_rir.specs.Complements.{complemented_parts, complemented_parts_r}
use Rattle.rela_rir.specs.Limit.{ReachedInside, ReachedInsideR}
use Rattle.rela_rir.specs.Places.{Scene}
use Rattle.rela_rir.specs.declared.term.PathTerm.{PathTerm}
use Rattle.rela_rir.specs.declared.term.RelTerm.{RelTerm}

-- ---- notes

module _ {N : Type 0} (answers : ℕ → Automaton → List Bool → N → Type 0) (E : Type 0) (l : Lettering) (paths : Paths) where
  abbrev Are : ℕ → List PathTerm → List N → Type 0
  Are first parts notes = AreNoted answers E l paths first parts notes

  noted_length : (first : ℕ) (parts : List PathTerm) (notes : List N) → Are first parts notes → length notes ≡ length parts
  noted_length first [] [] noted = refl
  noted_length first [] (k ∷ notes) noted = absurd noted
  noted_length first (p ∷ parts) [] noted = absurd noted
  noted_length first (p ∷ parts) (k ∷ notes) noted = ap suc (noted_length (first + 1) parts notes noted.1)

  noted_both : (first next : ℕ) (p q : List PathTerm) (k n : List N) → next ≡ first + length p → Are first p k → Are next q n → Are first (p ++ q) (k ++ n)
  noted_both first next [] q [] n at one two = subst (λ (m : ℕ). Are m q n) (omega (arith, at)) two
  noted_both first next [] q (k ∷ ks) n at one two = absurd one
  noted_both first next (p ∷ ps) q [] n at one two = absurd one
  noted_both first next (p ∷ ps) q (k ∷ ks) n at one two = (one.0, noted_both (first + 1) next ps q ks n (omega (arith, at)) one.1 two)

  notes_after : (p : List PathTerm) (old new : List N) → Notes answers E l paths p old new → length new ≡ length old + length p
  notes_after p old new one = ap length one.1 ∙ length-append old one.0 ∙ ap (λ (n : ℕ). length old + n) (noted_length (length old) p one.0 one.2)

  -- how many notes there are after those of a term
  pub after_term : (x : PathTerm) (old new : List N) → Noted answers E l paths x old new → length new ≡ length old + length (complemented_parts x)
  unfolding Noted
  after_term x old new notes = notes_after (complemented_parts x) old new notes

  pub after_term_r : (r : RelTerm) (old new : List N) → NotedR answers E l paths r old new → length new ≡ length old + length (complemented_parts_r r)
  unfolding NotedR
  after_term_r r old new notes = notes_after (complemented_parts_r r) old new notes

  pub note_two : (x y : PathTerm) (old mid new : List N) → Noted answers E l paths x old mid → Noted answers E l paths y mid new → NotedTwo answers E l paths x y old new
  unfolding Noted NotedTwo
  note_two x y old mid new one two = (
    one.0 ++ two.0,
    two.1 ∙ ap (λ (m : List N). m ++ two.0) one.1 ∙ append_assoc old one.0 two.0,
    noted_both (length old) (length mid) (complemented_parts x) (complemented_parts y) one.0 two.0 (notes_after (complemented_parts x) old mid one) one.2 two.2,
  )

-- ---- stops

explains_more : (A B : Type 0) (P Q : ℕ → Type 0) → (A → B) → ((n : ℕ) → P n → Q n) → (e : Stop) → Explains A P e → Explains B Q e
explains_more A B P Q f g Limit is = f is
explains_more A B P Q f g (Refused number) is = g number is
explains_more A B P Q f g Memory is = tt

module _ (refuses : ℕ → Automaton → List Bool → Type 0) (E : Type 0) (l : Lettering) (paths : Paths) (limit first : ℕ) where
  abbrev m : Scene
  m = scene_of l paths

  abbrev Is : ℕ → List PathTerm → ℕ → Type 0
  Is from parts number = IsRefused refuses E l paths from parts number

  refused_first : (p q : List PathTerm) (number : ℕ) → Is first p number → Is first (p ++ q) number
  refused_first p q number r = record {
    before = r.before;
    part = r.part;
    later = r.later ++ q;
    whole = ap (λ (s : List PathTerm). s ++ q) r.whole ∙ append_assoc r.before (r.part ∷ r.later) q;
    numbered = r.numbered;
    automaton = r.automaton;
    over = r.over;
    is = r.is;
    refused = r.refused;
  }

  refused_second : (next : ℕ) (p q : List PathTerm) (number : ℕ) → next ≡ first + length p → Is next q number → Is first (p ++ q) number
  refused_second next p q number at r = record {
    before = p ++ r.before;
    part = r.part;
    later = r.later;
    whole = ap (λ (s : List PathTerm). p ++ s) r.whole ∙ sym (append_assoc p r.before (r.part ∷ r.later));
    numbered = omega (arith, r.numbered, at, length-append p r.before);
    automaton = r.automaton;
    over = r.over;
    is = r.is;
    refused = r.refused;
  }

  -- in the first or the second of two terms
  pub stop_first : (x y : PathTerm) (e : Stop) → Stopped refuses E l paths limit first x e → StoppedTwo refuses E l paths limit first x y e
  unfolding Stopped StoppedTwo
  stop_first x y e stopped =
      explains_more (ReachedInside m (limit + 1) x) (ReachedInside m (limit + 1) x ⊎ ReachedInside m (limit + 1) y) (Is first (complemented_parts x))
      (Is first (complemented_parts x ++ complemented_parts y)) inl (refused_first (complemented_parts x) (complemented_parts y)) e stopped

  pub stop_second : (x y : PathTerm) (next : ℕ) (e : Stop) → next ≡ first + length (complemented_parts x) → Stopped refuses E l paths limit next y e
      → StoppedTwo refuses E l paths limit first x y e
  unfolding Stopped StoppedTwo
  stop_second x y next e at stopped =
      explains_more (ReachedInside m (limit + 1) y) (ReachedInside m (limit + 1) x ⊎ ReachedInside m (limit + 1) y) (Is next (complemented_parts y))
      (Is first (complemented_parts x ++ complemented_parts y)) inr (λ n r. refused_second next (complemented_parts x) (complemented_parts y) n at r) e stopped

  pub stop_first_r : (x y : RelTerm) (e : Stop) → StoppedR refuses E l paths limit first x e → StoppedTwoR refuses E l paths limit first x y e
  unfolding StoppedR StoppedTwoR
  stop_first_r x y e stopped =
      explains_more (ReachedInsideR m (limit + 1) x) (ReachedInsideR m (limit + 1) x ⊎ ReachedInsideR m (limit + 1) y) (Is first (complemented_parts_r x))
      (Is first (complemented_parts_r x ++ complemented_parts_r y)) inl (refused_first (complemented_parts_r x) (complemented_parts_r y)) e stopped

  pub stop_second_r : (x y : RelTerm) (next : ℕ) (e : Stop) → next ≡ first + length (complemented_parts_r x) → StoppedR refuses E l paths limit next y e
      → StoppedTwoR refuses E l paths limit first x y e
  unfolding StoppedR StoppedTwoR
  stop_second_r x y next e at stopped =
      explains_more (ReachedInsideR m (limit + 1) y) (ReachedInsideR m (limit + 1) x ⊎ ReachedInsideR m (limit + 1) y) (Is next (complemented_parts_r y))
      (Is first (complemented_parts_r x ++ complemented_parts_r y)) inr (λ n r. refused_second next (complemented_parts_r x) (complemented_parts_r y) n at r) e stopped
